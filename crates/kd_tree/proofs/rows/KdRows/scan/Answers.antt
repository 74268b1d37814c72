use Rattle.std.proofs.Common.{◌≡◌, ◌+◌, ◌*◌, ◌≤◌, List, ◌++◌, length, refl, sym, ap, ◌∙◌, arith, subst, ⊎_elim, ◌⊎◌, inl, inr}
use Rattle.std.proofs.lemmas.Bool.{cases_lt}
use Rattle.std.proofs.lemmas.List.{map-append}
use Rattle.std.proofs.lemmas.Option.{get_or_from_slice_get}
use Rattle.query_laws.proofs.Counting.{Spends-nothing, Spends-then, Spends-within}
use Rattle.map_shapes.specs.declared.point.Point.{Point}
use Rattle.map_model.specs.Found.{Found}
use Rattle.map_shapes.specs.Found.{nearer_le}
use Rattle.map_questions.specs.FirstFew.{IsFirstFew}
use Rattle.map_questions.specs.Questions.{found_at}
use Rattle.kd_tree.specs.Walks.{live_in, founds, Takes}
use Rattle.kd_tree.proofs.LivePoints.{live_in-none, live_in-split, live_in-ended}
use Rattle.kd_tree.proofs.Takings.{Takes-none, Takes-then, Takes-IsFirstFew}
use Rattle.kd_tree.proofs.rows.KdRows.scan.Goals as goal

pub loop-slot-init : goal.loop-slot-init
loop-slot-init g c =
    let start = 8 * c.args.leaf in
    let kept = g.T.KeepsNearest.kept c.args.tally.now in
    let k = g.T.KeepsNearest.most c.args.tally.now in
    record {
      taken = subst (λ (l : List Point). Takes k kept (founds c.args.near.now l) kept)
          (sym (live_in-none c.args.points.now c.args.self.now.places.items start (start + 0) (omega arith))) (Takes-none k kept c.requires.few);
      most = refl;
      spent = Spends-nothing c.at-live.new.steps;
    }

pub look-requires-clause-few : goal.look-requires-clause-few
look-requires-clause-few g c =
    subst (λ k. IsFirstFew nearer_le k (g.T.KeepsNearest.kept c.loop-slot.tally)) (sym c.loop-slot.invariant.most)
    (Takes-IsFirstFew (g.T.KeepsNearest.most c.args.tally.now) (g.T.KeepsNearest.kept c.args.tally.now) _ (g.T.KeepsNearest.kept c.loop-slot.tally) c.loop-slot.invariant.taken)

pub look-requires-clause-spot : goal.look-requires-clause-spot
look-requires-clause-spot g c place p stands item =
    get_or_from_slice_get c.at-spots.result c.loop-slot.slot _ _
    (c.requires.tree.spots.each c.args.leaf c.loop-slot.slot place p c.at-spots.result (omega (arith, c.loop-slot-test.true, c.min-count.ensures))
    (omega (arith, c.loop-slot-test.true, c.min-count.ensures, c.len.ensures.value)) stands item c.at-spots.ensures.read)

pub look-requires-clause-live : goal.look-requires-clause-live
look-requires-clause-live g c place flag stands at =
    get_or_from_slice_get c.at-live.result c.loop-slot.slot flag _
    (c.requires.tree.live.each c.args.leaf c.loop-slot.slot place flag c.at-live.result (omega (arith, c.loop-slot-test.true, c.min-count.ensures)) stands at
    c.at-live.ensures.read)

pub loop-slot-preserved : goal.loop-slot-preserved
loop-slot-preserved g c =
    let part = c.args.points.now in
    let order = c.args.self.now.places.items in
    let q = c.args.near.now in
    let start = 8 * c.args.leaf in
    let slot = c.loop-slot.slot in
    let kept = g.T.KeepsNearest.kept c.args.tally.now in
    let k = g.T.KeepsNearest.most c.args.tally.now in
    let before : List Point = live_in part order start (start + slot) in
    let here : List Point = live_in part order (start + slot) (start + slot + 1) in
    let next : start + (slot + 1) ≡ start + slot + 1 = omega arith in
    let all : founds q before ++ founds q here ≡ founds q (live_in part order start (start + (slot + 1))) =
    sym (map-append (found_at q.x q.y) before here)
    ∙ ap (founds q) (sym (live_in-split part order start (start + slot) (start + slot + 1) (omega arith) (omega arith)) ∙ ap (live_in part order start) (sym next)) in
    let more : Takes k (g.T.KeepsNearest.kept c.loop-slot.tally) (founds q here) (g.T.KeepsNearest.kept c.look.new.tally) =
    subst (λ m. Takes m (g.T.KeepsNearest.kept c.loop-slot.tally) (founds q here) (g.T.KeepsNearest.kept c.look.new.tally)) c.loop-slot.invariant.most c.look.ensures.taken in
    record {
      taken = subst (λ (l : List Found). Takes k kept l (g.T.KeepsNearest.kept c.look.new.tally)) all
          (Takes-then k kept (g.T.KeepsNearest.kept c.loop-slot.tally) (g.T.KeepsNearest.kept c.look.new.tally) (founds q before) (founds q here) c.loop-slot.invariant.taken more);
      most = c.look.ensures.most ∙ c.loop-slot.invariant.most;
      spent = Spends-within (Spends-then c.loop-slot.invariant.spent c.look.ensures.cost) refl refl (omega arith);
    }

pub returns-clause-taken : goal.returns-clause-taken
returns-clause-taken g c =
    let part = c.args.points.now in
    let order = c.args.self.now.places.items in
    let q = c.args.near.now in
    let start = 8 * c.args.leaf in
    let slot = c.loop-slot.slot in
    let ended : slot ≡ c.min-count.result = omega (arith, c.loop-slot-test.false, c.loop-slot.auto.slot-end) in
    let whole : (start + slot ≡ start + 8) ⊎ (length order ≤ start + slot) =
    ⊎_elim (λ less. inr (omega (arith, ended, less, c.min-count.ensures, c.len.ensures.value, c.requires.tree.long))) (λ from. inl (omega (arith, ended, from, c.min-count.ensures))) (cases_lt slot 8) in
    let all : live_in part order start (start + slot) ≡ live_in part order start (start + 8) =
    live_in-ended part order start (start + slot) (start + 8) (omega arith) (omega (arith, ended, c.min-count.ensures)) whole in
    subst (λ (l : List Point). Takes (g.T.KeepsNearest.most c.args.tally.now) (g.T.KeepsNearest.kept c.args.tally.now) (founds q l) (g.T.KeepsNearest.kept c.loop-slot.tally)) all
    c.loop-slot.invariant.taken
