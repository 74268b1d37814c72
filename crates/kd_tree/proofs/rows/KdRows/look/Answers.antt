use Rattle.std.proofs.Common.{◌≡◌, ◌+◌, ◌≤◌, List, [], ◌∷◌, ◌++◌, true, false, get_or, sym, ap, ◌∙◌, arith, subst, Some, slice_get}
use Rattle.std.proofs.lemmas.List.Elements.{All-map}
use Rattle.std.proofs.lemmas.Option.{slice_get-get_or}
use Rattle.map_shapes.specs.declared.point.Point.{Point}
use Rattle.map_model.specs.Found.{Found}
use Rattle.map_shapes.specs.Found.{nearer_le}
use Rattle.map_questions.specs.FirstFew.{first_few}
use Rattle.map_questions.specs.Questions.{found_at}
use Rattle.kd_tree.specs.Areas.{apart, spot_of}
use Rattle.kd_tree.specs.Distances.{least}
use Rattle.kd_tree.specs.Walks.{live_in, founds, Takes, spot_asked}
use Rattle.kd_tree.proofs.LivePoints.{live_in-one, standing-live, All-live, no_items}
use Rattle.kd_tree.proofs.DistanceLemmas.{least_of_coarse}
use Rattle.kd_tree.proofs.Takings.{Takes-none, Takes-worse, no_nearer}
use Rattle.kd_tree.proofs.rows.KdRows.look.Goals as goal

pub returns-then-not-slot-clause-taken : goal.returns-then-not-slot-clause-taken
returns-then-not-slot-clause-taken g c =
    let part = c.args.points.now in
    let order = c.args.self.now.places.items in
    let position = c.args.slot.now.position in
    let none : live_in part order position (position + 1) ≡ [] =
    no_items (live_in part order position (position + 1))
    (All-live part order (λ p. ⊥) position (position + 1)
    (λ at place p low high stands item flag.
    let here : at ≡ position = omega arith in
    let set : c.args.slot.now.live ≡ true = c.requires.live place true (sym (ap (slice_get order) here) ∙ stands) flag in
    let unset : c.args.slot.now.live ≡ false = c.if-not-slot.true in cc)
    (omega arith)) in
    let k = g.T.KeepsNearest.most c.args.tally.now in
    let kept = g.T.KeepsNearest.kept c.args.tally.now in
    subst (λ (l : List Point). Takes k kept (founds c.args.near.now l) kept) (sym none) (Takes-none k kept c.requires.few)

pub returns-then-is_farther-clause-taken : goal.returns-then-is_farther-clause-taken
returns-then-is_farther-clause-taken g c =
    let part = c.args.points.now in
    let order = c.args.self.now.places.items in
    let position = c.args.slot.now.position in
    let q = c.args.near.now in
    let farther = c.is_farther.ensures c.if-is_farther.true in
    let worst : Found = farther.0 in
    Takes-worse (g.T.KeepsNearest.most c.args.tally.now) (g.T.KeepsNearest.kept c.args.tally.now) (founds q (live_in part order position (position + 1))) worst c.requires.few
    farther.1
    (All-map (λ f. nearer_le worst f ≡ true) (found_at q.x q.y) (live_in part order position (position + 1))
    (All-live part order (λ p. nearer_le worst (found_at q.x q.y p) ≡ true) position (position + 1)
    (λ at place p low high stands item flag.
    let here : at ≡ position = omega arith in
    let spot : c.args.slot.now.spot ≡ spot_of p = c.requires.spot place p (sym (ap (slice_get order) here) ∙ stands) item in
    let from : c.spot_asked.result ≡ spot_asked q = c.spot_asked.ensures in
    let dist : least c.apart.result ≤ apart (spot_asked q) (spot_of p) =
    subst (λ s. least c.apart.result ≤ apart s (spot_of p)) from
    (subst (λ s. least c.apart.result ≤ apart c.spot_asked.result s) spot (least_of_coarse c.apart.result _ c.apart.ensures)) in
    no_nearer worst (found_at q.x q.y p) (least c.apart.result) (omega (arith, farther.2)) dist)
    (omega arith)))

pub returns-clause-taken : goal.returns-clause-taken
returns-clause-taken g c =
    let part = c.args.points.now in
    let order = c.args.self.now.places.items in
    let position = c.args.slot.now.position in
    let q = c.args.near.now in
    let place = c.place_at-place.result in
    let item : slice_get part.items place ≡ Some c.at-point.result = sym (ap (λ l. slice_get l place) c.items.ensures.value) ∙ c.at-point.ensures.read in
    let there : slice_get part.flags place ≡ Some (get_or part.flags place false) =
    slice_get-get_or part.flags place false (omega (arith, c.place_at-place.ensures.within, c.requires.tree.long, c.requires.flagged)) in
    let live : get_or part.flags place false ≡ true =
    sym (c.requires.live place (get_or part.flags place false) c.place_at-place.ensures.value there) ∙ c.if-not-slot.false in
    let one : live_in part order position (position + 1) ≡ c.at-point.result ∷ [] =
    live_in-one part order position
    ∙ standing-live part order position place c.place_at-place.ensures.value c.at-point.result item (there ∙ ap Some live) in
    let k = g.T.KeepsNearest.most c.args.tally.now in
    let kept = g.T.KeepsNearest.kept c.args.tally.now in
    c.take_in.ensures.kept ∙ ap (λ f. first_few nearer_le k (kept ++ f ∷ [])) c.found.ensures
    ∙ ap (λ l. first_few nearer_le k (kept ++ founds q l)) (sym one)
