use Rattle.std.proofs.Common.{◌≡◌, ◌+◌, ◌*◌, ◌∙◌, true, length, ap, sym, subst, arith}
use Rattle.map_model.specs.Cost.{Rate}
use Rattle.layer_kinds.specs.Shares.{move_turns, move_marks, ready_count}
use Rattle.layer_kinds.specs.Indexing.{waits_of, wait_by, IsReady}
use Rattle.layer_kinds.specs.Committing.{IsGoing, IsOver, Commits}
use Rattle.layer_kinds.proofs.Adopting.{going, over-of, over, ready, as_waits, as_ready, commits_after}
use Rattle.layer_kinds.proofs.Waiting.{none_left}
use Rattle.layer_kinds.proofs.indexes.LayerIndexIndexes.relocate.Goals as goal

pub adopt-requires : goal.adopt-requires
adopt-requires g c =
    let stamp = g.B.Item.Item.stamp in
    let es = c.args.chain.now.entries in
    record { of = (es, stamp c.args.item, over-of g.B.Part.Part.contents stamp c.args.self.now es (stamp c.args.item) c.requires.of) }

pub put_anew-requires-clause-going : goal.put_anew-requires-clause-going
put_anew-requires-clause-going g c = subst IsGoing (sym c.adopt.ensures) (going c.args.self.now)

pub put_anew-requires-clause-ready : goal.put_anew-requires-clause-ready
put_anew-requires-clause-ready g c =
    let contents = g.B.Part.Part.contents in
    let es = c.args.chain.now.entries in
    subst (λ q. IsReady contents q es) (sym c.adopt.ensures) (ready contents c.args.self.now es c.requires.ready)

pub put_anew-requires-clause-of : goal.put_anew-requires-clause-of
put_anew-requires-clause-of g c =
    let contents = g.B.Part.Part.contents in
    let stamp = g.B.Item.Item.stamp in
    let p = c.args.self.now in
    let es = c.args.chain.now.entries in
    let stamps = stamp c.args.item in
    subst (λ q. IsOver contents stamp q es stamps) (sym c.adopt.ensures) (over contents stamp p es stamps (over-of contents stamp p es stamps c.requires.of))

pub returns-clause-there : goal.returns-clause-there
returns-clause-there g c =
    let contents = g.B.Part.Part.contents in
    let stamp = g.B.Item.Item.stamp in
    let rate : Rate = record { slope = g.B.Builder.SLOPE; base = g.B.Builder.BASE } in
    let p = c.args.self.now in
    let es = c.args.chain.now.entries in
    let stamps = stamp c.args.item in
    let after = wait_by true c.args.handle es in
    let commits = Commits contents rate after move_turns move_marks (2 * length es + 10) in
    (commits_after contents p c.put_anew.new.self
    (as_waits contents stamp es stamps after (none_left true c.args.handle es) p (over-of contents stamp p es stamps c.requires.of) c.requires.ready)
    (subst (λ q. commits q c.put_anew.new.self c.args.steps.now c.put_anew.new.steps) c.adopt.ensures c.put_anew.ensures.commits)).there

pub returns-clause-waits : goal.returns-clause-waits
returns-clause-waits g c =
    let contents = g.B.Part.Part.contents in
    let stamp = g.B.Item.Item.stamp in
    let rate : Rate = record { slope = g.B.Builder.SLOPE; base = g.B.Builder.BASE } in
    let p = c.args.self.now in
    let es = c.args.chain.now.entries in
    let stamps = stamp c.args.item in
    let after = wait_by true c.args.handle es in
    let commits = Commits contents rate after move_turns move_marks (2 * length es + 10) in
    (commits_after contents p c.put_anew.new.self
    (as_waits contents stamp es stamps after (none_left true c.args.handle es) p (over-of contents stamp p es stamps c.requires.of) c.requires.ready)
    (subst (λ q. commits q c.put_anew.new.self c.args.steps.now c.put_anew.new.steps) c.adopt.ensures c.put_anew.ensures.commits)).waits

pub returns-clause-held : goal.returns-clause-held
returns-clause-held g c =
    let contents = g.B.Part.Part.contents in
    let stamp = g.B.Item.Item.stamp in
    let rate : Rate = record { slope = g.B.Builder.SLOPE; base = g.B.Builder.BASE } in
    let p = c.args.self.now in
    let es = c.args.chain.now.entries in
    let stamps = stamp c.args.item in
    let after = wait_by true c.args.handle es in
    let commits = Commits contents rate after move_turns move_marks (2 * length es + 10) in
    (commits_after contents p c.put_anew.new.self
    (as_waits contents stamp es stamps after (none_left true c.args.handle es) p (over-of contents stamp p es stamps c.requires.of) c.requires.ready)
    (subst (λ q. commits q c.put_anew.new.self c.args.steps.now c.put_anew.new.steps) c.adopt.ensures c.put_anew.ensures.commits)).held

pub returns-clause-cost : goal.returns-clause-cost
returns-clause-cost g c =
    let contents = g.B.Part.Part.contents in
    let stamp = g.B.Item.Item.stamp in
    let rate : Rate = record { slope = g.B.Builder.SLOPE; base = g.B.Builder.BASE } in
    let p = c.args.self.now in
    let es = c.args.chain.now.entries in
    let stamps = stamp c.args.item in
    let after = wait_by true c.args.handle es in
    let commits = Commits contents rate after move_turns move_marks (2 * length es + 10) in
    (commits_after contents p c.put_anew.new.self
    (as_waits contents stamp es stamps after (none_left true c.args.handle es) p (over-of contents stamp p es stamps c.requires.of) c.requires.ready)
    (subst (λ q. commits q c.put_anew.new.self c.args.steps.now c.put_anew.new.steps) c.adopt.ensures c.put_anew.ensures.commits)).cost

pub returns-clause-some_turns : goal.returns-clause-some_turns
returns-clause-some_turns g c =
    let contents = g.B.Part.Part.contents in
    let stamp = g.B.Item.Item.stamp in
    let p = c.args.self.now in
    let es = c.args.chain.now.entries in
    let stamps = stamp c.args.item in
    let same : ready_count (waits_of c.adopt.new.self) ≡ ready_count (waits_of p) =
    ap (λ q. ready_count (waits_of q)) c.adopt.ensures ∙ as_ready contents stamp es stamps p (over-of contents stamp p es stamps c.requires.of) c.requires.ready in
    omega (arith, c.put_anew.ensures.some_turns, same)
