use Rattle.std.proofs.Common.{◌≡◌, ◌+◌, ◌*◌, ◌∙◌, true, [], ◌∷◌, Some, length, ap, sym, subst, arith}
use Rattle.id_chain.specs.Chain.{Entry, HandlesDiffer, item_at}
use Rattle.id_chain.proofs.Entries.{Apart-parts, item_at-split, linked_head}
use Rattle.layer_kinds.specs.Shares.{insert_turns, insert_marks, ready_count}
use Rattle.layer_kinds.specs.Indexing.{waits_of, wait_by, IsReady}
use Rattle.layer_kinds.specs.Committing.{IsGoing, IsOver, Commits}
use Rattle.layer_kinds.proofs.Adopting.{going, over-of, over, ready, as_waits, as_ready, commits_after}
use Rattle.layer_kinds.proofs.Waiting.{none_left}
use Rattle.layer_kinds.proofs.indexes.LayerIndexIndexes.insert.Goals as goal

pub adopt-requires : goal.adopt-requires
adopt-requires g c =
    let stamp = g.B.Item.Item.stamp in
    let last = c.requires.last in
    record { of = (last.0, stamp last.1, over-of g.B.Part.Part.contents stamp c.args.self.now last.0 (stamp last.1) last.3) }

pub take_in-requires-clause-going : goal.take_in-requires-clause-going
take_in-requires-clause-going g c = subst IsGoing (sym c.adopt.ensures) (going c.args.self.now)

pub take_in-requires-clause-last : goal.take_in-requires-clause-last
take_in-requires-clause-last g c =
    let contents = g.B.Part.Part.contents in
    let stamp = g.B.Item.Item.stamp in
    let last = c.requires.last in
    let p = c.args.self.now in (
      last.0,
      last.1,
      last.2,
      subst (λ q. IsOver contents stamp q last.0 (stamp last.1)) (sym c.adopt.ensures)
          (over contents stamp p last.0 (stamp last.1) (over-of contents stamp p last.0 (stamp last.1) last.3)),
      subst (λ q. IsReady contents q last.0) (sym c.adopt.ensures) (ready contents p last.0 last.4),
    )

pub returns-clause-of : goal.returns-clause-of
returns-clause-of g c front item is =
    let es = c.args.chain.now.entries in
    let e : Entry g.row.B-Item.Denot = record { handle = c.args.handle; item = item } in
    let apart = Apart-parts front (e ∷ []) (subst HandlesDiffer is c.requires.differ) in
    let at : item_at c.args.handle es ≡ Some item =
    ap (item_at c.args.handle) is ∙ item_at-split c.args.handle item front [] (apart.back_only c.args.handle (linked_head e [])) in
    c.take_in.ensures.of item at

pub returns-clause-waits : goal.returns-clause-waits
returns-clause-waits g c front item is =
    let contents = g.B.Part.Part.contents in
    let stamp = g.B.Item.Item.stamp in
    let last = c.requires.last in
    let p = c.args.self.now in
    let after = wait_by true c.args.handle front in
    (commits_after contents p c.take_in.new.self
    (as_waits contents stamp last.0 (stamp last.1) after (none_left true c.args.handle front) p (over-of contents stamp p last.0 (stamp last.1) last.3) last.4)
    (subst (λ q. Commits contents (record { slope = g.B.Builder.SLOPE; base = g.B.Builder.BASE }) after insert_turns insert_marks (2 * length c.args.chain.now.entries + 8)
    q c.take_in.new.self c.args.steps.now c.take_in.new.steps) c.adopt.ensures (c.take_in.ensures.commits front item is))).waits

pub returns-clause-there : goal.returns-clause-there
returns-clause-there g c =
    let contents = g.B.Part.Part.contents in
    let stamp = g.B.Item.Item.stamp in
    let last = c.requires.last in
    let p = c.args.self.now in
    let after = wait_by true c.args.handle last.0 in
    (commits_after contents p c.take_in.new.self
    (as_waits contents stamp last.0 (stamp last.1) after (none_left true c.args.handle last.0) p (over-of contents stamp p last.0 (stamp last.1) last.3) last.4)
    (subst (λ q. Commits contents (record { slope = g.B.Builder.SLOPE; base = g.B.Builder.BASE }) after insert_turns insert_marks (2 * length c.args.chain.now.entries + 8)
    q c.take_in.new.self c.args.steps.now c.take_in.new.steps) c.adopt.ensures (c.take_in.ensures.commits last.0 last.1 last.2))).there

pub returns-clause-held : goal.returns-clause-held
returns-clause-held g c =
    let contents = g.B.Part.Part.contents in
    let stamp = g.B.Item.Item.stamp in
    let last = c.requires.last in
    let p = c.args.self.now in
    let after = wait_by true c.args.handle last.0 in
    (commits_after contents p c.take_in.new.self
    (as_waits contents stamp last.0 (stamp last.1) after (none_left true c.args.handle last.0) p (over-of contents stamp p last.0 (stamp last.1) last.3) last.4)
    (subst (λ q. Commits contents (record { slope = g.B.Builder.SLOPE; base = g.B.Builder.BASE }) after insert_turns insert_marks (2 * length c.args.chain.now.entries + 8)
    q c.take_in.new.self c.args.steps.now c.take_in.new.steps) c.adopt.ensures (c.take_in.ensures.commits last.0 last.1 last.2))).held

pub returns-clause-cost : goal.returns-clause-cost
returns-clause-cost g c =
    let contents = g.B.Part.Part.contents in
    let stamp = g.B.Item.Item.stamp in
    let last = c.requires.last in
    let p = c.args.self.now in
    let after = wait_by true c.args.handle last.0 in
    (commits_after contents p c.take_in.new.self
    (as_waits contents stamp last.0 (stamp last.1) after (none_left true c.args.handle last.0) p (over-of contents stamp p last.0 (stamp last.1) last.3) last.4)
    (subst (λ q. Commits contents (record { slope = g.B.Builder.SLOPE; base = g.B.Builder.BASE }) after insert_turns insert_marks (2 * length c.args.chain.now.entries + 8)
    q c.take_in.new.self c.args.steps.now c.take_in.new.steps) c.adopt.ensures (c.take_in.ensures.commits last.0 last.1 last.2))).cost

pub returns-clause-some_turns : goal.returns-clause-some_turns
returns-clause-some_turns g c =
    let contents = g.B.Part.Part.contents in
    let stamp = g.B.Item.Item.stamp in
    let last = c.requires.last in
    let p = c.args.self.now in
    let same : ready_count (waits_of c.adopt.new.self) ≡ ready_count (waits_of p) =
    ap (λ q. ready_count (waits_of q)) c.adopt.ensures ∙ as_ready contents stamp last.0 (stamp last.1) p (over-of contents stamp p last.0 (stamp last.1) last.3) last.4 in
    omega (arith, c.take_in.ensures.some_turns, same)
