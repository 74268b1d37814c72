use Rattle.std.proofs.Common.{◌^◌, Bool, List, length, sym, ap, ◌∙◌, arith, subst}
use Rattle.query_laws.proofs.Counting.{Spends-then, Spends-within}
use Rattle.weak_delete.specs.declared.place.Place.{Place}
use Rattle.weak_delete.specs.Places.{LivePlaces, IsLive}
use Rattle.builder_trait.specs.Parts.{Contents}
use Rattle.builder_trait.proofs.RebuildingLemmas.{length-places}
use Rattle.map_shapes.specs.declared.segment.Segment.{Segment}
use Rattle.interval_tree.specs.declared.rows.StabRows.{StabRows}
use Rattle.interval_tree.specs.Rows.{AreKept, AreOver, HaveRoom}
use Rattle.interval_tree.proofs.Marks.{ends_of-live, lives_of-live, reordered-live, died, AreOver-died}
use Rattle.interval_tree.proofs.Hits.{length-ends_of}
use Rattle.interval_tree.proofs.Counting.{length-lives_of, length-lives_reordered}
use Rattle.interval_tree.proofs.rows.StabRowsRows.mark.Goals as goal

pub clear_at-requires-clause-live : goal.clear_at-requires-clause-live
clear_at-requires-clause-live g c =
    let before : Contents Segment = record c.args.segments.now { flags = c.requires.behind.flags } in
    let over : AreOver before c.deref_mut.result.now = subst (AreOver before) (sym c.deref_mut.ensures.value) c.requires.behind.done.over in
    subst (λ (ps : List Place). IsLive ps c.args.place) (sym over.ends) (ends_of-live before c.args.place c.requires.behind.was_live over.flagged)

pub clear_at-requires-clause-live_by_lower : goal.clear_at-requires-clause-live_by_lower
clear_at-requires-clause-live_by_lower g c =
    let before : Contents Segment = record c.args.segments.now { flags = c.requires.behind.flags } in
    let over : AreOver before c.deref_mut.result.now = subst (AreOver before) (sym c.deref_mut.ensures.value) c.requires.behind.done.over in
    subst (λ (ps : List Place). IsLive ps c.args.place) (sym over.by_lower) (lives_of-live before c.args.place c.requires.behind.was_live)

pub clear_at-requires-clause-live_by_upper : goal.clear_at-requires-clause-live_by_upper
clear_at-requires-clause-live_by_upper g c =
    let before : Contents Segment = record c.args.segments.now { flags = c.requires.behind.flags } in
    let over : AreOver before c.deref_mut.result.now = subst (AreOver before) (sym c.deref_mut.ensures.value) c.requires.behind.done.over in
    subst (λ (ps : List Place). IsLive ps c.index_of-index.result) (sym over.by_upper)
    (reordered-live before c.args.place c.requires.behind.was_live c.index_of-index.result (c.index_of-index.ensures.index c.args.place c.requires.there))

pub returns-clause-done : goal.returns-clause-done
returns-clause-done g c =
    let part : Contents Segment = c.args.segments.now in
    let behind = c.requires.behind in
    let before : Contents Segment = record part { flags = behind.flags } in
    let value = c.deref_mut.ensures.value in
    let over : AreOver before c.deref_mut.result.now = subst (AreOver before) (sym value) behind.done.over in
    let room : HaveRoom (2 ^ part.at_level) c.deref_mut.result.now = subst (HaveRoom (2 ^ part.at_level)) (sym value) behind.done.room in
    let new : StabRows = record { trees = c.clear_at.new.self; left = c.args.self.now.left } in
    let kept : AreKept (died before c.args.place) new = record {
      small = behind.done.small;
      room = record {
        ends = ap (λ (s : LivePlaces). s.capacity) c.clear_at.ensures.ends ∙ room.ends;
        by_lower = ap (λ (s : LivePlaces). s.capacity) c.clear_at.ensures.by_lower ∙ room.by_lower;
        by_upper = ap (λ (s : LivePlaces). s.capacity) c.clear_at.ensures.by_upper ∙ room.by_upper;
      };
      over = AreOver-died before c.args.place c.index_of-index.result over behind.was_live
          (c.index_of-index.ensures.index c.args.place c.requires.there) c.clear_at.ensures.ends c.clear_at.ensures.by_lower c.clear_at.ensures.by_upper;
    } in
    subst (λ (fs : List Bool). AreKept (record part { flags = fs }) new) (sym behind.died) kept

pub returns-clause-cost : goal.returns-clause-cost
returns-clause-cost g c h few =
    let before : Contents Segment = record c.args.segments.now { flags = c.requires.behind.flags } in
    let over : AreOver before c.deref_mut.result.now = subst (AreOver before) (sym c.deref_mut.ensures.value) c.requires.behind.done.over in
    let cleared =
    c.clear_at.ensures.cost h (omega (arith, few, ap length over.ends, length-ends_of 0 before over.flagged))
    (omega (arith, few, ap length over.by_lower, length-lives_of before over.flagged))
    (omega (arith, few, ap length over.by_upper, length-lives_reordered before (length-places c.requires.valid))) in
    Spends-within (Spends-then (c.index_of-index.ensures.cost h few) cleared) (omega arith) (omega arith) (omega arith)
