use Rattle.std.proofs.Common.{refl, false, arith, ap, length, get_or}
use Rattle.std.proofs.lemmas.Option.{slice_get_within}
use Rattle.query_laws.specs.declared.item.Order.TheVariants.{First}
use Rattle.ordered_merge.proofs.MergingLemmas.{Merges-of, Merges-swap, taken_le, IsNext-at, FitsFirst-next, Merges-written}
use Rattle.ordered_merge.proofs.merge.Merge.read_next.Goals as goal

pub take_or_skip-self-inside-requires : goal.take_or_skip-self-inside-requires
take_or_skip-self-inside-requires g c =
    let h = Merges-of c.self.view_is c.requires.merges in
    let next = IsNext-at c.len.ensures.value c.len-2.ensures.value (c.next_item-is_a.ensures.first c.if-is_a.true) in
    let within = slice_get_within (g.B.Part.Part.contents c.args.a.now).items (length c.self.inside.a.table.items) c.next_item-is_a.result.1 next.here in
    record {
      index = within;
      room = omega (arith, within, h.sources.fits, c.self.invariant);
      unsealed = h.unsealed;
      fits = FitsFirst-next h (g.met.B.Item.Item.ordered First) c.requires.valid c.requires.valid_other _ next;
      small = omega (arith, taken_le h, c.len.ensures.value, c.len.ensures.within, c.len-2.ensures.value, c.len-2.ensures.within, c.self.invariant);
    }

pub take_or_skip-self-inside-requires-else-is_a : goal.take_or_skip-self-inside-requires-else-is_a
take_or_skip-self-inside-requires-else-is_a g c =
    let h = Merges-swap (Merges-of c.self.view_is c.requires.merges) in
    let next = IsNext-at c.len-2.ensures.value c.len.ensures.value (c.next_item-is_a.ensures.second c.if-is_a.false) in
    let within = slice_get_within (g.B.Part.Part.contents c.args.b.now).items (length c.self.inside.b.table.items) c.next_item-is_a.result.1 next.here in
    record {
      index = within;
      room = omega (arith, within, h.sources.fits, c.self.invariant);
      unsealed = h.unsealed;
      fits = FitsFirst-next h (g.met.B.Item.Item.ordered First) c.requires.valid_other c.requires.valid _ next;
      small = omega (arith, taken_le h, c.len.ensures.value, c.len.ensures.within, c.len-2.ensures.value, c.len-2.ensures.within, c.self.invariant);
    }

pub returns-then-is_a-clause-merges : goal.returns-then-is_a-clause-merges
returns-then-is_a-clause-merges g c =
    let live = get_or (g.B.Part.Part.contents c.args.a.now).flags (length c.self.inside.a.table.items) false in
    let noted = c.take_or_skip-self-inside.ensures.noted in
    Merges-written (Merges-of c.self.view_is c.requires.merges) (g.met.B.Item.Item.ordered First) c.requires.valid c.requires.valid_other _
    (IsNext-at c.len.ensures.value c.len-2.ensures.value (c.next_item-is_a.ensures.first c.if-is_a.true)) live _ _ _ _
    (ap (λ r. r.capacity) noted) (ap (λ r. r.items) noted) c.take_or_skip-self-inside.ensures.counted c.take_or_skip-self-inside.ensures.put

pub returns-else-is_a-clause-merges : goal.returns-else-is_a-clause-merges
returns-else-is_a-clause-merges g c =
    let live = get_or (g.B.Part.Part.contents c.args.b.now).flags (length c.self.inside.b.table.items) false in
    let noted = c.take_or_skip-self-inside-else-is_a.ensures.noted in
    Merges-swap (Merges-written (Merges-swap (Merges-of c.self.view_is c.requires.merges)) (g.met.B.Item.Item.ordered First)
    c.requires.valid_other c.requires.valid _
    (IsNext-at c.len-2.ensures.value c.len.ensures.value (c.next_item-is_a.ensures.second c.if-is_a.false)) live _ _ _ _
    refl (ap (λ r. r.items) noted) c.take_or_skip-self-inside-else-is_a.ensures.counted c.take_or_skip-self-inside-else-is_a.ensures.put)
