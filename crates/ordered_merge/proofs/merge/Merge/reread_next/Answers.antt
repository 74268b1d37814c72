use Rattle.std.proofs.Common.{arith, ap, refl, rules}
use Rattle.query_laws.specs.declared.item.Order.TheVariants.{Second}
use Rattle.builder_trait.proofs.RebuildingLemmas.{length-reordered}
use Rattle.ordered_merge.proofs.MergingLemmas.{Merges-of, Merges-swap, HasRead-of, HasRead-reread, all_read, all_read_swapped, StampsDiffer-reordered, reread_below, place_noted, FitsSecond-next, Merges-reread}
use Rattle.ordered_merge.proofs.merge.Merge.reread_next.Goals as goal

pub next_item-is_a-requires : goal.next_item-is_a-requires
next_item-is_a-requires g c =
    let h = Merges-of c.self.view_is c.requires.merges in
    let same = length-reordered c.requires.valid in
    let other_same = length-reordered c.requires.valid_other in
    record {
      within = omega (arith, h.retaking.front.within);
      within_other = omega (arith, h.retaking.front.within_other);
      more = omega (arith, h.to_go, all_read c.self.view_is c.requires.read, ap (λ m. m.left) c.self.view_is);
      stamps = StampsDiffer-reordered h c.requires.valid c.requires.valid_other;
    }

pub put_again-requires : goal.put_again-requires
put_again-requires g c =
    let h = Merges-of c.self.view_is c.requires.merges in
    let order = g.met.B.Item.Item.ordered Second in
    let full = all_read c.self.view_is c.requires.read in
    let next = c.next_item-is_a.ensures.first c.if-is_a.true in
    record {
      index = reread_below h order c.requires.valid c.requires.valid_other full _ next;
      noted = place_noted h order c.requires.valid c.requires.valid_other full _ next;
      unsealed = h.unsealed;
      fits = FitsSecond-next h order c.requires.valid c.requires.valid_other full _ next;
    }

pub put_again-requires-else-is_a : goal.put_again-requires-else-is_a
put_again-requires-else-is_a g c =
    let h = Merges-swap (Merges-of c.self.view_is c.requires.merges) in
    let order = g.met.B.Item.Item.ordered Second in
    let full = all_read_swapped c.self.view_is _ _ c.requires.read in
    let next = c.next_item-is_a.ensures.second c.if-is_a.false in
    record {
      index = reread_below h order c.requires.valid_other c.requires.valid full _ next;
      noted = place_noted h order c.requires.valid_other c.requires.valid full _ next;
      unsealed = h.unsealed;
      fits = FitsSecond-next h order c.requires.valid_other c.requires.valid full _ next;
    }

pub returns-then-is_a : goal.returns-then-is_a
returns-then-is_a g c =
    let reread = Merges-reread (Merges-of c.self.view_is c.requires.merges) (g.met.B.Item.Item.ordered Second) c.requires.valid
    c.requires.valid_other (all_read c.self.view_is c.requires.read) _ (c.next_item-is_a.ensures.first c.if-is_a.true)
    (g.B.Builder.progress c.put_again.new.builder) c.put_again.ensures.put c.put_again.ensures.skipped in
    record {
      merges = reread.0;
      read = HasRead-of c.self.view_is (HasRead-reread _ refl (omega (arith, ap (λ m. m.left) c.self.view_is)) reread.1);
      cost = search rules;
    }

pub returns-else-is_a : goal.returns-else-is_a
returns-else-is_a g c =
    let reread = Merges-reread (Merges-swap (Merges-of c.self.view_is c.requires.merges)) (g.met.B.Item.Item.ordered Second)
    c.requires.valid_other c.requires.valid (all_read_swapped c.self.view_is _ _ c.requires.read) _ (c.next_item-is_a.ensures.second c.if-is_a.false)
    (g.B.Builder.progress c.put_again-else-is_a.new.builder) c.put_again-else-is_a.ensures.put c.put_again-else-is_a.ensures.skipped in
    record {
      merges = Merges-swap reread.0;
      read = HasRead-of c.self.view_is (HasRead-reread _ refl (omega (arith, ap (λ m. m.left) c.self.view_is)) reread.1);
      cost = search rules;
    }
