use Rattle.std.proofs.Common.{List, subst, sym, add-one, ℕ}
use Rattle.priority_tree.specs.declared.leaf.Slot.{Slot}
use Rattle.priority_tree.specs.Entries.{IsFront, entries_from}
use Rattle.priority_tree.proofs.LeafLemmas.{IsFront-slots}
use Rattle.priority_tree.proofs.leaf.+front_of.Goals as goal

pub returns : goal.returns
returns t c =
    let there = IsFront-slots c.args.from c.in-Some.slot.now c.in-Some.rest.now c.entry.result c.front_of.result c.entry.ensures
    (subst (λ (n : ℕ). IsFront c.front_of.result (entries_from n c.in-Some.rest.now)) (add-one c.args.from) c.front_of.ensures) in
    subst (λ o. IsFront o (entries_from c.args.from c.args.slots.now)) (sym c.first_of.ensures)
    (subst (λ (l : List Slot). IsFront (Rattle.priority_tree.specs.Entries.first_of c.entry.result c.front_of.result) (entries_from c.args.from l)) (sym c.in-Some.ensures.cases.0) there)
