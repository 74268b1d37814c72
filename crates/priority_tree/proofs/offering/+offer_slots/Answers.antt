use Rattle.std.proofs.Common.{◌+◌}
use Rattle.std.specs.Option.{option_to_list}
use Rattle.priority_tree.specs.Strips.{is_in}
use Rattle.priority_tree.specs.Entries.{entries_from}
use Rattle.priority_tree.proofs.Best.{joined_slots}
use Rattle.priority_tree.proofs.LeafLemmas.{entries_from-first}
use Rattle.priority_tree.proofs.offering.+offer_slots.Goals as goal

pub returns : goal.returns
returns t c =
    joined_slots (is_in c.args.strip.now) c.args.tally.now c.offer_entry.new.tally c.offer_slots.new.tally (option_to_list c.entry.result)
    (entries_from (c.args.from + 1) c.in-Some.rest.now) (entries_from c.args.from c.args.slots.now)
    (entries_from-first c.args.from c.in-Some.slot.now c.in-Some.rest.now c.args.slots.now c.entry.result c.in-Some.ensures.cases.0 c.entry.ensures)
    c.offer_entry.ensures c.offer_slots.ensures
