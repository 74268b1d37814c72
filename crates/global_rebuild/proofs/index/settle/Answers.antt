use Rattle.std.proofs.Common.{length, ap}
use Rattle.global_rebuild.proofs.Owning.{lent_to_retired, lent_tables_to_retired, owns-back, owns-taken}
use Rattle.global_rebuild.proofs.Freeing.{freed_lent, freed_lent_tables, frees, clears}
use Rattle.global_rebuild.proofs.index.settle.Goals as goal

pub give_back-back-requires-clause-lent : goal.give_back-back-requires-clause-lent
give_back-back-requires-clause-lent g c = lent_to_retired c.requires.owns

pub give_back-back-requires-clause-lent_tables : goal.give_back-back-requires-clause-lent_tables
give_back-back-requires-clause-lent_tables g c = lent_tables_to_retired c.requires.owns

pub free_spare-requires : goal.free_spare-requires
free_spare-requires g c = (owns-back c.give_back-back.result c.give_back-back.new.retired.items c.give_back-back.new.store c.requires.owns c.give_back-back.ensures.given).few

pub returns-clause-owns : goal.returns-clause-owns
returns-clause-owns g c =
    let more = owns-back c.give_back-back.result c.give_back-back.new.retired.items c.give_back-back.new.store c.requires.owns c.give_back-back.ensures.given in
    owns-taken c.give_back-back.result c.take_memory.new.main c.take_memory.new.shadow c.free_spare.new.store c.take_memory.new.store more
    (freed_lent c.free_spare.ensures.frees) (freed_lent_tables c.free_spare.ensures.frees) c.free_spare.ensures.few c.take_memory.ensures.memory

pub returns-clause-frees : goal.returns-clause-frees
returns-clause-frees g c = frees c.give_back-back.ensures.given.keeps c.free_spare.ensures.frees c.take_memory.ensures.memory (ap length c.take_memory.ensures.live)

pub returns-clause-clears : goal.returns-clause-clears
returns-clause-clears g c = clears c.give_back-back.ensures.given.keeps c.free_spare.ensures.unwanted c.take_memory.ensures.memory (ap length c.take_memory.ensures.live)

pub returns-clause-one : goal.returns-clause-one
returns-clause-one g c = c.give_back-back.ensures.given.one
