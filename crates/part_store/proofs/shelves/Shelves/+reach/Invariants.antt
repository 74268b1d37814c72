use Rattle.std.proofs.Common.{◌-◌, length}
use Rattle.part_store.proofs.shelves.Shelves.+reach.Given as goal

abbrev pub decreases-reach : goal.decreases-reach
decreases-reach g l = 32 - length l.self.now
