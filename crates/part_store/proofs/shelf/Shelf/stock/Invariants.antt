use Rattle.std.proofs.Common.{◌≡◌, ◌+◌}
use Rattle.part_store.proofs.shelf.Shelf.stock.Given as goal

abbrev pub invariant-loop-added : goal.invariant-loop-added
invariant-loop-added g l = l.self ≡ record l.initial.self { kept = l.initial.self.kept + l._added }
