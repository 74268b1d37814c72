use Rattle.std.proofs.Common.{ap, sym, ◌∙◌}
use Rattle.weak_delete.specs.Places.{LivePlaces}
use Rattle.weak_delete.proofs.Packing.{length-packed}
use Rattle.weak_delete.proofs.live_counts.LiveCounts.seal.Goals as goal

pub returns-clause-each : goal.returns-clause-each
returns-clause-each c =
    c.self.invariant.unsealed (ap (λ (s : LivePlaces). s.sealed) c.self.view_is ∙ c.requires)
    ∙ sym (length-packed c.self.inside.weights.items c.self.inside.masks.items c.self.inside.len)
