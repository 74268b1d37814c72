use Rattle.std.proofs.Common.{length, ap, sym, ◌∙◌}
use Rattle.weak_delete.specs.Places.{LivePlaces}
use Rattle.weak_delete.proofs.Packing.{length-packed}
use Rattle.weak_delete.proofs.live_counts.LiveCounts.len.Goals as goal

pub returns-clause-value : goal.returns-clause-value
returns-clause-value c =
    sym (length-packed c.self.inside.weights.items c.self.inside.masks.items c.self.inside.len) ∙ ap (λ (s : LivePlaces). length s.places) c.self.view_is
