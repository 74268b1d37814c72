use Rattle.std.proofs.Common.{arith, ap, ◌∙◌}
use Rattle.weak_delete.specs.Places.{LivePlaces}
use Rattle.weak_delete.proofs.Winners.{IsPlayed-all}
use Rattle.weak_delete.proofs.live_max.LiveMax.winner.Goals as goal

pub winner_of-requires-clause-built : goal.winner_of-requires-clause-built
winner_of-requires-clause-built g c =
    let played = c.self.invariant.played (ap (λ (s : LivePlaces). s.sealed) c.self.view_is ∙ c.requires.built.sealed) in
    let none = ap (λ (s : LivePlaces). s.left) c.self.view_is ∙ c.requires.built.turned in
    record { wins = λ middle pos within lower. IsPlayed-all played none (omega arith) middle pos within }
