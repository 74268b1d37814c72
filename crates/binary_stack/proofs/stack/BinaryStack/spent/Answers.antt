use Rattle.std.proofs.Common.{ℕ, ◌+◌, ◌*◌, ◌^◌, ◌<◌, ◌≤◌, subst}
use Rattle.binary_stack.specs.Levels.{weight_of}
use Rattle.binary_stack.specs.Charge.{charge}
use Rattle.binary_stack.proofs.Counters.{spent-charged, spent-closed}
use Rattle.binary_stack.proofs.stack.BinaryStack.spent.Goals as goal

pub returns-clause-charged : goal.returns-clause-charged
returns-clause-charged g c =
    subst (λ s. (g' : ℕ) → weight_of s.levels < 2 ^ (g' + 1)
    → 2 * c.self.inside.spent ≤ charge g.B.Builder.SLOPE g.B.Builder.BASE 0 (g' + 1) (weight_of s.levels)) c.self.view_is (spent-charged c.self.invariant.0)

pub returns-clause-few : goal.returns-clause-few
returns-clause-few g c =
    subst (λ s. (g' : ℕ) → weight_of s.levels < 2 ^ (g' + 1)
    → 4 * c.self.inside.spent ≤ weight_of s.levels * ((g' + 1) * (g.B.Builder.SLOPE * g' + 2 * (g.B.Builder.BASE + 4)))) c.self.view_is
    (spent-closed c.self.invariant.0)
