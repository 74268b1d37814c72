use Rattle.std.proofs.Common.{ℕ, suc, ◌+◌, ◌*◌, ◌^◌, ◌<◌, ◌≤◌, ⊎_elim, arith, pow-suc, pow_mono}
use Rattle.std.proofs.lemmas.Bool.{cases_lt}
use Rattle.map_model.specs.Cost.{greatest_level}
use Rattle.map_model.proofs.Levels.{IsLog-halvings}
use Rattle.layer_kinds.proofs.bounds.greatest_level.Goals as goal

raised : (k g : ℕ) → k ≤ g → 2 ^ k ≤ 2 ^ g
raised k g few = pow_mono few

-- the greater power of two is twice the lesser one at least
apart : (m a b : ℕ) → 2 ^ b ≤ m → m < 2 * 2 ^ a → b ≤ a
apart m a b low high = ⊎_elim
    (λ less. absurd (omega (arith, low, high, pow-suc 2 a, raised (suc a) b (omega (arith, less)))))
    (λ more. more)
    (cases_lt a b)

pub returns-clause-level : goal.returns-clause-level
unfolding greatest_level
returns-clause-level c =
    let m = 2 * c.args.live + 10 in
    let log = IsLog-halvings 63 m (omega arith) (omega (arith, c.requires.few)) in
    let here : 2 ^ c.ilog2.result ≤ m = c.ilog2.ensures.power_le in
    let next : m < 2 * 2 ^ c.ilog2.result = c.ilog2.ensures.next_power_gt in
    omega (arith, apart m (greatest_level c.args.live) c.ilog2.result here log.1, apart m c.ilog2.result (greatest_level c.args.live) log.0 next)

pub returns-clause-low : goal.returns-clause-low
returns-clause-low c = ⊎_elim
    (λ low. low)
    (λ high. absurd (omega (arith, c.requires.few, c.ilog2.ensures.power_le, raised 26 c.ilog2.result high)))
    (cases_lt c.ilog2.result 26)
