use Rattle.std.proofs.Common.{◌≡◌, ℕ, ◌+◌, ◌*◌, ◌^◌, ◌<◌, ◌≤◌, ◌∙◌, ◌∷◌, ◌++◌, [], length, ap, subst, arith}
use Rattle.builder_trait.specs.Builders.{IsQuota}
use Rattle.binary_stack.specs.Charge.{charge_at}
use Rattle.binary_stack.proofs.Charges.{charge-first, charge_at-few, few_turns}
use Rattle.binary_stack.proofs.room.single.Goals as goal

charged : (slope base level n built : ℕ) → IsQuota slope base level n built → level ≡ 0 → 2 * (2 + built) ≤ charge_at slope base 0
charged slope base level n built quota lowest = charge-first slope base n built (subst (λ k. IsQuota slope base k n built) lowest quota)

few : (slope base level n built : ℕ) → IsQuota slope base level n built → level ≡ 0 → slope ≤ 4096 → base ≤ 4096 → 2 + built < 2 ^ 50
few slope base level n built quota lowest slope_small base_small =
    few_turns (2 + built) (charge_at slope base 0) (charged slope base level n built quota lowest) (charge_at-few slope base 0 slope_small base_small (omega arith))

pub overflow_add-turns : goal.overflow_add-turns
overflow_add-turns g c =
    let level = ap (λ b. b.at_level) c.put-2.ensures.added ∙ ap (λ b. b.at_level) c.put.ensures.added ∙ ap (λ b. b.at_level) c.requires in
    let small = few g.B.Builder.SLOPE g.B.Builder.BASE _ _ c.complete-part.result.1 c.complete-part.ensures.quota level g.met.B.Builder.small.0 g.met.B.Builder.small.1 in
    omega (arith, small)

pub returns-clause-level : goal.returns-clause-level
returns-clause-level g c =
    ap (λ p. p.at_level) c.complete-part.ensures.whole
    ∙ ap (λ b. b.at_level) c.put-2.ensures.added
    ∙ ap (λ b. b.at_level) c.put.ensures.added
    ∙ ap (λ b. b.at_level) c.requires

pub returns-clause-some : goal.returns-clause-some
returns-clause-some g c =
    let items = ap (λ b. b.items) c.put-2.ensures.added ∙ ap (λ b. b.items) c.put.ensures.added ∙ ap (λ b. b.items ++ c.args.item ∷ []) c.requires in
    omega (arith, c.complete-part.ensures.quota.enough, ap length items)

pub returns-clause-charged : goal.returns-clause-charged
returns-clause-charged g c =
    let level = ap (λ b. b.at_level) c.put-2.ensures.added ∙ ap (λ b. b.at_level) c.put.ensures.added ∙ ap (λ b. b.at_level) c.requires in
    charged g.B.Builder.SLOPE g.B.Builder.BASE _ _ c.complete-part.result.1 c.complete-part.ensures.quota level

pub returns-clause-few : goal.returns-clause-few
returns-clause-few g c =
    let level = ap (λ b. b.at_level) c.put-2.ensures.added ∙ ap (λ b. b.at_level) c.put.ensures.added ∙ ap (λ b. b.at_level) c.requires in
    few g.B.Builder.SLOPE g.B.Builder.BASE _ _ c.complete-part.result.1 c.complete-part.ensures.quota level g.met.B.Builder.small.0 g.met.B.Builder.small.1
