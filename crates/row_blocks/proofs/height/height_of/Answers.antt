use Rattle.std.proofs.Common.{◌≡◌, ◌-◌, ◌^◌, ◌≤◌, ap, subst, sym, ◌∙◌, arith}
use Rattle.std.specs.Int.Count.{count_leading_zeros}
use Rattle.row_blocks.specs.Heights.{height_of-is, IsLeastHeight-height_of}
use Rattle.row_blocks.proofs.height.height_of.Goals as goal

pub returns-clause-value : goal.returns-clause-value
returns-clause-value c =
    let same : c.saturating_sub.result ≡ c.args.n - 1 = omega (arith, c.saturating_sub.ensures) in
    ap (λ m. 64 - count_leading_zeros 64 m) same ∙ height_of-is c.args.n

pub returns-clause-above : goal.returns-clause-above
returns-clause-above c =
    subst (λ h. c.args.n ≤ 2 ^ h) (sym (returns-clause-value c)) (IsLeastHeight-height_of c.args.n (omega arith)).above

pub returns-clause-least : goal.returns-clause-least
returns-clause-least c h few =
    subst (λ m. m ≤ h) (sym (returns-clause-value c)) ((IsLeastHeight-height_of c.args.n (omega arith)).least h few)

pub returns-clause-small : goal.returns-clause-small
returns-clause-small c = returns-clause-least c 31 c.requires
