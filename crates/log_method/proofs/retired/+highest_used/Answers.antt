use Rattle.std.proofs.Common.{◌≡◌, IfSome, nat_lt, sym, subst}
use Rattle.std.specs.Option.{is_some}
use Rattle.log_method.specs.Retired.{used_of, top_of}
use Rattle.log_method.proofs.Topmost.{some_used, top_used}
use Rattle.log_method.proofs.retired.+highest_used.Goals as goal

pub returns-in-Some-clause-some : goal.returns-in-Some-clause-some
returns-in-Some-clause-some g t c =
    let e = c.used_or.ensures in
    subst (λ ls. is_some c.used_or.result ≡ nat_lt 0 (used_of ls)) (sym c.in-Some.ensures.cases.0)
    (some_used c.in-Some.level.now c.in-Some.above.now c.highest_used.result c.used_or.result c.highest_used.ensures.some e.above e.here)

pub returns-in-Some-clause-found : goal.returns-in-Some-clause-found
returns-in-Some-clause-found g t c =
    let e = c.used_or.ensures in
    subst (λ ls. IfSome c.used_or.result (λ level. level ≡ top_of ls)) (sym c.in-Some.ensures.cases.0)
    (top_used c.in-Some.level.now c.in-Some.above.now c.highest_used.result c.used_or.result c.highest_used.ensures.some e.above e.found
    c.highest_used.ensures.found)
