use Rattle.std.proofs.Common.{◌==◌, ◌∙◌, ap, sym}
use Rattle.log_method.specs.Retired.{used_of}
use Rattle.log_method.proofs.GivingBack.{idle_all, busy_one}
use Rattle.log_method.proofs.retired.+are_idle.Goals as goal

pub returns-then-is_idle : goal.returns-then-is_idle
returns-then-is_idle g t c =
    c.are_idle.ensures ∙ idle_all c.in-Some.level.now c.in-Some.above.now (c.is_idle.ensures.idle c.if-is_idle.true)
    ∙ ap (λ ls. used_of ls == 0) (sym c.in-Some.ensures.cases.0)

pub returns-else-is_idle : goal.returns-else-is_idle
returns-else-is_idle g t c =
    c.if-is_idle.false ∙ busy_one c.in-Some.level.now c.in-Some.above.now (c.is_idle.ensures.busy c.if-is_idle.false)
    ∙ ap (λ ls. used_of ls == 0) (sym c.in-Some.ensures.cases.0)
