use Rattle.std.proofs.Common.{◌≡◌, ◌+◌, subst}
use Rattle.std.specs.Prelude.{IfOk}
use Rattle.log_levels.specs.Levels.{parts_of}
use Rattle.log_method.proofs.stack.Stack.ask.Goals as goal

pub returns-clause-consulted : goal.returns-clause-consulted
returns-clause-consulted g c =
    subst (λ ls. IfOk c.ask_levels.result (λ _. c.ask_levels.new.steps.consulted ≡ c.args.steps.now.consulted + parts_of ls))
    c.asked_levels.ensures.value c.ask_levels.ensures.consulted
