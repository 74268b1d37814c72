use Rattle.std.proofs.Common.{rules, sym, ap, ◌∙◌, subst, refl, ◌≡◌, Ok, Some, option_map}
use Rattle.map_model.specs.Grammar.{Parsed, parse}
use Rattle.map_model.proofs.LawfulCommands.{IsCommand-parsed}
use Rattle.script_lang.specs.Command.{command_of}
use Rattle.map_session.specs.Session.{map_in, given_by, Executes}
use Rattle.map_session.proofs.session.Session.answer.Goals as goal

pub command-requires : goal.command-requires
command-requires g c =
    let version = (map_in c.args.self.now).version in
    let says : parse version c.args.line.now ≡ Ok (Some (command_of c.in-Ok-Some.command)) = sym c.in-Ok-Some.ensures ∙ ap (λ f. Ok (option_map command_of f)) c.in-Ok-Some.field-0-is in
    (search rules, (c.requires, IsCommand-parsed version c.args.line.now (command_of c.in-Ok-Some.command) says))

pub returns-in-Ok-Some-clause-executed : goal.returns-in-Ok-Some-clause-executed
returns-in-Ok-Some-clause-executed g c =
    let e = c.command.ensures in
    let version = (map_in c.args.self.now).version in
    let says : parse version c.args.line.now ≡ Ok (Some (command_of c.in-Ok-Some.command)) = sym c.in-Ok-Some.ensures ∙ ap (λ f. Ok (option_map command_of f)) c.in-Ok-Some.field-0-is in
    subst (λ (p : Parsed). Executes c.args.self.now c.args.steps.now p (given_by (Some c.command.result) (map_in c.command.new.self)) c.command.new.self c.command.new.steps) (sym says)
    (record { answers = e.answered; map = refl; counted = e.counted; parts = e.parts; lap = e.lap; ledger = e.ledger; lines = e.lines; refused = e.refused; updates = e.updates })
