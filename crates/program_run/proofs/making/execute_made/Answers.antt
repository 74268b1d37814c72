use Rattle.std.proofs.Common.{rules, ◌≡◌, ◌∙◌, List, [], ◌∷◌, length, fold, refl, sym, ap, subst, arith}
use Rattle.map_model.specs.Command.{Command}
use Rattle.map_model.specs.Line.{IsCommand}
use Rattle.map_model.specs.Version.{Version, One}
use Rattle.map_session.specs.Session.{Obeys}
use Rattle.script_lang.specs.Command.{command_of}
use Rattle.workload_gen.specs.Summary.{Summary, told_more}
use Rattle.workload_gen.proofs.Giving.{script_length}
use Rattle.program_run.proofs.MadeCommands.{given_first, given_lawful, none_to_come}
use Rattle.program_run.proofs.Versions.{ChooseNone, made_chooses_none, version_stays}
use Rattle.program_run.proofs.making.execute_made.Goals as goal

pub loop-command-init : goal.loop-command-init
loop-command-init g c = record {
  lines = omega (arith, c.requires.lines, ap length c.new-workload.ensures, script_length c.args.seed c.args.size);
  version = c.requires.version;
  choose_none = subst ChooseNone (sym c.new-workload.ensures) (made_chooses_none c.args.seed c.args.size);
  commands = ap (λ (s : Summary). s.commands) c.new-summary.ensures ∙ sym c.requires.lines;
  onward = λ told end after obeys. (
    told,
    subst (λ (coming : List Command). Obeys c.args.session.now c.args.steps.now coming told end after) c.new-workload.ensures obeys,
    ap (λ (s : Summary). fold told_more s told) (sym c.new-summary.ensures),
  );
}

-- the command is one of version 1, which the session still has
pub obey-requires-clause-lawful : goal.obey-requires-clause-lawful
obey-requires-clause-lawful g c =
    let command = c.in-Some.command in
    let lawful : IsCommand One (command_of command) = given_lawful c.loop-command.workload command c.next.new.self (search rules) in
    subst (λ (version : Version). IsCommand version (command_of command)) (sym c.loop-command.invariant.version) lawful

pub loop-command-preserved : goal.loop-command-preserved
loop-command-preserved g c =
    let was = c.loop-command.invariant in
    let command = c.in-Some.command in
    let coming : c.loop-command.workload ≡ command_of command ∷ c.next.new.self = given_first c.loop-command.workload command c.next.new.self (search rules) in
    let done = c.obey.ensures.executed in
    let chosen : ChooseNone (command_of command ∷ c.next.new.self) = subst ChooseNone coming was.choose_none in
    record {
      version = version_stays _ _ (command_of command) _ _ _ done.1 chosen.0 ∙ was.version;
      choose_none = chosen.1;
      lines = omega (arith, was.lines, c.obey.ensures.lines, ap length coming);
      commands = omega (arith, ap (λ (s : Summary). s.commands) done.2, was.commands, c.obey.ensures.lines);
      onward = λ told end after obeys.
          let on = was.onward (done.0 ∷ told) end after (subst (λ (l : List Command). Obeys c.loop-command.session c.loop-command.steps l (done.0 ∷ told) end after) (sym coming)
          (c.obey.new.session, c.obey.new.steps, done.1, obeys)) in
          (on.0, on.1, on.2 ∙ ap (λ (s : Summary). fold told_more s told) (sym done.2));
    }

pub returns : goal.returns
returns g c =
    let coming = none_to_come c.loop-command.workload c.next.result c.next.new.self (search rules) (search rules) in
    let on = c.loop-command.invariant.onward [] c.loop-command.session c.loop-command.steps
    (subst (λ (l : List Command). Obeys c.loop-command.session c.loop-command.steps l [] c.loop-command.session c.loop-command.steps) (sym coming) (refl, refl)) in
    (on.0, on.1, sym on.2)
