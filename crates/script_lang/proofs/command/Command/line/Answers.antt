use Rattle.std.proofs.Common.{rules, ◌≡◌, ap, ◌∙◌}
use Rattle.map_model.specs.Grammar.{parse}
use Rattle.map_model.specs.Line.{command_line}
use Rattle.map_model.proofs.RoundTrip.{parse-command_line}
use Rattle.map_shapes.specs.Version.{version_of}
use Rattle.script_lang.specs.Command.{command_of}
use Rattle.script_lang.proofs.command.Command.line.Goals as goal

pub returns-clause-read : goal.returns-clause-read
returns-clause-read c is =
    let command = command_of c.args.self.now in
    let version = version_of c.args.version in
    let told : c.write_line.new.line.items ≡ command_line version command = search rules in
    ap (parse version) told ∙ parse-command_line version command is
