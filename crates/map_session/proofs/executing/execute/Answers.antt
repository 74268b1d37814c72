use Rattle.std.proofs.Common.{rules, ◌≤◌, Some, Ok, sym, subst}
use Rattle.map_model.specs.Line.{IsCommand, IsShape}
use Rattle.map_model.specs.Output.{AnswersTo}
use Rattle.map_model.specs.Shape.{Point, Segment}
use Rattle.map_model.specs.Words.{greatest_id}
use Rattle.script_lang.specs.Command.{command_of}
use Rattle.script_lang.specs.declared.command.Command.{Command}
use Rattle.map_layers.specs.Layers.{map_of}
use Rattle.map_session.specs.Session.{given_by}
use Rattle.map_session.proofs.Kept.{kept_shape}
use Rattle.map_session.proofs.executing.execute.Goals as goal

pub add-requires : goal.add-requires
add-requires g c =
    let version = (map_of c.args.layers.now).version in
    let lawful = subst (λ (k : Command). IsCommand version (command_of k)) c.in-Add.is c.requires.lawful in
    let in_limits : (c.in-Add.id ≤ greatest_id) × IsShape version (Point c.in-Add.x c.in-Add.y c.in-Add.w) = lawful.in_limits in
    (search rules, (c.requires.few, kept_shape version (Point c.in-Add.x c.in-Add.y c.in-Add.w) in_limits.1))

pub add-requires-in-Seg : goal.add-requires-in-Seg
add-requires-in-Seg g c =
    let version = (map_of c.args.layers.now).version in
    let lawful = subst (λ (k : Command). IsCommand version (command_of k)) c.in-Seg.is c.requires.lawful in
    let in_limits : (c.in-Seg.id ≤ greatest_id) × IsShape version (Segment c.in-Seg.lo c.in-Seg.hi c.in-Seg.y) = lawful.in_limits in
    (search rules, (c.requires.few, kept_shape version (Segment c.in-Seg.lo c.in-Seg.hi c.in-Seg.y) in_limits.1))

pub returns-in-Layer-clause-answered : goal.returns-in-Layer-clause-answered
returns-in-Layer-clause-answered g c =
    subst (λ (k : Command). AnswersTo (map_of c.args.layers.now) (Ok (Some (command_of k))) (given_by (Some c.make.result) (map_of c.make.new.layers)))
    (sym c.in-Layer.is) c.make.ensures.answered
