use Rattle.std.proofs.Common.{rules}
use Rattle.map_shapes.specs.Kind.{kind_of}
use Rattle.map_shapes.specs.Version.{version_of}
use Rattle.map_shapes.specs.IndexSet.{index_set_of, index_of}
use Rattle.script_lang.proofs.Lawful.{Passes, in_limits}
use Rattle.script_lang.proofs.parsing.parse_printable.Goals as goal

pub make_command-requires : goal.make_command-requires
make_command-requires c =
    let end = c.in_ok-ending.ending in
    let kind = kind_of end.kind in
    let indexes = index_set_of end.indexes in
    let index = index_of end.index in
    let passes : Passes (version_of c.args.version) c.args.line.now c.in-Some.read c.in-Some-read.name kind indexes index = record {
      short = search rules;
      said = search rules;
      ended = search rules;
      named = search rules;
      digits = search rules;
      in_range = search rules;
      ordered = search rules;
      ending = search rules;
    } in
    in_limits (version_of c.args.version) _ c.in-Some.read c.in-Some-read.name kind indexes index passes
