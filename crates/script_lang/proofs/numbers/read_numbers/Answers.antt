use Rattle.std.proofs.Common.{sym, ap, ◌∙◌, option_map, subst, ◌≤◌, ◌+◌, length, count_by, drop}
use Rattle.map_shapes.specs.Version.{version_of}
use Rattle.script_lang.specs.Form.{is_place}
use Rattle.script_lang.specs.declared.numbers.Numbers.{Numbers}
use Rattle.script_lang.proofs.FieldWords.{none_left, one_left}
use Rattle.script_lang.proofs.Walk.{room_kept}
use Rattle.script_lang.proofs.numbers.read_numbers.Goals as goal

pub returns-in_err-word : goal.returns-in_err-word
returns-in_err-word c = ap (option_map _) c.from_residual.ensures ∙ sym (sym c.loop-field.invariant.read ∙ none_left (version_of c.args.version) c.args.fields.now c.loop-field.field-index _ _ c.loop-field-test.true c.in_err-word.ensures.first)

pub loop-field-preserved : goal.loop-field-preserved
loop-field-preserved c =
    let fields = c.args.fields.now in
    let i = c.loop-field.field-index in
    record {
      read = sym (one_left (version_of c.args.version) fields i _ _ _ _ c.loop-field.numbers c.loop-field-test.true c.in_ok-word.ensures.first c.read.ensures) ∙ c.loop-field.invariant.read;
      room = subst (λ (v : Numbers). length v.places + count_by is_place (drop (i + 1) fields) ≤ 4) (sym c.read.ensures) (room_kept (version_of c.args.version) fields i c.in_ok-word.word.now c.loop-field.numbers c.loop-field-test.true c.loop-field.invariant.room);
    }
