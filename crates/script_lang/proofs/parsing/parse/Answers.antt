use Rattle.std.proofs.Common.{◌≡◌, ◌⊎◌, inl, inr, arith, length, true, false, cond, Err, nat_lt, refl, sym, ap, ◌∙◌}
use Rattle.std.specs.Result.{is_err}
use Rattle.std.specs.List.{list_all}
use Rattle.std.proofs.lemmas.Bool.Decides.{nat_tests}
use Rattle.map_model.specs.Grammar.{is_printable, parse_text, parse_words}
use Rattle.map_model.specs.LineFault as faults
use Rattle.map_model.specs.Words.{words, longest_line}
use Rattle.map_shapes.specs.Version.{version_of}
use Rattle.script_lang.proofs.Printable.{looked_at_last, line_last, said_stays}
use Rattle.script_lang.proofs.parsing.parse.Goals.{else-is_err-via-then-is_err+else-not-is_printable, else-is_err-via-else-is_err}
use Rattle.script_lang.proofs.parsing.parse.Goals as goal

pub returns : goal.returns
returns c =
    let line = c.without_return-line.result.now in
    let version = version_of c.args.version in
    let short : nat_lt longest_line (length line) ≡ false = grind (arith, nat_tests, c.if-line-gt-LONGEST_LINE.false) in
    let why : (is_err c.parse_printable-said.result ≡ false) ⊎ (list_all is_printable line ≡ true) = elim c.else-is_err.branch [
      | else-is_err-via-then-is_err+else-not-is_printable w ↦ inr (sym w.is_printable.ensures ∙ w.if-not-is_printable.false)
      | else-is_err-via-else-is_err w ↦ inl (sym c.is_err.ensures.value ∙ w.if-is_err.false)
    ] in
    sym (said_stays line c.parse_printable-said.result why)
    ∙ ap (looked_at_last line) c.parse_printable-said.ensures
    ∙ line_last version line (words line) refl
    ∙ sym (ap (λ b. cond b (Err faults.Line) (parse_words version line (words line))) short)
    ∙ ap (parse_text version) c.without_return-line.ensures
