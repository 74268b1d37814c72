use Rattle.std.proofs.Common.{rules, ap, ap₂, codes, Option, Some, None, ◌≡◌, ◌∙◌}
use Rattle.std.specs.Prelude.{pos}
use Rattle.std.proofs.lemmas.Result.{IfOk-weaker}
use Rattle.clap.specs.Walk.{Rule, rule_of}
use Rattle.clap.specs.Simple.{app_of, app_of_fields, new_app, with_rule}
use Rattle.clap.specs.declared.builder.value_parser.ValueParser.{ValueParser}
use Rattle.clap.specs.declared.builder.value_parser.ValueParser.TheVariants.{Bool, Unsigned, Signed}
use Rattle.program_words.specs.Words.{ledger_rule, make_rule, size_rule, nameless}
use Rattle.program_words.proofs.command.command.Goals as goal

abbrev with_parser : Rule → Option ValueParser → Rule
with_parser rule parser = record rule { parser = parser }

pub returns : goal.returns
returns c =
    let flag = c.value_parser-ledger.ensures.given in
    let flag_parser : c.value_parser-ledger.result.value_parser ≡ Some Bool = flag.1 ∙ ap Some (flag.2 ∙ c.value_parser.ensures) in
    let wide = c.value_parser-make.ensures.given in
    let wide_parser : c.value_parser-make.result.value_parser ≡ Some (Unsigned 0 18446744073709551615) = wide.1 ∙ ap Some (wide.2 ∙ c.value_parser-2.ensures) in
    let narrow = c.value_parser-size.ensures.given in
    let narrowed : c.range.result ≡ Signed (pos 1) (pos 65536) = rw (c.value_parser-3.ensures, c.new-4.ensures.start, c.new-4.ensures.end) at c.range.ensures in
    let narrow_parser : c.value_parser-size.result.value_parser ≡ Some (Signed (pos 1) (pos 65536)) = narrow.1 ∙ ap Some (narrow.2 ∙ narrowed) in
    let bare_ledger : rule_of c.action.result ≡ with_parser ledger_rule None = search rules in
    let bare_make : rule_of c.long-2.result ≡ with_parser make_rule None = search rules in
    let bare_size : rule_of c.long-3.result ≡ with_parser size_rule None = search rules in
    let ledger_is : rule_of c.value_parser-ledger.result ≡ ledger_rule =
    ap rule_of c.value_parser-ledger.ensures.others ∙ ap₂ with_parser bare_ledger flag_parser in
    let make_is : rule_of c.value_parser-make.result ≡ make_rule =
    ap rule_of c.value_parser-make.ensures.others ∙ ap₂ with_parser bare_make wide_parser in
    let size_is : rule_of c.value_parser-size.result ≡ size_rule =
    ap rule_of c.value_parser-size.ensures.others ∙ ap₂ with_parser bare_size narrow_parser in
    let start_is : app_of c.no_binary_name.result ≡ nameless (new_app (codes "livemap")) =
    ap app_of_fields c.no_binary_name.ensures ∙ ap nameless c.new-5.ensures.app in
    let second_is = c.in_ok-arg-2.ensures.shape (search rules)
    ∙ ap₂ with_rule (c.in_ok-arg.ensures.shape (search rules) ∙ ap₂ with_rule start_is ledger_is) make_is in
    IfOk-weaker c.arg-3.result _ _ (λ command added. added.shape (search rules) ∙ ap₂ with_rule second_is size_is) c.arg-3.ensures
