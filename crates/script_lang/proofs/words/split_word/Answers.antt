use Rattle.std.proofs.Common.{◌≡◌, ℕ, ◌<◌, ◌≤◌, arith, length-drop, [], ◌∷◌, length, take, drop, sym, ap, ◌∙◌, pos_of_ne-zero}
use Rattle.std.proofs.lemmas.List.{nil_from_length}
use Rattle.std.proofs.lemmas.Bool.{eqb-true, eqb-false}
use Rattle.map_model.specs.Words.{words}
use Rattle.map_model.proofs.WordLemmas.{words-drop_blanks, first_behind_blanks, words-text}
use Rattle.script_lang.proofs.FieldWords.{word_filled}
use Rattle.script_lang.proofs.words.split_word.Goals as goal

pub returns-then-is_empty-clause-first : goal.returns-then-is_empty-clause-first
returns-then-is_empty-clause-first c =
    let word = c.skip_blanks-word.result.now in
    let none : word ≡ [] = nil_from_length word (eqb-true (length word) 0 (sym c.is_empty.ensures ∙ c.if-is_empty.true)) in
    sym (words-drop_blanks c.args.text.now) ∙ ap words (sym c.skip_blanks-word.ensures ∙ none)

pub returns-clause-first : goal.returns-clause-first
returns-clause-first c =
    let word = c.skip_blanks-word.result.now in
    let some : 0 < length word = pos_of_ne-zero (eqb-false (length word) 0 (sym c.is_empty.ensures ∙ c.if-is_empty.false)) in
    sym (words-drop_blanks c.args.text.now) ∙ ap words (sym c.skip_blanks-word.ensures)
    ∙ words-text word (λ byte rest e. first_behind_blanks c.args.text.now byte rest (sym c.skip_blanks-word.ensures ∙ e)) some
    ∙ (λ i. sym (c.split_at.ensures.front ∙ ap (λ n. take n word) c.word_len.ensures.bytes) i ∷ words (sym (c.split_at.ensures.back ∙ ap (λ n. drop n word) c.word_len.ensures.bytes) i))

pub returns-clause-shorter : goal.returns-clause-shorter
returns-clause-shorter c =
    let word = c.skip_blanks-word.result.now in
    let some : 0 < length word = pos_of_ne-zero (eqb-false (length word) 0 (sym c.is_empty.ensures ∙ c.if-is_empty.false)) in
    let filled = word_filled word (λ byte rest e. first_behind_blanks c.args.text.now byte rest (sym c.skip_blanks-word.ensures ∙ e)) some in
    let kept : length word ≤ length c.args.text.now = omega (arith, ap length c.skip_blanks-word.ensures, length-drop {A = ℕ}) in
    omega (arith, filled, kept, c.word_len.ensures.bytes, c.split_at.ensures.back_len)
