-- Words from the front of a text, and the fields that they stand in.
use Rattle.std.proofs.Common.{◌≡◌, ℕ, ◌+◌, ◌<◌, false, cond, not, List, [], ◌∷◌, length, drop, get_or, None, arith, refl, sym, ap, ◌∙◌, subst}
use Rattle.std.specs.List.{prefix_len}
use Rattle.std.proofs.lemmas.List.{drop_more}
use Rattle.map_model.specs.Words.{is_blank, is_word_byte}
use Rattle.map_model.specs.Version.{Version}
use Rattle.script_lang.specs.declared.form.Field.{Field}
use Rattle.script_lang.specs.declared.form.Field.TheVariants.{Id}
use Rattle.script_lang.specs.declared.numbers.Numbers.{Numbers}
use Rattle.script_lang.specs.Numbers.{with_word, with_words}

-- a word isn't empty
pub word_filled : (text : List ℕ) → ((byte : ℕ) (rest : List ℕ) → text ≡ byte ∷ rest → is_blank byte ≡ false) → 0 < length text → 0 < prefix_len is_word_byte text
word_filled [] filled some = absurd (omega arith)
word_filled (byte ∷ text) filled some = subst (λ b. 0 < cond (not b) (1 + prefix_len is_word_byte text) 0) (sym (filled byte text refl)) (omega arith)

-- a field with no word
pub none_left : (version : Version) (fields : List Field) (i : ℕ) (words : List (List ℕ)) (numbers : Numbers) → i < length fields → words ≡ [] → with_words version (drop i fields) words numbers ≡ None
none_left version fields i words numbers inside none =
    ap (λ (fs : List Field). with_words version fs words numbers) (drop_more fields i Id inside) ∙ ap (λ (ws : List (List ℕ)). with_words version (get_or fields i Id ∷ drop (i + 1) fields) ws numbers) none

-- a field with its word
pub one_left : (version : Version) (fields : List Field) (i : ℕ) (words rest : List (List ℕ)) (word : List ℕ) (next numbers : Numbers) → i < length fields → words ≡ word ∷ rest → next ≡ with_word version numbers (get_or fields i Id) word
    → with_words version (drop i fields) words numbers ≡ with_words version (drop (i + 1) fields) rest next
one_left version fields i words rest word next numbers inside first is =
    ap (λ (fs : List Field). with_words version fs words numbers) (drop_more fields i Id inside)
    ∙ ap (λ (ws : List (List ℕ)). with_words version (get_or fields i Id ∷ drop (i + 1) fields) ws numbers) first
    ∙ ap (with_words version (drop (i + 1) fields) rest) (sym is)
