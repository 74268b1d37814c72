-- Words with a space between each two are the words of their line.
use Rattle.std.proofs.Common.{◌≡◌, ℕ, suc, ◌+◌, ◌-◌, ◌*◌, ◌≤◌, ◌<◌, Bool, true, false, cond, ◌&&◌, List, [], ◌∷◌, ◌++◌, length, filter, arith, refl, ap, ◌∙◌, subst, length-append, get_or, nat_le}
use Rattle.std.specs.List.{All, list_all, slice_split}
use Rattle.std.proofs.lemmas.Bool.{and_parts, and_from, false≢true}
use Rattle.std.proofs.lemmas.Bool.Decides.{nat_tests}
use Rattle.std.proofs.lemmas.List.Elements.{All-cons}
use Rattle.std.proofs.lemmas.List.Folds.{list_all-append}
use Rattle.std.proofs.lemmas.List.Splits.{slice_split_none, slice_split_at}
use Rattle.map_model.specs.Words.{is_blank, is_filled, words, is_name_byte}
use Rattle.map_model.specs.Grammar.{is_printable}
use Rattle.map_model.specs.Line.{spaced_words}

-- a byte from `!` to `~`
abbrev pub is_plain : ℕ → Bool
is_plain byte = nat_le 33 byte && nat_le byte 126

plain_filled : (byte : ℕ) → is_plain byte ≡ true → is_blank byte ≡ false
plain_filled byte h = grind (arith, nat_tests)

plain_printable : (byte : ℕ) → is_plain byte ≡ true → is_printable byte ≡ true
plain_printable byte h = grind (arith, nat_tests)

pub name_plain : (byte : ℕ) → is_name_byte byte ≡ true → is_plain byte ≡ true
name_plain byte h = grind (arith, nat_tests)

pub digit_plain : (byte : ℕ) → (nat_le 48 byte && nat_le byte 57) ≡ true → is_plain byte ≡ true
digit_plain byte h = grind (arith, nat_tests)

pub list_all-weaker : (p q : ℕ → Bool) → ((byte : ℕ) → p byte ≡ true → q byte ≡ true) → (word : List ℕ) → list_all p word ≡ true → list_all q word ≡ true
list_all-weaker p q weaker [] h = refl
list_all-weaker p q weaker (byte ∷ word) h =
    let parts = and_parts (p byte) (list_all p word) h in
    and_from (q byte) (list_all q word) (weaker byte parts.0) (list_all-weaker p q weaker word parts.1)

-- a word of a line that is written: some plain bytes, at most 20
pub record IsPlainWord (word : List ℕ) : Type 0 where
  pub filled : is_filled word ≡ true
  pub plain : list_all is_plain word ≡ true
  pub short : length word ≤ 20

abbrev pub ArePlainWords : List (List ℕ) → Type 0
ArePlainWords [] = Unit {0}
ArePlainWords (word ∷ words) = IsPlainWord word × ArePlainWords words

no_blank : (word : List ℕ) → list_all is_plain word ≡ true → All (λ byte. is_blank byte ≡ false) word
no_blank [] h = λ k d inside. absurd (omega arith)
no_blank (byte ∷ word) h =
    let parts = and_parts (is_plain byte) (list_all is_plain word) h in
    All-cons (λ b. is_blank b ≡ false) byte word (plain_filled byte parts.0) (no_blank word parts.1)

split_spaced : (word : List ℕ) (words : List (List ℕ)) → ArePlainWords (word ∷ words) → slice_split is_blank (spaced_words (word ∷ words)) ≡ word ∷ words
split_spaced word [] h = slice_split_none is_blank word (no_blank word h.0.plain)
split_spaced word (next ∷ words) h =
    slice_split_at is_blank word 32 (spaced_words (next ∷ words)) (no_blank word h.0.plain) refl
    ∙ ap (λ (ws : List (List ℕ)). word ∷ ws) (split_spaced next words h.1)

keeps_filled : (words : List (List ℕ)) → ArePlainWords words → filter is_filled words ≡ words
keeps_filled [] h = refl
keeps_filled (word ∷ words) h =
    ap (λ b. cond b (word ∷ filter is_filled words) (filter is_filled words)) h.0.filled
    ∙ ap (λ (ws : List (List ℕ)). word ∷ ws) (keeps_filled words h.1)

pub words-spaced : (word : List ℕ) (more : List (List ℕ)) → ArePlainWords (word ∷ more) → words (spaced_words (word ∷ more)) ≡ word ∷ more
words-spaced word more h = ap (filter is_filled) (split_spaced word more h) ∙ keeps_filled (word ∷ more) h

pub spaced_printable : (words : List (List ℕ)) → ArePlainWords words → list_all is_printable (spaced_words words) ≡ true
spaced_printable [] h = refl
spaced_printable (word ∷ []) h = list_all-weaker is_plain is_printable plain_printable word h.0.plain
spaced_printable (word ∷ next ∷ words) h =
    list_all-append is_printable word (32 ∷ spaced_words (next ∷ words))
    ∙ and_from (list_all is_printable word) (list_all is_printable (spaced_words (next ∷ words)))
    (list_all-weaker is_plain is_printable plain_printable word h.0.plain) (spaced_printable (next ∷ words) h.1)

pub length-spaced : (words : List (List ℕ)) → ArePlainWords words → length (spaced_words words) ≤ 21 * length words
length-spaced [] h = omega arith
length-spaced (word ∷ []) h = omega (arith, h.0.short)
length-spaced (word ∷ next ∷ words) h =
    omega (arith, h.0.short, length-spaced (next ∷ words) h.1, length-append word (32 ∷ spaced_words (next ∷ words)))

-- ---- the last byte

last_plain : (byte : ℕ) (word : List ℕ) → list_all is_plain (byte ∷ word) ≡ true → is_plain (get_or (byte ∷ word) (length word) 0) ≡ true
last_plain byte [] h = (and_parts (is_plain byte) true h).0
last_plain byte (next ∷ word) h = last_plain next word (and_parts (is_plain byte) (list_all is_plain (next ∷ word)) h).1

abbrev last_byte : List ℕ → ℕ
last_byte text = get_or text (length text - 1) 0

last_of_word : (word : List ℕ) → IsPlainWord word → is_plain (last_byte word) ≡ true
last_of_word [] h = absurd (false≢true h.filled)
last_of_word (byte ∷ word) h =
    let last : length word ≡ length (byte ∷ word) - 1 = omega arith in
    subst (λ k. is_plain (get_or (byte ∷ word) k 0) ≡ true) last (last_plain byte word h.plain)

last_behind : (front back : List ℕ) → 0 < length back → last_byte (front ++ back) ≡ last_byte back
last_behind front back some =
    ap (λ k. get_or (front ++ back) k 0) (let e : length (front ++ back) - 1 ≡ length front + (length back - 1) = omega (arith, length-append front back) in e)
    ∙ get_or_append_right' front back (length back - 1)
  where
    get_or_append_right' : (front back : List ℕ) (k : ℕ) → get_or (front ++ back) (length front + k) 0 ≡ get_or back k 0
    get_or_append_right' [] back k = ap (λ n. get_or back n 0) (omega arith)
    get_or_append_right' (x ∷ front) back k = ap (λ n. get_or (x ∷ (front ++ back)) n 0) (let e : suc (length front) + k ≡ suc (length front + k) = omega arith in e) ∙ get_or_append_right' front back k

spaced_filled : (word : List ℕ) (words : List (List ℕ)) → ArePlainWords (word ∷ words) → 0 < length (spaced_words (word ∷ words))
spaced_filled [] words h = absurd (false≢true h.0.filled)
spaced_filled (byte ∷ word) [] h = omega arith
spaced_filled (byte ∷ word) (next ∷ words) h = omega arith

pub last_of_spaced : (word : List ℕ) (words : List (List ℕ)) → ArePlainWords (word ∷ words) → is_plain (last_byte (spaced_words (word ∷ words))) ≡ true
last_of_spaced word [] h = last_of_word word h.0
last_of_spaced word (next ∷ words) h =
    ap is_plain (last_behind word (32 ∷ spaced_words (next ∷ words)) (omega arith) ∙ last_behind (32 ∷ []) (spaced_words (next ∷ words)) (spaced_filled next words h.1))
    ∙ last_of_spaced next words h.1
