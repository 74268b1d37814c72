-- Lines of a text.
use Rattle.std.proofs.Common.{◌≡◌, ℕ, zero, suc, ◌/◌, ◌%◌, ◌<◌, true, false, cond, not, ◌&&◌, nat_eq, List, [], ◌∷◌, ◌++◌, decimal, arith, refl, sym, ap, ◌∙◌, mod-lt, inl, inr}
use Rattle.std.specs.List.{onto_first}
use Rattle.std.specs.Fmt.{digits, digits_onto, digit_glyph}
use Rattle.std.proofs.lemmas.Bool.{cases_Bool, and_parts, not-true, cond_both}
use Rattle.std.proofs.lemmas.Bool.Decides.{nat_tests}
use Rattle.map_model.specs.Text.{lines, whole_lines, onto_first_if_any, one_line}

-- A text that begins with a whole line has that line first.
pub lines-line : (text rest : List ℕ) → one_line text ≡ true → lines (text ++ 10 ∷ rest) ≡ text ∷ lines rest
lines-line [] rest h = refl
lines-line (byte ∷ text) rest h =
    let parts = and_parts (not (nat_eq byte 10)) (one_line text) h in
    let ordinary : nat_eq byte 10 ≡ false = not-true (nat_eq byte 10) parts.0 in
    ap (λ b. cond b ([] ∷ lines (text ++ 10 ∷ rest)) (onto_first byte (lines (text ++ 10 ∷ rest)))) ordinary ∙ ap (onto_first byte) (lines-line text rest parts.1)

pub whole_lines-line : (text rest : List ℕ) → one_line text ≡ true → whole_lines (text ++ 10 ∷ rest) ≡ text ∷ whole_lines rest
whole_lines-line [] rest h = refl
whole_lines-line (byte ∷ text) rest h =
    let parts = and_parts (not (nat_eq byte 10)) (one_line text) h in
    let ordinary : nat_eq byte 10 ≡ false = not-true (nat_eq byte 10) parts.0 in
    ap (λ b. cond b ([] ∷ whole_lines (text ++ 10 ∷ rest)) (onto_first_if_any byte (whole_lines (text ++ 10 ∷ rest)))) ordinary ∙ ap (onto_first_if_any byte) (whole_lines-line text rest parts.1)

-- A text with no line feed is its one line, and has no whole one.
pub lines-rest : (byte : ℕ) (text : List ℕ) → one_line (byte ∷ text) ≡ true → lines (byte ∷ text) ≡ (byte ∷ text) ∷ []
lines-rest byte [] h =
    let parts = and_parts (not (nat_eq byte 10)) true h in
    ap (λ b. cond b ([] ∷ []) ((byte ∷ []) ∷ [])) (not-true (nat_eq byte 10) parts.0)
lines-rest byte (next ∷ text) h =
    let parts = and_parts (not (nat_eq byte 10)) (one_line (next ∷ text)) h in
    ap (λ b. cond b ([] ∷ lines (next ∷ text)) (onto_first byte (lines (next ∷ text)))) (not-true (nat_eq byte 10) parts.0) ∙ ap (onto_first byte) (lines-rest next text parts.1)

pub whole_lines-rest : (text : List ℕ) → one_line text ≡ true → whole_lines text ≡ []
whole_lines-rest [] h = refl
whole_lines-rest (byte ∷ text) h =
    let parts = and_parts (not (nat_eq byte 10)) (one_line text) h in
    ap (λ b. cond b ([] ∷ whole_lines text) (onto_first_if_any byte (whole_lines text))) (not-true (nat_eq byte 10) parts.0) ∙ ap (onto_first_if_any byte) (whole_lines-rest text parts.1)

-- what is before a line feed begins with a line
has_line : (text : List ℕ) → (line : List ℕ) × (more : List (List ℕ)) × (lines (text ++ 10 ∷ []) ≡ line ∷ more)
has_line [] = ([], [], refl)
has_line (byte ∷ text) =
    let r = has_line text in
    elim (cases_Bool (nat_eq byte 10)) [
      | inl yes' ↦ ([], lines (text ++ 10 ∷ []), ap (λ b. cond b ([] ∷ lines (text ++ 10 ∷ [])) (onto_first byte (lines (text ++ 10 ∷ [])))) yes')
      | inr no' ↦ (byte ∷ r.0, r.1, ap (λ b. cond b ([] ∷ lines (text ++ 10 ∷ [])) (onto_first byte (lines (text ++ 10 ∷ [])))) no' ∙ ap (onto_first byte) r.2)
    ]

-- The lines of a text that a line feed ends, with another text after it, are the lines of both.
pub lines-append : (text rest : List ℕ) → lines ((text ++ 10 ∷ []) ++ rest) ≡ lines (text ++ 10 ∷ []) ++ lines rest
lines-append [] rest = refl
lines-append (byte ∷ text) rest =
    let r = has_line text in
    let first : onto_first byte (lines (text ++ 10 ∷ []) ++ lines rest) ≡ onto_first byte (lines (text ++ 10 ∷ [])) ++ lines rest =
    ap (λ ls. onto_first byte (ls ++ lines rest)) r.2 ∙ sym (ap (λ ls. onto_first byte ls ++ lines rest) r.2) in
    elim (cases_Bool (nat_eq byte 10)) [
      | inl yes' ↦ ap (λ b. cond b ([] ∷ lines ((text ++ 10 ∷ []) ++ rest)) (onto_first byte (lines ((text ++ 10 ∷ []) ++ rest)))) yes'
          ∙ ap (λ ls. [] ∷ ls) (lines-append text rest)
          ∙ sym (ap (λ b. cond b ([] ∷ lines (text ++ 10 ∷ [])) (onto_first byte (lines (text ++ 10 ∷ []))) ++ lines rest) yes')
      | inr no' ↦ ap (λ b. cond b ([] ∷ lines ((text ++ 10 ∷ []) ++ rest)) (onto_first byte (lines ((text ++ 10 ∷ []) ++ rest)))) no'
          ∙ ap (onto_first byte) (lines-append text rest) ∙ first
          ∙ sym (ap (λ b. cond b ([] ∷ lines (text ++ 10 ∷ [])) (onto_first byte (lines (text ++ 10 ∷ []))) ++ lines rest) no')
    ]

-- ---- numbers

glyph_ordinary : (n : ℕ) → not (nat_eq (digit_glyph false (n % 10)) 10) ≡ true
glyph_ordinary n =
    let small : n % 10 < 10 = mod-lt n (omega arith) in
    grind (arith, nat_tests)

digits_onto_one_line : (k n : ℕ) (acc : List ℕ) → one_line acc ≡ true → one_line (digits_onto k 10 false n acc) ≡ true
digits_onto_one_line zero n acc h = h
digits_onto_one_line (suc k) n acc h =
    let more : one_line (digit_glyph false (n % 10) ∷ acc) ≡ true = ap (λ b. b && one_line acc) (glyph_ordinary n) ∙ h in
    cond_both (nat_eq (n / 10) 0) (digit_glyph false (n % 10) ∷ acc) (digits_onto k 10 false (n / 10) (digit_glyph false (n % 10) ∷ acc)) (λ ds. one_line ds ≡ true) (λ _. more) (λ _. digits_onto_one_line k (n / 10) (digit_glyph false (n % 10) ∷ acc) more)

pub decimal_one_line : (n : ℕ) → one_line (decimal n) ≡ true
unfolding digits
decimal_one_line n = digits_onto_one_line 64 n [] refl

-- The whole lines of a text are the first lines of the text with more after it.
pub lines_begin_whole : (text more : List ℕ) → (tail : List (List ℕ)) × (lines (text ++ more) ≡ whole_lines text ++ tail)
lines_begin_whole [] more = (lines more, refl)
lines_begin_whole (byte ∷ text) more =
    let r = lines_begin_whole text more in
    elim (cases_Bool (nat_eq byte 10)) [
      | inl yes' ↦ (
        r.0,
        ap (λ b. cond b ([] ∷ lines (text ++ more)) (onto_first byte (lines (text ++ more)))) yes' ∙ ap (λ ls. [] ∷ ls) r.1
            ∙ sym (ap (λ b. cond b ([] ∷ whole_lines text) (onto_first_if_any byte (whole_lines text)) ++ r.0) yes'),
      )
      | inr no' ↦
          let joined = onto_whole byte (lines (text ++ more)) (whole_lines text) r.0 r.1 in (
            joined.0,
            ap (λ b. cond b ([] ∷ lines (text ++ more)) (onto_first byte (lines (text ++ more)))) no' ∙ joined.1
                ∙ sym (ap (λ b. cond b ([] ∷ whole_lines text) (onto_first_if_any byte (whole_lines text)) ++ joined.0) no'),
          )
    ]
  where
    onto_whole : (byte : ℕ) (all whole tail : List (List ℕ)) → all ≡ whole ++ tail → (tail' : List (List ℕ)) × (onto_first byte all ≡ onto_first_if_any byte whole ++ tail')
    onto_whole byte all [] tail e = (onto_first byte all, refl)
    onto_whole byte all (line ∷ whole) tail e = (tail, ap (onto_first byte) e)
