-- What comes after the last line feed of a text.
use Rattle.std.proofs.Common.{◌≡◌, ◌==◌, ℕ, inl, inr, true, false, cond, not, nat_eq, ◌&&◌, Bool, List, [], ◌∷◌, ◌++◌, refl, sym, ap, ◌∙◌, append_assoc, if◌then◌else◌}
use Rattle.std.proofs.lemmas.Bool.{cases_Bool, and_parts, and_from, not-true, not_from_true, not_from_false}
use Rattle.map_model.specs.Text.{lines, whole_lines, onto_first_if_any, one_line}
use Rattle.std.specs.List.{onto_first}
use Rattle.map_model.proofs.TextLemmas.{whole_lines-rest}
use Rattle.map_session.specs.Answering.{unended}

-- ---- one line

pub one_line-append : (text more : List ℕ) → one_line text ≡ true → one_line more ≡ true → one_line (text ++ more) ≡ true
one_line-append [] more h k = k
one_line-append (byte ∷ text) more h k =
    let parts = and_parts (not (nat_eq byte 10)) (one_line text) h in
    and_from (not (nat_eq byte 10)) (one_line (text ++ more)) parts.0 (one_line-append text more parts.1 k)

-- a line feed stays one with more after it
not_one_line : (text more : List ℕ) → one_line text ≡ false → one_line (text ++ more) ≡ false
not_one_line [] more h = absurd (let none : ⊥ = cc h in none)
not_one_line (byte ∷ text) more h =
    elim (cases_Bool (nat_eq byte 10)) [
      | inl yes' ↦ ap (λ b. b && one_line (text ++ more)) (not_from_true (nat_eq byte 10) yes')
      | inr no' ↦
          let ordinary : not (nat_eq byte 10) ≡ true = not_from_false (nat_eq byte 10) no' in
          let later : one_line text ≡ false = sym (ap (λ b. b && one_line text) ordinary) ∙ h in
          ap (λ b. b && one_line (text ++ more)) ordinary ∙ not_one_line text more later
    ]

feed_ends : (line : List ℕ) → one_line (line ++ 10 ∷ []) ≡ false
feed_ends [] = refl
feed_ends (byte ∷ line) =
    elim (cases_Bool (nat_eq byte 10)) [
      | inl yes' ↦ ap (λ b. b && one_line (line ++ 10 ∷ [])) (not_from_true (nat_eq byte 10) yes')
      | inr no' ↦ ap (λ b. b && one_line (line ++ 10 ∷ [])) (not_from_false (nat_eq byte 10) no') ∙ feed_ends line
    ]

-- ---- what is unended

module _ (byte : ℕ) (text : List ℕ) where
  abbrev first_or_later : Bool → List ℕ
  first_or_later last = if last then (if byte == 10 then text else byte ∷ text) else unended text

  unended-later : one_line text ≡ false → unended (byte ∷ text) ≡ unended text
  unended-later h = ap first_or_later h

  unended-ordinary : one_line text ≡ true → nat_eq byte 10 ≡ false → unended (byte ∷ text) ≡ byte ∷ text
  unended-ordinary h k = ap first_or_later h ∙ ap (λ b. cond b text (byte ∷ text)) k

-- a text with no line feed is unended from its first byte
pub unended-rest : (text : List ℕ) → one_line text ≡ true → unended text ≡ text
unended-rest [] h = refl
unended-rest (byte ∷ text) h =
    let parts = and_parts (not (nat_eq byte 10)) (one_line text) h in
    unended-ordinary byte text parts.1 (not-true (nat_eq byte 10) parts.0)

unended-feed : (byte : ℕ) (text : List ℕ) → nat_eq byte 10 ≡ true → unended (byte ∷ text) ≡ unended text
unended-feed byte text h =
    elim (cases_Bool (one_line text)) [
      | inl yes' ↦ ap (first_or_later byte text) yes' ∙ ap (λ b. cond b text (byte ∷ text)) h ∙ sym (unended-rest text yes')
      | inr no' ↦ unended-later byte text no'
    ]

pub unended_is_line : (text : List ℕ) → one_line (unended text) ≡ true
unended_is_line [] = refl
unended_is_line (byte ∷ text) =
    elim (cases_Bool (nat_eq byte 10)) [
      | inl yes' ↦ ap one_line (unended-feed byte text yes') ∙ unended_is_line text
      | inr no' ↦
          elim (cases_Bool (one_line text)) [
            | inl one' ↦ ap one_line (unended-ordinary byte text one' no') ∙ and_from (not (nat_eq byte 10)) (one_line text) (not_from_false (nat_eq byte 10) no') one'
            | inr more' ↦ ap one_line (unended-later byte text more') ∙ unended_is_line text
          ]
    ]

-- Of a text with more after it, only what is unended counts.
pub unended-more : (text more : List ℕ) → unended (text ++ more) ≡ unended (unended text ++ more)
unended-more [] more = refl
unended-more (byte ∷ text) more =
    elim (cases_Bool (nat_eq byte 10)) [
      | inl yes' ↦ unended-feed byte (text ++ more) yes' ∙ unended-more text more ∙ sym (ap (λ (u : List ℕ). unended (u ++ more)) (unended-feed byte text yes'))
      | inr no' ↦
          elim (cases_Bool (one_line text)) [
            | inl one' ↦ sym (ap (λ (u : List ℕ). unended (u ++ more)) (unended-ordinary byte text one' no'))
            | inr more' ↦ unended-later byte (text ++ more) (not_one_line text more more') ∙ unended-more text more
                ∙ sym (ap (λ (u : List ℕ). unended (u ++ more)) (unended-later byte text more'))
          ]
    ]

-- behind a line feed nothing is
unended-line : (line : List ℕ) → unended (line ++ 10 ∷ []) ≡ []
unended-line [] = refl
unended-line (byte ∷ line) = unended-later byte (line ++ 10 ∷ []) (feed_ends line) ∙ unended-line line

pub unended_ended : (text line : List ℕ) → unended (text ++ (line ++ 10 ∷ [])) ≡ []
unended_ended text line =
    unended-more text (line ++ 10 ∷ []) ∙ ap unended (sym (append_assoc (unended text) line (10 ∷ []))) ∙ unended-line (unended text ++ line)

pub unended_on : (text more : List ℕ) → one_line more ≡ true → unended (text ++ more) ≡ unended text ++ more
unended_on text more h = unended-more text more ∙ unended-rest (unended text ++ more) (one_line-append (unended text) more (unended_is_line text) h)

-- ---- the lines of a text with more after it

has_whole : (text : List ℕ) → one_line text ≡ false → (line : List ℕ) × (more : List (List ℕ)) × (whole_lines text ≡ line ∷ more)
has_whole [] h = absurd (let none : ⊥ = cc h in none)
has_whole (byte ∷ text) h =
    elim (cases_Bool (nat_eq byte 10)) [
      | inl yes' ↦ ([], whole_lines text, ap (λ b. cond b ([] ∷ whole_lines text) (onto_first_if_any byte (whole_lines text))) yes')
      | inr no' ↦
          let later : one_line text ≡ false = sym (ap (λ b. b && one_line text) (not_from_false (nat_eq byte 10) no')) ∙ h in
          let found = has_whole text later in
          (byte ∷ found.0, found.1, ap (λ b. cond b ([] ∷ whole_lines text) (onto_first_if_any byte (whole_lines text))) no' ∙ ap (onto_first_if_any byte) found.2)
    ]

-- the lines of a text where a byte stands before it
module _ (byte : ℕ) (text : List ℕ) where
  whole_lines-feed : nat_eq byte 10 ≡ true → whole_lines (byte ∷ text) ≡ [] ∷ whole_lines text
  whole_lines-feed h = ap (λ b. cond b ([] ∷ whole_lines text) (onto_first_if_any byte (whole_lines text))) h

  whole_lines-byte : nat_eq byte 10 ≡ false → whole_lines (byte ∷ text) ≡ onto_first_if_any byte (whole_lines text)
  whole_lines-byte h = ap (λ b. cond b ([] ∷ whole_lines text) (onto_first_if_any byte (whole_lines text))) h

  lines-feed : nat_eq byte 10 ≡ true → lines (byte ∷ text) ≡ [] ∷ lines text
  lines-feed h = ap (λ b. cond b ([] ∷ lines text) (onto_first byte (lines text))) h

  lines-byte : nat_eq byte 10 ≡ false → lines (byte ∷ text) ≡ onto_first byte (lines text)
  lines-byte h = ap (λ b. cond b ([] ∷ lines text) (onto_first byte (lines text))) h

pub whole_lines-more : (text more : List ℕ) → whole_lines (text ++ more) ≡ whole_lines text ++ whole_lines (unended text ++ more)
whole_lines-more [] more = refl
whole_lines-more (byte ∷ text) more =
    elim (cases_Bool (nat_eq byte 10)) [
      | inl yes' ↦ whole_lines-feed byte (text ++ more) yes' ∙ ap (λ (ls : List (List ℕ)). [] ∷ ls) (whole_lines-more text more)
          ∙ sym (ap (λ (ls : List (List ℕ)). ls ++ whole_lines (unended (byte ∷ text) ++ more)) (whole_lines-feed byte text yes')
          ∙ ap (λ (u : List ℕ). [] ∷ (whole_lines text ++ whole_lines (u ++ more))) (unended-feed byte text yes'))
      | inr no' ↦
          elim (cases_Bool (one_line text)) [
            | inl one' ↦
                let alone : one_line (byte ∷ text) ≡ true = and_from (not (nat_eq byte 10)) (one_line text) (not_from_false (nat_eq byte 10) no') one' in
                sym (ap (λ (ls : List (List ℕ)). ls ++ whole_lines (unended (byte ∷ text) ++ more)) (whole_lines-rest (byte ∷ text) alone)
                ∙ ap (λ (u : List ℕ). whole_lines (u ++ more)) (unended-rest (byte ∷ text) alone))
            | inr more' ↦
                let found = has_whole text more' in
                whole_lines-byte byte (text ++ more) no' ∙ ap (onto_first_if_any byte) (whole_lines-more text more)
                ∙ ap (λ (ls : List (List ℕ)). onto_first_if_any byte (ls ++ whole_lines (unended text ++ more))) found.2
                ∙ sym (ap (λ (ls : List (List ℕ)). ls ++ whole_lines (unended (byte ∷ text) ++ more)) (whole_lines-byte byte text no' ∙ ap (onto_first_if_any byte) found.2)
                ∙ ap (λ (u : List ℕ). ((byte ∷ found.0) ∷ found.1) ++ whole_lines (u ++ more)) (unended-later byte text more'))
          ]
    ]

pub lines-more : (text more : List ℕ) → lines (text ++ more) ≡ whole_lines text ++ lines (unended text ++ more)
lines-more [] more = refl
lines-more (byte ∷ text) more =
    elim (cases_Bool (nat_eq byte 10)) [
      | inl yes' ↦ lines-feed byte (text ++ more) yes' ∙ ap (λ (ls : List (List ℕ)). [] ∷ ls) (lines-more text more)
          ∙ sym (ap (λ (ls : List (List ℕ)). ls ++ lines (unended (byte ∷ text) ++ more)) (whole_lines-feed byte text yes')
          ∙ ap (λ (u : List ℕ). [] ∷ (whole_lines text ++ lines (u ++ more))) (unended-feed byte text yes'))
      | inr no' ↦
          elim (cases_Bool (one_line text)) [
            | inl one' ↦
                let alone : one_line (byte ∷ text) ≡ true = and_from (not (nat_eq byte 10)) (one_line text) (not_from_false (nat_eq byte 10) no') one' in
                sym (ap (λ (ls : List (List ℕ)). ls ++ lines (unended (byte ∷ text) ++ more)) (whole_lines-rest (byte ∷ text) alone)
                ∙ ap (λ (u : List ℕ). lines (u ++ more)) (unended-rest (byte ∷ text) alone))
            | inr more' ↦
                let found = has_whole text more' in
                lines-byte byte (text ++ more) no' ∙ ap (onto_first byte) (lines-more text more)
                ∙ ap (λ (ls : List (List ℕ)). onto_first byte (ls ++ lines (unended text ++ more))) found.2
                ∙ sym (ap (λ (ls : List (List ℕ)). ls ++ lines (unended (byte ∷ text) ++ more)) (whole_lines-byte byte text no' ∙ ap (onto_first_if_any byte) found.2)
                ∙ ap (λ (u : List ℕ). ((byte ∷ found.0) ∷ found.1) ++ lines (u ++ more)) (unended-later byte text more'))
          ]
    ]
