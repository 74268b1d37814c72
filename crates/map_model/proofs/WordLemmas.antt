-- The words of a line, from its front.
use Rattle.std.proofs.Common.{◌≡◌, ℕ, suc, ◌+◌, ◌≤◌, ◌<◌, Bool, false, cond, not, List, [], ◌∷◌, length, take, drop, get_or, filter, arith, refl, sym, ap, ◌∙◌, subst, inl, inr, one-add}
use Rattle.std.specs.List.{slice_split, onto_first, prefix_len}
use Rattle.std.proofs.lemmas.Bool.{cases_Bool}
use Rattle.map_model.specs.Words.{is_blank, is_word_byte, is_filled, words}

-- blanks at the front say nothing
pub words-drop_blanks : (text : List ℕ) → words (drop (prefix_len is_blank text) text) ≡ words text
words-drop_blanks [] = refl
words-drop_blanks (byte ∷ text) = elim (cases_Bool (is_blank byte)) [
  | inl blank ↦
      ap (λ b. words (drop (cond b (1 + prefix_len is_blank text) 0) (byte ∷ text))) blank
      ∙ ap (λ n. words (drop n (byte ∷ text))) (one-add (prefix_len is_blank text))
      ∙ words-drop_blanks text
      ∙ sym (ap (λ b. filter is_filled (cond b ([] ∷ slice_split is_blank text) (onto_first byte (slice_split is_blank text)))) blank)
  | inr filled ↦ ap (λ b. words (drop (cond b (1 + prefix_len is_blank text) 0) (byte ∷ text))) filled
]

pub prefix_len-le : (p : ℕ → Bool) (text : List ℕ) → prefix_len p text ≤ length text
prefix_len-le p [] = omega arith
prefix_len-le p (byte ∷ text) =
    let more = prefix_len-le p text in
    elim (cases_Bool (p byte)) [
      | inl yes' ↦ subst (λ b. cond b (1 + prefix_len p text) 0 ≤ suc (length text)) (sym yes') (omega arith)
      | inr no' ↦ subst (λ b. cond b (1 + prefix_len p text) 0 ≤ suc (length text)) (sym no') (omega arith)
    ]

-- no blank comes right after the blanks at the front
pub first_behind_blanks : (text : List ℕ) (byte : ℕ) (rest : List ℕ) → drop (prefix_len is_blank text) text ≡ byte ∷ rest → is_blank byte ≡ false
first_behind_blanks [] byte rest e = cc
first_behind_blanks (first ∷ text) byte rest e = elim (cases_Bool (is_blank first)) [
  | inl blank ↦ first_behind_blanks text byte rest (sym (ap (λ b. drop (cond b (1 + prefix_len is_blank text) 0) (first ∷ text)) blank ∙ ap (λ n. drop n (first ∷ text)) (one-add (prefix_len is_blank text))) ∙ e)
  | inr filled ↦
      let same : first ≡ byte = ap (λ (bytes : List ℕ). get_or bytes 0 0) (sym (ap (λ b. drop (cond b (1 + prefix_len is_blank text) 0) (first ∷ text)) filled) ∙ e) in
      sym (ap is_blank same) ∙ filled
]

-- the first part of a text between blanks, and what the words after it are
first_part : (text : List ℕ) → (more : List (List ℕ)) × (slice_split is_blank text ≡ take (prefix_len is_word_byte text) text ∷ more) × (words (drop (prefix_len is_word_byte text) text) ≡ filter is_filled more)
first_part [] = ([], refl, refl)
first_part (byte ∷ text) = elim (cases_Bool (is_blank byte)) [
  | inl blank ↦ (
    slice_split is_blank text,
    ap (λ b. cond b ([] ∷ slice_split is_blank text) (onto_first byte (slice_split is_blank text))) blank ∙ sym (ap (λ b. take (cond (not b) (1 + prefix_len is_word_byte text) 0) (byte ∷ text) ∷ slice_split is_blank text) blank),
    ap (λ b. words (drop (cond (not b) (1 + prefix_len is_word_byte text) 0) (byte ∷ text))) blank ∙ ap (λ b. filter is_filled (cond b ([] ∷ slice_split is_blank text) (onto_first byte (slice_split is_blank text)))) blank,
  )
  | inr filled ↦
      let r = first_part text in (
        r.0,
        ap (λ b. cond b ([] ∷ slice_split is_blank text) (onto_first byte (slice_split is_blank text))) filled ∙ ap (onto_first byte) r.1
            ∙ sym (ap (λ b. take (cond (not b) (1 + prefix_len is_word_byte text) 0) (byte ∷ text) ∷ r.0) filled ∙ ap (λ n. take n (byte ∷ text) ∷ r.0) (one-add (prefix_len is_word_byte text))),
        ap (λ b. words (drop (cond (not b) (1 + prefix_len is_word_byte text) 0) (byte ∷ text))) filled ∙ ap (λ n. words (drop n (byte ∷ text))) (one-add (prefix_len is_word_byte text)) ∙ r.2,
      )
]

-- A text that doesn't begin with a blank begins with its first word.
pub words-first : (byte : ℕ) (text : List ℕ) → is_blank byte ≡ false → words (byte ∷ text) ≡ take (prefix_len is_word_byte (byte ∷ text)) (byte ∷ text) ∷ words (drop (prefix_len is_word_byte (byte ∷ text)) (byte ∷ text))
words-first byte text filled =
    let r = first_part (byte ∷ text) in
    let starts : take (prefix_len is_word_byte (byte ∷ text)) (byte ∷ text) ≡ byte ∷ take (prefix_len is_word_byte text) text =
    ap (λ b. take (cond (not b) (1 + prefix_len is_word_byte text) 0) (byte ∷ text)) filled ∙ ap (λ n. take n (byte ∷ text)) (one-add (prefix_len is_word_byte text)) in
    ap (filter is_filled) r.1
    ∙ ap (λ (word : List ℕ). filter is_filled (word ∷ r.0)) starts
    ∙ (λ i. sym starts i ∷ sym r.2 i)

-- the same of a text that isn't empty
pub words-text : (text : List ℕ) → ((byte : ℕ) (rest : List ℕ) → text ≡ byte ∷ rest → is_blank byte ≡ false) → 0 < length text → words text ≡ take (prefix_len is_word_byte text) text ∷ words (drop (prefix_len is_word_byte text) text)
words-text [] filled h = absurd (omega arith)
words-text (byte ∷ text) filled h = words-first byte text (filled byte text refl)
