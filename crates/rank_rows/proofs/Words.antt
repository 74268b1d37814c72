-- Words in a row, and one more.
use Rattle.std.proofs.Common.{◌≡◌, ◌≢◌, ℕ, ◌*◌, ◌/◌, ◌%◌, ◌<◌, ◌≤◌, ◌⊎◌, inl, inr, List, [], ◌∷◌, ◌++◌, Bool, true, false, cond, length, length-append, refl, sym, ap, subst, ◌∙◌, arith}
use Rattle.std.specs.Int.{bit_at}
use Rattle.std.proofs.lemmas.Nat.Bits.{bit_at-zero, bit_at_above}
use Rattle.std.proofs.lemmas.Bool.{cases_lt, cases_eq}
use Rattle.std.proofs.lemmas.List.{get_or_append_left, get_or_push, get_or_past}
use mir.Val.{bool_byte}
use Rattle.query_laws.specs.StepLedger.{Entries}
use Rattle.rank_rows.specs.declared.word.Word.{Word}
use Rattle.rank_rows.specs.declared.store.Store.{Store}
use Rattle.rank_rows.specs.Putting.{IsWordPut, IsPut}
use Rattle.rank_rows.specs.Words.{word_at, no_word, dead_at}

module _ (words : List Word) (word : Word) where
  word_at-old : (e : ℕ) → e < length words → word_at (words ++ word ∷ []) e ≡ word_at words e
  word_at-old e low = get_or_append_left words (word ∷ []) no_word e low

  pub word_at-own : (e : ℕ) → e ≡ length words → word_at (words ++ word ∷ []) e ≡ word
  word_at-own e is = get_or_push words word no_word e (sym is)

  word_at-past : (e : ℕ) → length words < e → word_at (words ++ word ∷ []) e ≡ word_at words e
  word_at-past e high =
      get_or_past (words ++ word ∷ []) e no_word (let long : length (words ++ word ∷ []) ≤ e = simp length-append (omega arith) in long)
      ∙ sym (get_or_past words e no_word (omega arith))

  -- a bit of the places is a bit of the word, or as it was
  pub bit-append : (mask : Word → ℕ) → mask no_word ≡ 0 → ((r : ℕ) → r ≢ 0 → bit_at (mask word) r ≡ 0) → (k : ℕ) → k ≢ 64 * length words
      → bit_at (mask (word_at (words ++ word ∷ []) (k / 64))) (k % 64) ≡ bit_at (mask (word_at words (k / 64))) (k % 64)
  bit-append mask none clear k apart = elim (cases_lt (k / 64) (length words)) [
    | inl low ↦ ap (λ (w : Word). bit_at (mask w) (k % 64)) (word_at-old (k / 64) low)
    | inr high ↦ elim (cases_eq (k / 64) (length words)) [
      | inl is ↦
          ap (λ (w : Word). bit_at (mask w) (k % 64)) (word_at-own (k / 64) is) ∙ clear (k % 64) (λ e. (let no : ⊥ = omega (arith, apart) in no))
          ∙ sym (ap (λ (w : Word). bit_at (mask w) (k % 64)) (get_or_past words (k / 64) no_word high) ∙ ap (λ m. bit_at m (k % 64)) none ∙ bit_at-zero (k % 64))
      | inr other ↦ ap (λ (w : Word). bit_at (mask w) (k % 64)) (word_at-past (k / 64) (omega (arith, other)))
    ]
  ]

  pub word_at-kept : (e : ℕ) → e < length words → word_at (words ++ word ∷ []) e ≡ word_at words e
  word_at-kept = word_at-old

-- one bit is only the first
pub first_bit : (b : Bool) (r : ℕ) → r ≢ 0 → bit_at (cond b 1 0) r ≡ 0
first_bit true r other = bit_at_above 1 1 r (omega arith) (omega (arith, other))
first_bit false r other = bit_at-zero r

pub own_bit : (b : Bool) → bit_at (cond b 1 0) 0 ≡ cond b 1 0
own_bit true = refl
own_bit false = refl

byte : (b : Bool) → bool_byte b ≡ cond b 1 0
byte true = refl
byte false = refl

-- a new word with its first place
pub IsWordPut-opened : (n ones weight : ℕ) (second : Bool) (old : Entries Word) → n ≡ 64 * length old.items
    → IsWordPut n second ones weight old (record old {
      items = old.items ++ record { second = bool_byte second; dead = 0; ones = ones; weight = weight; died = record { count = 0; weight = 0 } } ∷ [];
    })
IsWordPut-opened n ones weight second old at = record {
  entries = simp length-append (omega (arith, first));
  room = refl;
  own = ap (λ (w : Word). bit_at w.second (n % 64)) (word_at-own old.items word (n / 64) first) ∙ ap (λ b. bit_at b (n % 64)) (byte second)
      ∙ ap (λ r. bit_at (cond second 1 0) r) bit ∙ own_bit second;
  others = λ k other. bit-append old.items word (λ w. w.second) refl (λ r high. ap (λ b. bit_at b r) (byte second) ∙ first_bit second r high) k
      (λ e. other (e ∙ sym at));
  dead = λ k. dead k (cases_eq k (64 * length old.items));
  kept = λ e low. (let same = word_at-kept old.items word e low in
      record { ones = ap (λ (w : Word). w.ones) same; weight = ap (λ (w : Word). w.weight) same; died = ap (λ (w : Word). w.died) same });
  opened = λ e is. (let same = word_at-own old.items word e (omega (arith, at, is)) in
      record { ones = ap (λ (w : Word). w.ones) same; weight = ap (λ (w : Word). w.weight) same; died = ap (λ (w : Word). w.died) same });
}
  where
    word : Word
    word = record { second = bool_byte second; dead = 0; ones = ones; weight = weight; died = record { count = 0; weight = 0 } }

    first : n / 64 ≡ length old.items
    first = omega (arith, at)

    bit : n % 64 ≡ 0
    bit = omega (arith, at, first)

    dead : (k : ℕ) → (k ≡ 64 * length old.items) ⊎ (k ≢ 64 * length old.items) → dead_at (old.items ++ word ∷ []) k ≡ dead_at old.items k
    dead k (inr other) = bit-append old.items word (λ w. w.dead) refl (λ r high. bit_at-zero r) k other
    dead k (inl is) =
        let here : k / 64 ≡ length old.items = omega (arith, is) in
        ap (λ (w : Word). bit_at w.dead (k % 64)) (word_at-own old.items word (k / 64) here)
        ∙ sym (ap (λ (w : Word). bit_at w.dead (k % 64)) (get_or_past old.items (k / 64) no_word (omega (arith, here))))

-- the value with the weight too
pub IsPut-weighed : (second : Bool) (weight ones before : ℕ) (old : Store) (words : Entries Word) (weights pushed : Entries ℕ) (n : ℕ) → n ≡ length old.weights.items
    → IsWordPut n second ones before old.words words → weights ≡ old.weights → pushed ≡ record weights { items = weights.items ++ weight ∷ [] }
    → IsPut second weight ones before old (record { words = words; weights = pushed })
IsPut-weighed second weight ones before old words weights pushed n is put same written = record {
  word = subst (λ m. IsWordPut m second ones before old.words words) is put;
  weights = ap (λ (r : Entries ℕ). r.items) written ∙ ap (λ (r : Entries ℕ). r.items ++ weight ∷ []) same;
  room = ap (λ (r : Entries ℕ). r.capacity) written ∙ ap (λ (r : Entries ℕ). r.capacity) same;
}
