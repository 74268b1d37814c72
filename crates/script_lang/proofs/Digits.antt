-- A number, digit by digit.
use Rattle.std.proofs.Common.{◌≡◌, ℕ, ◌+◌, ◌-◌, ◌*◌, ◌<◌, ◌≤◌, Bool, true, false, cond, ◌&&◌, List, [], ◌∷◌, length, get_or, take, Option, Ok, Err, arith, refl, sym, ap, ◌∙◌, take_all}
use Rattle.std.specs.List.{list_all}
use Rattle.std.specs.Char.{is_ascii_digit, digit_value}
use Rattle.std.specs.Str.{all_ascii_digits}
use Rattle.std.specs.Str.Parse.{digits_value}
use Rattle.std.proofs.lemmas.Bool.Decides.{nat_tests}
use Rattle.std.proofs.lemmas.Int.Digits.{digits_value_more}
use Rattle.std.proofs.lemmas.List.Folds.{list_all_more, list_all_at}
use Rattle.map_model.specs.Words.{is_filled}
use Rattle.script_lang.specs.declared.line_fault.LineFault.TheVariants as faults
use Rattle.script_lang.specs.Numbers.{in_64_bits, digits_in}

digits_tests_agree : (word : List ℕ) → list_all is_ascii_digit word ≡ all_ascii_digits word
digits_tests_agree [] = refl
digits_tests_agree (byte ∷ word) = ap (λ b. is_ascii_digit byte && b) (digits_tests_agree word)

filled : (word : List ℕ) → 0 < length word → is_filled word ≡ true
filled [] h = absurd (omega arith)
filled (byte ∷ word) h = refl

-- one digit more
pub one_more : (word : List ℕ) (i : ℕ) → i < length word → is_ascii_digit (get_or word i 0) ≡ true → digits_value 10 (take (i + 1) word) ≡ digits_value 10 (take i word) * 10 + (get_or word i 0 - 48)
one_more word i inside digit =
    let worth : digit_value (get_or word i 0) ≡ get_or word i 0 - 48 = grind (arith, nat_tests) in
    rw (digits_value_more 10 word i inside, worth) refl

pub all_more : (word : List ℕ) (i : ℕ) → i < length word → list_all is_ascii_digit (take i word) ≡ true → is_ascii_digit (get_or word i 0) ≡ true → list_all is_ascii_digit (take (i + 1) word) ≡ true
all_more word i inside before digit = list_all_more is_ascii_digit word i 0 inside ∙ (λ j. before j && digit j)

-- a word with another byte
pub other_byte : (word : List ℕ) (i : ℕ) → i < length word → is_ascii_digit (get_or word i 0) ≡ false → digits_in word ≡ Err faults.Number
other_byte word i inside other =
    ap (λ b. cond (is_filled word && b) (Ok (in_64_bits (digits_value 10 word))) (Err faults.Number)) (sym (digits_tests_agree word) ∙ list_all_at is_ascii_digit word i 0 inside other)
    ∙ none (is_filled word)
  where
    none : (b : Bool) → cond (b && false) (Ok (in_64_bits (digits_value 10 word))) (Err faults.Number) ≡ Err faults.Number
    none true = refl
    none false = refl

-- a word of digits
pub all_digits : (word : List ℕ) (i : ℕ) (value : Option ℕ) → 0 < length word → length word ≤ i → list_all is_ascii_digit (take i word) ≡ true → value ≡ in_64_bits (digits_value 10 (take i word)) → Ok value ≡ digits_in word
all_digits word i value some past all is =
    let whole = take_all i word past in
    let digits : all_ascii_digits word ≡ true = sym (digits_tests_agree word) ∙ ap (list_all is_ascii_digit) (sym whole) ∙ all in
    ap (λ v. Ok v) (is ∙ ap (λ w. in_64_bits (digits_value 10 w)) whole)
    ∙ sym (λ j. cond (filled word some j && digits j) (Ok (in_64_bits (digits_value 10 word))) (Err faults.Number))
