-- The numbers of words in their fields.
use Rattle.std.specs.Prelude.{ℕ, ◌-◌, ◌<◌, ◌^◌, ◌&&◌, ◌==◌, true, false, ⊤, List, [], ◌∷◌, ◌++◌, length, drop, Option, Some, None, Result, Ok, Err, ok_or, nat_le, nat_lt, if◌then◌else◌}
use Rattle.std.specs.Str.{all_ascii_digits}
use Rattle.std.specs.Str.Parse.{digits_value}
use Rattle.map_model.specs.Words.{is_filled}
use Rattle.map_model.specs.Version as model
use Rattle.map_model.specs.Form as forms
use Rattle.map_model.specs.Grammar.{has_minus}
use Rattle.map_shapes.specs.declared.version.Version.{Version}
use Rattle.map_shapes.specs.declared.version.Version.TheVariants.{One, Two}
use Rattle.map_shapes.specs.Version.{kept_above, kept_below}
use Rattle.script_lang.specs.declared.form.Field.{Field}
use Rattle.script_lang.specs.declared.form.Field.TheVariants.{Id, Coordinate, Weight, Amount, VersionNumber}
use Rattle.script_lang.specs.declared.numbers.Numbers.{Numbers}
use Rattle.script_lang.specs.declared.line_fault.LineFault.{LineFault}
use Rattle.script_lang.specs.declared.line_fault.LineFault.TheVariants as faults
use Rattle.script_lang.specs.Form.{limits_of_field}

-- the number has so few bits that it fits its field
abbrev pub Takes : Field → ℕ → Type 0
Takes Id n = n < 2 ^ 64
Takes Coordinate n = n < 2 ^ 32
Takes Weight n = n < 2 ^ 32
Takes Amount n = n < 2 ^ 32
Takes VersionNumber n = n < 2 ^ 64

-- a coordinate or a weight has a place
abbrev pub HasRoom : Field → List ℕ → Type 0
HasRoom Id places = ⊤
HasRoom Coordinate places = length places < 4
HasRoom Weight places = length places < 4
HasRoom Amount places = ⊤
HasRoom VersionNumber places = ⊤

-- no number was read yet
abbrev pub no_numbers : Numbers
no_numbers = record { version = One; id = 0; places = []; amount = 0; are_digits = true; are_in_range = true }

-- the version of a number
abbrev pub version_in : ℕ → Version
version_in n = if n == 2 then Two else One

-- a number in its field
abbrev pub with_number : Field → ℕ → Numbers → Numbers
with_number Id n v = record v { id = n }
with_number Coordinate n v = record v { places = v.places ++ n ∷ [] }
with_number Weight n v = record v { places = v.places ++ n ∷ [] }
with_number Amount n v = record v { amount = n }
with_number VersionNumber n v = record v { version = version_in n }

-- a number where it takes at most 64 bits
abbrev pub in_64_bits : ℕ → Option ℕ
in_64_bits n = if nat_lt n (2 ^ 64) then Some n else None

-- the number that a word of digits writes
abbrev pub digits_in : List ℕ → Result (Option ℕ) LineFault
digits_in word = if is_filled word && all_ascii_digits word then Ok (in_64_bits (digits_value 10 word)) else Err faults.Number

-- the number that a word writes; Number where it isn't one or more digits, Range where the number isn't within the limits
abbrev pub number_in : ℕ → ℕ → List ℕ → Result ℕ LineFault
number_in least greatest word =
    if is_filled word && all_ascii_digits word then (if nat_le least (digits_value 10 word) && nat_le (digits_value 10 word) greatest then Ok (digits_value 10 word) else Err faults.Range)
    else Err faults.Number

-- the digits of a coordinate below zero
abbrev pub digits_below : model.Version → List ℕ → Option (List ℕ)
digits_below version word = if has_minus version forms.Coordinate word then Some (drop 1 word) else None

-- what a number is kept as; Range where the version doesn't have it
abbrev pub kept_number : (ℕ → Option ℕ) → Result ℕ LineFault → Result ℕ LineFault
kept_number keep (Ok n) = ok_or (keep n) faults.Range
kept_number keep (Err fault) = Err fault

-- what the coordinate of a word is kept as, by the digits below zero, if it has such ones
abbrev pub signed_in : model.Version → List ℕ → Option (List ℕ) → Result ℕ LineFault
signed_in version word None = kept_number (kept_above version) (number_in 0 (2 ^ 64 - 1) word)
signed_in version word (Some digits) = kept_number (kept_below version) (number_in 0 (2 ^ 64 - 1) digits)

-- what the coordinate of a word is kept as
abbrev pub coordinate_in : model.Version → List ℕ → Result ℕ LineFault
coordinate_in version word = signed_in version word (digits_below version word)

-- the number of a word that has no `-` in its field
abbrev pub limited_in : Field → List ℕ → Result ℕ LineFault
limited_in field word = number_in (limits_of_field field).least (limits_of_field field).greatest word

-- what the number of a word is kept as in a field
abbrev pub field_in : model.Version → Field → List ℕ → Result ℕ LineFault
field_in version Id word = limited_in Id word
field_in version Coordinate word = coordinate_in version word
field_in version Weight word = limited_in Weight word
field_in version Amount word = limited_in Amount word
field_in version VersionNumber word = limited_in VersionNumber word

-- the numbers, and what a word says in a field
abbrev pub with_read : Field → Result ℕ LineFault → Numbers → Numbers
with_read field (Ok n) v = with_number field n v
with_read field (Err faults.Number) v = record v { are_digits = false }
with_read field (Err _) v = record v { are_in_range = false }

-- the numbers, and what a word says in a field
abbrev pub with_word : model.Version → Numbers → Field → List ℕ → Numbers
with_word version v field word = with_read field (field_in version field word) v

-- the numbers of words, one a field, and the words behind them
abbrev pub with_words : model.Version → List Field → List (List ℕ) → Numbers → Option (Numbers × List (List ℕ))
with_words version [] words v = Some (v, words)
with_words version (field ∷ fields) [] v = None
with_words version (field ∷ fields) (word ∷ words) v = with_words version fields words (with_word version v field word)
