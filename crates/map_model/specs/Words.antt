-- The words of a line, and what one of them may say: a name, a number.
use Rattle.std.specs.Prelude.{◌==◌, ℕ, ◌-◌, ◌^◌, Bool, true, false, ◌&&◌, ◌||◌, not, List, [], ◌∷◌, length, Option, Some, None, nat_le, filter, if◌then◌else◌}
use Rattle.std.specs.List.{list_all, slice_split}
use Rattle.std.specs.Char.{is_ascii_alphanumeric}
use Rattle.std.specs.Str.{all_ascii_digits}
use Rattle.std.specs.Str.Parse.{digits_value}

-- a space or a tab
abbrev pub is_blank : ℕ → Bool
is_blank byte = (byte == 32) || (byte == 9)

-- any other byte
abbrev pub is_word_byte : ℕ → Bool
is_word_byte byte = not (is_blank byte)

-- there is something
abbrev pub is_filled : List ℕ → Bool
is_filled [] = false
is_filled (byte ∷ bytes) = true

-- the words of a line: the longest runs of bytes other than blanks
abbrev pub words : List ℕ → List (List ℕ)
words line = filter is_filled (slice_split is_blank line)

-- a letter, a digit, `_` or `-`
abbrev pub is_name_byte : ℕ → Bool
is_name_byte byte = is_ascii_alphanumeric byte || (byte == 95) || (byte == 45)

-- 1 to 16 letters, digits, `_` and `-`
abbrev pub is_name : List ℕ → Bool
is_name word = nat_le 1 (length word) && nat_le (length word) 16 && list_all is_name_byte word

-- one or more digits, leading zeros among them, whose number is at most the limit
abbrev pub is_number : ℕ → List ℕ → Bool
is_number limit word = is_filled word && all_ascii_digits word && nat_le (digits_value 10 word) limit

-- the greatest weight
abbrev pub greatest_weight : ℕ
greatest_weight = 2 ^ 31 - 1

-- the greatest identifier
abbrev pub greatest_id : ℕ
greatest_id = 2 ^ 64 - 1

-- the word, if it is a name
abbrev pub name_field : List ℕ → Option (List ℕ)
name_field word = if is_name word then Some word else None

-- the number that a word says, if it is one
abbrev pub number_field : ℕ → List ℕ → Option ℕ
number_field limit word = if is_number limit word then Some (digits_value 10 word) else None

-- as many bytes as a line may have
abbrev pub longest_line : ℕ
longest_line = 256
