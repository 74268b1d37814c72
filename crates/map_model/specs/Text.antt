-- A text's lines. A text is a list of bytes, each a number from 0 to 255; a line feed is the byte 10.
use Rattle.std.specs.Prelude.{◌==◌, ℕ, List, [], ◌∷◌, if◌then◌else◌, count_by, codes, nat_eq, Bool, not}
use Rattle.std.specs.List.{onto_first, list_all, starts_with}

-- the lines of a text, which is cut at each line feed; a last line without one counts where it isn't empty
abbrev pub lines : List ℕ → List (List ℕ)
lines [] = []
lines (byte ∷ bytes) = if byte == 10 then [] ∷ lines bytes else onto_first byte (lines bytes)

-- a byte more at the front of the first line, if there is one
abbrev pub onto_first_if_any : ℕ → List (List ℕ) → List (List ℕ)
onto_first_if_any byte [] = []
onto_first_if_any byte (line ∷ lines) = (byte ∷ line) ∷ lines

-- the lines that a line feed ended
abbrev pub whole_lines : List ℕ → List (List ℕ)
whole_lines [] = []
whole_lines (byte ∷ bytes) = if byte == 10 then [] ∷ whole_lines bytes else onto_first_if_any byte (whole_lines bytes)

-- a list of bytes with no line feed
abbrev pub one_line : List ℕ → Bool
one_line text = list_all (λ byte. not (nat_eq byte 10)) text

-- how many lines of what was written begin with `no `
abbrev pub refusals : List ℕ → ℕ
refusals written = count_by (λ line. starts_with nat_eq line (codes "no ")) (lines written)
