-- What a line says is told by its front.
use Rattle.std.proofs.Common.{◌≡◌, ◌==◌, ℕ, ◌+◌, ◌-◌, ◌<◌, ◌≤◌, ◌⊎◌, Bool, true, false, List, length, take, Err, nat_lt, arith, sym, ap, ◌∙◌, inl, inr, length-take-le, if◌then◌else◌}
use Rattle.std.specs.Prelude.{slice_index}
use Rattle.std.proofs.lemmas.Bool.{cases_Bool}
use Rattle.std.proofs.lemmas.List.{take_all}
use Rattle.std.proofs.lemmas.Bool.Decides.{nat_tests}
use Rattle.map_model.specs.Words.{words, longest_line}
use Rattle.map_model.specs.Grammar.{parse, parse_words, without_return}
use Rattle.map_model.specs.LineFault as faults
use Rattle.map_model.specs.Version.{Version}
use Rattle.script_lang.specs.Front.{longest_front}

-- a carriage return is one byte
return_is_short : (line : List ℕ) → length line ≤ length (without_return line) + 1
return_is_short line = cases (slice_index line (length line - 1) == 13)
  where
    cases : (b : Bool) → length line ≤ length (if b then take (length line - 1) line else line) + 1
    cases true = omega (arith, length-take-le (length line - 1) line (omega arith))
    cases false = omega arith

-- a line of more than 256 bytes, and a carriage return, is too long
long_is_refused : (version : Version) (line : List ℕ) → longest_front ≤ length line → parse version line ≡ Err faults.Line
long_is_refused version line long =
    let longer : longest_line < length (without_return line) = omega (arith, long, return_is_short line) in
    let is : nat_lt longest_line (length (without_return line)) ≡ true = grind (arith, nat_tests, longer) in
    ap (λ (b : Bool). if b then Err faults.Line else parse_words version (without_return line) (words (without_return line))) is

-- A line of either version is read by its front.
pub parse-front : (version : Version) (line : List ℕ) → parse version (take longest_front line) ≡ parse version line
parse-front version line = cases (cases_Bool (nat_lt (length line) longest_front))
  where
    cases : (nat_lt (length line) longest_front ≡ true) ⊎ (nat_lt (length line) longest_front ≡ false) → parse version (take longest_front line) ≡ parse version line
    cases (inl short) = ap (parse version) (take_all longest_front line (grind (arith, nat_tests, short)))
    cases (inr long) =
        let enough : longest_front ≤ length line = grind (arith, nat_tests, long) in
        let full : longest_front ≤ length (take longest_front line) = omega (arith, length-take-le longest_front line enough) in
        long_is_refused version (take longest_front line) full ∙ sym (long_is_refused version line enough)
