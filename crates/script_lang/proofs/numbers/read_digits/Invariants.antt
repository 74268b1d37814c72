use Rattle.std.proofs.Common.{◌≡◌, true, take}
use Rattle.std.specs.List.{list_all}
use Rattle.std.specs.Char.{is_ascii_digit}
use Rattle.std.specs.Str.Parse.{digits_value}
use Rattle.script_lang.specs.Numbers.{in_64_bits}
use Rattle.script_lang.proofs.numbers.read_digits.Given as goal

abbrev pub invariant-loop-byte : goal.invariant-loop-byte
invariant-loop-byte l = (list_all is_ascii_digit (take l.byte-index l.word) ≡ true) × (l.value ≡ in_64_bits (digits_value 10 (take l.byte-index l.word)))
