-- Numbers of a line as they are written.
use Rattle.std.specs.Prelude.{ℕ, List, decimal}
use Rattle.std.specs.Fmt.{signed_decimal}
use Rattle.script_lang.specs.declared.line.Number.{Number}
use Rattle.script_lang.specs.declared.line.Number.TheVariants.{Plain, Signed}

-- a number as it is written
abbrev pub number_text : Number → List ℕ
number_text (Plain n) = decimal n
number_text (Signed z) = signed_decimal z
