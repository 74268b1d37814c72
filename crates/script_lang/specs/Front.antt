-- How much of a line tells what it says.
use Rattle.std.specs.Prelude.{ℕ, ◌+◌}
use Rattle.map_model.specs.Words.{longest_line}

-- the longest line, a carriage return and one byte more
abbrev pub longest_front : ℕ
longest_front = longest_line + 2
