-- How many rows the tree over some points has.
use Rattle.std.specs.Prelude.{ℕ, ◌+◌, ◌-◌, ◌/◌}
use Rattle.row_blocks.specs.Heights.{height_of}

-- how high the lowest blocks are that have a row: what no whole block of them has is scanned
abbrev pub lowest : ℕ
lowest = 9

-- a row for each height from that of the whole tree down to these
abbrev pub rows_to : ℕ → ℕ
rows_to height = height + 1 - lowest

abbrev pub rows_for : ℕ → ℕ
rows_for n = rows_to (height_of n)

-- how many words a row of so many places has
abbrev pub words_for : ℕ → ℕ
words_for n = (n + 63) / 64
