-- Where the next place goes.
use Rattle.std.specs.Prelude.{ℕ, ◌==◌, ◌+◌, ◌-◌, ◌*◌, ◌^◌, Bool, if◌then◌else◌}
use Rattle.row_blocks.specs.Blocks.{start_of}
use Rattle.rank_rows.specs.declared.cursor.Cursor.{Cursor}

-- where the place stands in the next row
abbrev pub target_of : (height : ℕ) → Bool → Cursor → ℕ
target_of height second c = if second then start_of height c.at + 2 ^ (height - 1) + c.ones else c.at - c.ones

-- the place behind it: the first of the next row, or the first of a block, or one more of the same block
abbrev pub next_of : Bool → (weight height stride : ℕ) → Cursor → Cursor
next_of second weight height stride c =
    if c.at + 1 == stride * 64 then record { row = c.row + 1; at = 0; ones = 0; weight = 0 }
    else if start_of height (c.at + 1) == c.at + 1 then record { row = c.row; at = c.at + 1; ones = 0; weight = 0 }
    else record { row = c.row; at = c.at + 1; ones = c.ones + (if second then 1 else 0); weight = c.weight + weight }
