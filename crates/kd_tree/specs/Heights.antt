-- How high a tree is, and where its nodes stand.
use Rattle.std.specs.Prelude.{ℕ, zero, suc, ◌+◌, ◌-◌, ◌*◌, ◌/◌, ◌^◌, max}
use Rattle.row_blocks.specs.Heights.{height_of}

-- how many positions a block of a level has: a leaf has eight, and each further level four times as many
abbrev pub span : ℕ → ℕ
span level = 8 * 4 ^ level

-- how many levels of nodes stand over n positions: the least number, but at least one, such that a block of that level has them all
abbrev pub depth_for : ℕ → ℕ
depth_for n = max 1 ((height_of n - 2) / 2)

-- how many nodes a tree of that many levels has
unfoldable pub nodes_in : ℕ → ℕ
nodes_in zero = 0
nodes_in (suc depth) = 4 * nodes_in depth + 1

-- where a node stands, the boxes of which are those of blocks of a level: level after level from the leaves up, each from its first node on
abbrev pub index : (depth level place : ℕ) → ℕ
index depth level place = nodes_in depth - nodes_in (depth - level) + place
