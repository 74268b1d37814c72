-- Rows of places, one behind another, and what the words keep of them.
use Rattle.std.specs.Prelude.{◌≡◌, ℕ, ◌==◌, ◌+◌, ◌-◌, ◌*◌, ◌/◌, ◌^◌, ◌<◌, ◌≤◌, Bool, true, if◌then◌else◌, List, [], ◌∷◌, ◌++◌, length, map, min, count_by, slice_range, slice_index_or, slice_set, false}
use Rattle.std.specs.List.{range_with_len}
use Rattle.query_laws.specs.StepLedger.{Entries}
use Rattle.row_blocks.specs.Blocks.{IsMultiple, start_of}
use Rattle.rank_rows.specs.declared.word.Word.{Word}
use Rattle.rank_rows.specs.declared.cursor.Cursor.{Cursor}
use Rattle.rank_rows.specs.Totals.{total}
use Rattle.rank_rows.specs.Words.{word_at, second_at, dead_at, weight_at, dead_before, weight_before}
use Rattle.rank_rows.specs.Nodes.{AreNodes}
use Rattle.rank_rows.specs.Putting.{IsClearFrom}

-- Places in rows of 64 * stride, one behind another: whether each goes into the second half of its block, whether it is live, and what it weighs
-- while it is; how high the blocks of the first row are, those of each next one being half as long; and for how many places there is room.
pub record Ranked : Type 0 where
  pub second : List Bool
  pub live : List Bool
  pub weights : List ℕ
  pub stride : ℕ
  pub height : ℕ
  pub room : ℕ

-- no place yet, in rows of so many words
abbrev pub no_places : (stride height room : ℕ) → Ranked
no_places stride height room = record { second = []; live = []; weights = []; stride = stride; height = height; room = room }

-- where a place of a row stands among all
abbrev pub place_at : Ranked → ℕ → ℕ → ℕ
place_at v row k = 64 * (row * v.stride) + k

-- neighbouring places of a row
abbrev pub slice_of : {A : Type 0} → Ranked → List A → ℕ → ℕ → ℕ → List A
slice_of {A} v xs row from to = slice_range xs (place_at v row from) (place_at v row to)

-- how many bits are set
abbrev pub how_many : List Bool → ℕ
how_many bits = count_by (λ bit. bit) bits

-- how many places of a row from `start` on and below `to` go into the second half
abbrev pub rank : Ranked → ℕ → ℕ → ℕ → ℕ
rank v row start to = how_many (slice_of v v.second row start to)

-- the row has that place
pub record IsPlace (v : Ranked) (row k : ℕ) : Type 0 where
  pub there : place_at v row k < length v.second
  pub within : k < 64 * v.stride
  pub high : row + 6 < v.height

-- the places of a row from `start`, where a block begins, on and below `to` are places of that block
pub record IsFront (v : Ranked) (row start to : ℕ) : Type 0 where
  pub block : IsMultiple start (v.height - row)
  pub from : start ≤ to
  pub below : to ≤ start + 2 ^ (v.height - row)
  pub there : place_at v row to ≤ length v.second
  pub within : to ≤ 64 * v.stride
  pub high : row + 6 < v.height

-- where the place at k of a row stands in the next row: each block parted stably into its halves (lemma rank)
abbrev pub next_place : Ranked → ℕ → ℕ → ℕ
next_place v row k =
    let start = start_of (v.height - row) k in
    if slice_index_or v.second (place_at v row k) true then start + 2 ^ (v.height - row - 1) + rank v row start k else k - rank v row start k

-- the next place is one of this row, whose blocks are of whole words
pub record IsNextRow (v : Ranked) (row : ℕ) : Type 0 where
  pub begun : place_at v row 0 ≤ length v.second
  pub unended : length v.second < place_at v row (64 * v.stride)
  pub high : row + 6 < v.height

-- the places in which that at k of a row is dead, and weighs nothing
abbrev pub marked : (row k : ℕ) → Ranked → Ranked
marked row k v = record v { live = slice_set v.live (place_at v row k) false; weights = slice_set v.weights (place_at v row k) 0 }

-- the places with one more, which is live
abbrev pub with_place : Bool → ℕ → Ranked → Ranked
with_place second weight v = record v {
  second = v.second ++ second ∷ [];
  live = v.live ++ true ∷ [];
  weights = v.weights ++ weight ∷ [];
}

-- what the words have of places
abbrev pub seconds : List Word → ℕ → List Bool
seconds words n = map (λ k. second_at words k == 1) (range_with_len 0 n)

abbrev pub lives : List Word → ℕ → List Bool
lives words n = map (λ k. dead_at words k == 0) (range_with_len 0 n)

-- the word w of a row
abbrev pub word_of : (stride row w : ℕ) → ℕ
word_of stride row w = row * stride + w

-- how many words of its blocks a row has
abbrev pub block_height : (height row : ℕ) → ℕ
block_height height row = height - row - 6

-- each word has the set bits before it in its block
pub record AreRanks (words : List Word) (stride height : ℕ) : Type 0 where
  pub ones : (row w : ℕ) → w < stride → word_of stride row w < length words
      → (word_at words (word_of stride row w)).ones + total (second_at words) (64 * word_of stride row (start_of (block_height height row) w))
      ≡ total (second_at words) (64 * word_of stride row w)

-- nothing died
abbrev pub IsFresh : List Word → Type 0
IsFresh words = (k : ℕ) → dead_at words k ≡ 0

-- while nothing died, each word has the weight before it in its block, and the trees are empty
pub record AreWeighed (words : List Word) (weights : List ℕ) (stride height : ℕ) : Type 0 where
  pub before : (row w : ℕ) → w < stride → word_of stride row w < length words
      → (word_at words (word_of stride row w)).weight + weight_before weights (word_of stride row (start_of (block_height height row) w))
      ≡ weight_before weights (word_of stride row w)
  pub count : (e : ℕ) → e < length words → (word_at words e).died.count ≡ 0
  pub weight : (e : ℕ) → e < length words → (word_at words e).died.weight ≡ 0

-- each block has its tree
pub record AreTrees (words : List Word) (weights : List ℕ) (stride height : ℕ) : Type 0 where
  pub each : (row start : ℕ) → IsMultiple start (block_height height row) → start < stride → word_of stride row start < length words
      → AreNodes words (dead_before words) (weight_before weights) (word_of stride row start) (block_height height row) (min (word_of stride row stride) (length words))
  -- before the first word of a block stands nothing
  pub begins : (row start : ℕ) → IsMultiple start (block_height height row) → start < stride → word_of stride row start < length words
      → (word_at words (word_of stride row start)).weight ≡ 0

-- the words, the weights, how many words a row has, the height of the first row, and where the next place goes
pub record IsKept (words : Entries Word) (weights : Entries ℕ) (stride height : ℕ) (cursor : Cursor) : Type 0 where
  pub entries : length words.items ≡ (length weights.items + 63) / 64
  pub within : length weights.items ≤ weights.capacity
  pub room : words.capacity ≡ (weights.capacity + 63) / 64
  pub small : weights.capacity ≤ 2 ^ 40
  pub some : 0 < stride
  pub few : stride ≤ 2 ^ 26
  pub low : height ≤ 32
  pub placed : length weights.items ≡ 64 * (cursor.row * stride) + cursor.at
  pub at_within : cursor.at < 64 * stride
  pub clear : IsClearFrom (length weights.items) words.items
  pub light : (k : ℕ) → weight_at weights.items k < 2 ^ 32
  pub ranks : AreRanks words.items stride height
  pub weighed : IsFresh words.items → AreWeighed words.items weights.items stride height
  pub trees : AreTrees words.items weights.items stride height
  pub ones : cursor.ones + total (second_at words.items) (64 * (cursor.row * stride) + start_of (height - cursor.row) cursor.at)
      ≡ total (second_at words.items) (length weights.items)
  pub weight : IsFresh words.items
      → cursor.weight + total (weight_at weights.items) (64 * (cursor.row * stride) + start_of (height - cursor.row) cursor.at)
      ≡ total (weight_at weights.items) (length weights.items)
