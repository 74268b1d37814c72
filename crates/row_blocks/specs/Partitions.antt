-- Rows in blocks, and the stable partition of a row into the next one, in which each entry goes into the half of its block that has its place.
use Rattle.std.specs.Prelude.{◌≡◌, ℕ, ◌==◌, ◌+◌, ◌-◌, ◌^◌, ◌<◌, ◌≤◌, ◌&&◌, Bool, nat_lt, nat_le, if◌then◌else◌, List, length, map, min, take, drop, filter, slice_range}
use Rattle.std.specs.List.{range_with_len}
use Rattle.query_laws.specs.Permuted.{Permuted}
use Rattle.row_blocks.specs.Blocks.{IsMultiple, start_of}

module _ {T : Type 0} (place : T → ℕ) where
  -- the entry's place is in the block of this height that begins here
  abbrev pub is_in_block : ℕ → ℕ → T → Bool
  is_in_block height start entry = nat_le start (place entry) && nat_lt (place entry) (start + 2 ^ height)

  -- the entries of a list whose places are in that block, in the list's order
  abbrev pub block_of : ℕ → ℕ → List T → List T
  block_of height start entries = filter (is_in_block height start) entries

  -- each place below the list's length is the place of one entry
  abbrev pub HasEachPlace : List T → Type 0
  HasEachPlace whole = Permuted (map place whole) (range_with_len 0 (length whole))

  -- The entries of a list in blocks of this height, one behind another: each block has those with its places, in the list's order.
  pub record IsInBlocks (whole : List T) (height : ℕ) (row : List T) : Type 0 where
    pub as_many : length row ≡ length whole
    pub blocks : (start : ℕ) → IsMultiple start height → start < length whole
        → slice_range row start (min (start + 2 ^ height) (length whole)) ≡ block_of height start whole

  -- The first k entries of a row were moved: each block of the next row begins with those that have its places, in the row's order;
  -- and `lower` of them are in the first half of the block at k.
  pub record IsMoved (source target : List T) (height k lower : ℕ) : Type 0 where
    pub long : length target ≡ length source
    pub within : k ≤ length source
    pub moved : (start : ℕ) → IsMultiple start height → start < length source
        → take (length (block_of height start (take k source))) (drop start target) ≡ block_of height start (take k source)
    pub counted : lower ≡ length (block_of height (start_of (height + 1) k) (take k source))

-- where the entry at k goes in the next row, by its place: into its half, behind those that are there, `lower` of them in the first half
abbrev pub target_of : (height k lower place : ℕ) → ℕ
target_of height k lower place =
    let start = start_of (height + 1) k in
    if nat_lt place (start + 2 ^ height) then start + lower else start + 2 ^ height + (k - start - lower)

-- how many are in the first half of the block at hand afterwards: none where the next entry begins a block
abbrev pub lower_after : (height k lower place : ℕ) → ℕ
lower_after height k lower place =
    if start_of (height + 1) (k + 1) == k + 1 then 0 else if nat_lt place (start_of (height + 1) k + 2 ^ height) then lower + 1 else lower
