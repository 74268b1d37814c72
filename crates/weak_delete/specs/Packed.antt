-- Sixteen places in one entry: their weights, and a mask of those that are live.
use Rattle.std.specs.Prelude.{ℕ, zero, suc, ◌==◌, ◌+◌, ◌*◌, ◌/◌, ◌%◌, List, [], map, slice_index, slice_index_or}
use Rattle.std.specs.List.{range_with_len}
use Rattle.std.specs.Int.{bit_at}
use Rattle.weak_delete.specs.declared.place.Place.{Place}

-- how many of the first slots of a mask are live
unfoldable pub live_bits : ℕ → ℕ → ℕ
live_bits mask zero = 0
live_bits mask (suc slot) = live_bits mask slot + bit_at mask slot

-- what these weigh
unfoldable pub live_weights : List ℕ → ℕ → ℕ → ℕ
live_weights weights mask zero = 0
live_weights weights mask (suc slot) = live_weights weights mask slot + slice_index weights slot * bit_at mask slot

-- the place at an index
abbrev pub place_in : List (List ℕ) → List ℕ → ℕ → Place
place_in weights masks k = record {
  amount = slice_index (slice_index_or weights (k / 16) []) (k % 16);
  live = bit_at (slice_index masks (k / 16)) (k % 16) == 1;
}

-- the first places of the entries
abbrev pub packed : List (List ℕ) → List ℕ → ℕ → List Place
packed weights masks n = map (place_in weights masks) (range_with_len 0 n)
