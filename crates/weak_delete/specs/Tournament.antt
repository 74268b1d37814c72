-- The tournament over places.
use Rattle.std.specs.Prelude.{◌≡◌, ℕ, ◌+◌, ◌-◌, ◌*◌, ◌/◌, ◌^◌, ◌<◌, ◌≤◌, List, Bool, true, Option, Some, None, if◌then◌else◌, length, slice_index_or}
use Rattle.query_laws.specs.StepLedger.{Entries}
use Rattle.weak_delete.specs.declared.place.Place.{Place}
use Rattle.weak_delete.specs.Places.{place_at}
use Rattle.row_blocks.specs.Blocks.{height_at}

-- how high a place stands: above its value while it is live, and below all values where it isn't
abbrev pub rank_of : Place → ℕ
rank_of place = if place.live then place.amount + 1 else 0

abbrev pub rank_at : List Place → ℕ → ℕ
rank_at places k = rank_of (place_at places k)

-- the same of a winner
abbrev pub winner_rank : Option ℕ → ℕ
winner_rank None = 0
winner_rank (Some value) = value + 1

-- no place from `start` on and below `end` stands above the bound
abbrev pub IsBelowBound : List Place → ℕ → ℕ → ℕ → Type 0
IsBelowBound places start end bound = (k : ℕ) → start ≤ k → k < end → rank_at places k ≤ bound

-- the greatest rank from `start` on and below `end`
pub record IsGreatest (places : List Place) (start end rank : ℕ) : Type 0 where
  pub bound : IsBelowBound places start end rank
  pub least : (m : ℕ) → IsBelowBound places start end m → rank ≤ m

-- the winner at `middle` is that of the block round it
abbrev pub IsWinnerAt : List Place → List (Option ℕ) → ℕ → Type 0
IsWinnerAt places winners middle = IsGreatest places (middle - 2 ^ height_at middle) (middle + 2 ^ height_at middle) (winner_rank (slice_index_or winners middle None))

-- the winners at middles of heights below this one stand
pub record AreWinnersBelow (places : List Place) (winners : List (Option ℕ)) (height : ℕ) : Type 0 where
  pub wins : (middle : ℕ) → 0 < middle → middle < length places → height_at middle < height → IsWinnerAt places winners middle

-- Winners are found height by height, and those of one height from the left. A height has a half of the middles that are left as
-- it begins, or one more.
pub record IsPlayed (places : List Place) (winners : List (Option ℕ)) (height left : ℕ) : Type 0 where
  pub blocks_left : left ≤ (length places - 1) / 2 ^ height
  pub some_left : 0 < left → (length places - 1) / 2 ^ height < 2 * left
  pub none_left : left ≡ 0 → (length places - 1) / 2 ^ height ≡ 0
  pub small : height ≤ 32
  pub below : AreWinnersBelow places winners height
  pub here : (middle : ℕ) → 0 < middle → middle < length places → height_at middle ≡ height
      → middle < (2 * ((length places - 1) / 2 ^ height - left) + 1) * 2 ^ height → IsWinnerAt places winners middle

pub record IsTournament (places : Entries Place) (winners : Entries (Option ℕ)) (height left : ℕ) (sealed : Bool) : Type 0 where
  pub winner_each : length winners.items ≡ length places.items
  pub within : length places.items ≤ places.capacity
  pub same_room : winners.capacity ≡ places.capacity
  pub few : places.capacity ≤ 2 ^ 31
  pub played : sealed ≡ true → IsPlayed places.items winners.items height left
