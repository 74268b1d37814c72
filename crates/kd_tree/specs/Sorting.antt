-- How far the places are sorted.
use Rattle.std.specs.Prelude.{◌≡◌, ℕ, ◌+◌, ◌-◌, ◌*◌, ◌/◌, ◌^◌, ◌<◌, ◌≤◌, List, length, All}
use Rattle.kd_tree.specs.declared.sorting.Sorting.{Sorting}

-- there is room for so many places
pub record HasSortingRoom (cap : ℕ) (sorting : Sorting) : Type 0 where
  pub by_y : sorting.by_y.capacity ≡ cap
  pub counts : sorting.counts.capacity ≡ cap / 8 + 1

-- n places, a count for eight of them, and none sorted yet
pub record IsUnsorted (n : ℕ) (places : List ℕ) (sorting : Sorting) : Type 0 where
  pub by_y : sorting.by_y.items ≡ places
  pub counts : length sorting.counts.items ≡ (n + 7) / 8
  pub none : sorting.level ≡ 0

-- the passes over n places, of which so many levels are left
pub record IsSorting (n : ℕ) (sorting : Sorting) : Type 0 where
  pub few : n ≤ 2 ^ 31
  pub low : sorting.level ≤ 15
  pub long : length sorting.by_y.items ≡ n
  pub places : All (λ place. place < n) sorting.by_y.items
  pub counts : 0 < n → 0 < length sorting.counts.items
  pub next : 0 < sorting.level → sorting.next < n

-- how many turns the passes have left
abbrev pub turns_left : ℕ → Sorting → ℕ
turns_left n sorting = sorting.level * n - sorting.next
