-- The rows of leaves.
use Rattle.std.specs.Prelude.{◌≡◌, ℕ, ◌+◌, ◌/◌, ◌<◌, Bool, true, List, length, Some, slice_get}
use Rattle.kd_tree.specs.declared.spot.Spot.{Spot}
use Rattle.kd_tree.specs.declared.area.Area.{Area}
use Rattle.kd_tree.specs.declared.leaves.Leaves.{Leaves}
use Rattle.kd_tree.specs.Areas.{Has}

-- the box has the spots of the first so many slots that are live
abbrev pub HasLive : List Spot → List Bool → ℕ → Area → Type 0
HasLive spots live count area = (slot : ℕ) (spot : Spot) → slot < count → slice_get live slot ≡ Some true → slice_get spots slot ≡ Some spot → Has area spot

-- a leaf for each eight of n positions
pub record HasLeaves (n : ℕ) (leaves : Leaves) : Type 0 where
  pub spots : length leaves.spots.items ≡ (n + 7) / 8
  pub live : length leaves.live.items ≡ (n + 7) / 8

-- there is room for those of so many positions
pub record HasLeafRoom (cap : ℕ) (leaves : Leaves) : Type 0 where
  pub spots : leaves.spots.capacity ≡ cap / 8 + 1
  pub live : leaves.live.capacity ≡ cap / 8 + 1
