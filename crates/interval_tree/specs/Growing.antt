-- The rows under construction.
use Rattle.std.specs.Prelude.{◌≡◌, ℕ, ◌+◌, ◌-◌, ◌^◌, ◌<◌, ◌≤◌, true, false, if◌then◌else◌, List, length, map, take, replicate}
use Rattle.weak_delete.specs.declared.place.Place.{Place}
use Rattle.weak_delete.specs.Places.{LivePlaces, live_place, nothing_put}
use Rattle.builder_trait.specs.Parts.{Contents}
use Rattle.builder_trait.specs.Builders.{Progress}
use Rattle.builder_trait.specs.Rebuilding.{flags_reordered}
use Rattle.map_shapes.specs.declared.segment.Segment.{Segment}
use Rattle.interval_tree.specs.declared.rows.StabRows.{StabRows}
use Rattle.interval_tree.specs.declared.trees.Trees.{Trees}
use Rattle.interval_tree.specs.Rows.{HaveRoom}

-- nothing is put into the trees, and each has room for so many places
pub record AreEmpty (cap : ℕ) (trees : Trees) : Type 0 where
  pub ends : trees.ends ≡ nothing_put cap
  pub by_lower : trees.by_lower ≡ nothing_put cap
  pub by_upper : trees.by_upper ≡ nothing_put cap

-- Before the seal nothing is put: the puts are turns too.
pub record IsPutting (b : Progress Segment) (rows : StabRows) : Type 0 where
  pub small : b.at_level < 32
  pub empty : AreEmpty (2 ^ b.at_level) rows.trees
  pub none_left : rows.left ≡ 0

-- the places of segments that are all live
abbrev pub all_ends : List Segment → List Place
all_ends segments = map (λ s. live_place s.hi) segments

abbrev pub all_counted : ℕ → List Place
all_counted n = replicate n (live_place 0)

-- On the way to some places: the first of them are put, and once all are it is sealed.
pub record IsFilling (all : List Place) (s : LivePlaces) : Type 0 where
  pub within : length s.places ≤ length all
  pub put : s.places ≡ take (length s.places) all
  pub all_put : s.sealed ≡ true → length s.places ≡ length all
  pub open_yet : s.sealed ≡ false → length s.places < length all

-- the turns until it is built over n places, where so many come after the puts
abbrev pub turns_to : ℕ → ℕ → LivePlaces → ℕ
turns_to later n s = if s.sealed then s.left else n - length s.places + later

-- each tree is on the way to the places of these segments, which are all live
pub record AreFilling (segments : List Segment) (trees : Trees) : Type 0 where
  pub ends : IsFilling (all_ends segments) trees.ends
  pub by_lower : IsFilling (all_counted (length segments)) trees.by_lower
  pub by_upper : IsFilling (all_counted (length segments)) trees.by_upper

-- the turns until all trees are built over n segments: the tournament lets n - 1 winners meet
abbrev pub turns_left : ℕ → Trees → ℕ
turns_left n trees = turns_to (n - 1) n trees.ends + turns_to n n trees.by_lower + turns_to n n trees.by_upper

-- After the seal the trees grow, over segments that are all live.
pub record IsGrowing (part : Contents Segment) (rows : StabRows) : Type 0 where
  pub small : part.at_level < 32
  pub few : length part.items ≤ 2 ^ part.at_level
  pub room : HaveRoom (2 ^ part.at_level) rows.trees
  pub live : flags_reordered part ≡ replicate (length part.items) true
  pub filling : AreFilling part.items rows.trees
  pub left : rows.left ≡ turns_left (length part.items) rows.trees
