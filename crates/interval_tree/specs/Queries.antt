-- Which segments lie over a place.
use Rattle.std.specs.Prelude.{◌≡◌, ℕ, ◌<◌, ◌≤◌, Bool, false, IsTrue, nat_le, nat_lt, List, length, filter, slice_index_or}
use Rattle.builder_trait.specs.Parts.{Contents, live_of}
use Rattle.builder_trait.specs.Rebuilding.{live_before}
use Rattle.map_model.specs.Shape.{is_stabbed}
use Rattle.map_shapes.specs.declared.segment.Segment.{Segment}
use Rattle.map_shapes.specs.Segment.{shape_of_segment}

-- the segment lies over x
abbrev pub is_over : ℕ → Segment → Bool
is_over x s = is_stabbed x (shape_of_segment s)

-- it begins at x or before it; it ends before x; it ends at x or behind it
abbrev pub has_begun : ℕ → Segment → Bool
has_begun x s = nat_le s.lo x

abbrev pub has_ended : ℕ → Segment → Bool
has_ended x s = nat_lt s.hi x

abbrev pub goes_on : ℕ → Segment → Bool
goes_on x s = nat_le x s.hi

-- the live segments over x
abbrev pub hits : ℕ → Contents Segment → List Segment
hits x part = filter (is_over x) (live_of part)

-- the live ones at places below k that end at x or behind it
abbrev pub hits_before : ℕ → Contents Segment → ℕ → List Segment
hits_before x part k = filter (goes_on x) (live_before k part)

-- a test passes up to an index, and from there on it fails
pub record IsCut (test : Segment → Bool) (segments : List Segment) (k : ℕ) : Type 0 where
  pub within : k ≤ length segments
  pub passed : (i : ℕ) (d : Segment) → i < k → IsTrue (test (slice_index_or segments i d))
  pub failed : (i : ℕ) (d : Segment) → k ≤ i → i < length segments → test (slice_index_or segments i d) ≡ false
