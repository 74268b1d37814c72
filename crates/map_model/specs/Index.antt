-- The indexes of a layer, by the questions that they answer.
use Rattle.std.specs.Prelude.{ℕ, ◌+◌, Bool, true, false, ◌&&◌, ◌||◌, not, if◌then◌else◌}
use Rattle.map_model.specs.Shape.{Kind, Points, Segments}

-- the indexes by the questions that they answer: of rectangles, of near points, of high points, of segments over a place, of segments that a
-- vertical one meets
pub data Index : Type 0 where
  Range : Index
  Near : Index
  Top : Index
  Stab : Index
  Cross : Index

-- which indexes a layer has, and whether it joins their parts at once, level after level, in place of a bounded piece with each update
pub record IndexSet : Type 0 where
  pub range : Bool
  pub near : Bool
  pub top : Bool
  pub stab : Bool
  pub cross : Bool
  pub batch : Bool

-- none of the indexes
abbrev pub no_indexes : IndexSet
no_indexes = record { range = false; near = false; top = false; stab = false; cross = false; batch = false }

-- the index is one of them
abbrev pub has : IndexSet → Index → Bool
has s Range = s.range
has s Near = s.near
has s Top = s.top
has s Stab = s.stab
has s Cross = s.cross

-- the set with one index more
abbrev pub with_index : IndexSet → Index → IndexSet
with_index s Range = record s { range = true }
with_index s Near = record s { near = true }
with_index s Top = record s { top = true }
with_index s Stab = record s { stab = true }
with_index s Cross = record s { cross = true }

-- an index of points: one that a layer in use may be given
abbrev pub may_be_late : Index → Bool
may_be_late Range = true
may_be_late Near = true
may_be_late Top = true
may_be_late Stab = false
may_be_late Cross = false

-- a layer of this kind may have these indexes: at least one, and none that the kind doesn't take; none takes `cross` or `batch` yet
abbrev pub fits : Kind → IndexSet → Bool
fits Points s = (s.range || s.near || s.top) && not (s.stab || s.cross || s.batch)
fits Segments s = not (s.range || s.near || s.top || s.cross || s.batch) && s.stab

-- 1 where something holds, and else 0
abbrev pub one_if : Bool → ℕ
one_if b = if b then 1 else 0

-- the sum of what a number is of each of the indexes
abbrev pub sum_over : IndexSet → (Index → ℕ) → ℕ
sum_over s f =
    (if s.range then f Range else 0) + (if s.near then f Near else 0) + (if s.top then f Top else 0) + (if s.stab then f Stab else 0)
    + (if s.cross then f Cross else 0)

-- how many indexes there are
abbrev pub index_count : IndexSet → ℕ
index_count s = sum_over s (λ index. 1)
