-- The tree under construction.
use Rattle.std.specs.Prelude.{◌≡◌, ◌≢◌, ℕ, ◌+◌, ◌-◌, ◌*◌, ◌/◌, ◌^◌, ◌<◌, ◌≤◌, true, List, length, min, Option, Some, None, slice_get, slice_index_or}
use Rattle.query_laws.specs.Permuted.{Permuted}
use Rattle.query_laws.specs.StepLedger.{Entries}
use Rattle.builder_trait.specs.Parts.{Contents}
use Rattle.row_blocks.specs.Heights.{height_of}
use Rattle.map_shapes.specs.declared.point.Point.{Point}
use Rattle.priority_tree.specs.declared.entry.Entry.{Entry}
use Rattle.priority_tree.specs.declared.leaf.Slot.{Slot}
use Rattle.priority_tree.specs.declared.heap.Heap.{Heap}
use Rattle.priority_tree.specs.declared.rows.TopRows.{TopRows}
use Rattle.priority_tree.specs.Entries.{no_slot}
use Rattle.priority_tree.specs.Tree.{node_at, leaf_at, entries_in, IsHeap, IsHole, IsHeapBut}
use Rattle.priority_tree.specs.Live.{live_entries, HasRoom, IsShape}

-- a place of a leaf
abbrev pub slot_at : Heap → ℕ → ℕ → Slot
slot_at heap l k = slice_index_or (leaf_at heap l).slots k no_slot

-- a point as a leaf has it, where it is there
abbrev pub slot_of : Option Point → Slot
slot_of None = no_slot
slot_of (Some p) = record { y = p.y; stands = true; id = p.id }

-- While points are put, each stands in its leaf, and no place above holds one.
pub record IsFilling (level : ℕ) (points : List Point) (heap : Heap) : Type 0 where
  pub small : level < 32
  pub room : HasRoom level heap
  pub leaves_enough : length points ≤ 16 * length heap.leaves.items
  pub leaves_few : 16 * length heap.leaves.items < length points + 16
  pub places : length heap.nodes.items ≡ min (2 * length heap.leaves.items) (2 ^ (level - 4))
  pub blank : (k : ℕ) → node_at heap k ≡ None
  pub sixteen : (l : ℕ) → length (leaf_at heap l).slots ≡ 16
  pub slots : (l k : ℕ) → k < 16 → slot_at heap l k ≡ slot_of (slice_get points (16 * l + k))

-- how many turns the blocks take that are higher than these: one for each height of each block
abbrev pub turns_above : ℕ → ℕ → ℕ
turns_above height at = 2 ^ (height - at) * (at + 2) - (height + 2)

-- how many turns a tree over so many points takes: the same over leaves of sixteen, from the lowest blocks on
abbrev pub turns_for : ℕ → ℕ
turns_for n = let height = height_of ((n + 15) / 16) in 2 * 2 ^ height - (height + 2)

-- The blocks of height `at` before the one at hand are heaps. In that one a hole goes down, and the others behind it have one in their place; no place
-- above holds anything.
pub record IsGrown (part : Contents Point) (rows : TopRows) : Type 0 where
  pub small : part.at_level < 32
  pub few : length part.items ≤ 2 ^ part.at_level
  pub room : HasRoom part.at_level rows.heap
  pub shape : IsShape (length part.items) rows.heap rows.height
  pub entries : Permuted (entries_in rows.heap rows.height 0) (live_entries 0 part.flags part.items)
  pub started : 0 < rows.at
  pub within : rows.at ≤ rows.height → rows.block < 2 ^ (rows.height - rows.at)
  pub here : rows.at ≤ rows.height → IsHeapBut rows.heap rows.low rows.hole rows.at (rows.block * 2 ^ rows.at)
  pub done : (j : ℕ) → j < rows.block → IsHeap rows.heap rows.at (j * 2 ^ rows.at)
  pub rest : (j : ℕ) → rows.block < j → j < 2 ^ (rows.height - rows.at) → IsHole rows.heap rows.at (j * 2 ^ rows.at)
  pub blank : (j : ℕ) → node_at rows.heap (j * 2 ^ rows.at) ≡ None
  pub ended : rows.height < rows.at → IsHeap rows.heap rows.height 0
  pub left_is : rows.at ≤ rows.height
      → rows.left ≡ rows.low + rows.at * (2 ^ (rows.height - rows.at) - (rows.block + 1)) + turns_above rows.height rows.at
  pub none_left : rows.height < rows.at → rows.left ≡ 0

-- a hole is left that isn't in a leaf yet
abbrev pub IsGrowing : Contents Point → TopRows → Type 0
IsGrowing part rows = IsGrown part rows × (rows.at ≤ rows.height → 0 < rows.low)

-- one more place, where there is room
pub record IsWidened (old new : Entries (Option Entry)) : Type 0 where
  pub room : new.capacity ≡ old.capacity
  pub long : length old.items ≤ old.capacity → length new.items ≡ min (length old.items + 1) old.capacity
  pub blank : ((k : ℕ) → slice_index_or old.items k None ≡ None) → (k : ℕ) → slice_index_or new.items k None ≡ None

-- a point was put at place k of leaf l, and nothing else changed in the leaves
pub record IsPut (old new : Heap) (l k : ℕ) (slot : Slot) : Type 0 where
  pub here : slot_at new l k ≡ slot
  pub others : (m j : ℕ) → j < 16 → 16 * m + j ≢ 16 * l + k → slot_at new m j ≡ slot_at old m j
  pub sixteen : ((m : ℕ) → length (leaf_at old m).slots ≡ 16) → (m : ℕ) → length (leaf_at new m).slots ≡ 16

-- one more leaf, and two more places where there is room
pub record IsOpened (old new : Heap) : Type 0 where
  pub leaves : length new.leaves.items ≡ length old.leaves.items + 1
  pub leaf_room : new.leaves.capacity ≡ old.leaves.capacity
  pub node_room : new.nodes.capacity ≡ old.nodes.capacity
  pub places : length old.nodes.items ≤ old.nodes.capacity → length new.nodes.items ≡ min (length old.nodes.items + 2) old.nodes.capacity
  pub blank : ((k : ℕ) → node_at old k ≡ None) → (k : ℕ) → node_at new k ≡ None

pub record IsSameShape (old new : Heap) : Type 0 where
  pub leaves : length new.leaves.items ≡ length old.leaves.items
  pub leaf_room : new.leaves.capacity ≡ old.leaves.capacity
  pub nodes : new.nodes ≡ old.nodes
