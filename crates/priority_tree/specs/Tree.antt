-- The tree: a heap by height over leaves of sixteen places (McCreight 1985).
use Rattle.std.specs.Prelude.{◌≡◌, ◌≢◌, ℕ, zero, suc, ◌+◌, ◌*◌, ◌^◌, ◌<◌, ◌≤◌, List, [], ◌++◌, length, Option, Some, None, slice_index_or}
use Rattle.std.specs.Option.{option_to_list}
use Rattle.priority_tree.specs.declared.entry.Entry.{Entry}
use Rattle.priority_tree.specs.declared.leaf.Leaf.{Leaf}
use Rattle.priority_tree.specs.declared.heap.Heap.{Heap}
use Rattle.priority_tree.specs.Entries.{entries_from, empty_leaf, IsAmong, IsOver}

-- what the place at the middle of a block holds
abbrev pub node_at : Heap → ℕ → Option Entry
node_at heap k = slice_index_or heap.nodes.items k None

abbrev pub leaf_at : Heap → ℕ → Leaf
leaf_at heap l = slice_index_or heap.leaves.items l empty_leaf

-- What stands in the block of 2 ^ height leaves that begins at leaf `start`: the point that its place holds, and what stands in its halves.
abbrev pub entries_in : Heap → ℕ → ℕ → List Entry
entries_in heap zero start = entries_from (16 * start) (leaf_at heap start).slots
entries_in heap (suc h) start =
    option_to_list (node_at heap (start + 2 ^ h)) ++ (entries_in heap h start ++ entries_in heap h (start + 2 ^ h))

-- the point's place is in the block
pub record IsInside (height start : ℕ) (e : Entry) : Type 0 where
  pub from : 16 * start ≤ e.place
  pub to : e.place < 16 * (start + 2 ^ height)

-- The place of a block holds a point of it, and none below comes before that; or it holds none, and below is none.
abbrev pub IsHolder : ℕ → ℕ → Option Entry → List Entry → Type 0
IsHolder height start None below = below ≡ []
IsHolder height start (Some e) below = IsInside height start e × IsOver e below

-- each place of the block holds the first of what isn't held above it
abbrev pub IsHeap : Heap → ℕ → ℕ → Type 0
IsHeap heap zero start = length (leaf_at heap start).slots ≡ 16
IsHeap heap (suc h) start =
    IsHolder (suc h) start (node_at heap (start + 2 ^ h)) (entries_in heap h start ++ entries_in heap h (start + 2 ^ h))
    × IsHeap heap h start × IsHeap heap h (start + 2 ^ h)

-- the block's place holds nothing, and its halves are heaps; of a leaf nothing is left to do
abbrev pub IsHole : Heap → ℕ → ℕ → Type 0
IsHole heap zero start = IsHeap heap zero start
IsHole heap (suc h) start = (node_at heap (start + 2 ^ h) ≡ None) × IsHeap heap h start × IsHeap heap h (start + 2 ^ h)

-- a heap but for a hole in the place of the block of height `low` at `hole`
pub data IsHeapBut (heap : Heap) (low hole : ℕ) : ℕ → ℕ → Type 0 where
  here : IsHole heap low hole → IsHeapBut heap low hole low hole
  in_first : (h start : ℕ)
      → IsHolder (suc h) start (node_at heap (start + 2 ^ h)) (entries_in heap h start ++ entries_in heap h (start + 2 ^ h))
      → IsHeapBut heap low hole h start → IsHeap heap h (start + 2 ^ h) → IsHeapBut heap low hole (suc h) start
  in_second : (h start : ℕ)
      → IsHolder (suc h) start (node_at heap (start + 2 ^ h)) (entries_in heap h start ++ entries_in heap h (start + 2 ^ h))
      → IsHeap heap h start → IsHeapBut heap low hole h (start + 2 ^ h) → IsHeapBut heap low hole (suc h) start

-- the point is the one that the block's place holds, or is in the leaf
abbrev pub IsHead : Heap → ℕ → ℕ → Entry → Type 0
IsHead heap zero start e = IsAmong e (entries_in heap zero start)
IsHead heap (suc h) start e = node_at heap (start + 2 ^ h) ≡ Some e

-- a block of the tree, whose places are there
pub record IsBlock (heap : Heap) (height start : ℕ) : Type 0 where
  pub low : height ≤ 27
  pub small : start + 2 ^ height ≤ 2 ^ 27
  pub places : 0 < height → start + 2 ^ height ≤ length heap.nodes.items

-- nothing changes but within a block
pub record IsSameOutside (old new : Heap) (height start : ℕ) : Type 0 where
  pub nodes_before : (k : ℕ) → k ≤ start → node_at new k ≡ node_at old k
  pub nodes_behind : (k : ℕ) → start + 2 ^ height ≤ k → node_at new k ≡ node_at old k
  pub leaves_before : (l : ℕ) → l < start → leaf_at new l ≡ leaf_at old l
  pub leaves_behind : (l : ℕ) → start + 2 ^ height ≤ l → leaf_at new l ≡ leaf_at old l
  pub as_many_nodes : length new.nodes.items ≡ length old.nodes.items
  pub as_many_leaves : length new.leaves.items ≡ length old.leaves.items
  pub node_room : new.nodes.capacity ≡ old.nodes.capacity
  pub leaf_room : new.leaves.capacity ≡ old.leaves.capacity

-- one place holds something else, and nothing else changes
pub record IsSet (old new : Heap) (k : ℕ) (held : Option Entry) : Type 0 where
  pub here : node_at new k ≡ held
  pub others : (j : ℕ) → j ≢ k → node_at new j ≡ node_at old j
  pub leaves : new.leaves ≡ old.leaves
  pub as_many : length new.nodes.items ≡ length old.nodes.items
  pub room : new.nodes.capacity ≡ old.nodes.capacity

-- two trees have the same places and leaves in a block
pub record IsSameWithin (old new : Heap) (height start : ℕ) : Type 0 where
  pub nodes : (k : ℕ) → start < k → k < start + 2 ^ height → node_at new k ≡ node_at old k
  pub leaves : (l : ℕ) → start ≤ l → l < start + 2 ^ height → leaf_at new l ≡ leaf_at old l
