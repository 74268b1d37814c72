-- What the tree holds of a part.
use Rattle.std.specs.Prelude.{◌≡◌, ℕ, suc, ◌-◌, ◌*◌, ◌^◌, ◌≤◌, ◌<◌, Bool, true, false, List, [], ◌∷◌, length}
use Rattle.query_laws.specs.Permuted.{Permuted}
use Rattle.builder_trait.specs.Parts.{Contents}
use Rattle.map_shapes.specs.declared.point.Point.{Point}
use Rattle.priority_tree.specs.declared.entry.Entry.{Entry}
use Rattle.priority_tree.specs.declared.heap.Heap.{Heap}
use Rattle.priority_tree.specs.Tree.{entries_in, IsHeap}

-- a point at a place of the first order
abbrev pub entry_at : ℕ → Point → Entry
entry_at place p = record { y = p.y; place = place; id = p.id }

-- the live ones of some points, of which the first has this place
abbrev pub live_entries : ℕ → List Bool → List Point → List Entry
live_entries place (true ∷ flags) (p ∷ points) = entry_at place p ∷ live_entries (suc place) flags points
live_entries place (false ∷ flags) (p ∷ points) = live_entries (suc place) flags points
live_entries place [] points = []
live_entries place flags [] = []

-- room for the leaves of 2 ^ level places, and for as many places above them
pub record HasRoom (level : ℕ) (heap : Heap) : Type 0 where
  pub leaves : heap.leaves.capacity ≡ 2 ^ (level - 4)
  pub nodes : heap.nodes.capacity ≡ 2 ^ (level - 4)

-- The leaves of so many points and the places above them are there, and the tree is no higher than wanted.
pub record IsShape (points : ℕ) (heap : Heap) (height : ℕ) : Type 0 where
  pub leaves : points ≤ 16 * length heap.leaves.items
  pub low : height ≤ 27
  pub places : 0 < height → 2 ^ height ≤ length heap.nodes.items
  pub least : (h : ℕ) → points ≤ 2 ^ h → height ≤ h

-- Each live point of the part stands once in the tree, which is a heap.
pub record IsTree (part : Contents Point) (heap : Heap) (height : ℕ) : Type 0 where
  pub small : part.at_level < 32
  pub few : length part.items ≤ 2 ^ part.at_level
  pub room : HasRoom part.at_level heap
  pub shape : IsShape (length part.items) heap height
  pub entries : Permuted (entries_in heap height 0) (live_entries 0 part.flags part.items)
  pub ordered : IsHeap heap height 0
