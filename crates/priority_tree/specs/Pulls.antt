-- What one pull does.
use Rattle.std.specs.Prelude.{◌≡◌, ℕ, Option, Some, None, ◌⊎◌, IsTrue}
use Rattle.query_laws.specs.Permuted.{Permuted}
use Rattle.priority_tree.specs.declared.entry.Entry.{Entry}
use Rattle.priority_tree.specs.declared.heap.Heap.{Heap}
use Rattle.priority_tree.specs.Entries.{comes_first}
use Rattle.priority_tree.specs.Tree.{entries_in, IsHeapBut, IsSameOutside}

-- where a block's place had a hole, half of it has one now, and what stands in the block is the same
pub record IsPulled (old new : Heap) (height start low child : ℕ) : Type 0 where
  pub but : IsHeapBut new low child height start
  pub same_entries : Permuted (entries_in new height start) (entries_in old height start)
  pub same : IsSameOutside old new height start

-- the entry comes before the other one, where that is there
abbrev pub IsBefore : Entry → Option Entry → Type 0
IsBefore e None = Unit {0}
IsBefore e (Some f) = IsTrue (comes_first e f)

-- the better of the first entries of two blocks, with where its block begins
abbrev pub IsWinner : Option Entry → ℕ → Option Entry → ℕ → Option (Entry × ℕ) → Type 0
IsWinner first start second middle None = (first ≡ None) × (second ≡ None)
IsWinner first start second middle (Some won) =
    ((won.1 ≡ start) × (first ≡ Some won.0) × IsBefore won.0 second) ⊎ ((won.1 ≡ middle) × (second ≡ Some won.0) × IsBefore won.0 first)
