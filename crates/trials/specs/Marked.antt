-- A part beside the list of its items.
use Rattle.std.specs.Prelude.{◌≡◌, ℕ, ◌<◌, List, length, slice_index_or, Option, IfSome}
use Rattle.std.specs.List.Sorted.{IsPermutation}
use Rattle.builder_trait.specs.Parts.{Contents}

-- the stamp of each item is its place, and the part, if it is built, has these items
pub record IsMarked {P Item : Type 0} (contents : P → Contents Item) (stamp : Item → ℕ) (part : Option P) (items : List Item) : Type 0 where
  pub numbered : (k : ℕ) (d : Item) → k < length items → stamp (slice_index_or items k d) ≡ k
  pub built : IfSome part (λ p. IsPermutation items (contents p).items)
