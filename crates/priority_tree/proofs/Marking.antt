-- A point that dies is taken out of the tree.
use Rattle.std.proofs.Common.{◌≡◌, ℕ, ◌^◌, ◌≤◌, Bool, true, false, List, ◌∷◌, length, Some, slice_get, sym, ap, ◌∙◌, arith, subst, pow_mono}
use Rattle.std.specs.Prelude.{slice_set}
use Rattle.query_laws.specs.Permuted.{Permuted}
use Rattle.query_laws.proofs.Permutations.{Permuted-sym}
use Rattle.builder_trait.specs.Parts.{Contents}
use Rattle.map_shapes.specs.declared.point.Point.{Point}
use Rattle.priority_tree.specs.declared.heap.Heap.{Heap}
use Rattle.priority_tree.specs.Entries.{IsAmong, OwnsPlace}
use Rattle.priority_tree.specs.Tree.{entries_in, IsHeap, IsSameOutside}
use Rattle.priority_tree.specs.Live.{entry_at, live_entries, HasRoom, IsTree}
use Rattle.priority_tree.proofs.EntryLemmas.{IsAmong-Permuted}
use Rattle.priority_tree.proofs.LiveLemmas.{live_known, live_among, Permuted-died}

pub few_points : (part : Contents Point) (heap : Heap) (height : ℕ) → IsTree part heap height → length part.items ≤ 2 ^ 31
few_points part heap height tree =
    let low : part.at_level ≤ 31 = omega (arith, tree.small) in
    let most : 2 ^ part.at_level ≤ 2 ^ 31 = pow_mono low in
    omega (arith, tree.few, most)

module _ (part : Contents Point) (heap : Heap) (height place : ℕ) (p : Point) (tree : IsTree part heap height) (there : slice_get part.items place ≡ Some p) where
  pub among_tree : slice_get part.flags place ≡ Some true → IsAmong (entry_at place p) (entries_in heap height 0)
  among_tree live = IsAmong-Permuted (entry_at place p) (Permuted-sym tree.entries) (live_among_here live)
    where
      live_among_here : slice_get part.flags place ≡ Some true → IsAmong (entry_at place p) (live_entries 0 part.flags part.items)
      live_among_here live =
          subst (λ (n : ℕ). IsAmong (entry_at n p) (live_entries 0 part.flags part.items)) (omega arith) (live_among 0 part.flags part.items place p live there)

  pub owned_in_tree : OwnsPlace (entry_at place p) (entries_in heap height 0)
  owned_in_tree x among same =
      live_known 0 part.flags part.items x place p (IsAmong-Permuted x tree.entries among) (omega (arith, same)) there
      ∙ ap (λ (n : ℕ). entry_at n p) same

-- the part in which it is dead has what is left
pub IsTree-marked : (part before : Contents Point) (old new : Heap) (height place : ℕ) (p : Point) → IsTree before old height → before ≡ record part { flags = before.flags }
    → part.flags ≡ slice_set before.flags place false → slice_get before.flags place ≡ Some true
    → IsHeap new height 0 → Permuted (entry_at place p ∷ entries_in new height 0) (entries_in old height 0) → IsSameOutside old new height 0
    → IsTree part new height
IsTree-marked part before old new height place p tree same_part died live heap taken same = record {
  small = omega (arith, tree.small, ap (λ (c : Contents Point). c.at_level) same_part);
  few = subst (λ (c : Contents Point). length c.items ≤ 2 ^ c.at_level) same_part tree.few;
  room = record {
    leaves = same.leaf_room ∙ (subst (λ (c : Contents Point). HasRoom c.at_level old) same_part tree.room).leaves;
    nodes = same.node_room ∙ (subst (λ (c : Contents Point). HasRoom c.at_level old) same_part tree.room).nodes;
  };
  shape = record {
    leaves = omega (arith, tree.shape.leaves, same.as_many_leaves, ap (λ (c : Contents Point). length c.items) same_part);
    low = tree.shape.low;
    places = λ some. omega (arith, tree.shape.places some, same.as_many_nodes);
    least = λ h few. tree.shape.least h (subst (λ (c : Contents Point). length c.items ≤ 2 ^ h) (sym same_part) few);
  };
  entries =
      subst (λ (flags : List Bool). Permuted (entries_in new height 0) (live_entries 0 flags part.items)) (sym died)
      (subst (λ (c : Contents Point). Permuted (entries_in new height 0) (live_entries 0 (slice_set before.flags place false) c.items)) same_part
      (Permuted-died (entry_at place p) (entries_in new height 0) (entries_in old height 0) before.flags before.items taken tree.entries live));
  ordered = heap;
}
