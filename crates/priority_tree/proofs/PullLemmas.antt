-- Laws of pulls and of holes.
use Rattle.std.proofs.Common.{◌≡◌, ℕ, zero, suc, ◌+◌, ◌^◌, ◌≤◌, List, [], ◌∷◌, ◌++◌, Option, Some, None, sym, ap₂, ◌∙◌, arith, subst}
use Rattle.std.specs.Option.{option_to_list}
use Rattle.query_laws.specs.Permuted.{Permuted, composed}
use Rattle.query_laws.proofs.Permutations.{Permuted-refl, Permuted-sym, Permuted-append, Permuted-append_right, Permuted-middle}
use Rattle.priority_tree.specs.declared.entry.Entry.{Entry}
use Rattle.priority_tree.specs.declared.heap.Heap.{Heap}
use Rattle.priority_tree.specs.Entries.{IsOver, IsFront}
use Rattle.priority_tree.specs.Tree.{node_at, entries_in, IsInside, IsHolder, IsHeap, IsHole, IsHeapBut, here, in_first, in_second, IsSameOutside, IsSameWithin, IsSet}
use Rattle.priority_tree.specs.Pulls.{IsPulled, IsBefore}
use Rattle.priority_tree.proofs.EntryLemmas.{IsOver-append, IsOver-before, IsOver-Permuted}
use Rattle.priority_tree.proofs.TreeLemmas

-- ---- holes within a tree

pub hole_within : {heap : Heap} {low hole : ℕ} (h start : ℕ) → IsHeapBut heap low hole h start → (start ≤ hole) × (hole + 2 ^ low ≤ start + 2 ^ h)
hole_within h start (here is) = (omega arith, omega arith)
hole_within _ _ (in_first h start held but heap) =
    let is = hole_within h start but in (is.0, omega (arith, is.1, TreeLemmas.doubled h))
hole_within _ _ (in_second h start held heap but) =
    let is = hole_within h (start + 2 ^ h) but in (omega (arith, is.0), omega (arith, is.1, TreeLemmas.doubled h))

pub hole_of : {heap : Heap} {low hole : ℕ} (h start : ℕ) → IsHeapBut heap low hole h start → IsHole heap low hole
hole_of h start (here is) = is
hole_of _ _ (in_first h start held but heap) = hole_of h start but
hole_of _ _ (in_second h start held heap but) = hole_of h (start + 2 ^ h) but

-- ---- a block in which a hole was moved or filled

halves_permuted : (o o' : Option Entry) {a a' b b' : List Entry} → o' ≡ o → Permuted a' a → Permuted b' b
    → Permuted (option_to_list o' ++ (a' ++ b')) (option_to_list o ++ (a ++ b))
halves_permuted o o' {a} {a'} {b} {b'} e p q =
    subst (λ (x : Option Entry). Permuted (option_to_list x ++ (a' ++ b')) (option_to_list o ++ (a ++ b))) (sym e)
    (Permuted-append_right (option_to_list o) (Permuted-append p q))

module _ {old new : Heap} {low hole : ℕ} (same : IsSameOutside old new low hole) (p : Permuted (entries_in new low hole) (entries_in old low hole)) where
  middle_behind : (h start : ℕ) → IsHeapBut old low hole h start → node_at new (start + 2 ^ h) ≡ node_at old (start + 2 ^ h)
  middle_behind h start but = same.nodes_behind (start + 2 ^ h) (hole_within h start but).1

  middle_before : (h start : ℕ) → IsHeapBut old low hole h (start + 2 ^ h) → node_at new (start + 2 ^ h) ≡ node_at old (start + 2 ^ h)
  middle_before h start but = same.nodes_before (start + 2 ^ h) (hole_within h (start + 2 ^ h) but).0

  second_same : (h start : ℕ) → IsHeapBut old low hole h start → IsSameWithin old new h (start + 2 ^ h)
  second_same h start but = TreeLemmas.IsSameWithin-behind low hole h (start + 2 ^ h) same (hole_within h start but).1

  first_same : (h start : ℕ) → IsHeapBut old low hole h (start + 2 ^ h) → IsSameWithin old new h start
  first_same h start but = TreeLemmas.IsSameWithin-before low hole h start same (hole_within h (start + 2 ^ h) but).0

  pub Permuted-replaced : (h start : ℕ) → IsHeapBut old low hole h start → Permuted (entries_in new h start) (entries_in old h start)
  Permuted-replaced _ _ (here is) = p
  Permuted-replaced _ _ (in_first h start held but heap) =
      halves_permuted (node_at old (start + 2 ^ h)) (node_at new (start + 2 ^ h)) (middle_behind h start but) (Permuted-replaced h start but)
      (TreeLemmas.Permuted-same (TreeLemmas.entries_in-same h (start + 2 ^ h) (second_same h start but)))
  Permuted-replaced _ _ (in_second h start held heap but) =
      halves_permuted (node_at old (start + 2 ^ h)) (node_at new (start + 2 ^ h)) (middle_before h start but)
      (TreeLemmas.Permuted-same (TreeLemmas.entries_in-same h start (first_same h start but))) (Permuted-replaced h (start + 2 ^ h) but)

  pub IsHeapBut-replaced : {low' hole' : ℕ} (h start : ℕ) → IsHeapBut old low hole h start → IsHeapBut new low' hole' low hole → IsHeapBut new low' hole' h start
  IsHeapBut-replaced _ _ (here is) now = now
  IsHeapBut-replaced _ _ (in_first h start held but heap) now =
      in_first h start
      (TreeLemmas.IsHolder-Permuted (suc h) start (node_at old (start + 2 ^ h)) (node_at new (start + 2 ^ h)) (middle_behind h start but)
      (Permuted-append (Permuted-sym (Permuted-replaced h start but))
      (TreeLemmas.Permuted-same (sym (TreeLemmas.entries_in-same h (start + 2 ^ h) (second_same h start but))))) held)
      (IsHeapBut-replaced h start but now)
      (TreeLemmas.IsHeap-same h (start + 2 ^ h) (second_same h start but) heap)
  IsHeapBut-replaced _ _ (in_second h start held heap but) now =
      in_second h start
      (TreeLemmas.IsHolder-Permuted (suc h) start (node_at old (start + 2 ^ h)) (node_at new (start + 2 ^ h)) (middle_before h start but)
      (Permuted-append (TreeLemmas.Permuted-same (sym (TreeLemmas.entries_in-same h start (first_same h start but))))
      (Permuted-sym (Permuted-replaced h (start + 2 ^ h) but))) held)
      (TreeLemmas.IsHeap-same h start (first_same h start but) heap)
      (IsHeapBut-replaced h (start + 2 ^ h) but now)

-- a hole in a leaf is none
pub whole : {heap : Heap} {hole : ℕ} (h start : ℕ) → IsHeapBut heap zero hole h start → IsHeap heap h start
whole _ _ (here is) = is
whole _ _ (in_first h start held but heap) = (held, whole h start but, heap)
whole _ _ (in_second h start held heap but) = (held, heap, whole h (start + 2 ^ h) but)

first_leaf : (heap : Heap) (h start : ℕ) → IsHeap heap h start → IsHeapBut heap zero start h start
first_leaf heap zero start held = here held
first_leaf heap (suc h) start held = in_first h start held.0 (first_leaf heap h start held.1) held.2

pub filled : {old new : Heap} {low hole : ℕ} (h start : ℕ) → IsHeapBut old low hole h start → IsSameOutside old new low hole
    → Permuted (entries_in new low hole) (entries_in old low hole) → IsHeap new low hole → IsHeap new h start
filled {old} {new} {low} {hole} h start but same p held = whole h start (IsHeapBut-replaced same p h start but (first_leaf new low hole held))

-- ---- one pull

over_other : (e : Entry) (o : Option Entry) (es : List Entry) → IsBefore e o → IsFront o es → IsOver e es
over_other e None es before none = subst (λ (l : List Entry). IsOver e l) (sym none) tt
over_other e (Some f) es before front = IsOver-before e f es before front.1

-- where nothing stands below, the hole goes down alone
pub IsPulled-none : (heap : Heap) (h start : ℕ) → IsHole heap (suc h) start → entries_in heap h start ≡ [] → entries_in heap h (start + 2 ^ h) ≡ []
    → IsPulled heap heap (suc h) start h start
IsPulled-none heap h start hole first second = record {
  but = in_first h start
      (subst (λ (o : Option Entry). IsHolder (suc h) start o (entries_in heap h start ++ entries_in heap h (start + 2 ^ h))) (sym hole.0)
      (ap₂ (λ (a b : List Entry). a ++ b) first second))
      (here (TreeLemmas.IsHole-empty heap h start hole.1 first)) hole.2;
  same_entries = Permuted-refl (entries_in heap (suc h) start);
  same = TreeLemmas.IsSameOutside-itself heap (suc h) start;
}

module _ (old mid new : Heap) (h start : ℕ) (e : Entry) (set : IsSet mid new (start + 2 ^ h) (Some e)) (hole : IsHole old (suc h) start) where
  holder : IsInside (suc h) start e → IsOver e (entries_in new h start ++ entries_in new h (start + 2 ^ h))
      → IsHolder (suc h) start (node_at new (start + 2 ^ h)) (entries_in new h start ++ entries_in new h (start + 2 ^ h))
  holder is over = subst (λ (o : Option Entry). IsHolder (suc h) start o (entries_in new h start ++ entries_in new h (start + 2 ^ h))) (sym set.here) (is, over)

  first_set : IsSameWithin mid new h start
  first_set = TreeLemmas.IsSameWithin-set_first h start (Some e) set

  second_set : IsSameWithin mid new h (start + 2 ^ h)
  second_set = TreeLemmas.IsSameWithin-set_second h start (Some e) set

  lifted : Permuted (e ∷ (entries_in new h start ++ entries_in new h (start + 2 ^ h))) (entries_in old h start ++ entries_in old h (start + 2 ^ h))
      → Permuted (entries_in new (suc h) start) (entries_in old (suc h) start)
  lifted p =
      subst (λ (o : Option Entry). Permuted (option_to_list o ++ (entries_in new h start ++ entries_in new h (start + 2 ^ h))) (entries_in old (suc h) start)) (sym set.here)
      (subst (λ (o : Option Entry). Permuted (e ∷ (entries_in new h start ++ entries_in new h (start + 2 ^ h))) (option_to_list o ++ (entries_in old h start ++ entries_in old h (start + 2 ^ h)))) (sym hole.0) p)

  -- the first half has the better point
  pub IsPulled-first : (o : Option Entry) → IsFront (Some e) (entries_in old h start) → IsFront o (entries_in old h (start + 2 ^ h)) → IsBefore e o
      → IsHole mid h start → Permuted (e ∷ entries_in mid h start) (entries_in old h start) → IsSameOutside old mid h start → IsPulled old new (suc h) start h start
  IsPulled-first o front other before hole_mid taken same =
      let second_mid : IsSameWithin old mid h (start + 2 ^ h) = TreeLemmas.IsSameWithin-behind h start h (start + 2 ^ h) same (omega arith) in
      let first_is : entries_in new h start ≡ entries_in mid h start = TreeLemmas.entries_in-same h start first_set in
      let second_is : entries_in new h (start + 2 ^ h) ≡ entries_in old h (start + 2 ^ h) =
      TreeLemmas.entries_in-same h (start + 2 ^ h) second_set ∙ TreeLemmas.entries_in-same h (start + 2 ^ h) second_mid in
      let over_first : IsOver e (entries_in new h start) =
      subst (λ (l : List Entry). IsOver e l) (sym first_is) (IsOver-Permuted e (Permuted-sym taken) front.1).1 in
      let over_second : IsOver e (entries_in new h (start + 2 ^ h)) =
      subst (λ (l : List Entry). IsOver e l) (sym second_is) (over_other e o (entries_in old h (start + 2 ^ h)) before other) in
      let p : Permuted (e ∷ entries_in new h start) (entries_in old h start) = subst (λ (l : List Entry). Permuted (e ∷ l) (entries_in old h start)) (sym first_is) taken in
      record {
        but = in_first h start
            (holder (TreeLemmas.wider_first h start e (TreeLemmas.inside old h start hole.1 e front.0))
            (IsOver-append e (entries_in new h start) (entries_in new h (start + 2 ^ h)) over_first over_second))
            (here (TreeLemmas.IsHole-same h start first_set hole_mid))
            (TreeLemmas.IsHeap-same h (start + 2 ^ h) second_set (TreeLemmas.IsHeap-same h (start + 2 ^ h) second_mid hole.2));
        same_entries = lifted (Permuted-append p (TreeLemmas.Permuted-same second_is));
        same = TreeLemmas.IsSameOutside-then h start (suc h) start (omega arith) (omega (arith, TreeLemmas.doubled h)) same (TreeLemmas.IsSameOutside-set h start (Some e) set);
      }

  -- the second half has it
  pub IsPulled-second : (o : Option Entry) → IsFront o (entries_in old h start) → IsFront (Some e) (entries_in old h (start + 2 ^ h)) → IsBefore e o
      → IsHole mid h (start + 2 ^ h) → Permuted (e ∷ entries_in mid h (start + 2 ^ h)) (entries_in old h (start + 2 ^ h))
      → IsSameOutside old mid h (start + 2 ^ h) → IsPulled old new (suc h) start h (start + 2 ^ h)
  IsPulled-second o other front before hole_mid taken same =
      let first_mid : IsSameWithin old mid h start = TreeLemmas.IsSameWithin-before h (start + 2 ^ h) h start same (omega arith) in
      let first_is : entries_in new h start ≡ entries_in old h start =
      TreeLemmas.entries_in-same h start first_set ∙ TreeLemmas.entries_in-same h start first_mid in
      let second_is : entries_in new h (start + 2 ^ h) ≡ entries_in mid h (start + 2 ^ h) = TreeLemmas.entries_in-same h (start + 2 ^ h) second_set in
      let over_first : IsOver e (entries_in new h start) =
      subst (λ (l : List Entry). IsOver e l) (sym first_is) (over_other e o (entries_in old h start) before other) in
      let over_second : IsOver e (entries_in new h (start + 2 ^ h)) =
      subst (λ (l : List Entry). IsOver e l) (sym second_is) (IsOver-Permuted e (Permuted-sym taken) front.1).1 in
      let p : Permuted (e ∷ entries_in new h (start + 2 ^ h)) (entries_in old h (start + 2 ^ h)) =
      subst (λ (l : List Entry). Permuted (e ∷ l) (entries_in old h (start + 2 ^ h))) (sym second_is) taken in
      record {
        but = in_second h start
            (holder (TreeLemmas.wider_second h start e (TreeLemmas.inside old h (start + 2 ^ h) hole.2 e front.0))
            (IsOver-append e (entries_in new h start) (entries_in new h (start + 2 ^ h)) over_first over_second))
            (TreeLemmas.IsHeap-same h start first_set (TreeLemmas.IsHeap-same h start first_mid hole.1))
            (here (TreeLemmas.IsHole-same h (start + 2 ^ h) second_set hole_mid));
        same_entries = lifted (composed (Permuted-sym (Permuted-middle (entries_in new h start) e (entries_in new h (start + 2 ^ h)))) (Permuted-append (TreeLemmas.Permuted-same first_is) p));
        same = TreeLemmas.IsSameOutside-then h (start + 2 ^ h) (suc h) start (omega arith) (omega (arith, TreeLemmas.doubled h)) same (TreeLemmas.IsSameOutside-set h start (Some e) set);
      }

-- a hole is no higher than the block that has it
pub hole_low : {heap : Heap} {low hole : ℕ} (h start : ℕ) → IsHeapBut heap low hole h start → low ≤ h
hole_low h start (here is) = omega arith
hole_low _ _ (in_first h start held but heap) = omega (arith, hole_low h start but)
hole_low _ _ (in_second h start held heap but) = omega (arith, hole_low h (start + 2 ^ h) but)
