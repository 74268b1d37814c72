-- The laws of trees at a height that code has: one above a lower one.
use Rattle.std.proofs.Common.{◌≡◌, ℕ, suc, ◌+◌, ◌*◌, ◌^◌, ◌<◌, ◌≤◌, List, [], ◌∷◌, ◌++◌, Option, Some, None, length, refl, sym, ap, ◌∙◌, arith, inl, inr, ◌⊎◌, subst, Bool, true, false, ◌==◌, eq-eqb}
use Rattle.std.proofs.lemmas.Bool.{both_ways}
use Rattle.std.proofs.lemmas.Bool.Decides.{nat_tests}
use Rattle.std.specs.Option.{IfSome, option_to_list}
use Rattle.std.proofs.lemmas.Nat.{pow_pos}
use Rattle.query_laws.specs.Permuted.{Permuted, composed}
use Rattle.query_laws.proofs.Permutations.{Permuted-sym, Permuted-append, Permuted-append_right, Permuted-middle, Permuted-length}
use Rattle.priority_tree.specs.declared.entry.Entry.{Entry}
use Rattle.priority_tree.specs.declared.heap.Heap.{Heap}
use Rattle.priority_tree.specs.Entries.{IsAmong, IsFront, OwnsPlace, holds_place}
use Rattle.priority_tree.specs.Tree.{node_at, entries_in, IsHolder, IsHeap, IsHole, IsHead, IsBlock, IsSameOutside, IsSameWithin, IsSet}
use Rattle.priority_tree.specs.Pulls.{IsPulled, IsWinner}
use Rattle.priority_tree.proofs.EntryLemmas.{IsAmong-cases, IsAmong-first, IsAmong-second, IsOver-Permuted}
use Rattle.priority_tree.proofs.TreeLemmas
use Rattle.priority_tree.proofs.PullLemmas

module _ (heap : Heap) (h low start k : ℕ) (o : Option Entry) (e : h ≡ suc low) (at : k ≡ start + 2 ^ low) (is : o ≡ node_at heap k) where
  pub front-at : IsHeap heap h start → IsFront o (entries_in heap h start)
  front-at held =
      subst (λ (n : ℕ). IsFront o (entries_in heap n start)) (sym e)
      (subst (λ (p : Option Entry). IsFront p (entries_in heap (suc low) start)) (sym (is ∙ ap (node_at heap) at))
      (TreeLemmas.IsFront-heap heap low start (subst (λ (n : ℕ). IsHeap heap n start) e held)))

  by_head : (p : Option Entry) → node_at heap (start + 2 ^ low) ≡ p → IfSome p (λ x. IsHead heap (suc low) start x)
  by_head None is = tt
  by_head (Some x) is = is

  pub head-at : IfSome o (λ x. IsHead heap h start x)
  head-at = subst (λ (n : ℕ). IfSome o (λ x. IsHead heap n start x)) (sym e) (by_head o (ap (node_at heap) (sym at) ∙ sym is))

-- the halves of a block
module _ (heap : Heap) (h low start k : ℕ) (e : h ≡ suc low) (at : k ≡ start + 2 ^ low) where
  pub first_block : IsBlock heap h start → IsBlock heap low start
  first_block block = TreeLemmas.IsBlock-first heap low start (subst (λ (n : ℕ). IsBlock heap n start) e block)

  pub second_block : IsBlock heap h start → IsBlock heap low k
  second_block block = subst (λ (n : ℕ). IsBlock heap low n) (sym at) (TreeLemmas.IsBlock-second heap low start (subst (λ (n : ℕ). IsBlock heap n start) e block))

  pub place_there : IsBlock heap h start → k < length heap.nodes.items
  place_there block =
      let is = subst (λ (n : ℕ). IsBlock heap n start) e block in
      omega (arith, is.places (omega arith), TreeLemmas.doubled low, pow_pos low)

  pub first_heap : IsHeap heap h start → IsHeap heap low start
  first_heap held = (subst (λ (n : ℕ). IsHeap heap n start) e held).1

  pub second_heap : IsHeap heap h start → IsHeap heap low k
  second_heap held = subst (λ (n : ℕ). IsHeap heap low n) (sym at) (subst (λ (n : ℕ). IsHeap heap n start) e held).2

  pub first_of_hole : IsHole heap h start → IsHeap heap low start
  first_of_hole held = (subst (λ (n : ℕ). IsHole heap n start) e held).1

  pub second_of_hole : IsHole heap h start → IsHeap heap low k
  second_of_hole held = subst (λ (n : ℕ). IsHeap heap low n) (sym at) (subst (λ (n : ℕ). IsHole heap n start) e held).2

module _ (old new : Heap) (h low start k : ℕ) (e : h ≡ suc low) (at : k ≡ start + 2 ^ low) (set : IsSet old new k None) where
  set_there : IsSet old new (start + 2 ^ low) None
  set_there = subst (λ (n : ℕ). IsSet old new n None) at set

  pub hole-at : IsHeap old h start → IsHole new h start
  hole-at held = subst (λ (n : ℕ). IsHole new n start) (sym e) (TreeLemmas.IsHole-taken low start set_there (subst (λ (n : ℕ). IsHeap old n start) e held))

  pub taken-at : (x : Entry) → IsHead old h start x → Permuted (x ∷ entries_in new h start) (entries_in old h start)
  taken-at x head = subst (λ (n : ℕ). Permuted (x ∷ entries_in new n start) (entries_in old n start)) (sym e)
      (TreeLemmas.Permuted-taken low start set_there x (subst (λ (n : ℕ). IsHead old n start x) e head))

  pub outside-at : IsSameOutside old new h start
  outside-at = subst (λ (n : ℕ). IsSameOutside old new n start) (sym e) (TreeLemmas.IsSameOutside-set low start None set_there)

-- ---- one pull

pub pulled_none-at : (heap : Heap) (h low start middle : ℕ) (first second : Option Entry) → h ≡ suc low → middle ≡ start + 2 ^ low → IsHole heap h start
    → IsFront first (entries_in heap low start) → IsFront second (entries_in heap low middle) → IsWinner first start second middle None → IsPulled heap heap h start low start
pulled_none-at heap h low start middle first second e at hole front_first front_second won =
    let at_first : entries_in heap low start ≡ [] = subst (λ (o : Option Entry). IsFront o (entries_in heap low start)) won.0 front_first in
    let at_second : entries_in heap low middle ≡ [] = subst (λ (o : Option Entry). IsFront o (entries_in heap low middle)) won.1 front_second in
    subst (λ (n : ℕ). IsPulled heap heap n start low start) (sym e)
    (PullLemmas.IsPulled-none heap low start (subst (λ (n : ℕ). IsHole heap n start) e hole) at_first
    (subst (λ (n : ℕ). entries_in heap low n ≡ []) at at_second))

-- what the block that has the better point is
pub winner_head : (heap : Heap) (low start middle child : ℕ) (x : Entry) (first second : Option Entry) → IsWinner first start second middle (Some (x, child))
    → IfSome first (λ y. IsHead heap low start y) → IfSome second (λ y. IsHead heap low middle y) → IsHead heap low child x
winner_head heap low start middle child x first second (inl won) head_first head_second =
    subst (λ (n : ℕ). IsHead heap low n x) (sym won.0) (subst (λ (o : Option Entry). IfSome o (λ y. IsHead heap low start y)) won.1 head_first)
winner_head heap low start middle child x first second (inr won) head_first head_second =
    subst (λ (n : ℕ). IsHead heap low n x) (sym won.0) (subst (λ (o : Option Entry). IfSome o (λ y. IsHead heap low middle y)) won.1 head_second)

pub winner_is : (P : ℕ → Type 0) (start middle child : ℕ) (x : Entry) (first second : Option Entry) → IsWinner first start second middle (Some (x, child)) → P start → P middle → P child
winner_is P start middle child x first second (inl won) at_first at_second = subst P (sym won.0) at_first
winner_is P start middle child x first second (inr won) at_first at_second = subst P (sym won.0) at_second

module _ (old mid new : Heap) (low start child : ℕ) (x : Entry) (first second : Option Entry) (hole : IsHole old (suc low) start) (set : IsSet mid new (start + 2 ^ low) (Some x))
    (front_first : IsFront first (entries_in old low start)) (front_second : IsFront second (entries_in old low (start + 2 ^ low))) where
  pulled : IsWinner first start second (start + 2 ^ low) (Some (x, child)) → IsHole mid low child → Permuted (x ∷ entries_in mid low child) (entries_in old low child)
      → IsSameOutside old mid low child → IsPulled old new (suc low) start low child
  pulled (inl won) hole_mid taken same =
      subst (λ (n : ℕ). IsPulled old new (suc low) start low n) (sym won.0)
      (PullLemmas.IsPulled-first old mid new low start x set hole second
      (subst (λ (o : Option Entry). IsFront o (entries_in old low start)) won.1 front_first) front_second won.2
      (subst (λ (n : ℕ). IsHole mid low n) won.0 hole_mid) (subst (λ (n : ℕ). Permuted (x ∷ entries_in mid low n) (entries_in old low n)) won.0 taken)
      (subst (λ (n : ℕ). IsSameOutside old mid low n) won.0 same))
  pulled (inr won) hole_mid taken same =
      subst (λ (n : ℕ). IsPulled old new (suc low) start low n) (sym won.0)
      (PullLemmas.IsPulled-second old mid new low start x set hole first front_first
      (subst (λ (o : Option Entry). IsFront o (entries_in old low (start + 2 ^ low))) won.1 front_second) won.2
      (subst (λ (n : ℕ). IsHole mid low n) won.0 hole_mid) (subst (λ (n : ℕ). Permuted (x ∷ entries_in mid low n) (entries_in old low n)) won.0 taken)
      (subst (λ (n : ℕ). IsSameOutside old mid low n) won.0 same))

pub pulled-at : (old mid new : Heap) (h low start middle child : ℕ) (x : Entry) (first second : Option Entry) → h ≡ suc low → middle ≡ start + 2 ^ low → IsHole old h start
    → IsFront first (entries_in old low start) → IsFront second (entries_in old low middle) → IsWinner first start second middle (Some (x, child))
    → IsHole mid low child → Permuted (x ∷ entries_in mid low child) (entries_in old low child) → IsSameOutside old mid low child → IsSet mid new middle (Some x)
    → IsPulled old new h start low child
pulled-at old mid new h low start middle child x first second e at hole front_first front_second won hole_mid taken same set =
    subst (λ (n : ℕ). IsPulled old new n start low child) (sym e)
    (pulled old mid new low start child x first second (subst (λ (n : ℕ). IsHole old n start) e hole) (subst (λ (n : ℕ). IsSet mid new n (Some x)) at set)
    front_first (subst (λ (n : ℕ). IsFront second (entries_in old low n)) at front_second)
    (subst (λ (n : ℕ). IsWinner first start second n (Some (x, child))) at won) hole_mid taken same)

-- ---- holes that are filled all the way down

module _ (old mid : Heap) (h low start child : ℕ) (pulled : IsPulled old mid h start low child) where
  pub child_block : h ≡ suc low → IsBlock old h start → IsBlock mid low child
  child_block e block = let within = PullLemmas.hole_within h start pulled.but in record {
    low = omega (arith, block.low);
    small = omega (arith, block.small, within.1);
    places = λ some. omega (arith, block.places (omega arith), within.1, pulled.same.as_many_nodes);
  }

  pub child_hole : IsHole mid low child
  child_hole = PullLemmas.hole_of h start pulled.but

  module _ (new : Heap) (heap : IsHeap new low child) (p : Permuted (entries_in new low child) (entries_in mid low child)) (same : IsSameOutside mid new low child) where
    pub filled_heap : IsHeap new h start
    filled_heap = PullLemmas.filled h start pulled.but same p heap

    pub filled_entries : Permuted (entries_in new h start) (entries_in old h start)
    filled_entries = composed (PullLemmas.Permuted-replaced same p h start pulled.but) pulled.same_entries

    pub filled_same : IsSameOutside old new h start
    filled_same =
        let within = PullLemmas.hole_within h start pulled.but in
        TreeLemmas.IsSameOutside-then h start h start (omega arith) (omega arith) pulled.same
        (TreeLemmas.IsSameOutside-wider low child h start within.0 within.1 same)

-- ---- a point is removed from half of a block

same_number : (n : ℕ) → (n == n) ≡ true
same_number n = eq-eqb n n refl

number_of : (a b : ℕ) → (a == b) ≡ true → a ≡ b
number_of a b is = grind (arith, nat_tests)

-- the place of a block that holds the place of a point that is there holds that point
held_there : (o : Option Entry) (below : List Entry) (x : Entry) → OwnsPlace x (option_to_list o ++ below) → holds_place o x.place ≡ true → o ≡ Some x
held_there None below x owned holds = absurd (both_ways false refl holds)
held_there (Some y) below x owned holds = ap (λ (z : Entry). Some z) (owned y (inl refl) (number_of y.place x.place holds))

pub head_of_holds : (heap : Heap) (h low start k : ℕ) (x : Entry) (holds : Bool) → h ≡ suc low → k ≡ start + 2 ^ low → OwnsPlace x (entries_in heap h start)
    → holds ≡ holds_place (node_at heap k) x.place → holds ≡ true → IsHead heap h start x
head_of_holds heap h low start k x holds e at owned is true_is =
    subst (λ (n : ℕ). IsHead heap n start x) (sym e)
    (held_there (node_at heap (start + 2 ^ low)) (entries_in heap low start ++ entries_in heap low (start + 2 ^ low)) x
    (subst (λ (n : ℕ). OwnsPlace x (entries_in heap n start)) e owned)
    (ap (λ (n : ℕ). holds_place (node_at heap n) x.place) (sym at) ∙ sym is ∙ true_is))

-- where it holds another one, the point is in the half that has its place
among_below : (o : Option Entry) (below : List Entry) (x : Entry) → holds_place o x.place ≡ false → IsAmong x (option_to_list o ++ below) → IsAmong x below
among_below None below x holds among = among
among_below (Some y) below x holds (inl is) =
    absurd (both_ways (y.place == x.place) holds (ap (λ (z : Entry). z.place == x.place) (sym is) ∙ same_number x.place))
among_below (Some y) below x holds (inr among) = among

module _ (heap : Heap) (low start : ℕ) (x : Entry) (held : IsHeap heap (suc low) start) (among : IsAmong x (entries_in heap (suc low) start))
    (holds : holds_place (node_at heap (start + 2 ^ low)) x.place ≡ false) where
  below : IsAmong x (entries_in heap low start) ⊎ IsAmong x (entries_in heap low (start + 2 ^ low))
  below = IsAmong-cases x (entries_in heap low start) (entries_in heap low (start + 2 ^ low))
      (among_below (node_at heap (start + 2 ^ low)) (entries_in heap low start ++ entries_in heap low (start + 2 ^ low)) x holds among)

  in_first_half : x.place < 16 * (start + 2 ^ low) → IsAmong x (entries_in heap low start)
  in_first_half less = elim below [
    | inl there ↦ there
    | inr there ↦ absurd (omega (arith, less, (TreeLemmas.inside heap low (start + 2 ^ low) held.2 x there).from))
  ]

  in_second_half : 16 * (start + 2 ^ low) ≤ x.place → IsAmong x (entries_in heap low (start + 2 ^ low))
  in_second_half more = elim below [
    | inl there ↦ absurd (omega (arith, more, (TreeLemmas.inside heap low start held.1 x there).to))
    | inr there ↦ there
  ]

-- such a point isn't any other one of the half either
owned_first : (o : Option Entry) (us vs : List Entry) (x : Entry) → OwnsPlace x (option_to_list o ++ (us ++ vs)) → OwnsPlace x us
owned_first o us vs x owned y among = owned y (IsAmong-second y (option_to_list o) (us ++ vs) (IsAmong-first y us vs among))

owned_second : (o : Option Entry) (us vs : List Entry) (x : Entry) → OwnsPlace x (option_to_list o ++ (us ++ vs)) → OwnsPlace x vs
owned_second o us vs x owned y among = owned y (IsAmong-second y (option_to_list o) (us ++ vs) (IsAmong-second y us vs among))

-- one fewer below
holder_fewer : (h start : ℕ) (o : Option Entry) (below below' : List Entry) (x : Entry) → Permuted (x ∷ below') below → IsHolder h start o below → IsHolder h start o below'
holder_fewer h start None below below' x p none = absurd (omega (arith, Permuted-length p, ap length none))
holder_fewer h start (Some y) below below' x p held = (held.0, (IsOver-Permuted y (Permuted-sym p) held.1).1)

removed_below : (o o' : Option Entry) (below below' : List Entry) (x : Entry) → o' ≡ o → Permuted (x ∷ below') below
    → Permuted (x ∷ (option_to_list o' ++ below')) (option_to_list o ++ below)
removed_below o o' below below' x e p =
    subst (λ (q : Option Entry). Permuted (x ∷ (option_to_list q ++ below')) (option_to_list o ++ below)) (sym e)
    (composed (Permuted-sym (Permuted-middle (option_to_list o) x below')) (Permuted-append_right (option_to_list o) p))

module _ (old new : Heap) (low start : ℕ) (x : Entry) (held : IsHeap old (suc low) start) where
  module _ (at : ℕ) (same : IsSameOutside old new low at) (middle : node_at new (start + 2 ^ low) ≡ node_at old (start + 2 ^ low))
      (p : Permuted (x ∷ (entries_in new low start ++ entries_in new low (start + 2 ^ low))) (entries_in old low start ++ entries_in old low (start + 2 ^ low))) where
    fewer : IsHolder (suc low) start (node_at new (start + 2 ^ low)) (entries_in new low start ++ entries_in new low (start + 2 ^ low))
    fewer = subst (λ (o : Option Entry). IsHolder (suc low) start o (entries_in new low start ++ entries_in new low (start + 2 ^ low))) (sym middle)
        (holder_fewer (suc low) start (node_at old (start + 2 ^ low)) (entries_in old low start ++ entries_in old low (start + 2 ^ low))
        (entries_in new low start ++ entries_in new low (start + 2 ^ low)) x p held.0)

    removed : Permuted (x ∷ entries_in new (suc low) start) (entries_in old (suc low) start)
    removed = removed_below (node_at old (start + 2 ^ low)) (node_at new (start + 2 ^ low)) (entries_in old low start ++ entries_in old low (start + 2 ^ low))
        (entries_in new low start ++ entries_in new low (start + 2 ^ low)) x middle p

  removed_first : IsHeap new low start → Permuted (x ∷ entries_in new low start) (entries_in old low start) → IsSameOutside old new low start
      → IsHeap new (suc low) start × Permuted (x ∷ entries_in new (suc low) start) (entries_in old (suc low) start)
  removed_first heap taken same =
      let behind : IsSameWithin old new low (start + 2 ^ low) = TreeLemmas.IsSameWithin-behind low start low (start + 2 ^ low) same (omega arith) in
      let middle : node_at new (start + 2 ^ low) ≡ node_at old (start + 2 ^ low) = same.nodes_behind (start + 2 ^ low) (omega arith) in
      let p : Permuted (x ∷ (entries_in new low start ++ entries_in new low (start + 2 ^ low))) (entries_in old low start ++ entries_in old low (start + 2 ^ low)) =
      Permuted-append taken (TreeLemmas.Permuted-same (TreeLemmas.entries_in-same low (start + 2 ^ low) behind)) in (
        (fewer start same middle p, heap, TreeLemmas.IsHeap-same low (start + 2 ^ low) behind held.2),
        removed start same middle p,
      )

  removed_second : IsHeap new low (start + 2 ^ low) → Permuted (x ∷ entries_in new low (start + 2 ^ low)) (entries_in old low (start + 2 ^ low))
      → IsSameOutside old new low (start + 2 ^ low)
      → IsHeap new (suc low) start × Permuted (x ∷ entries_in new (suc low) start) (entries_in old (suc low) start)
  removed_second heap taken same =
      let before : IsSameWithin old new low start = TreeLemmas.IsSameWithin-before low (start + 2 ^ low) low start same (omega arith) in
      let middle : node_at new (start + 2 ^ low) ≡ node_at old (start + 2 ^ low) = same.nodes_before (start + 2 ^ low) (omega arith) in
      let p : Permuted (x ∷ (entries_in new low start ++ entries_in new low (start + 2 ^ low))) (entries_in old low start ++ entries_in old low (start + 2 ^ low)) =
      composed (Permuted-sym (Permuted-middle (entries_in new low start) x (entries_in new low (start + 2 ^ low))))
      (Permuted-append (TreeLemmas.Permuted-same (TreeLemmas.entries_in-same low start before)) taken) in (
        (fewer (start + 2 ^ low) same middle p, TreeLemmas.IsHeap-same low start before held.1, heap),
        removed (start + 2 ^ low) same middle p,
      )

-- at a height that code has
module _ (heap : Heap) (h low start k : ℕ) (x : Entry) (e : h ≡ suc low) (at : k ≡ start + 2 ^ low) (held : IsHeap heap h start)
    (among : IsAmong x (entries_in heap h start)) (owned : OwnsPlace x (entries_in heap h start)) (holds : holds_place (node_at heap k) x.place ≡ false) where
  pub first_among : x.place < 16 * k → IsAmong x (entries_in heap low start)
  first_among less =
      in_first_half heap low start x (subst (λ (n : ℕ). IsHeap heap n start) e held) (subst (λ (n : ℕ). IsAmong x (entries_in heap n start)) e among)
      (subst (λ (n : ℕ). holds_place (node_at heap n) x.place ≡ false) at holds) (subst (λ (n : ℕ). x.place < 16 * n) at less)

  pub second_among : 16 * k ≤ x.place → IsAmong x (entries_in heap low k)
  second_among more =
      subst (λ (n : ℕ). IsAmong x (entries_in heap low n)) (sym at)
      (in_second_half heap low start x (subst (λ (n : ℕ). IsHeap heap n start) e held) (subst (λ (n : ℕ). IsAmong x (entries_in heap n start)) e among)
      (subst (λ (n : ℕ). holds_place (node_at heap n) x.place ≡ false) at holds) (subst (λ (n : ℕ). 16 * n ≤ x.place) at more))

  pub first_owned : OwnsPlace x (entries_in heap low start)
  first_owned = owned_first (node_at heap (start + 2 ^ low)) (entries_in heap low start) (entries_in heap low (start + 2 ^ low)) x
      (subst (λ (n : ℕ). OwnsPlace x (entries_in heap n start)) e owned)

  pub second_owned : OwnsPlace x (entries_in heap low k)
  second_owned = subst (λ (n : ℕ). OwnsPlace x (entries_in heap low n)) (sym at)
      (owned_second (node_at heap (start + 2 ^ low)) (entries_in heap low start) (entries_in heap low (start + 2 ^ low)) x
      (subst (λ (n : ℕ). OwnsPlace x (entries_in heap n start)) e owned))

module _ (old new : Heap) (h low start k : ℕ) (x : Entry) (e : h ≡ suc low) (at : k ≡ start + 2 ^ low) (held : IsHeap old h start) where
  pub removed_first-at : IsHeap new low start → Permuted (x ∷ entries_in new low start) (entries_in old low start) → IsSameOutside old new low start
      → IsHeap new h start × Permuted (x ∷ entries_in new h start) (entries_in old h start) × IsSameOutside old new h start
  removed_first-at heap taken same =
      let both = removed_first old new low start x (subst (λ (n : ℕ). IsHeap old n start) e held) heap taken same in
      subst (λ (n : ℕ). IsHeap new n start × Permuted (x ∷ entries_in new n start) (entries_in old n start) × IsSameOutside old new n start) (sym e)
      (both.0, both.1, TreeLemmas.IsSameOutside-wider low start (suc low) start (omega arith) (omega (arith, TreeLemmas.doubled low)) same)

  pub removed_second-at : IsHeap new low k → Permuted (x ∷ entries_in new low k) (entries_in old low k) → IsSameOutside old new low k
      → IsHeap new h start × Permuted (x ∷ entries_in new h start) (entries_in old h start) × IsSameOutside old new h start
  removed_second-at heap taken same =
      let there = subst (λ (n : ℕ). IsSameOutside old new low n) at same in
      let both = removed_second old new low start x (subst (λ (n : ℕ). IsHeap old n start) e held) (subst (λ (n : ℕ). IsHeap new low n) at heap)
      (subst (λ (n : ℕ). Permuted (x ∷ entries_in new low n) (entries_in old low n)) at taken) there in
      subst (λ (n : ℕ). IsHeap new n start × Permuted (x ∷ entries_in new n start) (entries_in old n start) × IsSameOutside old new n start) (sym e)
      (both.0, both.1, TreeLemmas.IsSameOutside-wider low (start + 2 ^ low) (suc low) start (omega arith) (omega (arith, TreeLemmas.doubled low)) there)
