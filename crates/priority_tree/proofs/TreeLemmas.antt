-- Laws of trees: their halves, and what a change in one block leaves as it was.
use Rattle.std.proofs.Common.{◌≡◌, ℕ, zero, suc, ◌+◌, ◌*◌, ◌^◌, ◌≤◌, List, [], ◌∷◌, ◌++◌, length, Option, Some, None, refl, sym, ap, ap₂, ◌∙◌, arith, inl, inr, ◌⊎◌, subst, pow-suc}
use Rattle.std.specs.Option.{option_to_list}
use Rattle.std.proofs.lemmas.Nat.{pow_pos}
use Rattle.query_laws.specs.Permuted.{Permuted}
use Rattle.query_laws.proofs.Permutations.{Permuted-refl, Permuted-length}
use Rattle.priority_tree.specs.declared.entry.Entry.{Entry}
use Rattle.priority_tree.specs.declared.leaf.Leaf.{Leaf}
use Rattle.priority_tree.specs.declared.heap.Heap.{Heap}
use Rattle.priority_tree.specs.Entries.{IsAmong, IsFront, entries_from, empty_leaf}
use Rattle.query_laws.specs.StepLedger.{Entries}
use Rattle.std.specs.List.{slice_index_or}
use Rattle.priority_tree.specs.Tree.{node_at, leaf_at, entries_in, IsInside, IsHolder, IsHeap, IsHole, IsBlock, IsSameOutside, IsSameWithin, IsSet}
use Rattle.priority_tree.proofs.EntryLemmas.{IsAmong-cases, IsOver-Permuted, comes_first-itself}
use Rattle.priority_tree.proofs.LeafLemmas.{place_among}

pub doubled : (h : ℕ) → 2 ^ suc h ≡ 2 ^ h + 2 ^ h
doubled h = omega (arith, pow-suc 2 h)

-- ---- halves

pub IsSameWithin-first : {old new : Heap} (h start : ℕ) → IsSameWithin old new (suc h) start → IsSameWithin old new h start
IsSameWithin-first h start same = record {
  nodes = λ k low high. same.nodes k low (omega (arith, doubled h));
  leaves = λ l low high. same.leaves l low (omega (arith, doubled h));
}

pub IsSameWithin-second : {old new : Heap} (h start : ℕ) → IsSameWithin old new (suc h) start → IsSameWithin old new h (start + 2 ^ h)
IsSameWithin-second h start same = record {
  nodes = λ k low high. same.nodes k (omega arith) (omega (arith, doubled h));
  leaves = λ l low high. same.leaves l (omega arith) (omega (arith, doubled h));
}

pub middle-same : {old new : Heap} (h start : ℕ) → IsSameWithin old new (suc h) start → node_at new (start + 2 ^ h) ≡ node_at old (start + 2 ^ h)
middle-same h start same = same.nodes (start + 2 ^ h) (omega (arith, pow_pos h)) (omega (arith, doubled h, pow_pos h))

pub IsBlock-first : (heap : Heap) (h start : ℕ) → IsBlock heap (suc h) start → IsBlock heap h start
IsBlock-first heap h start block = record {
  low = omega (arith, block.low);
  small = omega (arith, block.small, doubled h);
  places = λ some. omega (arith, block.places (omega arith), doubled h);
}

pub IsBlock-second : (heap : Heap) (h start : ℕ) → IsBlock heap (suc h) start → IsBlock heap h (start + 2 ^ h)
IsBlock-second heap h start block = record {
  low = omega (arith, block.low);
  small = omega (arith, block.small, doubled h);
  places = λ some. omega (arith, block.places (omega arith), doubled h);
}

-- ---- what is the same

halves_same : (o o' : Option Entry) (a a' b b' : List Entry) → o' ≡ o → a' ≡ a → b' ≡ b
    → option_to_list o' ++ (a' ++ b') ≡ option_to_list o ++ (a ++ b)
halves_same o o' a a' b b' e f g = cc

pub entries_in-same : {old new : Heap} (h start : ℕ) → IsSameWithin old new h start → entries_in new h start ≡ entries_in old h start
entries_in-same {old} {new} zero start same =
    ap (λ (leaf : Leaf). entries_from (16 * start) leaf.slots) (same.leaves start (omega arith) (omega arith))
entries_in-same {old} {new} (suc h) start same =
    halves_same (node_at old (start + 2 ^ h)) (node_at new (start + 2 ^ h)) (entries_in old h start) (entries_in new h start)
    (entries_in old h (start + 2 ^ h)) (entries_in new h (start + 2 ^ h)) (middle-same h start same)
    (entries_in-same h start (IsSameWithin-first h start same)) (entries_in-same h (start + 2 ^ h) (IsSameWithin-second h start same))

pub IsHolder-Permuted : (h start : ℕ) (o o' : Option Entry) {below below' : List Entry} → o' ≡ o → Permuted below below' → IsHolder h start o below → IsHolder h start o' below'
IsHolder-Permuted h start o o' {below} {below'} e p held = subst (λ (x : Option Entry). IsHolder h start x below') (sym e) (by o held)
  where
    nothing_left : (xs : List Entry) → length xs ≡ 0 → xs ≡ []
    nothing_left [] none = refl
    nothing_left (x ∷ xs) none = absurd (omega arith)

    by : (x : Option Entry) → IsHolder h start x below → IsHolder h start x below'
    by None none = nothing_left below' (sym (Permuted-length p) ∙ ap length none)
    by (Some x) held = (held.0, IsOver-Permuted x p held.1)

pub Permuted-same : {xs ys : List Entry} → xs ≡ ys → Permuted xs ys
Permuted-same {xs} {ys} e = subst (λ (l : List Entry). Permuted xs l) e (Permuted-refl xs)

pub IsHeap-same : {old new : Heap} (h start : ℕ) → IsSameWithin old new h start → IsHeap old h start → IsHeap new h start
IsHeap-same {old} {new} zero start same heap =
    ap (λ (leaf : Leaf). length leaf.slots) (same.leaves start (omega arith) (omega arith)) ∙ heap
IsHeap-same {old} {new} (suc h) start same heap =
    let first = IsSameWithin-first h start same in
    let second = IsSameWithin-second h start same in (
      IsHolder-Permuted (suc h) start (node_at old (start + 2 ^ h)) (node_at new (start + 2 ^ h)) (middle-same h start same)
          (Permuted-same (sym (ap₂ (λ (a b : List Entry). a ++ b) (entries_in-same h start first) (entries_in-same h (start + 2 ^ h) second)))) heap.0,
      IsHeap-same h start first heap.1,
      IsHeap-same h (start + 2 ^ h) second heap.2,
    )

pub IsHole-same : {old new : Heap} (h start : ℕ) → IsSameWithin old new h start → IsHole old h start → IsHole new h start
IsHole-same zero start same heap = IsHeap-same zero start same heap
IsHole-same (suc h) start same hole = (
  middle-same h start same ∙ hole.0,
  IsHeap-same h start (IsSameWithin-first h start same) hole.1,
  IsHeap-same h (start + 2 ^ h) (IsSameWithin-second h start same) hole.2,
)

-- a block before or behind the one that changes
pub IsSameWithin-before : {old new : Heap} (h start g at : ℕ) → IsSameOutside old new h start → at + 2 ^ g ≤ start → IsSameWithin old new g at
IsSameWithin-before h start g at same before = record {
  nodes = λ k low high. same.nodes_before k (omega arith);
  leaves = λ l low high. same.leaves_before l (omega arith);
}

pub IsSameWithin-behind : {old new : Heap} (h start g at : ℕ) → IsSameOutside old new h start → start + 2 ^ h ≤ at → IsSameWithin old new g at
IsSameWithin-behind h start g at same behind = record {
  nodes = λ k low high. same.nodes_behind k (omega arith);
  leaves = λ l low high. same.leaves_behind l (omega arith);
}

-- where the place of a block's middle alone changes, its halves are the same
leaves-same : {old new : Heap} (k l : ℕ) (held : Option Entry) → IsSet old new k held → leaf_at new l ≡ leaf_at old l
leaves-same {old} {new} k l held set = ap (λ (r : Entries Leaf). slice_index_or r.items l empty_leaf) set.leaves

pub IsSameWithin-set_first : {old new : Heap} (h start : ℕ) (held : Option Entry) → IsSet old new (start + 2 ^ h) held → IsSameWithin old new h start
IsSameWithin-set_first h start held set = record {
  nodes = λ k low high. set.others k (λ is. absurd (omega arith));
  leaves = λ l low high. leaves-same (start + 2 ^ h) l held set;
}

pub IsSameWithin-set_second : {old new : Heap} (h start : ℕ) (held : Option Entry) → IsSet old new (start + 2 ^ h) held → IsSameWithin old new h (start + 2 ^ h)
IsSameWithin-set_second h start held set = record {
  nodes = λ k low high. set.others k (λ is. absurd (omega arith));
  leaves = λ l low high. leaves-same (start + 2 ^ h) l held set;
}

pub IsSameOutside-set : {old new : Heap} (h start : ℕ) (held : Option Entry) → IsSet old new (start + 2 ^ h) held → IsSameOutside old new (suc h) start
IsSameOutside-set {old} {new} h start held set = record {
  nodes_before = λ k le. set.others k (λ is. absurd (omega (arith, pow_pos h)));
  nodes_behind = λ k le. set.others k (λ is. absurd (omega (arith, pow_pos h, doubled h)));
  leaves_before = λ l le. leaves-same (start + 2 ^ h) l held set;
  leaves_behind = λ l le. leaves-same (start + 2 ^ h) l held set;
  as_many_nodes = set.as_many;
  as_many_leaves = ap (λ (r : Entries Leaf). length r.items) set.leaves;
  node_room = set.room;
  leaf_room = ap (λ (r : Entries Leaf). r.capacity) set.leaves;
}

pub IsSameOutside-itself : (heap : Heap) (h start : ℕ) → IsSameOutside heap heap h start
IsSameOutside-itself heap h start = record {
  nodes_before = λ k le. refl;
  nodes_behind = λ k le. refl;
  leaves_before = λ l le. refl;
  leaves_behind = λ l le. refl;
  as_many_nodes = refl;
  as_many_leaves = refl;
  node_room = refl;
  leaf_room = refl;
}

-- one change after the other, the first of them within a block of the other
pub IsSameOutside-then : {old mid new : Heap} (g at h start : ℕ) → start ≤ at → at + 2 ^ g ≤ start + 2 ^ h → IsSameOutside old mid g at → IsSameOutside mid new h start
    → IsSameOutside old new h start
IsSameOutside-then g at h start low high first second = record {
  nodes_before = λ k le. second.nodes_before k le ∙ first.nodes_before k (omega arith);
  nodes_behind = λ k le. second.nodes_behind k le ∙ first.nodes_behind k (omega arith);
  leaves_before = λ l le. second.leaves_before l le ∙ first.leaves_before l (omega arith);
  leaves_behind = λ l le. second.leaves_behind l le ∙ first.leaves_behind l (omega arith);
  as_many_nodes = second.as_many_nodes ∙ first.as_many_nodes;
  as_many_leaves = second.as_many_leaves ∙ first.as_many_leaves;
  node_room = second.node_room ∙ first.node_room;
  leaf_room = second.leaf_room ∙ first.leaf_room;
}

pub IsSameOutside-wider : {old new : Heap} (g at h start : ℕ) → start ≤ at → at + 2 ^ g ≤ start + 2 ^ h → IsSameOutside old new g at → IsSameOutside old new h start
IsSameOutside-wider {old} {new} g at h start low high same = IsSameOutside-then g at h start low high same (IsSameOutside-itself new h start)

pub IsBlock-same : {old new : Heap} (h start g at : ℕ) → IsSameOutside old new h start → IsBlock old g at → IsBlock new g at
IsBlock-same h start g at same block = record {
  low = block.low;
  small = block.small;
  places = λ some. omega (arith, block.places some, same.as_many_nodes);
}

-- ---- where points stand

wider : (h start at : ℕ) (e : Entry) → start ≤ at → at + 2 ^ h ≤ start + 2 ^ suc h → IsInside h at e → IsInside (suc h) start e
wider h start at e low high is = record { from = omega (arith, is.from); to = omega (arith, is.to) }

pub wider_first : (h start : ℕ) (e : Entry) → IsInside h start e → IsInside (suc h) start e
wider_first h start e is = wider h start start e (omega arith) (omega (arith, doubled h)) is

pub wider_second : (h start : ℕ) (e : Entry) → IsInside h (start + 2 ^ h) e → IsInside (suc h) start e
wider_second h start e is = wider h start (start + 2 ^ h) e (omega arith) (omega (arith, doubled h)) is

inside_holder : (h start : ℕ) (o : Option Entry) (below : List Entry) (e : Entry) → IsHolder h start o below
    → IsAmong e (option_to_list o ++ below) → IsInside h start e ⊎ IsAmong e below
inside_holder h start None below e held among = inr among
inside_holder h start (Some x) below e held (inl is) = inl (subst (λ (y : Entry). IsInside h start y) (sym is) held.0)
inside_holder h start (Some x) below e held (inr among) = inr among

pub inside : (heap : Heap) (h start : ℕ) → IsHeap heap h start → (e : Entry) → IsAmong e (entries_in heap h start) → IsInside h start e
inside heap zero start full e among =
    let is = place_among (16 * start) (leaf_at heap start).slots e among in
    record { from = is.0; to = omega (arith, is.1, full) }
inside heap (suc h) start held e among =
    elim (inside_holder (suc h) start (node_at heap (start + 2 ^ h)) (entries_in heap h start ++ entries_in heap h (start + 2 ^ h)) e held.0 among) [
      | inl is ↦ is
      | inr below ↦ elim (IsAmong-cases e (entries_in heap h start) (entries_in heap h (start + 2 ^ h)) below) [
        | inl first ↦ wider_first h start e (inside heap h start held.1 e first)
        | inr second ↦ wider_second h start e (inside heap h (start + 2 ^ h) held.2 e second)
      ]
    ]

-- ---- the first point of a block

front_of_holder : (h start : ℕ) (o : Option Entry) (below : List Entry) → IsHolder h start o below → IsFront o (option_to_list o ++ below)
front_of_holder h start None below none = none
front_of_holder h start (Some e) below held = (inl refl, (comes_first-itself e, held.1))

pub IsFront-heap : (heap : Heap) (h start : ℕ) → IsHeap heap (suc h) start → IsFront (node_at heap (start + 2 ^ h)) (entries_in heap (suc h) start)
IsFront-heap heap h start held =
    front_of_holder (suc h) start (node_at heap (start + 2 ^ h)) (entries_in heap h start ++ entries_in heap h (start + 2 ^ h)) held.0

-- where nothing stands, a heap is a heap with a hole
none_held : (o : Option Entry) (below : List Entry) → option_to_list o ++ below ≡ [] → o ≡ None
none_held None below e = refl
none_held (Some x) below e = cc

pub IsHole-empty : (heap : Heap) (h start : ℕ) → IsHeap heap h start → entries_in heap h start ≡ [] → IsHole heap h start
IsHole-empty heap zero start held none = held
IsHole-empty heap (suc h) start held none =
    (none_held (node_at heap (start + 2 ^ h)) (entries_in heap h start ++ entries_in heap h (start + 2 ^ h)) none, held.1, held.2)

-- ---- the first point of a block is taken out of its place

module _ {old new : Heap} (h start : ℕ) (set : IsSet old new (start + 2 ^ h) None) where
  pub IsHole-taken : IsHeap old (suc h) start → IsHole new (suc h) start
  IsHole-taken held = (
    set.here,
    IsHeap-same h start (IsSameWithin-set_first h start None set) held.1,
    IsHeap-same h (start + 2 ^ h) (IsSameWithin-set_second h start None set) held.2,
  )

  pub Permuted-taken : (e : Entry) → node_at old (start + 2 ^ h) ≡ Some e → Permuted (e ∷ entries_in new (suc h) start) (entries_in old (suc h) start)
  Permuted-taken e is =
      let halves = ap₂ (λ (a b : List Entry). a ++ b) (entries_in-same h start (IsSameWithin-set_first h start None set))
      (entries_in-same h (start + 2 ^ h) (IsSameWithin-set_second h start None set)) in
      Permuted-same (ap (λ (o : Option Entry). e ∷ (option_to_list o ++ (entries_in new h start ++ entries_in new h (start + 2 ^ h)))) set.here
      ∙ ap (λ (l : List Entry). e ∷ l) halves
      ∙ ap (λ (o : Option Entry). option_to_list o ++ (entries_in old h start ++ entries_in old h (start + 2 ^ h))) (sym is))
