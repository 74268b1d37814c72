-- Laws of leaves.
use Rattle.std.proofs.Common.{◌≡◌, ℕ, zero, suc, ◌+◌, ◌*◌, ◌<◌, ◌≤◌, ◌%◌, Bool, true, false, cond, List, [], ◌∷◌, ◌++◌, length, get_or, set, Option, Some, None, slice_get, add-one, refl, sym, ap, ◌∙◌, arith, inl, inr, subst}
use Rattle.std.specs.Option.{option_to_list}
use Rattle.query_laws.specs.Permuted.{Permuted, composed}
use Rattle.query_laws.proofs.Permutations.{Permuted-refl, Permuted-sym, Permuted-middle, Permuted-append_right}
use Rattle.priority_tree.specs.declared.entry.Entry.{Entry}
use Rattle.priority_tree.specs.declared.leaf.Slot.{Slot}
use Rattle.priority_tree.specs.declared.leaf.Leaf.{Leaf}
use Rattle.std.proofs.lemmas.Option.{slice_get_within}
use Rattle.std.proofs.lemmas.List.{get_or_default, get_or-set_same}
use Rattle.priority_tree.specs.Entries.{first_of, IsAmong, IsFront, entry_of, entries_from, no_slot, empty_leaf, freed}
use Rattle.priority_tree.proofs.EntryLemmas.{IsFront-first_of, IsAmong-cases, comes_first-itself}

-- an entry alone is its own first
IsFront-alone : (o : Option Entry) → IsFront o (option_to_list o)
IsFront-alone None = refl
IsFront-alone (Some e) = (inl refl, (comes_first-itself e, tt))

pub IsFront-slots : (place : ℕ) (slot : Slot) (slots : List Slot) (o p : Option Entry) → o ≡ entry_of place slot → IsFront p (entries_from (suc place) slots)
    → IsFront (first_of o p) (entries_from place (slot ∷ slots))
IsFront-slots place slot slots o p is front =
    subst (λ (q : Option Entry). IsFront (first_of o p) (option_to_list q ++ entries_from (suc place) slots)) is
    (IsFront-first_of o p (option_to_list o) (entries_from (suc place) slots) (IsFront-alone o) front)

-- what stands in a leaf has a place of the leaf
place_at : (place : ℕ) (slot : Slot) (b : Bool) (e : Entry) → IsAmong e (option_to_list (cond b (Some (record { y = slot.y; place = place; id = slot.id })) None)) → e.place ≡ place
place_at place slot true e (inl is) = ap (λ (x : Entry). x.place) is
place_at place slot true e (inr h) = absurd h
place_at place slot false e h = absurd h

pub place_among : (place : ℕ) (slots : List Slot) (e : Entry) → IsAmong e (entries_from place slots) → (place ≤ e.place) × (e.place < place + length slots)
place_among place [] e h = absurd h
place_among place (slot ∷ slots) e h = elim (IsAmong-cases e (option_to_list (entry_of place slot)) (entries_from (suc place) slots) h) [
  | inl here ↦ let is : e.place ≡ place = place_at place slot slot.stands e here in (omega arith, omega arith)
  | inr there ↦ let is = place_among (suc place) slots e there in (omega (arith, is.0), omega (arith, is.1))
]

-- it is taken out
freed_here : (place : ℕ) (slot : Slot) (b : Bool) (rest : List Entry) (e : Entry)
    → IsAmong e (option_to_list (cond b (Some (record { y = slot.y; place = place; id = slot.id })) None))
    → Permuted (e ∷ rest) (option_to_list (cond b (Some (record { y = slot.y; place = place; id = slot.id })) None) ++ rest)
freed_here place slot true rest e (inl is) = subst (λ (x : Entry). Permuted (e ∷ rest) (x ∷ rest)) is (Permuted-refl (e ∷ rest))
freed_here place slot true rest e (inr h) = absurd h
freed_here place slot false rest e h = absurd h

pub Permuted-freed : (place : ℕ) (slots : List Slot) (e : Entry) (k : ℕ) → IsAmong e (entries_from place slots) → place + k ≡ e.place
    → Permuted (e ∷ entries_from place (set slots k (freed (get_or slots k no_slot)))) (entries_from place slots)
Permuted-freed place [] e k h is = absurd h
Permuted-freed place (slot ∷ slots) e zero h is = elim (IsAmong-cases e (option_to_list (entry_of place slot)) (entries_from (suc place) slots) h) [
  | inl here ↦ freed_here place slot slot.stands (entries_from (suc place) slots) e here
  | inr there ↦ absurd (omega (arith, (place_among (suc place) slots e there).0))
]
Permuted-freed place (slot ∷ slots) e (suc k) h is = elim (IsAmong-cases e (option_to_list (entry_of place slot)) (entries_from (suc place) slots) h) [
  | inl here ↦ absurd (omega (arith, place_at place slot slot.stands e here))
  | inr there ↦
      let front : List Entry = option_to_list (entry_of place slot) in
      composed (Permuted-sym (Permuted-middle front e (entries_from (suc place) (set slots k (freed (get_or slots k no_slot))))))
      (Permuted-append_right front (Permuted-freed (suc place) slots e k there (omega arith)))
]

-- in a row of leaves
pub Permuted-leaf : (leaves : List Leaf) (l : ℕ) (leaf new : Leaf) (e : Entry) → slice_get leaves l ≡ Some leaf → leaf ≡ get_or leaves l leaf
    → new ≡ record { slots = set leaf.slots (e.place % 16) (freed (get_or leaf.slots (e.place % 16) no_slot)) }
    → length (get_or leaves l empty_leaf).slots ≡ 16 → IsAmong e (entries_from (16 * l) (get_or leaves l empty_leaf).slots)
    → Permuted (e ∷ entries_from (16 * l) (get_or (set leaves l new) l empty_leaf).slots) (entries_from (16 * l) (get_or leaves l empty_leaf).slots)
Permuted-leaf leaves l leaf new e read is made full among =
    let within = slice_get_within leaves l leaf read in
    let here : leaf ≡ get_or leaves l empty_leaf = is ∙ get_or_default leaves l leaf empty_leaf within in
    let place = place_among (16 * l) (get_or leaves l empty_leaf).slots e among in
    let at : 16 * l + e.place % 16 ≡ e.place = omega (arith, place.0, place.1, full) in
    let taken = Permuted-freed (16 * l) leaf.slots e (e.place % 16) (subst (λ (x : Leaf). IsAmong e (entries_from (16 * l) x.slots)) (sym here) among) at in
    subst (λ (x : Leaf). Permuted (e ∷ entries_from (16 * l) x.slots) (entries_from (16 * l) (get_or leaves l empty_leaf).slots))
    (sym made ∙ sym (get_or-set_same leaves l new empty_leaf within))
    (subst (λ (x : Leaf). Permuted (e ∷ entries_from (16 * l) (set leaf.slots (e.place % 16) (freed (get_or leaf.slots (e.place % 16) no_slot)))) (entries_from (16 * l) x.slots)) here taken)

-- the first slot, and then the others
pub entries_from-first : (place : ℕ) (slot : Slot) (slots all : List Slot) (o : Option Entry) → all ≡ slot ∷ slots → o ≡ entry_of place slot
    → entries_from place all ≡ option_to_list o ++ entries_from (place + 1) slots
entries_from-first place slot slots all o is here =
    ap (entries_from place) is ∙ ap (λ (p : Option Entry). option_to_list p ++ entries_from (suc place) slots) (sym here)
    ∙ ap (λ (n : ℕ). option_to_list o ++ entries_from n slots) (sym (add-one place))
