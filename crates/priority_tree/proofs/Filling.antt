-- Leaves that are filled, and a tree of them in which no place holds anything.
use Rattle.std.proofs.Common.{◌≡◌, ◌≢◌, ℕ, zero, suc, ◌+◌, ◌-◌, ◌*◌, ◌/◌, ◌%◌, ◌^◌, ◌<◌, ◌≤◌, List, [], ◌∷◌, ◌++◌, length, get_or, min, Some, None, slice_get, refl, sym, ap, ◌∙◌, arith, inl, inr, subst, pow-suc, pow_mono, length-append}
use Rattle.std.proofs.lemmas.Nat.{pow_pos}
use Rattle.std.proofs.lemmas.Bool.{cases_lt, cases_eq}
use Rattle.map_shapes.specs.declared.point.Point.{Point}
use Rattle.priority_tree.specs.declared.leaf.Slot.{Slot}
use Rattle.priority_tree.specs.declared.heap.Heap.{Heap}
use Rattle.priority_tree.specs.Growing.{slot_at, slot_of, IsFilling, IsPut, IsOpened, IsSameShape}

-- ---- a point more

module _ {A : Type 0} where
  at_end : (xs : List A) (x : A) → slice_get (xs ++ x ∷ []) (length xs) ≡ Some x
  at_end [] x = refl
  at_end (y ∷ ys) x = at_end ys x

  not_at_end : (xs : List A) (x : A) (k : ℕ) → k ≢ length xs → slice_get (xs ++ x ∷ []) k ≡ slice_get xs k
  not_at_end [] x zero differs = absurd (differs refl)
  not_at_end [] x (suc k) differs = refl
  not_at_end (y ∷ ys) x zero differs = refl
  not_at_end (y ∷ ys) x (suc k) differs = not_at_end ys x k (λ is. differs (ap suc is))

module _ (points : List Point) (p : Point) (old new : Heap) (l k : ℕ) (slot : Slot) (put : IsPut old new l k slot) (place : 16 * l + k ≡ length points)
    (is : slot ≡ slot_of (Some p)) (slots : (m j : ℕ) → j < 16 → slot_at old m j ≡ slot_of (slice_get points (16 * m + j))) (low : k < 16) where
  at_place : (m j : ℕ) → j < 16 → 16 * m + j ≡ 16 * l + k → slot_at new m j ≡ slot_of (slice_get (points ++ p ∷ []) (16 * m + j))
  at_place m j few same =
      let same_leaf : l ≡ m = omega (arith, same, low, few) in
      let same_place : k ≡ j = omega (arith, same, low, few) in
      let there : length points ≡ 16 * m + j = omega (arith, same, place) in
      subst (λ (n : ℕ). slot_at new n j ≡ slot_of (slice_get (points ++ p ∷ []) (16 * m + j))) same_leaf
      (subst (λ (n : ℕ). slot_at new l n ≡ slot_of (slice_get (points ++ p ∷ []) (16 * m + j))) same_place
      (put.here ∙ is ∙ ap slot_of (sym (at_end points p)) ∙ ap (λ (n : ℕ). slot_of (slice_get (points ++ p ∷ []) n)) there))

  slots_more : (m j : ℕ) → j < 16 → slot_at new m j ≡ slot_of (slice_get (points ++ p ∷ []) (16 * m + j))
  slots_more m j few = elim (cases_eq (16 * m + j) (16 * l + k)) [
    | inl same ↦ at_place m j few same
    | inr differs ↦ put.others m j few differs ∙ slots m j few ∙ ap slot_of (sym (not_at_end points p (16 * m + j) (λ there. differs (omega (arith, there, place)))))
  ]

-- there is room for a leaf
pub leaf_room : (level : ℕ) (points : List Point) (heap : Heap) → IsFilling level points heap → length points < 2 ^ level → length points % 16 ≡ 0
    → length heap.leaves.items < heap.leaves.capacity
leaf_room level points heap filling room begins = omega (arith, leaves_below (length points) level room begins, filling.leaves_enough, filling.leaves_few, filling.room.leaves)
  where
    leaves_below : (n level : ℕ) → n < 2 ^ level → n % 16 ≡ 0 → n < 16 * 2 ^ (level - 4)
    leaves_below n level room begins = elim (cases_lt level 4) [
      | inl low ↦
          let three : level ≤ 3 = omega arith in
          let most : 2 ^ level ≤ 2 ^ 3 = pow_mono three in
          omega (arith, most, pow_pos (level - 4))
      | inr high ↦
          let is : level ≡ suc (suc (suc (suc (level - 4)))) = omega arith in
          omega (arith, ap (λ n. 2 ^ n) is, pow-suc 2 (suc (suc (suc (level - 4)))), pow-suc 2 (suc (suc (level - 4))), pow-suc 2 (suc (level - 4)), pow-suc 2 (level - 4))
    ]

pub IsFilling-opened : (level : ℕ) (points : List Point) (p : Point) (old new : Heap) (slot : Slot) → IsFilling level points old → length points < 2 ^ level
    → length points % 16 ≡ 0 → slot ≡ slot_of (Some p) → IsPut old new (length old.leaves.items) 0 slot → IsOpened old new → IsFilling level (points ++ p ∷ []) new
IsFilling-opened level points p old new slot filling room begins is put opened =
    let there : 16 * length old.leaves.items + 0 ≡ length points = omega (arith, filling.leaves_enough, filling.leaves_few, begins) in
    let longer : length (points ++ p ∷ []) ≡ length points + 1 = length-append points (p ∷ []) in
    record {
      small = filling.small;
      room = record { leaves = opened.leaf_room ∙ filling.room.leaves; nodes = opened.node_room ∙ filling.room.nodes };
      leaves_enough = omega (arith, longer, opened.leaves, there);
      leaves_few = omega (arith, longer, opened.leaves, there);
      places = omega (arith, opened.places (omega (arith, filling.places, filling.room.nodes)), filling.places, filling.room.nodes, opened.leaves);
      blank = opened.blank filling.blank;
      sixteen = put.sixteen filling.sixteen;
      slots = slots_more points p old new (length old.leaves.items) 0 slot put there is filling.slots (omega arith);
    }

pub leaf_there : (level : ℕ) (points : List Point) (heap : Heap) → IsFilling level points heap → (length points % 16 ≡ 0 → ⊥) → length points / 16 < length heap.leaves.items
leaf_there level points heap filling within = omega (arith, filling.leaves_enough, within)

pub IsFilling-put : (level : ℕ) (points : List Point) (p : Point) (old new : Heap) (place : ℕ) (slot : Slot) → IsFilling level points old → place ≡ length points
    → (place % 16 ≡ 0 → ⊥) → slot ≡ slot_of (Some p) → IsPut old new (place / 16) (place % 16) slot → IsSameShape old new → IsFilling level (points ++ p ∷ []) new
IsFilling-put level points p old new place slot filling next within is put same =
    let there : 16 * (place / 16) + place % 16 ≡ length points = omega (arith, next) in
    let longer : length (points ++ p ∷ []) ≡ length points + 1 = length-append points (p ∷ []) in
    record {
      small = filling.small;
      room = record { leaves = same.leaf_room ∙ filling.room.leaves; nodes = ap (λ r. r.capacity) same.nodes ∙ filling.room.nodes };
      leaves_enough = omega (arith, longer, same.leaves, filling.leaves_enough, filling.leaves_few, next, within);
      leaves_few = omega (arith, longer, same.leaves, filling.leaves_few);
      places = ap (λ r. length r.items) same.nodes ∙ filling.places ∙ ap (λ n. min (2 * n) (2 ^ (level - 4))) (sym same.leaves);
      blank = λ k. ap (λ r. get_or r.items k None) same.nodes ∙ filling.blank k;
      sixteen = put.sixteen filling.sixteen;
      slots = slots_more points p old new (place / 16) (place % 16) slot put there is filling.slots (omega arith);
    }
