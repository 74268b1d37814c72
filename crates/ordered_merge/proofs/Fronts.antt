-- Two rising lists that are read in order: what stands before what, and what is put of them.
use Rattle.std.proofs.Common.{◌≡◌, ℕ, ◌+◌, ◌<◌, ◌≤◌, Bool, true, false, not, IsTrue, List, [], ◌∷◌, ◌++◌, length, take, get_or, refl, sym, ap, ◌∙◌, arith, subst, append_assoc, Some, slice_get, All, ⊎_elim, Option, ◌↔◌}
use Rattle.std.proofs.lemmas.Bool.{cases_lt}
use Rattle.std.proofs.lemmas.Option.{slice_get-get_or, slice_get_within, get_or_from_slice_get, same_Some}
use Rattle.std.proofs.lemmas.List.{get_or-take, length-take}
use Rattle.std.proofs.lemmas.List.Elements.{All-append, All-cons, All-head, All-tail}
use Rattle.std.proofs.lemmas.List.Quantifiers.{all_pairs_push}
use Rattle.query_laws.specs.Orders.{IsStrictTotalOrder}
use Rattle.query_laws.specs.Permuted.{Permuted, nothing, same_head, swapped_heads, composed}
use Rattle.query_laws.proofs.Permutations.{Permuted-sym, Permuted-append_left, Permuted-append_right, Permuted-append_comm}
use Rattle.query_laws.specs.declared.item.Order.{Order}
use Rattle.query_laws.specs.declared.item.Order.TheVariants.{First, Second}
use Rattle.builder_trait.specs.Parts.{Contents, IsPart, IsRising, in_order}
use Rattle.builder_trait.proofs.RebuildingLemmas.{length-reordered}
use Rattle.builder_trait.specs.Builders.{IsAfter}
use Rattle.builder_trait.proofs.Kept.{kept, All-kept, All-kept_before}
use Rattle.ordered_merge.specs.Merging.{StandAhead, IsFront, IsNext, IsMerged, PassedBelow, is_passed}

module _ {A : Type 0} (P : A → Type 0) where
  -- what is true of all items is so in any order
  pub All-permuted : {xs ys : List A} → Permuted xs ys → All P xs → All P ys
  All-permuted nothing h = h
  All-permuted (same_head x {xs} {ys} p) h = All-cons P x ys (All-head P x xs h) (All-permuted p (All-tail P x xs h))
  All-permuted (swapped_heads x y xs) h =
      All-cons P y (x ∷ xs) (All-head P y xs (All-tail P x (y ∷ xs) h))
      (All-cons P x xs (All-head P x (y ∷ xs) h) (All-tail P y xs (All-tail P x (y ∷ xs) h)))
  All-permuted (composed p q) h = All-permuted q (All-permuted p h)

  -- what is true of each of the first items
  All-take : (j : ℕ) (ys : List A) → ((k : ℕ) (y : A) → k < j → slice_get ys k ≡ Some y → P y) → All P (take j ys)
  All-take j ys each k d within =
      let below : k < j = omega (arith, length-take j ys) in
      let inside : k < length ys = omega (arith, length-take j ys) in
      subst P (sym (get_or-take j ys k d below)) (each k (get_or ys k d) below (slice_get-get_or ys k d inside))

module _ {Item : Type 0} {stamp : Item → ℕ} {before : Item → Item → Bool} (order : IsStrictTotalOrder stamp before) where
  rising_at : (xs : List Item) → IsRising before xs → (k l : ℕ) (x y : Item) → k < l → slice_get xs k ≡ Some x → slice_get xs l ≡ Some y
      → IsTrue (before x y)
  rising_at xs rising k l x y less at later =
      subst (λ z. IsTrue (before z y)) (get_or_from_slice_get xs k x x at)
      (subst (λ z. IsTrue (before (get_or xs k x) z)) (get_or_from_slice_get xs l y x later)
      (rising k l x less (slice_get_within xs l y later)))

  not_back : (x y : Item) → IsTrue (before x y) → before y x ≡ false
  not_back x y h = by (before y x) refl
    where
      by : (b : Bool) → before y x ≡ b → before y x ≡ false
      by true e =
          let back : IsTrue (before y x) = e in
          let itself : IsTrue (before x x) = order.transitive x y x h back in
          let no : before x x ≡ false = order.irreflexive x in absurd cc
      by false e = e

  -- what stands before the next item stands before all later ones
  ahead_of : (j : ℕ) (ys : List Item) (x : Item) → IsRising before ys → ((y : Item) → slice_get ys j ≡ Some y → IsTrue (before x y))
      → (l : ℕ) (y : Item) → j ≤ l → slice_get ys l ≡ Some y → IsTrue (before x y)
  ahead_of j ys x rising earlier l y from at =
      ⊎_elim
      (λ less.
      let here : slice_get ys j ≡ Some (get_or ys j y) = slice_get-get_or ys j y (omega (arith, slice_get_within ys l y at)) in
      order.transitive x (get_or ys j y) y (earlier (get_or ys j y) here) (rising_at ys rising j l (get_or ys j y) y less here at))
      (λ later. let same : j ≡ l = omega arith in earlier y (ap (slice_get ys) same ∙ at))
      (cases_lt j l)

  module _ {i : ℕ} {xs : List Item} {j : ℕ} {ys : List Item} {x : Item} (rising : IsRising before xs) (rising_other : IsRising before ys)
      (front : IsFront before i xs j ys) (next : IsNext before i xs j ys x) where
    ahead_more : StandAhead before (i + 1) xs j ys
    ahead_more k l z y below from at_z at_y =
        ⊎_elim
        (λ less. front.ahead k l z y less from at_z at_y)
        (λ later.
        let same : i ≡ k = omega arith in
        let is : x ≡ z = same_Some x z (sym next.here ∙ ap (slice_get xs) same ∙ at_z) in
        subst (λ v. IsTrue (before v y)) is (ahead_of j ys x rising_other next.earlier l y from at_y))
        (cases_lt k i)

    -- one item more is read
    pub IsFront-more : IsFront before (i + 1) xs j ys
    IsFront-more = record {
      within = omega (arith, slice_get_within xs i x next.here);
      within_other = front.within_other;
      ahead = ahead_more;
      other_ahead = λ k l z y below from at_z at_y. front.other_ahead k l z y below (omega arith) at_z at_y;
    }

    -- it is the last that was passed
    pub PassedBelow-read : PassedBelow before (Some x) (i + 1) xs
    PassedBelow-read k y at = (
      λ below. ⊎_elim
          (λ less. ap not (not_back y x (rising_at xs rising k i y x less at next.here)))
          (λ later.
          let same : i ≡ k = omega arith in
          let is : x ≡ y = same_Some x y (sym next.here ∙ ap (slice_get xs) same ∙ at) in
          ap not (subst (λ v. before x v ≡ false) is (order.irreflexive x)))
          (cases_lt k i),
      λ from. ap not (rising_at xs rising i k x y (omega arith) next.here at),
    )

    pub PassedBelow-other : PassedBelow before (Some x) j ys
    PassedBelow-other k y at = (
      λ below. ap not (not_back y x (front.other_ahead k i y x below (omega arith) at next.here)),
      λ from. ap not (ahead_of j ys x rising_other next.earlier k y from at),
    )

    -- it stands after all that was put of what was read before
    pub IsAfter-merged : (flags other_flags : List Bool) (merged : List Item)
        → IsMerged before merged (kept i flags xs) (kept j other_flags ys) → IsAfter before x merged
    IsAfter-merged flags other_flags merged h =
        let P : Item → Type 0 = λ y. IsTrue (before y x) in
        All-permuted P (Permuted-sym h.same_items)
        (All-append P (kept i flags xs) (kept j other_flags ys)
        (All-kept_before (λ y z. IsTrue (before y z)) flags xs i x rising next.here)
        (All-kept P (take j other_flags) (take j ys)
        (All-take P j ys (λ k y below at. front.other_ahead k i y x below (omega arith) at next.here))))

pub IsFront-swap : {Item : Type 0} {before : Item → Item → Bool} {i j : ℕ} {xs ys : List Item} → IsFront before i xs j ys → IsFront before j ys i xs
IsFront-swap front = record { within = front.within_other; within_other = front.within; ahead = front.other_ahead; other_ahead = front.ahead }

module _ {Item : Type 0} {before : Item → Item → Bool} {merged xs ys : List Item} (h : IsMerged before merged xs ys) where
  -- one item more is put
  pub IsMerged-more : (x : Item) → IsAfter before x merged → IsMerged before (merged ++ x ∷ []) (xs ++ x ∷ []) ys
  IsMerged-more x after = record {
    rising = all_pairs_push (λ y z. IsTrue (before y z)) merged x h.rising after;
    same_items = composed (Permuted-append_left (x ∷ []) h.same_items) moved;
  }
    where
      moved : Permuted ((xs ++ ys) ++ x ∷ []) ((xs ++ x ∷ []) ++ ys)
      moved =
          subst (λ l. Permuted l ((xs ++ x ∷ []) ++ ys)) (sym (append_assoc xs ys (x ∷ [])))
          (subst (λ l. Permuted (xs ++ (ys ++ x ∷ [])) l) (sym (append_assoc xs (x ∷ []) ys))
          (Permuted-append_right xs (Permuted-append_comm ys (x ∷ []))))

  pub IsMerged-swap : IsMerged before merged ys xs
  IsMerged-swap = record { rising = h.rising; same_items = composed h.same_items (Permuted-append_comm xs ys) }

-- nothing is left of the other list
pub IsNext-past : {Item : Type 0} {before : Item → Item → Bool} (j : ℕ) (ys : List Item) (i : ℕ) (xs : List Item) (x : Item) → slice_get ys j ≡ Some x
    → length xs ≤ i → IsNext before j ys i xs x
IsNext-past j ys i xs x at past = record { here = at; earlier = λ y there. absurd (omega (arith, slice_get_within xs i y there)) }

-- both orders are as long as one another
pub length-in_order : {Item : Type 0} {before : Order → Item → Item → Bool} (part : Contents Item) (order : Order) → IsPart before part
    → length (in_order order part) ≡ length part.items
length-in_order part First valid = refl
length-in_order part Second valid = length-reordered valid

-- of the items of a list those below a place are passed, and no other
pub Passed-at : {Item : Type 0} (before : Item → Item → Bool) (reached : Option Item) {i : ℕ} (xs : List Item) → PassedBelow before reached i xs
    → (k : ℕ) (x : Item) → slice_get xs k ≡ Some x → (passed : Bool) → passed ≡ is_passed before reached x → IsTrue passed ↔ (k < i)
Passed-at {Item} before reached {i} xs h k x at passed is = (
  λ yes. ⊎_elim (λ less. less)
      (λ later. let no : is_passed before reached x ≡ false = (h k x at).1 later in absurd cc)
      (cases_lt k i),
  λ less. is ∙ (h k x at).0 less,
)
