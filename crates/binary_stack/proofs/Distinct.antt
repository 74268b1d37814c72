-- Lists of items with different stamps, and parts of them.
use Rattle.std.proofs.Common.{◌≡◌, ◌≢◌, ℕ, ◌+◌, ◌<◌, ◌≤◌, Bool, true, false, List, [], ◌∷◌, ◌++◌, length, get_or, Some, slice_get, refl, sym, ap, subst, ◌∙◌, arith, All, AllPairs, append_assoc}
use Rattle.std.specs.List.{items_where_true}
use Rattle.std.proofs.lemmas.List.{get_or_append_left, append-nil, get_or-append-add, length-append}
use Rattle.std.proofs.lemmas.List.Kept.{AllPairs-cons}
use Rattle.std.proofs.lemmas.Option.{slice_get_within, slice_get-get_or, get_or_from_slice_get}
use Rattle.query_laws.specs.Permuted.{Permuted, nothing, same_head, composed}
use Rattle.query_laws.proofs.Permutations.{Permuted-refl, Permuted-sym, Permuted-append, Permuted-append_left, Permuted-append_right, Permuted-append_comm, Permuted-middle, Permuted-length}
use Rattle.query_laws.specs.Orders.{AllStampsDiffer}
use Rattle.query_laws.proofs.Stamps.{AllStampsDiffer-permuted}
use Rattle.ordered_merge.specs.Merging.{StampsDiffer}
use Rattle.binary_stack.specs.Levels.{IsPartOf}

pub none_of : {A : Type 0} (xs : List A) → length xs ≤ 0 → xs ≡ []
none_of [] few = refl
none_of (x ∷ xs) few = absurd (omega (arith, few))

module _ {A : Type 0} where
  AllPairs-front : (R : A → A → Type 0) (xs ys : List A) → AllPairs R (xs ++ ys) → AllPairs R xs
  AllPairs-front R xs ys pairs i j d below within =
      let longer : j < length (xs ++ ys) = omega (arith, within, length-append xs ys) in
      subst (λ x. R x (get_or xs j d)) (get_or_append_left xs ys d i (omega arith))
      (subst (R (get_or (xs ++ ys) i d)) (get_or_append_left xs ys d j within) (pairs i j d below longer))

  -- two pairs of lists, paired the other way
  Permuted-crossed : (xs ys us vs : List A) → Permuted ((xs ++ ys) ++ (us ++ vs)) ((xs ++ us) ++ (ys ++ vs))
  Permuted-crossed xs ys us vs =
      subst (λ l. Permuted l ((xs ++ us) ++ (ys ++ vs))) (sym (append_assoc xs ys (us ++ vs)))
      (subst (λ l. Permuted (xs ++ (ys ++ (us ++ vs))) l) (sym (append_assoc xs us (ys ++ vs)))
      (Permuted-append_right xs
      (subst (λ l. Permuted l (us ++ (ys ++ vs))) (append_assoc ys us vs)
      (subst (λ l. Permuted ((ys ++ us) ++ vs) l) (append_assoc us ys vs)
      (Permuted-append_left vs (Permuted-append_comm ys us))))))

module _ {Item : Type 0} where
  pub IsPartOf-permuted : (xs : List Item) {ys : List Item} → Permuted xs ys → IsPartOf xs ys
  IsPartOf-permuted xs {ys} same = ([], subst (λ l. Permuted l ys) (sym (append-nil xs)) same)

  pub IsPartOf-refl : (xs : List Item) → IsPartOf xs xs
  IsPartOf-refl xs = IsPartOf-permuted xs (Permuted-refl xs)

  pub IsPartOf-back : (xs ys : List Item) → IsPartOf ys (xs ++ ys)
  IsPartOf-back xs ys = (xs, Permuted-append_comm ys xs)

  pub IsPartOf-then : (xs ys zs : List Item) → IsPartOf xs ys → IsPartOf ys zs → IsPartOf xs zs
  IsPartOf-then xs ys zs first second = (
    first.0 ++ second.0,
    subst (λ l. Permuted l zs) (append_assoc xs first.0 second.0)
        (composed (Permuted-append_left second.0 first.1) second.1),
  )

  pub IsPartOf-append : (xs ys us vs : List Item) → IsPartOf xs ys → IsPartOf us vs → IsPartOf (xs ++ us) (ys ++ vs)
  IsPartOf-append xs ys us vs first second =
      (first.0 ++ second.0, composed (Permuted-crossed xs us first.0 second.0) (Permuted-append first.1 second.1))

  -- what is part of a list has no more items
  pub IsPartOf-length : (xs ys : List Item) → IsPartOf xs ys → length xs ≤ length ys
  IsPartOf-length xs ys part = omega (arith, Permuted-length part.1, length-append xs part.0)

  -- the live items of a part
  pub live_part : (flags : List Bool) (xs : List Item) → IsPartOf (items_where_true flags xs) xs
  live_part [] xs = (xs, Permuted-refl xs)
  live_part (flag ∷ flags) [] = ([], nothing)
  live_part (true ∷ flags) (x ∷ xs) = let rest = live_part flags xs in (rest.0, same_head x rest.1)
  live_part (false ∷ flags) (x ∷ xs) =
      let rest = live_part flags xs in
      (x ∷ rest.0, composed (Permuted-middle (items_where_true flags xs) x rest.0) (same_head x rest.1))

  module _ (stamp : Item → ℕ) where
    pub AllStampsDiffer-part : (xs ys : List Item) → IsPartOf xs ys → AllStampsDiffer stamp ys → AllStampsDiffer stamp xs
    AllStampsDiffer-part xs ys within apart =
        AllPairs-front (λ x y. stamp x ≢ stamp y) xs within.0
        (AllStampsDiffer-permuted stamp (Permuted-sym within.1) apart)

    -- the items of one of two lists
    pub AllStampsDiffer-front : (xs ys : List Item) → AllStampsDiffer stamp (xs ++ ys) → AllStampsDiffer stamp xs
    AllStampsDiffer-front = AllPairs-front (λ x y. stamp x ≢ stamp y)

    pub AllStampsDiffer-back : (xs ys : List Item) → AllStampsDiffer stamp (xs ++ ys) → AllStampsDiffer stamp ys
    AllStampsDiffer-back xs ys = AllStampsDiffer-part ys (xs ++ ys) (IsPartOf-back xs ys)

    -- the stamps of one part differ from those of another
    pub StampsDiffer-parts : (xs ys : List Item) → AllStampsDiffer stamp (xs ++ ys) → StampsDiffer stamp xs ys
    StampsDiffer-parts xs ys apart k l x y at_x at_y =
        let inside : k < length xs = slice_get_within xs k x at_x in
        let inside_other : l < length ys = slice_get_within ys l y at_y in
        let first : get_or (xs ++ ys) k x ≡ x = get_or_append_left xs ys x k inside ∙ get_or_from_slice_get xs k x x at_x in
        let second : get_or (xs ++ ys) (length xs + l) x ≡ y = get_or-append-add xs ys l x ∙ get_or_from_slice_get ys l y x at_y in
        λ same. apart k (length xs + l) x (omega arith) (omega (arith, inside_other, length-append xs ys))
        (ap stamp first ∙ same ∙ ap stamp (sym second))

    pub none_same : (xs ys : List Item) → AllStampsDiffer stamp (xs ++ ys) → (k : ℕ) (x : Item) → slice_get xs k ≡ Some x
        → All (λ y. stamp y ≢ stamp x) ys
    none_same xs ys apart k x at l d within same =
        StampsDiffer-parts xs ys apart k l x (get_or ys l d) at (slice_get-get_or ys l d within) (sym same)

    pub AllStampsDiffer-push : (x : Item) (xs : List Item) → All (λ y. stamp y ≢ stamp x) xs → AllStampsDiffer stamp xs
        → AllStampsDiffer stamp (x ∷ xs)
    AllStampsDiffer-push x xs others apart =
        AllPairs-cons (λ y z. stamp y ≢ stamp z) x xs (λ k d within same. others k d within (sym same)) apart

    -- the same, the other way round
    pub AllStampsDiffer-swap : (xs ys : List Item) → AllStampsDiffer stamp (xs ++ ys) → AllStampsDiffer stamp (ys ++ xs)
    AllStampsDiffer-swap xs ys = AllStampsDiffer-permuted stamp (Permuted-append_comm xs ys)
