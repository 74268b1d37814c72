-- Lists of items with different stamps, and parts of them.
use Rattle.std.proofs.Common.{◌≡◌, ◌≢◌, ℕ, ◌+◌, ◌<◌, List, [], ◌∷◌, ◌++◌, length, get_or, Some, slice_get, sym, ap, subst, ◌∙◌, arith, All, append_assoc}
use Rattle.std.proofs.lemmas.List.{get_or_append_left, append-nil, get_or-append-add, length-append}
use Rattle.std.proofs.lemmas.List.Kept.{AllPairs-cons}
use Rattle.std.proofs.lemmas.Option.{slice_get_within, slice_get-get_or, get_or_from_slice_get}
use Rattle.query_laws.specs.Permuted.{Permuted, composed}
use Rattle.query_laws.proofs.Permutations.{Permuted-refl, Permuted-sym, Permuted-append, Permuted-append_left, Permuted-append_comm}
use Rattle.query_laws.specs.Orders.{AllStampsDiffer}
use Rattle.query_laws.proofs.Stamps.{AllStampsDiffer-permuted}
use Rattle.ordered_merge.specs.Merging.{StampsDiffer}
use Rattle.partial_build.proofs.Stamps.{AllPairs-front, Permuted-crossed}
use Rattle.log_levels.specs.Slots.{IsPartOf}

module _ {Item : Type 0} where
  pub IsPartOf-permuted : (xs : List Item) {ys : List Item} → Permuted xs ys → IsPartOf xs ys
  IsPartOf-permuted xs {ys} same = ([], subst (λ l. Permuted l ys) (sym (append-nil xs)) same)

  pub IsPartOf-refl : (xs : List Item) → IsPartOf xs xs
  IsPartOf-refl xs = IsPartOf-permuted xs (Permuted-refl xs)

  pub IsPartOf-front : (xs ys : List Item) → IsPartOf xs (xs ++ ys)
  IsPartOf-front xs ys = (ys, Permuted-refl (xs ++ ys))

  pub IsPartOf-back : (xs ys : List Item) → IsPartOf ys (xs ++ ys)
  IsPartOf-back xs ys = (xs, Permuted-append_comm ys xs)

  pub IsPartOf-then : (xs ys zs : List Item) → IsPartOf xs ys → IsPartOf ys zs → IsPartOf xs zs
  IsPartOf-then xs ys zs first second = (
    first.0 ++ second.0,
    subst (λ l. Permuted l zs) (append_assoc xs first.0 second.0)
        (composed (Permuted-append_left second.0 first.1) second.1),
  )

  pub IsPartOf-append : (xs ys us vs : List Item) → IsPartOf xs ys → IsPartOf us vs → IsPartOf (xs ++ us) (ys ++ vs)
  IsPartOf-append xs ys us vs first second =
      (first.0 ++ second.0, composed (Permuted-crossed xs us first.0 second.0) (Permuted-append first.1 second.1))

  module _ (stamp : Item → ℕ) where
    pub AllStampsDiffer-part : (xs ys : List Item) → IsPartOf xs ys → AllStampsDiffer stamp ys → AllStampsDiffer stamp xs
    AllStampsDiffer-part xs ys within apart =
        AllPairs-front (λ x y. stamp x ≢ stamp y) xs within.0
        (AllStampsDiffer-permuted stamp (Permuted-sym within.1) apart)

    -- the items of one of two lists
    pub AllStampsDiffer-front : (xs ys : List Item) → AllStampsDiffer stamp (xs ++ ys) → AllStampsDiffer stamp xs
    AllStampsDiffer-front = AllPairs-front (λ x y. stamp x ≢ stamp y)

    pub AllStampsDiffer-back : (xs ys : List Item) → AllStampsDiffer stamp (xs ++ ys) → AllStampsDiffer stamp ys
    AllStampsDiffer-back xs ys = AllStampsDiffer-part ys (xs ++ ys) (IsPartOf-back xs ys)

    -- the stamps of one part differ from those of another
    pub StampsDiffer-parts : (xs ys : List Item) → AllStampsDiffer stamp (xs ++ ys) → StampsDiffer stamp xs ys
    StampsDiffer-parts xs ys apart k l x y at_x at_y =
        let inside : k < length xs = slice_get_within xs k x at_x in
        let inside_other : l < length ys = slice_get_within ys l y at_y in
        let first : get_or (xs ++ ys) k x ≡ x = get_or_append_left xs ys x k inside ∙ get_or_from_slice_get xs k x x at_x in
        let second : get_or (xs ++ ys) (length xs + l) x ≡ y = get_or-append-add xs ys l x ∙ get_or_from_slice_get ys l y x at_y in
        λ same. apart k (length xs + l) x (omega arith) (omega (arith, inside_other, length-append xs ys))
        (ap stamp first ∙ same ∙ ap stamp (sym second))

    pub none_same : (xs ys : List Item) → AllStampsDiffer stamp (xs ++ ys) → (k : ℕ) (x : Item) → slice_get xs k ≡ Some x
        → All (λ y. stamp y ≢ stamp x) ys
    none_same xs ys apart k x at l d within same =
        StampsDiffer-parts xs ys apart k l x (get_or ys l d) at (slice_get-get_or ys l d within) (sym same)

    pub AllStampsDiffer-push : (x : Item) (xs : List Item) → All (λ y. stamp y ≢ stamp x) xs → AllStampsDiffer stamp xs
        → AllStampsDiffer stamp (x ∷ xs)
    AllStampsDiffer-push x xs others apart =
        AllPairs-cons (λ y z. stamp y ≢ stamp z) x xs (λ k d within same. others k d within (sym same)) apart
