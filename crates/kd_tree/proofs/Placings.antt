-- What each place's standing once comes to, and what an exchange keeps.
use Rattle.std.proofs.Common.{◌≡◌, ℕ, zero, suc, ◌+◌, ◌<◌, ◌^◌, List, [], ◌∷◌, ◌++◌, length, All, Some, slice_get, set, get_or, refl, sym, ap, ◌∙◌, arith, subst, ⊎_elim, ◌⊎◌, inl, inr}
use Rattle.std.specs.List.{range_with_len}
use Rattle.std.proofs.lemmas.Bool.{cases_eq}
use Rattle.std.proofs.lemmas.Option.{slice_get_within, get_or_from_slice_get, same_Some}
use Rattle.std.proofs.lemmas.List.{length-set, length-append, map-id}
use Rattle.std.proofs.lemmas.List.Edits.{swap_is}
use Rattle.std.proofs.lemmas.List.FromFn.{length-range_with_len, get_or-range_with_len, map-range_with_len_more}
use Rattle.std.proofs.lemmas.List.Sorted.{IsPermutation-swap, All-permutation}
use Rattle.query_laws.specs.StepLedger.{Entries}
use Rattle.query_laws.specs.Permuted.{Permuted, nothing, composed}
use Rattle.query_laws.proofs.Permutations.{Permuted-sym, Permuted-from_IsPermutation, IsPermutation-from_Permuted, Permuted-append_left}
use Rattle.row_blocks.proofs.Lists.{at_slot, slice_get-set_same, slice_get-set_other}
use Rattle.kd_tree.specs.Placings.{IsPlacing}

-- the numbers from 0 on, with one more at the end
pub range-more : (n : ℕ) → range_with_len 0 (n + 1) ≡ range_with_len 0 n ++ n ∷ []
range-more n =
    sym (map-id (range_with_len 0 (n + 1))) ∙ map-range_with_len_more (λ k. k) 0 n n (omega arith)
    ∙ ap (λ l. l ++ n ∷ []) (map-id (range_with_len 0 n))

below : (n : ℕ) → All (λ p. p < n) (range_with_len 0 n)
below n k d within = omega (arith, get_or-range_with_len 0 n k d (omega (arith, length-range_with_len 0 n)), length-range_with_len 0 n)

-- a place that stands somewhere is one of them
pub place_within : (order : List ℕ) (i p : ℕ) → Permuted order (range_with_len 0 (length order)) → slice_get order i ≡ Some p → p < length order
place_within order i p each at =
    at_slot (λ q. q < length order) order i p
    (All-permutation (λ q. q < length order) (range_with_len 0 (length order)) order (IsPermutation-from_Permuted (Permuted-sym each)) (below (length order)))
    at

module _ {A : Type 0} where
  -- what was pushed stands last, and the others stay
  pub pushed_before : (xs : List A) (x : A) (k : ℕ) (y : A) → slice_get xs k ≡ Some y → slice_get (xs ++ x ∷ []) k ≡ Some y
  pushed_before [] x k y at = cc
  pushed_before (z ∷ zs) x zero y at = at
  pushed_before (z ∷ zs) x (suc k) y at = pushed_before zs x k y at

  pub pushed_last : (xs : List A) (x : A) → slice_get (xs ++ x ∷ []) (length xs) ≡ Some x
  pushed_last [] x = refl
  pushed_last (z ∷ zs) x = pushed_last zs x

  pub pushed_cases : (xs : List A) (x : A) (k : ℕ) (y : A) → slice_get (xs ++ x ∷ []) k ≡ Some y
      → (slice_get xs k ≡ Some y) ⊎ ((k ≡ length xs) × (y ≡ x))
  pushed_cases [] x zero y at = inr (omega arith, sym (same_Some x y at))
  pushed_cases [] x (suc k) y at = cc
  pushed_cases (z ∷ zs) x zero y at = inl at
  pushed_cases (z ∷ zs) x (suc k) y at = ⊎_elim (λ h. inl h) (λ h. inr (omega (arith, h.0), h.1)) (pushed_cases zs x k y at)

  -- two entries set in each other's place
  pub Permuted-exchanged : (xs : List A) (i j : ℕ) (x y : A) → slice_get xs i ≡ Some x → slice_get xs j ≡ Some y → Permuted xs (set (set xs i y) j x)
  Permuted-exchanged xs i j x y at there =
      let within : i < length xs = slice_get_within xs i x at in
      let inside : j < length xs = slice_get_within xs j y there in
      let first : get_or xs i x ≡ x = get_or_from_slice_get xs i x x at in
      let second : get_or xs j x ≡ y = get_or_from_slice_get xs j y x there in
      Permuted-from_IsPermutation xs (set (set xs i y) j x)
      (IsPermutation-swap xs (set (set xs i y) j x) i j within inside
      (sym (ap (λ v. set (set xs i y) j v) first) ∙ sym (ap (λ v. set (set xs i v) j (get_or xs i x)) second) ∙ swap_is xs i j x within inside))

  -- what stands at two positions that were set, and elsewhere
  pub set_twice_first : (xs : List A) (i j : ℕ) (x y : A) → slice_get xs i ≡ Some x → slice_get xs j ≡ Some y → slice_get (set (set xs i y) j x) i ≡ Some y
  set_twice_first xs i j x y at there =
      let within : i < length xs = slice_get_within xs i x at in
      ⊎_elim
      (λ same.
      let one : x ≡ y = same_Some x y (sym at ∙ ap (slice_get xs) same ∙ there) in
      subst (λ k. slice_get (set (set xs i y) k x) i ≡ Some y) same
      (slice_get-set_same (set xs i y) i x (omega (arith, length-set xs i y)) ∙ ap Some one))
      (λ other. slice_get-set_other (set xs i y) j i x other ∙ slice_get-set_same xs i y within)
      (cases_eq i j)

  pub set_twice_other : (xs : List A) (i j k : ℕ) (x y : A) → (k ≡ i → ⊥) → (k ≡ j → ⊥) → slice_get (set (set xs i y) j x) k ≡ slice_get xs k
  set_twice_other xs i j k x y first second = slice_get-set_other (set xs i y) j k x second ∙ slice_get-set_other xs i k y first

-- of two lists, of which the second says where in the first a number stands
module _ (order at : List ℕ) (from to place other : ℕ) (found : (k q : ℕ) → slice_get at k ≡ Some q → slice_get order q ≡ Some k)
    (first : slice_get order from ≡ Some place) (second : slice_get order to ≡ Some other) (place_inside : place < length at) (other_inside : other < length at) where
  -- so it does after an exchange in both
  exchanged : (k q : ℕ) → slice_get (set (set at place to) other from) k ≡ Some q → slice_get (set (set order from other) to place) q ≡ Some k
  exchanged k q here = ⊎_elim is_other not_other (cases_eq k other)
    where
      is_other : k ≡ other → slice_get (set (set order from other) to place) q ≡ Some k
      is_other same =
          let read : slice_get (set (set at place to) other from) other ≡ Some from =
          slice_get-set_same (set at place to) other from (omega (arith, length-set at place to, other_inside)) in
          let there : q ≡ from = same_Some q from (sym here ∙ ap (slice_get (set (set at place to) other from)) same ∙ read) in
          ap (slice_get (set (set order from other) to place)) there ∙ set_twice_first order from to place other first second ∙ ap Some (sym same)

      is_place : (k ≡ other → ⊥) → k ≡ place → slice_get (set (set order from other) to place) q ≡ Some k
      is_place differs same =
          let read : slice_get (set (set at place to) other from) k ≡ slice_get (set at place to) k = slice_get-set_other (set at place to) other k from differs in
          let there : q ≡ to =
          same_Some q to (sym here ∙ read ∙ ap (slice_get (set at place to)) same ∙ slice_get-set_same at place to place_inside) in
          ap (slice_get (set (set order from other) to place)) there
          ∙ slice_get-set_same (set order from other) to place (omega (arith, length-set order from other, slice_get_within order to other second))
          ∙ ap Some (sym same)

      is_none : (k ≡ other → ⊥) → (k ≡ place → ⊥) → slice_get (set (set order from other) to place) q ≡ Some k
      is_none differs apart =
          let read : slice_get at k ≡ Some q = sym (set_twice_other at place other k from to apart differs) ∙ here in
          let was : slice_get order q ≡ Some k = found k q read in
          set_twice_other order from to q place other
          (λ same. apart (same_Some k place (sym was ∙ ap (slice_get order) same ∙ first)))
          (λ same. differs (same_Some k other (sym was ∙ ap (slice_get order) same ∙ second)))
          ∙ was

      not_other : (k ≡ other → ⊥) → slice_get (set (set order from other) to place) q ≡ Some k
      not_other differs = ⊎_elim (is_place differs) (is_none differs) (cases_eq k place)

module _ (order at : Entries ℕ) (from to place other : ℕ) (is : IsPlacing order at) (first : slice_get order.items from ≡ Some place)
    (second : slice_get order.items to ≡ Some other) where
  abbrev order' : List ℕ
  order' = set (set order.items from other) to place

  abbrev at' : List ℕ
  at' = set (set at.items place to) other from

  pub place_inside : place < length at.items
  place_inside = omega (arith, place_within order.items from place is.each_place first, is.as_many)

  pub other_inside : other < length at.items
  other_inside = omega (arith, place_within order.items to other is.each_place second, is.as_many)

  pub IsPlacing-exchanged : IsPlacing (record order { items = order' }) (record at { items = at' })
  IsPlacing-exchanged =
      let long : length order' ≡ length order.items = length-set (set order.items from other) to place ∙ length-set order.items from other in
      record {
        same_room = is.same_room;
        as_many = length-set (set at.items place to) other from ∙ length-set at.items place to ∙ is.as_many ∙ sym long;
        few = omega (arith, long, is.few);
        each_place = subst (λ n. Permuted order' (range_with_len 0 n)) (sym long)
            (composed (Permuted-sym (Permuted-exchanged order.items from to place other first second)) is.each_place);
        found = exchanged order.items at.items from to place other is.found first second place_inside other_inside;
        stands = exchanged at.items order.items place other from to is.stands (is.stands from place first) (is.stands to other second)
            (slice_get_within order.items from place first) (slice_get_within order.items to other second);
      }

-- one more place behind the others
pub IsPlacing-put : (order at : Entries ℕ) (n : ℕ) → IsPlacing order at → n ≡ length order.items → n < 2 ^ 31
    → IsPlacing (record order { items = order.items ++ n ∷ [] }) (record at { items = at.items ++ n ∷ [] })
IsPlacing-put order at n is many small =
    let long : length (order.items ++ n ∷ []) ≡ n + 1 = omega (arith, length-append order.items (n ∷ [])) in
    record {
      same_room = is.same_room;
      as_many = omega (arith, long, length-append at.items (n ∷ []), is.as_many);
      few = omega (arith, long);
      each_place = subst (λ m. Permuted (order.items ++ n ∷ []) (range_with_len 0 m)) (sym long)
          (subst (λ (l : List ℕ). Permuted (order.items ++ n ∷ []) l) (sym (range-more n))
          (Permuted-append_left (n ∷ []) (subst (λ m. Permuted order.items (range_with_len 0 m)) (sym many) is.each_place)));
      found = λ k q here.
          ⊎_elim
          (λ before. pushed_before order.items n q k (is.found k q before))
          (λ last.
          let there : q ≡ length order.items = omega (arith, last.1, many) in
          ap (slice_get (order.items ++ n ∷ [])) there ∙ pushed_last order.items n ∙ ap Some (omega (arith, last.0, is.as_many, many)))
          (pushed_cases at.items n k q here);
      stands = λ q k here.
          ⊎_elim
          (λ before. pushed_before at.items n k q (is.stands q k before))
          (λ last.
          let there : k ≡ length at.items = omega (arith, last.1, is.as_many, many) in
          ap (slice_get (at.items ++ n ∷ [])) there ∙ pushed_last at.items n ∙ ap Some (omega (arith, last.0, many)))
          (pushed_cases order.items n q k here);
    }

-- of no places
pub IsPlacing-none : (cap : ℕ) → IsPlacing (record { items = []; capacity = cap }) (record { items = []; capacity = cap })
IsPlacing-none cap = record { same_room = refl; as_many = refl; few = omega arith; each_place = nothing; found = λ k q here. cc; stands = λ k q here. cc }
