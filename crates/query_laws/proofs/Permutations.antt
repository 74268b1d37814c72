-- Laws of `Permuted`, and its translations to and from the library's `IsPermutation`.
use Rattle.std.proofs.Common.{◌≡◌, ℕ, zero, suc, ◌<◌, Bool, true, false, List, [], ◌∷◌, ◌++◌, length, get_or, set, map, refl, ap, arith, ◌∙◌, cond, not, append-nil, append_assoc}
use Rattle.std.specs.List.{swap, filter, flat_map}
use Rattle.std.specs.List.Sorted.{IsPermutation}
use Rattle.std.proofs.lemmas.List.Sorted.{IsPermutation-refl, IsPermutation-cons, IsPermutation-swap, IsPermutation-trans, IsPermutation-keeps}
use Rattle.query_laws.specs.Permuted.{Permuted, nothing, same_head, swapped_heads, composed}

module _ {A : Type 0} where
  -- each list has its own items
  pub Permuted-refl : (xs : List A) → Permuted xs xs
  Permuted-refl [] = nothing
  Permuted-refl (x ∷ xs) = same_head x (Permuted-refl xs)

  pub Permuted-sym : {xs ys : List A} → Permuted xs ys → Permuted ys xs
  Permuted-sym nothing = nothing
  Permuted-sym (same_head x p) = same_head x (Permuted-sym p)
  Permuted-sym (swapped_heads x y xs) = swapped_heads y x xs
  Permuted-sym (composed p q) = composed (Permuted-sym q) (Permuted-sym p)

  -- the same lists before, or after
  pub Permuted-append_right : (zs : List A) {xs ys : List A} → Permuted xs ys → Permuted (zs ++ xs) (zs ++ ys)
  Permuted-append_right [] p = p
  Permuted-append_right (z ∷ zs) p = same_head z (Permuted-append_right zs p)

  pub Permuted-append_left : (zs : List A) {xs ys : List A} → Permuted xs ys → Permuted (xs ++ zs) (ys ++ zs)
  Permuted-append_left zs nothing = Permuted-refl zs
  Permuted-append_left zs (same_head x p) = same_head x (Permuted-append_left zs p)
  Permuted-append_left zs (swapped_heads x y xs) = swapped_heads x y (xs ++ zs)
  Permuted-append_left zs (composed p q) = composed (Permuted-append_left zs p) (Permuted-append_left zs q)

  pub Permuted-append : {xs ys us vs : List A} → Permuted xs ys → Permuted us vs → Permuted (xs ++ us) (ys ++ vs)
  Permuted-append {xs} {ys} {us} {vs} p q = composed (Permuted-append_left us p) (Permuted-append_right ys q)

  -- an item is taken out to the front
  pub Permuted-middle : (xs : List A) (x : A) (ys : List A) → Permuted (xs ++ x ∷ ys) (x ∷ (xs ++ ys))
  Permuted-middle [] x ys = Permuted-refl (x ∷ ys)
  Permuted-middle (z ∷ xs) x ys = composed (same_head z (Permuted-middle xs x ys)) (swapped_heads z x (xs ++ ys))

  pub Permuted-append_comm : (xs ys : List A) → Permuted (xs ++ ys) (ys ++ xs)
  Permuted-append_comm [] ys = rw (append-nil ys) (Permuted-refl ys)
  Permuted-append_comm (x ∷ xs) ys =
      composed (same_head x (Permuted-append_comm xs ys)) (Permuted-sym (Permuted-middle ys x xs))

  pub Permuted-length : {xs ys : List A} → Permuted xs ys → length xs ≡ length ys
  Permuted-length nothing = refl
  Permuted-length (same_head x p) = ap suc (Permuted-length p)
  Permuted-length (swapped_heads x y xs) = refl
  Permuted-length (composed p q) = Permuted-length p ∙ Permuted-length q

  -- an item further back in place of the head, and the head in its place
  exchanged : (x : A) (xs : List A) (j : ℕ) (d : A) → j < length xs → Permuted (x ∷ xs) (get_or xs j d ∷ set xs j x)
  exchanged x [] j d h = absurd (omega arith)
  exchanged x (y ∷ xs) zero d h = swapped_heads x y xs
  exchanged x (y ∷ xs) (suc j) d h =
      composed (swapped_heads x y xs)
      (composed (same_head y (exchanged x xs j d (omega arith))) (swapped_heads y (get_or xs j d) (set xs j x)))

  exchanged_both : (xs : List A) (i j : ℕ) (d : A) → i < length xs → j < length xs
      → Permuted xs (set (set xs i (get_or xs j d)) j (get_or xs i d))
  exchanged_both [] i j d h k = absurd (omega arith)
  exchanged_both (x ∷ xs) zero zero d h k = Permuted-refl (x ∷ xs)
  exchanged_both (x ∷ xs) zero (suc j) d h k = exchanged x xs j d (omega arith)
  exchanged_both (x ∷ xs) (suc i) zero d h k = exchanged x xs i d (omega arith)
  exchanged_both (x ∷ xs) (suc i) (suc j) d h k = same_head x (exchanged_both xs i j d (omega arith) (omega arith))

  exchanged_by_swap : (xs : List A) (i j : ℕ) → i < length xs → j < length xs → Permuted xs (swap xs i j)
  exchanged_by_swap [] i j h k = absurd (omega arith)
  exchanged_by_swap (x ∷ xs) i j h k = exchanged_both (x ∷ xs) i j x h k

  -- from the library's word for the same
  pub Permuted-from_IsPermutation : (xs ys : List A) → IsPermutation xs ys → Permuted xs ys
  Permuted-from_IsPermutation xs ys =
      IsPermutation-keeps xs (λ l. Permuted xs l) (Permuted-refl xs) (λ l i j h k p. composed p (exchanged_by_swap l i j h k)) ys

  -- and to it
  pub IsPermutation-from_Permuted : {xs ys : List A} → Permuted xs ys → IsPermutation xs ys
  IsPermutation-from_Permuted nothing = IsPermutation-refl []
  IsPermutation-from_Permuted {xs} {ys} (same_head x p) = IsPermutation-cons x _ _ (IsPermutation-from_Permuted p)
  IsPermutation-from_Permuted (swapped_heads x y xs) =
      IsPermutation-swap (x ∷ y ∷ xs) (y ∷ x ∷ xs) 0 1 (omega arith) (omega arith) refl
  IsPermutation-from_Permuted (composed p q) =
      IsPermutation-trans _ _ _ (IsPermutation-from_Permuted p) (IsPermutation-from_Permuted q)

  -- one more item, or two in either order, where tests let them through
  kept_head : (b : Bool) (x : A) {xs ys : List A} → Permuted xs ys → Permuted (cond b (x ∷ xs) xs) (cond b (x ∷ ys) ys)
  kept_head true x p = same_head x p
  kept_head false x p = p

  kept_heads : (b c : Bool) (x y : A) (xs : List A)
      → Permuted (cond b (x ∷ cond c (y ∷ xs) xs) (cond c (y ∷ xs) xs)) (cond c (y ∷ cond b (x ∷ xs) xs) (cond b (x ∷ xs) xs))
  kept_heads true true x y xs = swapped_heads x y xs
  kept_heads true false x y xs = Permuted-refl (x ∷ xs)
  kept_heads false true x y xs = Permuted-refl (y ∷ xs)
  kept_heads false false x y xs = Permuted-refl xs

  -- the items that pass a test
  pub Permuted-filter : (p : A → Bool) {xs ys : List A} → Permuted xs ys → Permuted (filter p xs) (filter p ys)
  Permuted-filter p nothing = nothing
  Permuted-filter p (same_head x h) = kept_head (p x) x (Permuted-filter p h)
  Permuted-filter p (swapped_heads x y xs) = kept_heads (p x) (p y) x y (filter p xs)
  Permuted-filter p (composed h k) = composed (Permuted-filter p h) (Permuted-filter p k)

  -- one more item in one of two parts
  part_head : (b : Bool) (x : A) (us vs : List A) {xs : List A} → Permuted (us ++ vs) xs
      → Permuted (cond b (x ∷ us) us ++ cond (not b) (x ∷ vs) vs) (x ∷ xs)
  part_head true x us vs p = same_head x p
  part_head false x us vs p = composed (Permuted-middle us x vs) (same_head x p)

  -- the items that pass a test, and then the others
  pub Permuted-partition : (p : A → Bool) (xs : List A) → Permuted (filter p xs ++ filter (λ x. not (p x)) xs) xs
  Permuted-partition p [] = nothing
  Permuted-partition p (x ∷ xs) =
      part_head (p x) x (filter p xs) (filter (λ y. not (p y)) xs) (Permuted-partition p xs)

module _ {A B : Type 0} where
  -- what a function gives of each item, or the lists that it gives, one after another
  pub Permuted-map : (f : A → B) {xs ys : List A} → Permuted xs ys → Permuted (map f xs) (map f ys)
  Permuted-map f nothing = nothing
  Permuted-map f (same_head x p) = same_head (f x) (Permuted-map f p)
  Permuted-map f (swapped_heads x y xs) = swapped_heads (f x) (f y) (map f xs)
  Permuted-map f (composed p q) = composed (Permuted-map f p) (Permuted-map f q)

  pub Permuted-flat_map : (f : A → List B) {xs ys : List A} → Permuted xs ys → Permuted (flat_map f xs) (flat_map f ys)
  Permuted-flat_map f nothing = nothing
  Permuted-flat_map f (same_head x p) = Permuted-append_right (f x) (Permuted-flat_map f p)
  Permuted-flat_map f (swapped_heads x y xs) =
      rw (← append_assoc (f x) (f y) (flat_map f xs), ← append_assoc (f y) (f x) (flat_map f xs))
      (Permuted-append_left (flat_map f xs) (Permuted-append_comm (f x) (f y)))
  Permuted-flat_map f (composed p q) = composed (Permuted-flat_map f p) (Permuted-flat_map f q)
