-- Items that are told apart by their stamps, in lists.
use Rattle.std.proofs.Common.{◌≡◌, ◌≢◌, ℕ, zero, suc, ◌<◌, ◌==◌, ◌&&◌, ◌||◌, Bool, true, false, not, Option, Some, None, List, [], ◌∷◌, ◌++◌, length, map, get_or, refl, sym, ap, ◌∙◌, arith, subst, slice_get, filter, append_assoc, cond, AllPairs}
use Rattle.std.specs.List.{items_where_true}
use Rattle.std.specs.Option.{is_some}
use Rattle.std.proofs.lemmas.Bool.Decides.{nat_tests}
use Rattle.std.proofs.lemmas.List.{get_or_append_left, get_or_push, length-append, length_push}
use Rattle.std.proofs.lemmas.List.Quantifiers.{all_pairs_push}
use Rattle.std.proofs.lemmas.Option.{slice_get_within, slice_get-get_or, get_or_from_slice_get, same_Some}
use Rattle.query_laws.specs.Orders.{AllStampsDiffer}
use Rattle.query_laws.specs.Permuted.{Permuted, nothing, same_head, composed}
use Rattle.query_laws.proofs.Permutations.{Permuted-append_left, Permuted-append_right, Permuted-append_comm, Permuted-middle}
use Rattle.builder_trait.specs.Parts.{has_stamp, without}
use Rattle.builder_trait.proofs.Marking.{fallen}
use Rattle.partial_build.specs.Construction.{is_taken, skipped_of}

test_other : (a b : ℕ) → a ≢ b → (a == b) ≡ false
test_other a b e = grind (arith, nat_tests)

test_swap : (a b : ℕ) → (a == b) ≡ (b == a)
test_swap a b = grind (arith, nat_tests)

test_same : (a : ℕ) → (a == a) ≡ true
test_same a = grind (arith, nat_tests)

or_later : (b : Bool) {c : Bool} → c ≡ true → (b || c) ≡ true
or_later true later = refl
or_later false later = later

and_off : (b : Bool) → (b && false) ≡ false
and_off true = refl
and_off false = refl

or_none : (b : Bool) → (b || false) ≡ b
or_none true = refl
or_none false = refl

pub AllPairs-front : {A : Type 0} (R : A → A → Type 0) (xs ys : List A) → AllPairs R (xs ++ ys) → AllPairs R xs
AllPairs-front R xs ys pairs i j d below within =
    let longer : j < length (xs ++ ys) = omega (arith, within, length-append xs ys) in
    subst (λ x. R x (get_or xs j d)) (get_or_append_left xs ys d i (omega arith))
    (subst (R (get_or (xs ++ ys) i d)) (get_or_append_left xs ys d j within) (pairs i j d below longer))

module _ {Item : Type 0} (stamp : Item → ℕ) where
  -- a stamp stands at one place of such a list
  pub same_place : (xs : List Item) → AllStampsDiffer stamp xs → (k l : ℕ) (x y : Item) → slice_get xs k ≡ Some x → slice_get xs l ≡ Some y
      → stamp x ≡ stamp y → k ≡ l
  same_place xs apart k l x y at_x at_y same =
      let is_x : get_or xs k x ≡ x = get_or_from_slice_get xs k x x at_x in
      let is_y : get_or xs l x ≡ y = get_or_from_slice_get xs l y x at_y in
      let within : k < length xs = slice_get_within xs k x at_x in
      let within_other : l < length xs = slice_get_within xs l y at_y in
      let not_before : k < l → ⊥ = λ less. apart k l x less within_other (ap stamp is_x ∙ same ∙ sym (ap stamp is_y)) in
      let not_after : l < k → ⊥ = λ less. apart l k x less within (ap stamp is_y ∙ sym same ∙ sym (ap stamp is_x)) in
      omega arith

  pub has_stamp-at : (xs : List Item) (k : ℕ) (x : Item) → slice_get xs k ≡ Some x → has_stamp stamp (stamp x) xs ≡ true
  has_stamp-at [] k x at = absurd cc
  has_stamp-at (y ∷ ys) zero x at = let is : y ≡ x = cc in rw is (rw (test_same (stamp x)) refl)
  has_stamp-at (y ∷ ys) (suc k) x at = or_later (stamp y == stamp x) (has_stamp-at ys k x at)

  -- an item with another stamp than those of a list comes after them
  pub AllStampsDiffer-push : (xs : List Item) (x : Item) → AllStampsDiffer stamp xs → has_stamp stamp (stamp x) xs ≡ false
      → AllStampsDiffer stamp (xs ++ x ∷ [])
  AllStampsDiffer-push xs x apart none =
      all_pairs_push (λ y z. stamp y ≢ stamp z) xs x apart
      (λ k d within same.
      let here = has_stamp-at xs k (get_or xs k d) (slice_get-get_or xs k d within) in
      let there : has_stamp stamp (stamp x) xs ≡ true = ap (λ s. has_stamp stamp s xs) (sym same) ∙ here in absurd cc)

  -- the last of such a list, and those before it
  pub AllStampsDiffer-last : (xs : List Item) (x : Item) → AllStampsDiffer stamp (xs ++ x ∷ []) → (k : ℕ) (d : Item) → k < length xs
      → stamp (get_or xs k d) ≢ stamp x
  AllStampsDiffer-last xs x apart k d within same =
      apart k (length xs) d within (omega (arith, length_push xs x))
      (ap stamp (get_or_append_left xs (x ∷ []) d k within) ∙ same ∙ ap stamp (sym (get_or_push xs x d (length xs) refl)))

  pub has_stamp-push : (s : ℕ) (xs : List Item) (x : Item) → has_stamp stamp s (xs ++ x ∷ []) ≡ (has_stamp stamp s xs || (stamp x == s))
  has_stamp-push s [] x = or_none (stamp x == s)
  has_stamp-push s (y ∷ ys) x = by (stamp y == s) (has_stamp-push s ys x)
    where
      by : (b : Bool) → has_stamp stamp s (ys ++ x ∷ []) ≡ (has_stamp stamp s ys || (stamp x == s))
          → (b || has_stamp stamp s (ys ++ x ∷ [])) ≡ ((b || has_stamp stamp s ys) || (stamp x == s))
      by true later = refl
      by false later = later

  pub has_stamp-without : (s dead : ℕ) (xs : List Item) → has_stamp stamp s (without stamp dead xs) ≡ (has_stamp stamp s xs && not (s == dead))
  has_stamp-without s dead [] = refl
  has_stamp-without s dead (y ∷ ys) = by (stamp y == dead) refl (stamp y == s) refl (has_stamp-without s dead ys)
    where
      by : (fell : Bool) → (stamp y == dead) ≡ fell → (here : Bool) → (stamp y == s) ≡ here
          → has_stamp stamp s (without stamp dead ys) ≡ (has_stamp stamp s ys && not (s == dead))
          → has_stamp stamp s (cond (not fell) (y ∷ without stamp dead ys) (without stamp dead ys)) ≡ ((here || has_stamp stamp s ys) && not (s == dead))
      by true e false f rest = rest
      by true e true f rest =
          let same : (s == dead) ≡ true = grind (arith, nat_tests) in
          let off : not (s == dead) ≡ false = ap not same in
          rest ∙ ap (λ b. has_stamp stamp s ys && b) off ∙ and_off (has_stamp stamp s ys) ∙ sym off
      by false e false f rest = ap (λ b. b || has_stamp stamp s (without stamp dead ys)) f ∙ rest
      by false e true f rest =
          let other : (s == dead) ≡ false = grind (arith, nat_tests) in
          ap (λ b. b || has_stamp stamp s (without stamp dead ys)) f ∙ sym (ap not other)

  -- the flag of an item after the mark of a stamp
  pub slice_get-fallen : (dead : ℕ) (xs : List Item) (flags : List Bool) (k : ℕ) (x : Item) (flag : Bool) → slice_get xs k ≡ Some x → slice_get flags k ≡ Some flag
      → slice_get (fallen stamp dead xs flags) k ≡ Some (flag && not (stamp x == dead))
  slice_get-fallen dead [] flags k x flag at_x at = absurd cc
  slice_get-fallen dead (y ∷ ys) [] k x flag at_x at = absurd cc
  slice_get-fallen dead (y ∷ ys) (f ∷ fs) zero x flag at_x at =
      let is : y ≡ x = cc in let same : f ≡ flag = cc in rw is (rw same refl)
  slice_get-fallen dead (y ∷ ys) (f ∷ fs) (suc k) x flag at_x at = slice_get-fallen dead ys fs k x flag at_x at

  pub length-fallen : (dead : ℕ) (xs : List Item) (flags : List Bool) → length flags ≡ length xs → length (fallen stamp dead xs flags) ≡ length xs
  length-fallen dead [] [] same = refl
  length-fallen dead [] (f ∷ fs) same = absurd (omega arith)
  length-fallen dead (x ∷ xs) [] same = absurd (omega arith)
  length-fallen dead (x ∷ xs) (f ∷ fs) same = ap suc (length-fallen dead xs fs (omega arith))

module _ {A : Type 0} where
  chosen_head : (b : Bool) (x : A) (flags : List Bool) (xs : List A) {rest : List A} → items_where_true flags xs ≡ rest
      → items_where_true (b ∷ flags) (x ∷ xs) ≡ cond b (x ∷ rest) rest
  chosen_head true x flags xs e = ap (λ l. x ∷ l) e
  chosen_head false x flags xs e = e

  -- where a flag says what a test says, the flags and the test choose the same
  pub filter-flags : (test : A → Bool) (flags : List Bool) (xs : List A) → length flags ≡ length xs
      → ((k : ℕ) (x : A) → slice_get xs k ≡ Some x → slice_get flags k ≡ Some (test x)) → items_where_true flags xs ≡ filter test xs
  filter-flags test [] [] same each = refl
  filter-flags test [] (x ∷ xs) same each = absurd (omega arith)
  filter-flags test (f ∷ fs) [] same each = refl
  filter-flags test (f ∷ fs) (x ∷ xs) same each =
      ap (λ b. items_where_true (b ∷ fs) (x ∷ xs)) (same_Some f (test x) (each zero x refl))
      ∙ chosen_head (test x) x fs xs (filter-flags test fs xs (omega arith) (λ k y at. each (suc k) y at))

  -- and where a flag says what a table and a test say, the test chooses it among what the table took
  pub filter-taken : (test : A → Bool) (table : List (Option ℕ)) (flags : List Bool) (xs : List A) → length table ≡ length xs
      → ((k : ℕ) (x : A) → k < length table → slice_get xs k ≡ Some x → slice_get flags k ≡ Some (is_taken table k && test x))
      → items_where_true flags xs ≡ filter test (items_where_true (map is_some table) xs)
  filter-taken test [] [] [] same each = refl
  filter-taken test [] (f ∷ fs) [] same each = refl
  filter-taken test [] flags (x ∷ xs) same each = absurd (omega arith)
  filter-taken test (e ∷ es) flags [] same each = absurd (omega arith)
  filter-taken test (e ∷ es) [] (x ∷ xs) same each =
      let none : slice_get [] 0 ≡ Some (is_taken (e ∷ es) 0 && test x) = each zero x (omega arith) refl in absurd cc
  filter-taken test (None ∷ es) (f ∷ fs) (x ∷ xs) same each =
      ap (λ b. items_where_true (b ∷ fs) (x ∷ xs)) (same_Some f false (each zero x (omega arith) refl))
      ∙ filter-taken test es fs xs (omega arith) (λ k y below at. each (suc k) y (omega arith) at)
  filter-taken test (Some n ∷ es) (f ∷ fs) (x ∷ xs) same each =
      ap (λ b. items_where_true (b ∷ fs) (x ∷ xs)) (same_Some f (test x) (each zero x (omega arith) refl))
      ∙ chosen_head (test x) x fs xs (filter-taken test es fs xs (omega arith) (λ k y below at. each (suc k) y (omega arith) at))

  -- what a table took, and what it skipped
  pub Permuted-skipped : (table : List (Option ℕ)) (xs : List A) → length table ≡ length xs
      → Permuted (items_where_true (map is_some table) xs ++ skipped_of table xs) xs
  Permuted-skipped [] [] same = nothing
  Permuted-skipped [] (x ∷ xs) same = absurd (omega arith)
  Permuted-skipped (e ∷ es) [] same = absurd (omega arith)
  Permuted-skipped (Some n ∷ es) (x ∷ xs) same = same_head x (Permuted-skipped es xs (omega arith))
  Permuted-skipped (None ∷ es) (x ∷ xs) same =
      composed (Permuted-middle (items_where_true (map is_some es) xs) x (skipped_of es xs)) (same_head x (Permuted-skipped es xs (omega arith)))

  -- two pairs of lists, paired the other way
  pub Permuted-crossed : (xs ys us vs : List A) → Permuted ((xs ++ ys) ++ (us ++ vs)) ((xs ++ us) ++ (ys ++ vs))
  Permuted-crossed xs ys us vs =
      subst (λ l. Permuted l ((xs ++ us) ++ (ys ++ vs))) (sym (append_assoc xs ys (us ++ vs)))
      (subst (λ l. Permuted (xs ++ (ys ++ (us ++ vs))) l) (sym (append_assoc xs us (ys ++ vs)))
      (Permuted-append_right xs
      (subst (λ l. Permuted l (us ++ (ys ++ vs))) (append_assoc ys us vs)
      (subst (λ l. Permuted ((ys ++ us) ++ vs) l) (append_assoc us ys vs)
      (Permuted-append_left vs (Permuted-append_comm ys us))))))
