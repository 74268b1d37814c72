-- What one more entry makes of the first few.
use Rattle.std.proofs.Common.{◌≡◌, ℕ, zero, suc, ◌-◌, ◌+◌, ◌≤◌, ◌<◌, Bool, true, false, cond, List, [], ◌∷◌, ◌++◌, length, take, Option, Some, None, slice_get, refl, sym, ap, ◌∙◌, arith, append-nil, append_assoc}
use Rattle.std.specs.Prelude.{IsTrue, MatchOption, not, insert, take_while}
use Rattle.std.specs.List.{prefix_len, All}
use Rattle.std.specs.Option.{option_to_list}
use Rattle.std.proofs.lemmas.List.Elements.{All-tail}
use Rattle.std.proofs.lemmas.Grind.{common_steps}
use Rattle.std.proofs.lemmas.List.{take_all, take_at, length-take}
use Rattle.std.proofs.lemmas.List.Folds.{length-prefix_len}
use Rattle.query_laws.proofs.Permutations.{Permuted-append_comm}
use Rattle.map_model.specs.Found.{insert_by, sorted_by}
use Rattle.map_questions.specs.FirstFew.{IsTotalOrder, IsFirstFew, first_few, first_few_of_both, first, first_of_both}
use Rattle.map_questions.specs.FirstFewLaws.{front-take, listed-front, first_few-append_left, first_few-append_right, first_few-IsFirstFew, alone-IsFirstFew, reflexive, otherwise, sorted_by-Permuted, sorted_tail, sorted_head, IsFirstFew-first_few}

module _ {A : Type 0} (le : A → A → Bool) where
  -- an entry goes in before the first that it doesn't come after
  insert-cons : (b : Bool) (x y : A) (ys : List A) (n : ℕ) → insert_by le x ys ≡ insert ys n x
      → cond b (x ∷ y ∷ ys) (y ∷ insert_by le x ys) ≡ insert (y ∷ ys) (cond (not b) (1 + n) 0) x
  insert-cons true x y ys n e = refl
  insert-cons false x y ys n e =
      let next : suc n ≡ 1 + n = omega arith in
      ap (λ (zs : List A). y ∷ zs) e ∙ ap (λ m. insert (y ∷ ys) m x) next

  insert_by-prefix : (x : A) (ys : List A) → insert_by le x ys ≡ insert ys (prefix_len (λ y. not (le x y)) ys) x
  insert_by-prefix x [] = refl
  insert_by-prefix x (y ∷ ys) = insert-cons (le x y) x y ys (prefix_len (λ z. not (le x z)) ys) (insert_by-prefix x ys)

  pub insert_by-insert : (x : A) (ys : List A) → insert_by le x ys ≡ insert ys (length (take_while (λ y. not (le x y)) ys)) x
  insert_by-insert x ys = insert_by-prefix x ys ∙ ap (λ n. insert ys n x) (sym (length-prefix_len (λ y. not (le x y)) ys))

  length-insert_by : (x : A) (ys : List A) → length (insert_by le x ys) ≡ length ys + 1
  length-insert_by x [] = refl
  length-insert_by x (y ∷ ys) = grind (arith, common_steps, length-insert_by x ys)

  -- The entry goes into the new list, which then has the first k of the old one and of this entry.
  pub record HasRoomFor (k : ℕ) (old : List A) (x : A) (now : List A) : Type 0 where
    pub room : length now < k
    pub joined : first_few_of_both le k old (x ∷ []) ≡ insert_by le x now

module _ {A : Type 0} {le : A → A → Bool} (order : IsTotalOrder le) where
  at-length : (j : ℕ) (xs : List A) (w : A) → slice_get xs j ≡ Some w → j < length xs
  at-length j [] w at = cc
  at-length zero (y ∷ ys) w at = omega arith
  at-length (suc j) (y ∷ ys) w at = omega (arith, at-length j ys w at)

  none-length : (j : ℕ) (xs : List A) → slice_get xs j ≡ None → length xs ≤ j
  none-length j [] none = omega arith
  none-length zero (y ∷ ys) none = cc
  none-length (suc j) (y ∷ ys) none = omega (arith, none-length j ys none)

  sorted_by-push : (xs : List A) (x : A) → sorted_by le xs ≡ xs → sorted_by le (xs ++ x ∷ []) ≡ insert_by le x xs
  sorted_by-push xs x sorted = sorted_by-Permuted order (Permuted-append_comm xs (x ∷ [])) ∙ ap (insert_by le x) sorted

  insert_by-take : (j : ℕ) (xs : List A) (x w : A) → slice_get xs j ≡ Some w → le w x ≡ false
      → take (suc j) (insert_by le x xs) ≡ insert_by le x (take j xs)
  insert_by-take j [] x w at after = cc
  insert_by-take zero (y ∷ ys) x w at after = grind (arith, common_steps, otherwise order w x)
  insert_by-take (suc j) (y ∷ ys) x w at after = grind (arith, common_steps, insert_by-take j ys x w at after)

  fewer : (k : ℕ) (xs : List A) (x : A) → 1 ≤ k → IsFirstFew le k xs → slice_get xs (k - 1) ≡ None → HasRoomFor le k xs x (take (k - 1) xs)
  fewer k xs x some h none =
      let short : length xs ≤ k - 1 = none-length (k - 1) xs none in
      let filled : first_few_of_both le k xs (x ∷ []) ≡ insert_by le x xs =
      ap (take k) (sorted_by-push xs x h.sorted) ∙ take_all k (insert_by le x xs) (omega (arith, short, length-insert_by le x xs)) in
      record {
        room = omega (arith, some, length-take (k - 1) xs);
        joined = filled ∙ ap (insert_by le x) (sym (take_all (k - 1) xs short));
      }

  better : (j k : ℕ) (xs : List A) (x w : A) → k ≡ suc j → IsFirstFew le k xs → slice_get xs j ≡ Some w → le w x ≡ false
      → HasRoomFor le k xs x (take j xs)
  better j k xs x w next h at after = record {
    room = omega (arith, next, length-take j xs);
    joined = ap (take k) (sorted_by-push xs x h.sorted) ∙ ap (λ n. take n (insert_by le x xs)) next ∙ insert_by-take j xs x w at after;
  }

  room_for : (k : ℕ) (xs : List A) (x : A) (last : Option A) (b : Bool) → IsFirstFew le k xs → 1 ≤ k → slice_get xs (k - 1) ≡ last
      → MatchOption last (IsTrue b) (λ w. b ≡ not (le w x)) → b ≡ true → HasRoomFor le k xs x (take (k - 1) xs)
  room_for k xs x None b h some at takes better_one = fewer k xs x some h at
  room_for k xs x (Some w) b h some at takes better_one = better (k - 1) k xs x w (omega arith) h at (grind arith)

  -- Where there is no room, and the entry comes before the last one, this one goes out.
  pub HasRoomFor-take : (k : ℕ) (xs : List A) (x : A) (b : Bool) → IsFirstFew le k xs → 1 ≤ k
      → MatchOption (slice_get xs (k - 1)) (IsTrue b) (λ w. b ≡ not (le w x)) → b ≡ true → HasRoomFor le k xs x (take (k - 1) xs)
  HasRoomFor-take k xs x b h some takes better_one = room_for k xs x (slice_get xs (k - 1)) b h some refl takes better_one

  -- once it is in, the new list is that of the first k
  pub IsFirstFew-insert_by : (k : ℕ) (old : List A) (x : A) (now : List A) → HasRoomFor le k old x now → IsFirstFew le k (insert_by le x now)
  IsFirstFew-insert_by k old x now h = rw (← h.joined) (IsFirstFew-first_few order k (old ++ x ∷ []))

  sorted_by-push_last : (j : ℕ) (xs : List A) (x w : A) → sorted_by le xs ≡ xs → length xs ≤ suc j → slice_get xs j ≡ Some w → le w x ≡ true
      → sorted_by le (xs ++ x ∷ []) ≡ xs ++ x ∷ []
  sorted_by-push_last j [] x w sorted few at before = cc
  sorted_by-push_last zero (y ∷ []) x w sorted few at before = grind (arith, common_steps)
  sorted_by-push_last zero (y ∷ z ∷ zs) x w sorted few at before = absurd (omega arith)
  sorted_by-push_last (suc j) (y ∷ []) x w sorted few at before = cc
  sorted_by-push_last (suc j) (y ∷ z ∷ zs) x w sorted few at before =
      ap (insert_by le y) (sorted_by-push_last j (z ∷ zs) x w (sorted_tail order y (z ∷ zs) sorted) (omega arith) at before)
      ∙ grind (arith, common_steps, sorted_head order y (z ∷ zs) sorted, reflexive order y)

  worse : (j k : ℕ) (xs : List A) (x w : A) → k ≡ suc j → IsFirstFew le k xs → slice_get xs j ≡ Some w → le w x ≡ true
      → first_few_of_both le k xs (x ∷ []) ≡ xs
  worse j k xs x w next h at before =
      ap (take k) (sorted_by-push_last j xs x w h.sorted (omega (arith, h.few)) at before)
      ∙ take_at xs (x ∷ []) k (omega (arith, h.few, at-length j xs w at))

  no_room : (k : ℕ) (xs : List A) (x : A) (last : Option A) (b : Bool) → IsFirstFew le k xs → 1 ≤ k → slice_get xs (k - 1) ≡ last
      → MatchOption last (IsTrue b) (λ w. b ≡ not (le w x)) → b ≡ false → first_few_of_both le k xs (x ∷ []) ≡ xs
  no_room k xs x None b h some at takes worse_one = absurd (grind arith)
  no_room k xs x (Some w) b h some at takes worse_one = worse (k - 1) k xs x w (omega arith) h at (grind arith)

  -- It doesn't come before the last one, and all stays.
  pub first_few-worse : (k : ℕ) (xs : List A) (x : A) (b : Bool) → IsFirstFew le k xs → 1 ≤ k
      → MatchOption (slice_get xs (k - 1)) (IsTrue b) (λ w. b ≡ not (le w x)) → b ≡ false → first_few_of_both le k xs (x ∷ []) ≡ xs
  first_few-worse k xs x b h some takes worse_one = no_room k xs x (slice_get xs (k - 1)) b h some refl takes worse_one

  -- Many that don't come before the last one change nothing either: what a part may leave out.
  all_worse : (k : ℕ) (xs ys : List A) (w : A) → IsFirstFew le k xs → 1 ≤ k → slice_get xs (k - 1) ≡ Some w → All (λ y. le w y ≡ true) ys
      → first_few le k (xs ++ ys) ≡ xs
  all_worse k xs [] w h some at before = ap (first_few le k) (append-nil xs) ∙ first_few-IsFirstFew order k xs h
  all_worse k xs (y ∷ ys) w h some at before =
      ap (first_few le k) (sym (append_assoc xs (y ∷ []) ys)) ∙ sym (first_few-append_left order k (xs ++ y ∷ []) ys)
      ∙ ap (λ zs. first_few le k (zs ++ ys)) (worse (k - 1) k xs y w (omega arith) h at (before 0 w (omega arith)))
      ∙ all_worse k xs ys w h some at (All-tail (λ z. le w z ≡ true) y ys before)

  pub first_few-all_worse : (k : ℕ) (xs ys : List A) (w : A) → IsFirstFew le k xs → 1 ≤ k → slice_get xs (k - 1) ≡ Some w
      → All (λ y. le w y ≡ true) ys → first_few_of_both le k xs (first_few le k ys) ≡ xs
  first_few-all_worse k xs ys w h some at before = first_few-append_right order k xs ys ∙ all_worse k xs ys w h some at before

  listed-first : (ys : List A) → option_to_list (first le ys) ≡ first_few le 1 ys
  listed-first ys =
      ap option_to_list (sym (front-take (sorted_by le ys))) ∙ listed-front (take 1 (sorted_by le ys)) (omega (arith, length-take 1 (sorted_by le ys)))

  pub first-all_worse : (w : A) (ys : List A) → All (λ y. le w y ≡ true) ys → first_of_both le (Some w) (first le ys) ≡ Some w
  first-all_worse w ys before =
      ap (λ zs. slice_get (sorted_by le (w ∷ zs)) 0) (listed-first ys) ∙ sym (front-take (sorted_by le (w ∷ first_few le 1 ys)))
      ∙ ap (λ zs. slice_get zs 0) (first_few-all_worse 1 (w ∷ []) ys w (alone-IsFirstFew order (Some w)) (omega arith) refl before)
