-- The first entries of a list by an order.
use Rattle.std.specs.Prelude.{◌≡◌, ℕ, ◌≤◌, Bool, IsTrue, ◌⊎◌, List, ◌++◌, length, take, slice_get, Option}
use Rattle.std.specs.Option.{option_to_list}
use Rattle.map_model.specs.Found.{sorted_by}

-- Of any two entries one comes before the other, and both do only where they are the same.
pub record IsTotalOrder {A : Type 0} (le : A → A → Bool) : Type 0 where
  pub total : (a b : A) → IsTrue (le a b) ⊎ IsTrue (le b a)
  pub transitive : (a b c : A) → IsTrue (le a b) → IsTrue (le b c) → IsTrue (le a c)
  pub antisymmetric : (a b : A) → IsTrue (le a b) → IsTrue (le b a) → a ≡ b

-- the first k, in order, or all where there are fewer
abbrev pub first_few : {A : Type 0} → (A → A → Bool) → ℕ → List A → List A
first_few le k xs = take k (sorted_by le xs)

-- the first k of two lists together
abbrev pub first_few_of_both : {A : Type 0} → (A → A → Bool) → ℕ → List A → List A → List A
first_few_of_both le k a b = first_few le k (a ++ b)

-- the very first
abbrev pub first : {A : Type 0} → (A → A → Bool) → List A → Option A
first le xs = slice_get (sorted_by le xs) 0

-- the first of two, where they are there
abbrev pub first_of_both : {A : Type 0} → (A → A → Bool) → Option A → Option A → Option A
first_of_both le a b = first le (option_to_list a ++ option_to_list b)

-- a list that is in order, and has at most k entries
pub record IsFirstFew {A : Type 0} (le : A → A → Bool) (k : ℕ) (xs : List A) : Type 0 where
  pub sorted : sorted_by le xs ≡ xs
  pub few : length xs ≤ k
