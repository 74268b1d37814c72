-- Orders of items.
use Rattle.std.specs.Prelude.{◌≡◌, ◌≢◌, ℕ, ◌==◌, ◌&&◌, ◌||◌, Bool, false, nat_lt, IsTrue, ◌⊎◌, List, AllPairs}
use Rattle.query_laws.specs.declared.item.Order.{Order}
use Rattle.query_laws.specs.declared.item.Order.TheVariants.{First, Second}

-- a strict order, which tells apart any two items with different stamps
pub record IsStrictTotalOrder {Item : Type 0} (stamp : Item → ℕ) (before : Item → Item → Bool) : Type 0 where
  pub irreflexive : (a : Item) → before a a ≡ false
  pub transitive : (a b c : Item) → IsTrue (before a b) → IsTrue (before b c) → IsTrue (before a c)
  pub total : (a b : Item) → stamp a ≢ stamp b → IsTrue (before a b) ⊎ IsTrue (before b a)

-- no two items of the list have the same stamp
abbrev pub AllStampsDiffer : {Item : Type 0} → (Item → ℕ) → List Item → Type 0
AllStampsDiffer stamp xs = AllPairs (λ x y. stamp x ≢ stamp y) xs

-- the order by one number, then by a second, then by the stamp
abbrev pub before_by : {Item : Type 0} → (Item → ℕ) → (Item → ℕ) → (Item → ℕ) → Item → Item → Bool
before_by first second stamp a b =
    nat_lt (first a) (first b)
    || ((first a == first b) && (nat_lt (second a) (second b) || ((second a == second b) && nat_lt (stamp a) (stamp b))))

-- the first order by the first number and then the second, and the second order the other way round
abbrev pub before_in : {Item : Type 0} → (Item → ℕ) → (Item → ℕ) → (Item → ℕ) → Order → Item → Item → Bool
before_in first second stamp First = before_by first second stamp
before_in first second stamp Second = before_by second first stamp
