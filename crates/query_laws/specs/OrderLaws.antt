-- That the usual orders are strict and total.
use Rattle.std.specs.Prelude.{◌≡◌, ◌≢◌, ℕ, false, IsTrue, ◌⊎◌}
use Rattle.std.proofs.Common.{arith}
use Rattle.std.proofs.lemmas.Bool.Decides.{nat_tests}
use Rattle.query_laws.specs.Orders.{IsStrictTotalOrder, before_by, before_in}
use Rattle.query_laws.specs.declared.item.Order.{Order}
use Rattle.query_laws.specs.declared.item.Order.TheVariants.{First, Second}

module _ {Item : Type 0} (first second stamp : Item → ℕ) where
  pub before_by-irreflexive : (a : Item) → before_by first second stamp a a ≡ false
  before_by-irreflexive a = grind (arith, nat_tests)

  pub before_by-transitive : (a b c : Item) → IsTrue (before_by first second stamp a b) → IsTrue (before_by first second stamp b c)
      → IsTrue (before_by first second stamp a c)
  before_by-transitive a b c h k = grind (arith, nat_tests)

  pub before_by-total : (a b : Item) → stamp a ≢ stamp b
      → IsTrue (before_by first second stamp a b) ⊎ IsTrue (before_by first second stamp b a)
  before_by-total a b h = grind (arith, nat_tests)

  -- by two numbers and then the stamp, in this order of theirs
  pub IsStrictTotalOrder-before_by : IsStrictTotalOrder stamp (before_by first second stamp)
  IsStrictTotalOrder-before_by = record {
    irreflexive = before_by-irreflexive;
    transitive = before_by-transitive;
    total = before_by-total;
  }

module _ {Item : Type 0} (first second stamp : Item → ℕ) where
  -- both orders of an item with two numbers and a stamp
  pub IsStrictTotalOrder-before_in : (order : Order) → IsStrictTotalOrder stamp (before_in first second stamp order)
  IsStrictTotalOrder-before_in First = IsStrictTotalOrder-before_by first second stamp
  IsStrictTotalOrder-before_in Second = IsStrictTotalOrder-before_by second first stamp
