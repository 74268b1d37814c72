-- What a search for the first coordinate that isn't reached tells.
use Rattle.std.proofs.Common.{◌≡◌, ℕ, ◌<◌, ◌≤◌, ◌==◌, ◌&&◌, ◌||◌, false, true, nat_lt, IsTrue, arith}
use Rattle.std.proofs.lemmas.Bool.Decides.{nat_tests}
use Rattle.query_laws.specs.Orders.{before_in}
use Rattle.query_laws.specs.declared.item.Order.TheVariants.{First}
use Rattle.map_shapes.specs.declared.point.Point.{Point}
use Rattle.map_structures.specs.declared.reach.Reach.{Reach}
use Rattle.map_structures.specs.declared.reach.Reach.TheVariants.{Below, UpTo}
use Rattle.map_structures.specs.Reach.{reaches}

pub reaches-down : (reach : Reach) (a b : ℕ) → a ≤ b → IsTrue (reaches reach b) → IsTrue (reaches reach a)
reaches-down (Below bound) a b le passed = grind (arith, nat_tests)
reaches-down (UpTo bound) a b le passed = grind (arith, nat_tests)

pub below-from_reaches : (bound c : ℕ) → IsTrue (reaches (Below bound) c) → c < bound
below-from_reaches bound c passed = grind (arith, nat_tests)

pub from-from_reaches : (bound c : ℕ) → reaches (Below bound) c ≡ false → bound ≤ c
from-from_reaches bound c failed = grind (arith, nat_tests)

pub up_to-from_reaches : (bound c : ℕ) → IsTrue (reaches (UpTo bound) c) → c ≤ bound
up_to-from_reaches bound c passed = grind (arith, nat_tests)

pub above-from_reaches : (bound c : ℕ) → reaches (UpTo bound) c ≡ false → bound < c
above-from_reaches bound c failed = grind (arith, nat_tests)

-- points in the first order have x that don't fall
pub abscissa-from_before : (a b : Point) → IsTrue (before_in (λ (p : Point). p.x) (λ (p : Point). p.y) (λ (p : Point). p.stamp) First a b) → a.x ≤ b.x
abscissa-from_before a b ahead = by a.x b.x a.y b.y a.stamp b.stamp ahead
  where
    by : (x y p q s t : ℕ) → (nat_lt x y || ((x == y) && (nat_lt p q || ((p == q) && nat_lt s t)))) ≡ true → x ≤ y
    by x y p q s t ahead = grind (arith, nat_tests)
