-- What binary searches among points of the first order need, and what they find.
use Rattle.std.proofs.Common.{◌≡◌, ℕ, ◌<◌, ◌≤◌, ◌&&◌, Bool, nat_lt, List, length, get_or, Some, slice_get, arith, subst, inl, inr}
use Rattle.std.specs.Prelude.{nat_le}
use Rattle.std.proofs.lemmas.Bool.{cases_lt}
use Rattle.std.proofs.lemmas.Bool.Decides.{nat_tests}
use Rattle.std.proofs.lemmas.Option.{get_or_from_slice_get, slice_get_within}
use Rattle.builder_trait.specs.Parts
use Rattle.builder_trait.specs.Search.{PassesUpTo}
use Rattle.query_laws.specs.Orders.{before_in}
use Rattle.query_laws.specs.declared.item.Order.{Order}
use Rattle.query_laws.specs.declared.item.Order.TheVariants.{First}
use Rattle.map_shapes.specs.declared.point.Point.{Point}
use Rattle.map_structures.specs.declared.reach.Reach.{Reach}
use Rattle.map_structures.specs.Reach.{reaches}
use Rattle.map_structures.proofs.Reaching.{reaches-down, abscissa-from_before}

abbrev before : Order → Point → Point → Bool
before order a b = before_in (λ (p : Point). p.x) (λ (p : Point). p.y) (λ (p : Point). p.stamp) order a b

pub PassesUpTo-xs : (reach : Reach) (points : List Point) (low high : ℕ) → Parts.IsRising (before First) points → high ≤ length points
    → PassesUpTo (λ p. reaches reach p.x) points low high
PassesUpTo-xs reach points low high rising within k l d above less below passed =
    reaches-down reach (get_or points k d).x (get_or points l d).x
    (abscissa-from_before (get_or points k d) (get_or points l d) (rising k l d less (omega arith))) passed

-- of a point that stands at a place
pub at_place : (P : Point → Type 0) (points : List Point) (k : ℕ) (p : Point) → slice_get points k ≡ Some p → (k < length points → P (get_or points k p)) → P p
at_place P points k p at holds = subst P (get_or_from_slice_get points k p p at) (holds (slice_get_within points k p at))

-- the places between two are those of the x between two
is_before : (from to k x1 x2 x : ℕ) → k < from → x < x1 → (nat_le from k && nat_lt k to) ≡ (nat_le x1 x && nat_le x x2)
is_before from to k x1 x2 x less lower = grind (arith, nat_tests)

is_within : (from to k x1 x2 x : ℕ) → from ≤ k → k < to → x1 ≤ x → x ≤ x2 → (nat_le from k && nat_lt k to) ≡ (nat_le x1 x && nat_le x x2)
is_within from to k x1 x2 x low high least most = grind (arith, nat_tests)

is_behind : (from to k x1 x2 x : ℕ) → to ≤ k → x2 < x → (nat_le from k && nat_lt k to) ≡ (nat_le x1 x && nat_le x x2)
is_behind from to k x1 x2 x more higher = grind (arith, nat_tests)

pub is_between_places : (from to k x1 x2 x : ℕ) → (k < from → x < x1) → (from ≤ k → k < to → x ≤ x2) → (from ≤ k → x1 ≤ x) → (to ≤ k → x2 < x) → from ≤ to
    → (nat_le from k && nat_lt k to) ≡ (nat_le x1 x && nat_le x x2)
is_between_places from to k x1 x2 x before most least behind ordered = elim (cases_lt k from) [
  | inl less ↦ is_before from to k x1 x2 x less (before less)
  | inr low ↦ elim (cases_lt k to) [
    | inl high ↦ is_within from to k x1 x2 x low high (least low) (most low high)
    | inr more ↦ is_behind from to k x1 x2 x more (behind more)
  ]
]
