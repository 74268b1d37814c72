-- The most touches of one question.
use Rattle.std.specs.Prelude.{◌≡◌, ℕ, zero, suc, ◌+◌, ◌-◌, ◌*◌, ◌^◌, ◌<◌, ◌≤◌, List, length, filter}
use Rattle.std.proofs.Common.{ap, arith, subst, pow-suc}
use Rattle.builder_trait.specs.Parts.{Contents, live_of}
use Rattle.map_structures.specs.Touches.{PartTouches, AreFew, touches_at}
use Rattle.map_shapes.specs.declared.point.Point.{Point}
use Rattle.map_shapes.specs.declared.rect.Rect.{Rect}
use Rattle.map_shapes.specs.Questions.{is_in}
use Rattle.range_tree.specs.declared.measure.Measure.{Measure}
use Rattle.range_tree.specs.declared.measure.Measure.TheVariants.{Count, Weight}
use Rattle.row_blocks.specs.Heights.{height_of}

-- for a number at a height: 2 * (h + 2) ^ 2 for a count, and 16 * (h + 2) ^ 2 for a sum
abbrev pub touches_to_measure : Measure → ℕ → ℕ
touches_to_measure Count h = 2 * ((h + 2) * (h + 2))
touches_to_measure Weight h = 16 * ((h + 2) * (h + 2))

abbrev pub measure_touches : Measure → List Point → ℕ
measure_touches measure points = touches_to_measure measure (height_of (length points))

-- from 2 ^ 13 points on a count takes less than a scan, which reads each leaf of sixteen points
fewer : (d : ℕ) → 16 * touches_to_measure Count (d + 13) < 2 ^ (d + 13)
fewer zero = omega arith
fewer (suc d) =
    let next : suc d + 13 ≡ suc (d + 13) = omega arith in omega (arith, fewer d, pow-suc 2 (d + 13), ap (λ n. 2 ^ n) next)

pub count-fewer : (h : ℕ) → 13 ≤ h → 16 * touches_to_measure Count h < 2 ^ h
count-fewer h high = let is : h - 13 + 13 ≡ h = omega (arith, high) in subst (λ n. 16 * touches_to_measure Count n < 2 ^ n) is (fewer (h - 13))

-- for a list: 4 * (h + 2) ^ 2, and 8 * (h + 2) for each live point in the rectangle
abbrev pub list_touches : Rect → Contents Point → ℕ
list_touches rect part =
    4 * ((height_of (length part.items) + 2) * (height_of (length part.items) + 2))
    + 8 * (height_of (length part.items) + 2) * length (filter (is_in rect) (live_of part))

-- a larger part doesn't have a lower bound
longer : (g d : ℕ) → 16 * ((g + 2) * (g + 2)) ≤ 16 * ((g + d + 2) * (g + d + 2))
longer g d = omega arith

pub mark_touches-rise : (g h : ℕ) → g ≤ h → 16 * ((g + 2) * (g + 2)) ≤ 16 * ((h + 2) * (h + 2))
mark_touches-rise g h le =
    let is : g + (h - g) ≡ h = omega arith in
    subst (λ n. 16 * ((g + 2) * (g + 2)) ≤ 16 * ((n + 2) * (n + 2))) is (longer g (h - g))

-- the same of any question to a part of at most 2 ^ g points
abbrev pub question_touches : ℕ → PartTouches
question_touches g = record { part = touches_at g; hit = 8 * (g + 2); item = 0 }

pub question_touches-few : (g : ℕ) → g ≤ 25 → AreFew (question_touches g)
question_touches-few g low = record {
  part = omega (arith, mark_touches-rise g 25 low);
  hit = omega (arith, low);
  item = omega arith;
}

-- The most touches for a block that so many ends of some places cut, with so many rows from its own down: those that one row cuts go on. A block that
-- is taken whole takes two touches for each of its heights, and so many more.
abbrev pub blocks_touches : (more below ends : ℕ) → ℕ
blocks_touches more below ends = 2 * below + 18 + more + ends * (below * (below + 17 + more))

-- the most touches for each point that is listed out of a block
abbrev pub list_touches_each : ℕ → ℕ
list_touches_each height = 8 * (height + 2)
