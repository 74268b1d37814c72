-- The most touches of one question.
use Rattle.std.specs.Prelude.{ℕ, ◌+◌, ◌*◌, ◌≤◌, List, length, filter}
use Rattle.std.proofs.Common.{arith}
use Rattle.builder_trait.specs.Parts.{Contents, live_of}
use Rattle.map_structures.specs.Touches.{PartTouches, AreFew}
use Rattle.map_model.specs.Shape.{is_above}
use Rattle.map_shapes.specs.declared.point.Point.{Point}
use Rattle.map_shapes.specs.Point.{shape_of}
use Rattle.row_blocks.specs.Heights.{height_of}

-- for the highest point: 16 * (h + 2)
abbrev pub top_touches : List Point → ℕ
top_touches points = 16 * (height_of (length points) + 2)

-- for the points that are high: 16 * (h + 2 + k), where there are k of them
abbrev pub above_touches : ℕ → ℕ → ℕ → Contents Point → ℕ
above_touches x1 x2 y part =
    16 * (height_of (length part.items) + 2 + length (filter (λ p. is_above x1 x2 y (shape_of p)) (live_of part)))

-- the same of any question to a part of at most 2 ^ g points
abbrev pub question_touches : ℕ → PartTouches
question_touches g = record { part = 16 * (g + 2); hit = 16; item = 0 }

pub question_touches-few : (g : ℕ) → g ≤ 25 → AreFew (question_touches g)
question_touches-few g low = record {
  part = omega (arith, low);
  hit = omega arith;
  item = omega arith;
}
