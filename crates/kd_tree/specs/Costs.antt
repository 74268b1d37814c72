-- The most touches of a question.
use Rattle.std.specs.Prelude.{ℕ, ◌+◌, ◌*◌, ◌≤◌, false, List, length, filter}
use Rattle.std.proofs.Common.{arith}
use Rattle.builder_trait.specs.Parts.{Contents, live_of}
use Rattle.map_structures.specs.Touches.{PartTouches, AreFew}
use Rattle.map_shapes.specs.declared.point.Point.{Point}

-- of a question, sixteen, and sixteen for each point of a part, dead ones included
abbrev pub question_touches : ℕ → PartTouches
question_touches g = record { part = 16; hit = 0; item = 16 }

pub question_touches-few : (g : ℕ) → g ≤ 25 → AreFew (question_touches g)
question_touches-few g low = record { part = omega arith; hit = omega arith; item = omega arith }

pub asked : (p : Contents Point) → 16 * (length p.items + 1) ≤ 16 + 0 * length (filter (λ x. false) (live_of p)) + 16 * length p.items
asked p = omega arith

-- of so many parts of a layer of n points
abbrev pub most_touches : ℕ → ℕ → ℕ
most_touches parts n = 16 * (2 * n + 9 + parts)

pub asked_all : (parts : ℕ) (xs : List Point) → parts * 16 + 0 * length (filter (λ x. false) xs) + 16 * (2 * length xs + 9) ≤ most_touches parts (length xs)
asked_all parts xs = omega arith
