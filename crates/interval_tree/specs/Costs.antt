-- The most touches of one question, and of one mark.
use Rattle.std.specs.Prelude.{ℕ, ◌+◌, ◌*◌, ◌≤◌, List, length}
use Rattle.std.proofs.Common.{arith}
use Rattle.builder_trait.specs.Parts.{Contents}
use Rattle.map_structures.specs.Touches.{PartTouches, AreFew, touches_at}
use Rattle.map_shapes.specs.declared.segment.Segment.{Segment}
use Rattle.row_blocks.specs.Heights.{height_of}
use Rattle.interval_tree.specs.Queries.{hits}

-- enough for some walks over all heights of a part of at most 2 ^ h segments, as searches, counts and marks take them
abbrev pub walk_touches : ℕ → ℕ
walk_touches h = 16 * (h + 2)

-- for a number
abbrev pub count_touches : List Segment → ℕ
count_touches segments = walk_touches (height_of (length segments))

-- for identifiers: as many, and as many more for each
abbrev pub stab_touches : ℕ → Contents Segment → ℕ
stab_touches x part = walk_touches (height_of (length part.items)) * (length (hits x part) + 1)

-- no more than the map allows a mark
pub walk_touches-few : (h : ℕ) → walk_touches h ≤ touches_at h
walk_touches-few h = grind arith

-- the same of any question to a part of at most 2 ^ g segments
abbrev pub question_touches : ℕ → PartTouches
question_touches g = record { part = walk_touches g; hit = walk_touches g; item = 0 }

pub question_touches-few : (g : ℕ) → g ≤ 25 → AreFew (question_touches g)
question_touches-few g low = record { part = omega (arith, low); hit = omega (arith, low); item = omega arith }
