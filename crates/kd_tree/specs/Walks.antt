-- Walks over blocks.
use Rattle.std.specs.Prelude.{◌≡◌, ℕ, zero, suc, ◌+◌, ◌-◌, ◌*◌, ◌^◌, ◌<◌, ◌≤◌, true, false, if◌then◌else◌, List, [], ◌++◌, min, map, sum_by, slice_get, slice_index_or, Some, ◌⊎◌}
use Rattle.std.specs.List.{flat_map, range_with_len}
use Rattle.std.specs.Option.{option_to_list}
use Rattle.builder_trait.specs.Parts.{Contents}
use Rattle.map_shapes.specs.declared.point.Point.{Point}
use Rattle.map_model.specs.Found.{Found}
use Rattle.map_shapes.specs.Found.{nearer_le}
use Rattle.map_questions.specs.declared.near.Near.{Near}
use Rattle.map_questions.specs.FirstFew.{first_few}
use Rattle.map_questions.specs.Questions.{found_at}
use Rattle.kd_tree.specs.declared.spot.Spot.{Spot}
use Rattle.kd_tree.specs.declared.block.Block.{Block}
use Rattle.kd_tree.specs.Areas.{apart, spot_of}
use Rattle.kd_tree.specs.Distances.{least}
use Rattle.kd_tree.specs.Heights.{span}

-- where a question asks
abbrev pub spot_asked : Near → Spot
spot_asked q = record { x = q.x; y = q.y }

-- points as the question finds them
abbrev pub founds : Near → List Point → List Found
founds q points = map (found_at q.x q.y) points

-- the live point at a place, if it is one, and at a position
abbrev pub live_at : Contents Point → ℕ → List Point
live_at part place = if slice_index_or part.flags place false then option_to_list (slice_get part.items place) else []

abbrev pub live_standing : Contents Point → List ℕ → ℕ → List Point
live_standing part order position = flat_map (live_at part) (option_to_list (slice_get order position))

-- the live points at the positions from `from` on and below `to`
abbrev pub live_in : Contents Point → List ℕ → ℕ → ℕ → List Point
live_in part order from to = flat_map (live_standing part order) (range_with_len from (to - from))

-- where a block begins, and ends
abbrev pub start_of : Block → ℕ
start_of b = b.place * span b.level

abbrev pub end_of : Block → ℕ
end_of b = (b.place + 1) * span b.level

abbrev pub live_in_block : Contents Point → List ℕ → Block → List Point
live_in_block part order b = live_in part order (start_of b) (end_of b)

-- none of the block's live points is nearer than it says, and where it says that it has none, it has none
pub record IsFar (part : Contents Point) (order : List ℕ) (q : Near) (b : Block) : Type 0 where
  pub each : (position place : ℕ) (p : Point) → start_of b ≤ position → position < end_of b → slice_get order position ≡ Some place
      → slice_get part.items place ≡ Some p → slice_get part.flags place ≡ Some true
      → (b.some ≡ true) × (least b.dist ≤ apart (spot_asked q) (spot_of p))

-- a block of a tree of that depth, with a position below n
pub record IsBlock (depth n : ℕ) (b : Block) : Type 0 where
  pub level : b.level ≤ depth
  pub place : b.place < 4 ^ (depth - b.level)
  pub within : start_of b < n

-- one of the blocks of a node, one level below it
pub record IsChild (part : Contents Point) (order : List ℕ) (q : Near) (depth n at_level : ℕ) (b : Block) : Type 0 where
  pub level : b.level ≡ at_level
  pub place : b.place < 4 ^ (depth - at_level)
  pub within : b.some ≡ true → start_of b < n
  pub far : IsFar part order q b

-- it has no live points, or there is no room for more points and none of its own is nearer than the worst one
abbrev pub IsLeftOut : ℕ → List Found → Block → Type 0
IsLeftOut k kept b = (b.some ≡ false) ⊎ ((worst : Found) × (slice_get kept (k - 1) ≡ Some worst) × (worst.dist < least b.dist))

-- blocks that are to be visited, the last one next: each below three of a level
pub record IsStack (part : Contents Point) (order : List ℕ) (q : Near) (depth n : ℕ) (stack : List Block) : Type 0 where
  pub blocks : (k : ℕ) (b : Block) → slice_get stack k ≡ Some b → IsBlock depth n b
  pub far : (k : ℕ) (b : Block) → slice_get stack k ≡ Some b → IsFar part order q b
  pub low : (k : ℕ) (b : Block) → slice_get stack k ≡ Some b → k + 3 * b.level ≤ 3 * depth

-- the most touches of a visit to a block that begins at a position, of n, and to the blocks below it
abbrev pub work : ℕ → ℕ → ℕ → ℕ
work n zero start = 4 * min 8 (n - start)
work n (suc level) start =
    min 1 (n - start) + (work n level start + work n level (start + span level) + work n level (start + 2 * span level) + work n level (start + 3 * span level))

abbrev pub work_of : ℕ → Block → ℕ
work_of n b = work n b.level (start_of b)

abbrev pub work_of_all : ℕ → List Block → ℕ
work_of_all n blocks = sum_by (work_of n) blocks

-- what was kept is joined by the points
abbrev pub Takes : ℕ → List Found → List Found → List Found → Type 0
Takes k old more new = new ≡ first_few nearer_le k (old ++ more)
