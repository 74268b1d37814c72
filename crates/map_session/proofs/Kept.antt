-- Shapes whose numbers a version keeps are shapes of version 2.
use Rattle.std.proofs.Common.{ℕ, ◌≤◌, arith}
use Rattle.map_model.specs.Line.{IsCoordinate, IsShape}
use Rattle.map_model.specs.Shape.{Shape, Point, Segment}
use Rattle.map_model.specs.Version.{Version, One, Two}

kept_coordinate : (version : Version) (n : ℕ) → IsCoordinate version n → IsCoordinate Two n
kept_coordinate One n within = omega (arith, within)
kept_coordinate Two n within = within

pub kept_shape : (version : Version) (shape : Shape) → IsShape version shape → IsShape Two shape
kept_shape version (Point x y w) within = (kept_coordinate version x within.0, kept_coordinate version y within.1, within.2)
kept_shape version (Segment lo hi y) within = (within.0, kept_coordinate version hi within.1, kept_coordinate version y within.2)
