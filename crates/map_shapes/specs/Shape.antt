-- A shape as the definitions have it.
use Rattle.map_model.specs.Shape as model
use Rattle.map_shapes.specs.declared.shape.Shape.{Shape}
use Rattle.map_shapes.specs.declared.shape.Shape.TheVariants.{Point, Segment}

-- a shape as the definitions have it
abbrev pub model_shape : Shape → model.Shape
model_shape (Point x y w) = model.Point x y w
model_shape (Segment lo hi y) = model.Segment lo hi y
