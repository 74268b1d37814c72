-- A point as the definitions have it.
use Rattle.map_model.specs.Shape as model
use Rattle.map_model.specs.State.{Item}
use Rattle.map_shapes.specs.declared.point.Point.{Point}

-- a point without identifier and stamp, as the definitions have it
abbrev pub shape_of : Point → model.Shape
shape_of p = model.Point p.x p.y p.w

-- the identifier with its shape: the stamp is no part of it
abbrev pub item_of : Point → Item
item_of p = record { id = p.id; shape = shape_of p }
