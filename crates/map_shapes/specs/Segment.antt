-- A segment as the definitions have it.
use Rattle.map_model.specs.Shape as model
use Rattle.map_model.specs.State.{Item}
use Rattle.map_shapes.specs.declared.segment.Segment.{Segment}

-- a segment without identifier and stamp, as the definitions have it
abbrev pub shape_of_segment : Segment → model.Shape
shape_of_segment s = model.Segment s.lo s.hi s.y

-- the identifier with its shape: the stamp is no part of it
abbrev pub item_of_segment : Segment → Item
item_of_segment s = record { id = s.id; shape = shape_of_segment s }
