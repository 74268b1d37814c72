-- A kind as the definitions have it.
use Rattle.map_model.specs.Shape as model
use Rattle.map_shapes.specs.declared.kind.Kind.{Kind}
use Rattle.map_shapes.specs.declared.kind.Kind.TheVariants.{Points, Segments}

-- a kind as the definitions have it
abbrev pub kind_of : Kind → model.Kind
kind_of Points = model.Points
kind_of Segments = model.Segments
