-- A rectangle as the definitions have it.
use Rattle.map_model.specs.Shape as model
use Rattle.map_shapes.specs.declared.rect.Rect.{Rect}

-- a rectangle as the definitions have it
abbrev pub rect_of : Rect → model.Rect
rect_of r = record { x1 = r.x1; y1 = r.y1; x2 = r.x2; y2 = r.y2 }
