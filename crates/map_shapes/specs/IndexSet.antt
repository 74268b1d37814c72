-- Indexes as the definitions have them.
use Rattle.map_model.specs.Index as model
use Rattle.map_shapes.specs.declared.index_set.IndexSet.{IndexSet}
use Rattle.map_shapes.specs.declared.point_index.PointIndex.{PointIndex}
use Rattle.map_shapes.specs.declared.point_index.PointIndex.TheVariants.{Range, Near, Top}

-- a set of indexes as the definitions have it
abbrev pub index_set_of : IndexSet → model.IndexSet
index_set_of s = record { range = s.range; near = s.near; top = s.top; stab = s.stab; cross = s.cross; batch = s.batch }

-- an index of points as the definitions have it
abbrev pub index_of : PointIndex → model.Index
index_of Range = model.Range
index_of Near = model.Near
index_of Top = model.Top
