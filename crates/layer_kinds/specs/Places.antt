-- The place of an index, as its declared type has it.
use Rattle.layer_kinds.specs.declared.indexes.Place.{Place}
use Rattle.layer_kinds.specs.declared.indexes.Place.TheVariants as places
use Rattle.layer_kinds.specs.Indexing.{Placed, Absent, Whole, Late}

-- the place of an index
abbrev pub placed : {B I P : Type 0} → Place B I P → Placed P I
placed places.Absent = Absent
placed (places.Whole i) = Whole i
placed (places.Late l) = Late l
