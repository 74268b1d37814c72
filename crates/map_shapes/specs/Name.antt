-- A name gives its fields back.
use Rattle.std.specs.Prelude.{◌≡◌, length, take}
use Rattle.map_shapes.specs.declared.name.Name.TheInside.{Inside}
use Rattle.map_shapes.specs.NameBytes.{IsNameIn, array_of, name_length, array_of_name}

-- the array and the length of a name are those of its bytes
abbrev pub fields_of_name : (n : Inside) → IsNameIn n.bytes n.len → record { bytes = array_of (take n.len n.bytes); len = length (take n.len n.bytes) } ≡ n
fields_of_name n h = λ i. record { bytes = array_of_name n.bytes n.len h i; len = name_length n.bytes n.len h i }
