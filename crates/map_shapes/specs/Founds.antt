-- Found points, each without the highest bit of its square and with that bit apart.
use Rattle.std.specs.Prelude.{Bool, List, [], ◌∷◌}
use Rattle.map_model.specs.Found.{Found}
use Rattle.map_shapes.specs.declared.found.Short.{Short}
use Rattle.map_shapes.specs.FoundParts.{square_of}

-- the point that both say
abbrev pub found_in : Short → Bool → Found
found_in short far = record { dist = square_of far short.low; id = short.id }

-- the points of both lists
abbrev pub founds_in : List Short → List Bool → List Found
founds_in [] bits = []
founds_in (short ∷ shorts) [] = []
founds_in (short ∷ shorts) (far ∷ bits) = found_in short far ∷ founds_in shorts bits
