-- Found and high points as the definitions have them, and back; and their orders.
use Rattle.std.specs.Prelude.{Bool}
use Rattle.map_model.specs.Found as model
use Rattle.map_model.specs.Found.{Found}
use Rattle.map_shapes.specs.declared.peak.Peak.{Peak}

-- a found point, which contracts see as the definitions have it
abbrev pub found_of : Found → Found
found_of f = record { dist = f.dist; id = f.id }

-- a high point as the definitions have it
abbrev pub peak_of : Peak → model.Peak
peak_of p = record { y = p.y; id = p.id }

-- the way back
abbrev pub found_from : Found → Found
found_from f = record { dist = f.dist; id = f.id }

-- the way back: a high point of the definitions
abbrev pub peak_from : model.Peak → Peak
peak_from p = record { y = p.y; id = p.id }

-- the nearer one, and of two at one distance the lesser identifier
abbrev pub nearer_le : Found → Found → Bool
nearer_le a b = model.found_le (found_of a) (found_of b)

-- the higher one, and of two at one height the lesser identifier
abbrev pub higher_le : Peak → Peak → Bool
higher_le a b = model.peak_le (peak_of a) (peak_of b)
