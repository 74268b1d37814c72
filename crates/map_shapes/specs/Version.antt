-- A version of a script as the definitions have it, and its coordinates as whole numbers.
use Rattle.std.specs.Prelude.{ℕ, ◌-◌, suc, ℤ, pos, negsuc, ◌-ℤ◌, Option, Some, None, nat_le, if◌then◌else◌}
use Rattle.map_model.specs.Version as model
use Rattle.map_model.specs.Version.{kept, greatest_coordinate}
use Rattle.map_shapes.specs.declared.version.Version.{Version}
use Rattle.map_shapes.specs.declared.version.Version.TheVariants.{One, Two}

-- a version as the definitions have it
abbrev pub version_of : Version → model.Version
version_of One = model.One
version_of Two = model.Two

-- the number of a version
abbrev pub number_of : model.Version → ℕ
number_of model.One = 1
number_of model.Two = 2

-- what a coordinate of zero or more is kept as, where the version has it
abbrev pub kept_above : model.Version → ℕ → Option ℕ
kept_above version n = if nat_le n greatest_coordinate then Some (kept version n) else None

-- what a coordinate that is so far below zero is kept as, where the version has it
abbrev pub kept_below : model.Version → ℕ → Option ℕ
kept_below version n = if nat_le n (kept version 0) then Some (kept version 0 - n) else None

-- what a coordinate is kept as, where the version has it
abbrev pub keep_of : model.Version → ℤ → Option ℕ
keep_of version (pos n) = kept_above version n
keep_of version (negsuc n) = kept_below version (suc n)

-- the coordinate that is kept as a number
abbrev pub coordinate_of : model.Version → ℕ → ℤ
coordinate_of version n = pos n -ℤ pos (kept version 0)
