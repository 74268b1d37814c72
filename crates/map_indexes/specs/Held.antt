-- What the indexes of a layer hold, by the names of the definitions.
use Rattle.std.specs.Prelude.{ℕ, List, [], Option, None, Some, length, map}
use Rattle.layer_kinds.specs.Indexing.{Placed, Absent, Whole, Late, wait_in}
use Rattle.map_model.specs.State.{no_waits}
use Rattle.map_layers.specs.Layer.{Held}

-- of an index that is there, how many complete parts each level has, and of a late one none
abbrev pub parts_held : {P I : Type 0} → Placed P I → Option (List ℕ)
parts_held Absent = None
parts_held (Whole i) = Some (map (λ l. length l.parts) i.main.levels)
parts_held (Late l) = Some []

-- those of points
module _ {P Q R I J K : Type 0} where
  abbrev pub points_held : Placed P I → Placed Q J → Placed R K → Held
  points_held range near top = record {
    range = parts_held range;
    near = parts_held near;
    top = parts_held top;
    stab = None;
    cross = None;
    waits = record { range = wait_in range; near = wait_in near; top = wait_in top };
  }

-- that of segments, which isn't made late
abbrev pub segments_held : {P I : Type 0} → Placed P I → Held
segments_held stab = record { range = None; near = None; top = None; stab = parts_held stab; cross = None; waits = no_waits }
