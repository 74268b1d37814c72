-- How many turns a tick of a construction may take.
use Rattle.std.specs.Prelude.{ℕ, ◌==◌, ◌+◌, ◌*◌, ◌/◌, if◌then◌else◌}

-- the most turns of a tick of a construction into a level, by the slope and the base of the structure; at level 0 those of a part of one item
abbrev pub quota : ℕ → ℕ → ℕ → ℕ
quota slope base level = if level == 0 then base / 2 + 2 else slope * level + base + 4
