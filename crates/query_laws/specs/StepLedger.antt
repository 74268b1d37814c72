-- What contracts see of the ledger of steps, and of a counted row.
use Rattle.std.specs.Prelude.{◌≡◌, ℕ, ◌+◌, ◌-◌, ◌^◌, ◌≤◌, List, min, max}

-- what stood as the lap began: the four counts, how often a lap was begun (this one too), and the most turns, the most marks and the most
-- consulted parts of one earlier lap; the last four are cut at the greatest u64
pub record LapStart : Type 0 where
  pub turns : ℕ
  pub marks : ℕ
  pub touches : ℕ
  pub consulted : ℕ
  pub laps : ℕ
  pub most_turns : ℕ
  pub most_marks : ℕ
  pub most_consulted : ℕ

-- what was counted so far, whole numbers without limit: units of building work, marks of items as dead, row entries read or
-- written, parts that a question was put to; and where the lap began
pub record Counts : Type 0 where
  pub turns : ℕ
  pub marks : ℕ
  pub touches : ℕ
  pub consulted : ℕ
  pub lap_start : LapStart

-- nothing is counted, and no lap was begun
abbrev pub nothing_counted : Counts
nothing_counted = record {
  turns = 0;
  marks = 0;
  touches = 0;
  consulted = 0;
  lap_start = record { turns = 0; marks = 0; touches = 0; consulted = 0; laps = 0; most_turns = 0; most_marks = 0; most_consulted = 0 };
}

-- how far a count stands above where the lap began, cut at the greatest u64
abbrev pub lap_of : ℕ → ℕ → ℕ
lap_of start now = min (now - start) (2 ^ 64 - 1)

-- the most turns of one lap so far, the running one too
abbrev pub most_lap_turns : Counts → ℕ
most_lap_turns steps = max steps.lap_start.most_turns (lap_of steps.lap_start.turns steps.turns)

-- the most marks of one lap so far, the running one too
abbrev pub most_lap_marks : Counts → ℕ
most_lap_marks steps = max steps.lap_start.most_marks (lap_of steps.lap_start.marks steps.marks)

-- the most parts that were consulted in one lap so far, the running one too
abbrev pub most_lap_consulted : Counts → ℕ
most_lap_consulted steps = max steps.lap_start.most_consulted (lap_of steps.lap_start.consulted steps.consulted)

-- the same counts, with one more lap, which begins at them
abbrev pub lap_begun : Counts → Counts
lap_begun steps = record steps {
  lap_start = record {
    turns = steps.turns;
    marks = steps.marks;
    touches = steps.touches;
    consulted = steps.consulted;
    laps = min (steps.lap_start.laps + 1) (2 ^ 64 - 1);
    most_turns = most_lap_turns steps;
    most_marks = most_lap_marks steps;
    most_consulted = most_lap_consulted steps;
  };
}

-- nothing was counted in the lap
pub record AtLapStart (steps : Counts) : Type 0 where
  pub no_turns : steps.lap_start.turns ≡ steps.turns
  pub no_marks : steps.lap_start.marks ≡ steps.marks
  pub no_touches : steps.lap_start.touches ≡ steps.touches
  pub none_consulted : steps.lap_start.consulted ≡ steps.consulted

-- one more turn, and nothing else changes
abbrev pub one_turn : Counts → Counts
one_turn steps = record steps { turns = steps.turns + 1 }

-- one more mark, and nothing else changes
abbrev pub one_mark : Counts → Counts
one_mark steps = record steps { marks = steps.marks + 1 }

-- one more touch, and nothing else changes
abbrev pub one_touch : Counts → Counts
one_touch steps = record steps { touches = steps.touches + 1 }

-- one more part consulted, and nothing else changes
abbrev pub one_consulted : Counts → Counts
one_consulted steps = record steps { consulted = steps.consulted + 1 }

-- from the steps `old` to the steps `new`: exactly so many turns and marks, at most so many touches, no part consulted, and the same lap
pub record Spends (old new : Counts) (turns marks touches : ℕ) : Type 0 where
  pub turns_spent : new.turns ≡ old.turns + turns
  pub marks_spent : new.marks ≡ old.marks + marks
  pub touches_kept : old.touches ≤ new.touches
  pub touches_bound : new.touches ≤ old.touches + touches
  pub none_consulted : new.consulted ≡ old.consulted
  pub same_lap : new.lap_start ≡ old.lap_start

-- from the steps `old` to the steps `new` a question was put to at most so many parts, with at most so many touches, no turn and no mark, in the same lap
pub record Consults (old new : Counts) (parts touches : ℕ) : Type 0 where
  pub read : Spends old (record new { consulted = old.consulted }) 0 0 touches
  pub consulted_kept : old.consulted ≤ new.consulted
  pub few_consulted : new.consulted ≤ old.consulted + parts

-- a row: its entries in order, and how many it takes without growing
pub record Entries (T : Type 0) : Type 0 where
  pub items : List T
  pub capacity : ℕ
