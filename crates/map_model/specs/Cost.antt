-- What a command cost, as its reply may tell: turns and marks of an update, parts and touches of a question.
use Rattle.std.specs.Prelude.{◌≡◌, ℕ, zero, suc, ◌+◌, ◌*◌, ◌/◌, ◌%◌, ◌^◌, ◌<◌, ◌≤◌, ⊤, Bool, true, false, List, [], ◌∷◌, ◌++◌, codes, decimal, nat_le, nat_lt, if◌then◌else◌}
use Rattle.map_model.specs.Index.{Index, Range, Near, Top, Stab, Cross, one_if, sum_over}
use Rattle.map_model.specs.State.{Layer, live_count, wait_of, handed}

-- of an update: turns and marks, each with its bound
pub record Spent : Type 0 where
  pub turns : ℕ
  pub turn_bound : ℕ
  pub marks : ℕ
  pub mark_bound : ℕ

-- of an update of a layer that joins parts at once: turns, those of all accepted updates so far with their bound, and marks with theirs
pub record SpentAtOnce : Type 0 where
  pub turns : ℕ
  pub total : ℕ
  pub turn_bound : ℕ
  pub marks : ℕ
  pub mark_bound : ℕ

-- of a question: parts asked, with their bound, and touches
pub record QuestionCost : Type 0 where
  pub parts : ℕ
  pub part_bound : ℕ
  pub touches : ℕ

-- what a reply tells that its command cost
pub data Cost : Type 0 where
  -- nothing: a reply to anything but an accepted update or an answered question
  Untold : Cost
  -- what an accepted update cost
  Updating : Spent → Cost
  -- what one cost in a layer that joins parts at once
  Joining : SpentAtOnce → Cost
  -- what an answered question cost
  Asking : QuestionCost → Cost

-- ` A/B`
abbrev pub out_of : ℕ → ℕ → List ℕ
out_of a b = 32 ∷ decimal a ++ 47 ∷ decimal b

-- what a line of the ledger ends in
abbrev pub cost_text : Cost → List ℕ
cost_text Untold = []
cost_text (Updating s) = (codes " turns" ++ out_of s.turns s.turn_bound) ++ (codes " marks" ++ out_of s.marks s.mark_bound)
cost_text (Joining s) =
    (codes " turns " ++ decimal s.turns) ++ (codes " total" ++ out_of s.total s.turn_bound) ++ (codes " marks" ++ out_of s.marks s.mark_bound)
cost_text (Asking a) = (codes " parts" ++ out_of a.parts a.part_bound) ++ (codes " touches " ++ decimal a.touches)

-- each number that is told has at most 64 bits
abbrev pub Fits64 : Cost → Type 0
Fits64 Untold = ⊤
Fits64 (Updating s) = (s.turns < 2 ^ 64) × (s.turn_bound < 2 ^ 64) × (s.marks < 2 ^ 64) × (s.mark_bound < 2 ^ 64)
Fits64 (Joining s) = (s.turns < 2 ^ 64) × (s.total < 2 ^ 64) × (s.turn_bound < 2 ^ 64) × (s.marks < 2 ^ 64) × (s.mark_bound < 2 ^ 64)
Fits64 (Asking a) = (a.parts < 2 ^ 64) × (a.part_bound < 2 ^ 64) × (a.touches < 2 ^ 64)

-- ---- the bounds, for a layer of n live items

-- how often a number below 2 ^ (k + 1) can be halved before it is 1
abbrev pub halvings : ℕ → ℕ → ℕ
halvings zero m = 0
halvings (suc k) m = if nat_lt m 2 then 0 else suc (halvings k (m / 2))

-- the greatest level: the greatest h with 2 ^ h <= 2 * n + 10
unfoldable pub greatest_level : ℕ → ℕ
greatest_level n = halvings 63 (2 * n + 10)

-- how much building an index takes: at level 0 a tick may take base / 2 + 2 turns, and at a level i above it slope * i + base + 4
pub record Rate : Type 0 where
  pub slope : ℕ
  pub base : ℕ

-- the rate of an index
abbrev pub rate_of : Index → Rate
rate_of Range = record { slope = 4; base = 12 }
rate_of Near = record { slope = 4; base = 12 }
rate_of Top = record { slope = 4; base = 12 }
rate_of Stab = record { slope = 4; base = 12 }
rate_of Cross = record { slope = 20; base = 60 }

-- turns of so many ticks in one index, at all levels up to one
abbrev pub turns_up_to : ℕ → Rate → ℕ → ℕ
turns_up_to ticks rate level = ticks * (rate.slope * (level * level) + (rate.slope + 2 * rate.base + 8) * level + rate.base + 4) / 2

-- marks of an update in one index, up to a level
abbrev pub marks_up_to : ℕ → ℕ
marks_up_to level = 18 * level + 6

-- three parts a level
abbrev pub parts_up_to : ℕ → ℕ
parts_up_to level = 3 * (level + 1)

-- marks of a move in one index, up to a level
abbrev pub move_marks_up_to : ℕ → ℕ
move_marks_up_to level = 20 * level + 6

-- the bounds in one index of a layer of so many live items
pub record Bounds : Type 0 where
  pub level : ℕ
  pub turns : ℕ
  pub marks : ℕ
  pub move_turns : ℕ
  pub move_marks : ℕ
  pub parts : ℕ

-- the bounds in one index of this rate, of a layer of n live items, by their greatest level: an add or a drop is six ticks, and a move seven
abbrev pub bounds_at : Rate → ℕ → Bounds
bounds_at rate n =
    let level = greatest_level n in
    record {
      level = level;
      turns = turns_up_to 6 rate level;
      marks = marks_up_to level;
      move_turns = turns_up_to 7 rate level;
      move_marks = move_marks_up_to level;
      parts = parts_up_to level;
    }

-- what an update does with an item
pub data Update : Type 0 where
  Adds : Update
  Drops : Update
  Moves : Update

-- the most turns of an update in one index
abbrev pub turns_of : Update → Bounds → ℕ
turns_of Adds bounds = bounds.turns
turns_of Drops bounds = bounds.turns
turns_of Moves bounds = bounds.move_turns

-- the most marks of an update in one index
abbrev pub marks_of : Update → Bounds → ℕ
marks_of Adds bounds = bounds.marks
marks_of Drops bounds = bounds.marks
marks_of Moves bounds = bounds.move_marks

-- an item comes in, so that some turns are taken in each index
abbrev pub brings : Update → Bool
brings Adds = true
brings Drops = false
brings Moves = true

-- an item that was there goes out, so that marks may be made
abbrev pub takes_out : Update → Bool
takes_out Adds = false
takes_out Drops = true
takes_out Moves = true

-- the most turns of an update of a layer: it goes to each index, late ones too
abbrev pub turn_bound : Update → Layer → ℕ
turn_bound update layer = sum_over layer.indexes (λ index. turns_of update (bounds_at (rate_of index) (live_count layer)))

-- the most marks of an update of a layer
abbrev pub mark_bound : Update → Layer → ℕ
mark_bound update layer = sum_over layer.indexes (λ index. marks_of update (bounds_at (rate_of index) (live_count layer)))

-- how many indexes of a layer are ready once an add or a move is done: those that wait for no more items than they are handed
abbrev pub ready_count : Layer → ℕ
ready_count layer = sum_over layer.indexes (λ index. one_if (nat_le (wait_of layer.waits index) handed))

-- ---- the bounds where parts are joined at once (Bentley and Saxe 1980), by how many items were ever inserted: each one of that number in binary is
-- a part

-- how many digits a number below 2 ^ k has in binary; 0 has none
abbrev pub digits_below : ℕ → ℕ → ℕ
digits_below zero m = 0
digits_below (suc k) zero = 0
digits_below (suc k) (suc m) = suc (digits_below k (suc m / 2))

-- how many ones
abbrev pub ones_below : ℕ → ℕ → ℕ
ones_below zero m = 0
ones_below (suc k) m = m % 2 + ones_below k (m / 2)

-- how many parts so many inserts have made
unfoldable pub batch_parts : ℕ → ℕ
batch_parts inserted = ones_below 64 inserted

-- as many at most: how many digits the number has
unfoldable pub batch_part_bound : ℕ → ℕ
batch_part_bound inserted = digits_below 64 inserted

-- the most turns of so many inserts together: of each 2 * i + 8 at every level i that they have reached
abbrev pub batch_turn_bound : ℕ → ℕ
batch_turn_bound inserted = inserted * (batch_part_bound inserted * (batch_part_bound inserted + 7))

-- how many items were ever inserted once an update is done
abbrev pub inserted_by : Update → Layer → ℕ
inserted_by update layer = layer.inserted + one_if (brings update)

-- ---- what is told

-- the most parts that a question to a layer asks: they are of one index
abbrev pub part_bound : Layer → ℕ
part_bound layer = if layer.indexes.batch then batch_part_bound layer.inserted else parts_up_to (greatest_level (live_count layer))

-- what an update of a layer may have spent; an add or a move takes at least three turns in each index that is ready after it
pub record IsSpent (layer : Layer) (update : Update) (spent : Spent) : Type 0 where
  pub spread : layer.indexes.batch ≡ false
  pub turn_bound_told : spent.turn_bound ≡ turn_bound update layer
  pub mark_bound_told : spent.mark_bound ≡ mark_bound update layer
  pub turns_bounded : spent.turns ≤ spent.turn_bound
  pub marks_bounded : spent.marks ≤ spent.mark_bound
  pub takes_turns : brings update ≡ true → 3 * ready_count layer ≤ spent.turns

-- What an update of a layer that joins parts at once may have spent. The turns of all its updates have a bound, and those of a single one none of
-- its own; an add or a move takes at least three, a drop none, and an add makes no mark.
pub record IsSpentAtOnce (layer : Layer) (update : Update) (spent : SpentAtOnce) : Type 0 where
  pub at_once : layer.indexes.batch ≡ true
  pub turn_bound_told : spent.turn_bound ≡ batch_turn_bound (inserted_by update layer)
  pub mark_bound_told : spent.mark_bound ≡ batch_part_bound (inserted_by update layer)
  pub turns_added : spent.turns ≤ spent.total
  pub turns_bounded : spent.total ≤ spent.turn_bound
  pub marks_bounded : spent.marks ≤ spent.mark_bound
  pub takes_turns : brings update ≡ true → 3 ≤ spent.turns
  pub takes_none : brings update ≡ false → spent.turns ≡ 0
  pub makes_none : takes_out update ≡ false → spent.marks ≡ 0

-- what a question to a layer may have asked: where the layer has items, at least one part, and where it joins parts at once, each of them
pub record IsAsked (layer : Layer) (asked : QuestionCost) : Type 0 where
  pub part_bound_told : asked.part_bound ≡ part_bound layer
  pub parts_bounded : asked.parts ≤ asked.part_bound
  pub some_part : layer.indexes.batch ≡ false → 0 < live_count layer → 1 ≤ asked.parts
  pub each_part : layer.indexes.batch ≡ true → asked.parts ≡ batch_parts layer.inserted
