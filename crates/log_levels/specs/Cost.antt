-- What the ticks of a stack cost.
use Rattle.std.specs.Prelude.{◌≡◌, ℕ, ◌+◌, ◌-◌, ◌*◌, ◌^◌, ◌<◌, ◌≤◌, List, length, sum_by}
use Rattle.std.specs.List.{range_with_len}
use Rattle.query_laws.specs.StepLedger.{Counts, Spends}
use Rattle.builder_trait.specs.Builders.{PartProfile}
use Rattle.partial_build.specs.Quota.{quota}
use Rattle.log_levels.specs.Slots.{Slots, waiting_in, turns_to_go, left_in, due_in, saved_in}
use Rattle.log_levels.specs.Levels.{waiting_of, weight_of, left_of, due_of, saved_of}

-- the quotas of the levels from one to another, both included
abbrev pub quotas : ℕ → ℕ → ℕ → ℕ → ℕ
quotas slope base from to = sum_by (quota slope base) (range_with_len from (to + 1 - from))

-- at most so many turns and marks, sixteen touches at most for each turn, and at most so many for each mark
pub record IsWithin (turns marks touches : ℕ) (old new : Counts) : Type 0 where
  pub few_turns : new.turns - old.turns ≤ turns
  pub few_marks : new.marks - old.marks ≤ marks
  pub spent : Spends old new (new.turns - old.turns) (new.marks - old.marks)
      (16 * (new.turns - old.turns) + (new.marks - old.marks) * touches)

module _ {P Item : Type 0} where
  -- No work of the construction into a level is done beside the turns: what is due of it, all where it begins, is no more than what is left of it, the
  -- turns that are taken, and those that a seal saves.
  abbrev pub IsPaid : PartProfile Item → (old new : Slots P Item) → (before after : Counts) → Type 0
  IsPaid profile old new before after = due_in profile old new + before.turns ≤ left_in profile new + saved_in profile old new + after.turns

  -- the same of all levels
  abbrev pub ArePaid : PartProfile Item → (old new : List (Slots P Item)) → (before after : Counts) → Type 0
  ArePaid profile old new before after = due_of profile old new + before.turns ≤ left_of profile new + saved_of profile old new + after.turns

  -- What a visit of a level costs: nothing where the level below has fewer than two parts; no more turns than the construction has to go; and a mark
  -- for each item that waited and waits no longer.
  pub record IsCostOfVisit (profile : PartProfile Item) (touches : ℕ → ℕ) (lower old new : Slots P Item) (before after : Counts) : Type 0 where
    pub idle : length lower.parts < 2 → after ≡ before
    pub to_go : after.turns - before.turns ≤ turns_to_go profile old
    pub drained : waiting_in new + after.marks ≡ waiting_in old + before.marks
    pub within : IsWithin (quota profile.slope profile.base old.level) 2 (touches old.level) before after

  -- what an insert costs, whichever bound g there is: the marks are those of items that waited and wait no longer
  pub record IsCostOfInsert (slope base : ℕ) (touches : ℕ → ℕ) (old new : List (Slots P Item)) (before after : Counts) : Type 0 where
    pub within : (g : ℕ) → weight_of new < 2 ^ (g + 1) → IsWithin (quotas slope base 0 g) (2 * g) (touches g) before after
    pub drained : waiting_of new + after.marks ≡ waiting_of old + before.marks

  -- What a delete costs in which so many parts are asked for the item, and so many constructions take note of it, whichever bound g there is: beside
  -- one mark for each part that is asked, the marks are those of items that waited and wait no longer.
  pub record IsCostOfDelete (slope base : ℕ) (touches : ℕ → ℕ) (parts_asked noted : ℕ) (old new : List (Slots P Item)) (before after : Counts) : Type 0 where
    pub within : (g : ℕ) → weight_of new < 2 ^ (g + 1) → IsWithin (quotas slope base 1 g) (2 * g + parts_asked) (touches g) before after
    pub all_asked : parts_asked ≤ after.marks - before.marks
    pub drained : waiting_of new + after.marks ≡ waiting_of old + noted + parts_asked + before.marks
