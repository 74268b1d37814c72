-- Laws of `Spends`, by which callers add up what was counted.
use Rattle.std.proofs.Common.{◌≡◌, ℕ, ◌+◌, ◌≤◌, refl, arith, ◌∙◌}
use Rattle.query_laws.specs.StepLedger.{Counts, one_turn, one_mark, one_touch, one_consulted, Spends, Consults}

-- nothing was done
pub Spends-nothing : (steps : Counts) → Spends steps steps 0 0 0
Spends-nothing steps = record {
  turns_spent = omega arith;
  marks_spent = omega arith;
  touches_kept = omega arith;
  touches_bound = omega arith;
  none_consulted = refl;
  same_lap = refl;
}

-- one turn, mark or touch
pub Spends-one_turn : (steps : Counts) → Spends steps (one_turn steps) 1 0 0
Spends-one_turn steps = record {
  turns_spent = refl;
  marks_spent = omega arith;
  touches_kept = omega arith;
  touches_bound = omega arith;
  none_consulted = refl;
  same_lap = refl;
}

pub Spends-one_mark : (steps : Counts) → Spends steps (one_mark steps) 0 1 0
Spends-one_mark steps = record {
  turns_spent = omega arith;
  marks_spent = refl;
  touches_kept = omega arith;
  touches_bound = omega arith;
  none_consulted = refl;
  same_lap = refl;
}

pub Spends-one_touch : (steps : Counts) → Spends steps (one_touch steps) 0 0 1
Spends-one_touch steps = record {
  turns_spent = omega arith;
  marks_spent = omega arith;
  touches_kept = omega arith;
  touches_bound = omega arith;
  none_consulted = refl;
  same_lap = refl;
}

module _ {old mid new : Counts} {turns marks touches : ℕ} where
  -- one after the other
  pub Spends-then : {more_turns more_marks more_touches : ℕ} → Spends old mid turns marks touches
      → Spends mid new more_turns more_marks more_touches
      → Spends old new (turns + more_turns) (marks + more_marks) (touches + more_touches)
  Spends-then first second = record {
    turns_spent = omega arith;
    marks_spent = omega arith;
    touches_kept = omega arith;
    touches_bound = omega arith;
    none_consulted = second.none_consulted ∙ first.none_consulted;
    same_lap = second.same_lap ∙ first.same_lap;
  }

module _ {old new : Counts} {turns marks touches : ℕ} where
  -- the same numbers in another form, with a weaker bound on touches
  pub Spends-within : {turns' marks' touches' : ℕ} → Spends old new turns marks touches
      → turns ≡ turns' → marks ≡ marks' → touches ≤ touches' → Spends old new turns' marks' touches'
  Spends-within spent same_turns same_marks more = record {
    turns_spent = omega arith;
    marks_spent = omega arith;
    touches_kept = omega arith;
    touches_bound = omega arith;
    none_consulted = spent.none_consulted;
    same_lap = spent.same_lap;
  }

  -- a weaker bound on touches
  pub Spends-weaker : {touches' : ℕ} → Spends old new turns marks touches → touches ≤ touches' → Spends old new turns marks touches'
  Spends-weaker spent more = Spends-within spent refl refl more

-- ---- parts that are consulted

-- none is
pub Consults-nothing : (steps : Counts) → Consults steps steps 0 0
Consults-nothing steps = record { read = Spends-nothing steps; consulted_kept = omega arith; few_consulted = omega arith }

-- one is, by so many touches
pub Consults-one : {old new : Counts} {touches : ℕ} → Spends (one_consulted old) new 0 0 touches → Consults old new 1 touches
Consults-one spent = record {
  read = record {
    turns_spent = spent.turns_spent;
    marks_spent = spent.marks_spent;
    touches_kept = spent.touches_kept;
    touches_bound = spent.touches_bound;
    none_consulted = refl;
    same_lap = spent.same_lap;
  };
  consulted_kept = omega (arith, spent.none_consulted);
  few_consulted = omega (arith, spent.none_consulted);
}

-- some, and then some more
pub Consults-then : {old mid new : Counts} {parts touches more_parts more_touches : ℕ} → Consults old mid parts touches → Consults mid new more_parts more_touches
    → Consults old new (parts + more_parts) (touches + more_touches)
Consults-then first second = record {
  read = record {
    turns_spent = omega (arith, first.read.turns_spent, second.read.turns_spent);
    marks_spent = omega (arith, first.read.marks_spent, second.read.marks_spent);
    touches_kept = omega (arith, first.read.touches_kept, second.read.touches_kept);
    touches_bound = omega (arith, first.read.touches_bound, second.read.touches_bound);
    none_consulted = refl;
    same_lap = second.read.same_lap ∙ first.read.same_lap;
  };
  consulted_kept = omega (arith, first.consulted_kept, second.consulted_kept);
  few_consulted = omega (arith, first.few_consulted, second.few_consulted);
}

-- all of them, for a tactic's list or a `using` of the attribute
pub ruleset counting = (Spends-nothing, Spends-one_turn, Spends-one_mark, Spends-one_touch, Spends-then, Spends-weaker, Consults-nothing, Consults-one, Consults-then)
