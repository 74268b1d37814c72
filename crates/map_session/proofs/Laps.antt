-- What a session executed, lap by lap.
use Rattle.std.proofs.Common.{◌≡◌, ◌∙◌, ℕ, ◌+◌, ◌-◌, ◌^◌, ◌<◌, ◌≤◌, Bool, true, false, List, [], ◌∷◌, Some, None, Ok, Err, max, min, if◌then◌else◌, refl, sym, ap, subst, arith}
use Rattle.std.proofs.lemmas.Bool.Decides.{nat_tests}
use Rattle.std.proofs.lemmas.Grind.{common_steps}
use Rattle.std.proofs.lemmas.List.Sums.{sum_by-cons}
use Rattle.query_laws.specs.StepLedger.{Counts, LapStart, lap_begun, most_lap_turns, most_lap_marks, most_lap_consulted}
use Rattle.map_model.specs.Command.{Command, Livemap, MakeLayer, MakeIndex, Add, Move, Drop, Ask, Get, Size, Recent}
use Rattle.map_model.specs.Grammar.{Parsed}
use Rattle.map_model.specs.Machine.{step}
use Rattle.map_model.specs.Reply.{is_refusal}
use Rattle.map_model.specs.State.{State}
use Rattle.map_model.specs.Output.{Given}
use Rattle.map_session.specs.Executing.{ExecutesAll}
use Rattle.map_session.specs.Laps.{laps_of, greatest_of, AreLaps}
use Rattle.map_session.specs.Session.{SessionState, map_in, Executes}
use Rattle.map_session.specs.Work.{Work, no_work, work_of, work_said, begins_lap, begins_lap_said}

-- ---- one of them

grown : (m a b w : ℕ) → b ≤ a + w → max m (min (b - a) (2 ^ 64 - 1)) ≤ max m w
grown m a b w h = grind (arith, nat_tests, common_steps, h)

-- what begins no lap takes nothing
if_none : (b : Bool) → (if b then no_work else no_work) ≡ no_work
if_none true = refl
if_none false = refl

pub lapless_command : (state : State) (command : Command) → begins_lap command ≡ false → work_of state command ≡ no_work
lapless_command state (Livemap version) none = if_none (is_refusal (step state (Livemap version)).reply)
lapless_command state (MakeLayer name kind indexes) none = if_none (is_refusal (step state (MakeLayer name kind indexes)).reply)
lapless_command state (MakeIndex name index) none = if_none (is_refusal (step state (MakeIndex name index)).reply)
lapless_command state (Add name id shape) none = absurd cc
lapless_command state (Move name id x y w) none = absurd cc
lapless_command state (Drop name id) none = absurd cc
lapless_command state (Ask name question) none = absurd cc
lapless_command state (Get name id) none = if_none (is_refusal (step state (Get name id)).reply)
lapless_command state (Size name) none = if_none (is_refusal (step state (Size name)).reply)
lapless_command state (Recent name k) none = if_none (is_refusal (step state (Recent name k)).reply)

lapless : (state : State) (said : Parsed) → begins_lap_said said ≡ false → work_said state said ≡ no_work
lapless state (Ok None) none = refl
lapless state (Ok (Some command)) none = lapless_command state command none
lapless state (Err fault) none = refl

-- the greatest lap, of a count that rose so far
risen : (begun : Bool) (work before after m start new-m new-start : ℕ) → before ≤ after → after ≤ before + work → (begun ≡ false → work ≡ 0)
    → new-m ≡ (if begun then max m (min (before - start) (2 ^ 64 - 1)) else m) → new-start ≡ (if begun then before else start)
    → max new-m (min (after - new-start) (2 ^ 64 - 1)) ≤ max (max m (min (before - start) (2 ^ 64 - 1))) work
risen true work before after m start new-m new-start kept few none is is-start =
    rw (is, is-start) (grown (max m (min (before - start) (2 ^ 64 - 1))) before after work few)
risen false work before after m start new-m new-start kept few none is is-start =
    let same : after ≡ before = omega (arith, kept, few, none refl) in
    rw (is, is-start, same) (grind (arith, nat_tests, common_steps))

-- a number of the lap that is running after a command
lap_after : (number : LapStart → ℕ) (begun : Bool) (old : Counts) (lap : LapStart) → lap ≡ (if begun then (lap_begun old).lap_start else old.lap_start)
    → number lap ≡ (if begun then number (lap_begun old).lap_start else number old.lap_start)
lap_after number true old lap is = ap number is
lap_after number false old lap is = ap number is

module _ (old : SessionState) (before : Counts) (said : Parsed) (given : Given) (new : SessionState) (counts : Counts) (e : Executes old before said given new counts) where
  abbrev work : Work
  work = work_said (map_in old) said

  abbrev begun : Bool
  begun = begins_lap_said said

  after : (number : LapStart → ℕ) → number counts.lap_start ≡ (if begun then number (lap_begun before).lap_start else number before.lap_start)
  after number = lap_after number begun before counts.lap_start e.lap

  one_turns : most_lap_turns counts ≤ max (most_lap_turns before) work.turns
  one_turns =
      risen begun work.turns before.turns counts.turns before.lap_start.most_turns before.lap_start.turns counts.lap_start.most_turns counts.lap_start.turns
      e.counted.turns_kept e.counted.few_turns (λ none. ap (λ w. w.turns) (lapless (map_in old) said none))
      (after (λ l. l.most_turns)) (after (λ l. l.turns))

  one_marks : most_lap_marks counts ≤ max (most_lap_marks before) work.marks
  one_marks =
      risen begun work.marks before.marks counts.marks before.lap_start.most_marks before.lap_start.marks counts.lap_start.most_marks counts.lap_start.marks
      e.counted.marks_kept e.counted.few_marks (λ none. ap (λ w. w.marks) (lapless (map_in old) said none))
      (after (λ l. l.most_marks)) (after (λ l. l.marks))

  one_consulted : most_lap_consulted counts ≤ max (most_lap_consulted before) work.consulted
  one_consulted =
      risen begun work.consulted before.consulted counts.consulted before.lap_start.most_consulted before.lap_start.consulted counts.lap_start.most_consulted counts.lap_start.consulted
      e.counted.consulted_kept e.counted.few_consulted (λ none. ap (λ w. w.consulted) (lapless (map_in old) said none))
      (after (λ l. l.most_consulted)) (after (λ l. l.consulted))

  one_lap : counts.lap_start.laps ≡ (if begun then min (before.lap_start.laps + 1) (2 ^ 64 - 1) else before.lap_start.laps)
  one_lap = after (λ l. l.laps)

-- ---- all of them

chained : (n m s w g : ℕ) → n ≤ max m g → m ≤ max s w → n ≤ max s (max w g)
chained n m s w g h h' = grind (arith, nat_tests, common_steps, h, h')

counted_on : (b : Bool) (old next now more : ℕ) → next ≡ (if b then min (old + 1) (2 ^ 64 - 1) else old) → (next + more < 2 ^ 64 → now ≡ next + more)
    → old + ((if b then 1 else 0) + more) < 2 ^ 64 → now ≡ old + ((if b then 1 else 0) + more)
counted_on true old next now more is rest few =
    let next_is : next ≡ old + 1 = is ∙ grind (arith, nat_tests, common_steps, few) in
    rest (omega (arith, next_is, few)) ∙ omega (arith, next_is)
counted_on false old next now more is rest few = rest (omega (arith, is, few)) ∙ omega (arith, is)

pub laps_run : (old : SessionState) (before : Counts) (script : List Parsed) (new : SessionState) (after : Counts) (all : ExecutesAll old before script new after) → AreLaps old before script new after all
laps_run old before [] new after all = record {
  laps = λ few. ap (λ (c : Counts). c.lap_start.laps) all.1 ∙ omega arith;
  turns = subst (λ (c : Counts). most_lap_turns c ≤ max (most_lap_turns before) 0) (sym all.1) (grind (arith, nat_tests, common_steps));
  marks = subst (λ (c : Counts). most_lap_marks c ≤ max (most_lap_marks before) 0) (sym all.1) (grind (arith, nat_tests, common_steps));
  consulted = subst (λ (c : Counts). most_lap_consulted c ≤ max (most_lap_consulted before) 0) (sym all.1) (grind (arith, nat_tests, common_steps));
}
laps_run old before (said ∷ more) new after all =
    let counts = all.2 in
    let rest = laps_run all.1 counts more new after all.4 in
    let one = sum_by-cons (λ (s : Parsed). if begins_lap_said s then 1 else 0) said more in
    record {
      laps = λ few. counted_on (begins_lap_said said) before.lap_start.laps counts.lap_start.laps after.lap_start.laps (laps_of more)
          (one_lap old before said all.0 all.1 counts all.3) rest.laps (omega (arith, few, one)) ∙ omega (arith, one);
      turns = chained (most_lap_turns after) (most_lap_turns counts) (most_lap_turns before) (work_said (map_in old) said).turns
          (greatest_of (λ work. work.turns) all.1 counts more new after all.4) rest.turns (one_turns old before said all.0 all.1 counts all.3);
      marks = chained (most_lap_marks after) (most_lap_marks counts) (most_lap_marks before) (work_said (map_in old) said).marks
          (greatest_of (λ work. work.marks) all.1 counts more new after all.4) rest.marks (one_marks old before said all.0 all.1 counts all.3);
      consulted = chained (most_lap_consulted after) (most_lap_consulted counts) (most_lap_consulted before) (work_said (map_in old) said).consulted
          (greatest_of (λ work. work.consulted) all.1 counts more new after all.4) rest.consulted (one_consulted old before said all.0 all.1 counts all.3);
    }
