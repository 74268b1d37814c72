-- What the replies to lines tell adds up to what was counted.
use Rattle.std.proofs.Common.{◌≡◌, ◌∙◌, ℕ, nat_le, nat_lt, ◌+◌, ◌≤◌, inl, inr, Bool, true, false, not, List, [], ◌∷◌, Option, Some, None, Ok, Err, if◌then◌else◌, refl, sym, ap, subst, arith}
use Rattle.std.proofs.lemmas.Bool.{cases_Bool}
use Rattle.query_laws.specs.StepLedger.{Counts}
use Rattle.map_model.specs.Command.{Command, Livemap, MakeLayer, MakeIndex, Add, Move, Drop, Ask, Get, Size, Recent, name_of}
use Rattle.map_model.specs.Cost.{Cost, Untold, Updating, Joining, Asking, Update}
use Rattle.map_model.specs.Grammar.{Parsed, parse}
use Rattle.map_model.specs.Machine.{Outcome, replied, refused, is_same_kind, step, add_to, move_in, drop_from, ask_of}
use Rattle.map_model.specs.Answer.{Question, answer_over, index_of, kind_asked}
use Rattle.map_model.specs.Index.{has}
use Rattle.map_model.specs.Refusal.{NoLayer, Index, Building, Duplicate, Unknown, Full}
use Rattle.map_model.specs.Refusal as refusals
use Rattle.map_model.specs.Output.{Told, Given, AnswersTo, IsCost, update_of}
use Rattle.map_model.specs.Reply.{Reply, Made, Updated, Answered, Got, Sized, Latest, Refused, is_refusal}
use Rattle.map_model.specs.Shape.{Shape, Point, kind_of}
use Rattle.map_model.specs.State.{Layer, State, layer_named, live_count, is_live, with_layer, wait_of, added, moved, dropped}
use Rattle.map_session.specs.Answering.{Moment, Runs}
use Rattle.map_session.specs.Ledger.{work_told, work_lacking, told_in, lacking_in, told_to, lacking_to, AddsUp}
use Rattle.map_session.specs.Session.{SessionState, map_in, cost_told, Executes, Obeys}
use Rattle.map_session.specs.Work.{Work, no_work, both, work_of, work_said, begins_lap, IsCounted}
use Rattle.map_session.proofs.Laps.{lapless_command}

-- ---- a reply without a cost

abbrev has_cost : Reply → Bool
has_cost Made = false
has_cost Updated = true
has_cost (Answered answer) = true
has_cost (Got shape) = false
has_cost (Sized n) = false
has_cost (Latest ids) = false
has_cost (Refused cause) = true

either : (b : Bool) (x y : Outcome) → has_cost x.reply ≡ true → has_cost y.reply ≡ true → has_cost (if b then x else y).reply ≡ true
either true x y h k = h
either false x y h k = k

-- updates and questions are refused, or answered at a cost
add_costs : (state : State) (name : List ℕ) (id : ℕ) (shape : Shape) (layer : Option Layer) → has_cost (add_to state name id shape layer).reply ≡ true
add_costs state name id shape None = refl
add_costs state name id shape (Some layer) =
    let accepted = replied (with_layer name (added (record { id = id; shape = shape })) state) Updated in
    let held : Outcome = if nat_le state.most_items (live_count layer) then refused state Full else accepted in
    let fresh : Outcome = if is_live id layer.items then refused state (Duplicate id) else held in
    either (not (is_same_kind layer.kind (kind_of shape))) (refused state refusals.Kind) fresh refl
    (either (is_live id layer.items) (refused state (Duplicate id)) held refl (either (nat_le state.most_items (live_count layer)) (refused state Full) accepted refl refl))

move_costs : (state : State) (name : List ℕ) (id : ℕ) (shape : Shape) (layer : Option Layer) → has_cost (move_in state name id shape layer).reply ≡ true
move_costs state name id shape None = refl
move_costs state name id shape (Some layer) =
    let accepted = replied (with_layer name (moved (record { id = id; shape = shape })) state) Updated in
    let live : Outcome = if is_live id layer.items then accepted else refused state (Unknown id) in
    either (not (is_same_kind layer.kind (kind_of shape))) (refused state refusals.Kind) live refl
    (either (is_live id layer.items) accepted (refused state (Unknown id)) refl refl)

drop_costs : (state : State) (name : List ℕ) (id : ℕ) (layer : Option Layer) → has_cost (drop_from state name id layer).reply ≡ true
drop_costs state name id None = refl
drop_costs state name id (Some layer) =
    either (is_live id layer.items) (replied (with_layer name (dropped id) state) Updated) (refused state (Unknown id)) refl refl

ask_costs : (state : State) (question : Question) (layer : Option Layer) → has_cost (ask_of state question layer).reply ≡ true
ask_costs state question None = refl
ask_costs state question (Some layer) =
    let answered = replied state (Answered (answer_over layer.items question)) in
    let wait = wait_of layer.waits (index_of question) in
    let ready : Outcome = if nat_lt 0 wait then refused state (Building wait) else answered in
    let indexed : Outcome = if not (has layer.indexes (index_of question)) then refused state Index else ready in
    either (not (is_same_kind layer.kind (kind_asked question))) (refused state refusals.Kind) indexed refl
    (either (not (has layer.indexes (index_of question))) (refused state Index) ready refl
    (either (nat_lt 0 wait) (refused state (Building wait)) answered refl refl))

lap_costs : (state : State) (command : Command) → begins_lap command ≡ true → has_cost (step state command).reply ≡ true
lap_costs state (Livemap version) begins = absurd cc
lap_costs state (MakeLayer name kind indexes) begins = absurd cc
lap_costs state (MakeIndex name index) begins = absurd cc
lap_costs state (Add name id shape) begins = add_costs state name id shape (layer_named name state.layers)
lap_costs state (Move name id x y w) begins = move_costs state name id (Point x y w) (layer_named name state.layers)
lap_costs state (Drop name id) begins = drop_costs state name id (layer_named name state.layers)
lap_costs state (Ask name question) begins = ask_costs state question (layer_named name state.layers)
lap_costs state (Get name id) begins = absurd cc
lap_costs state (Size name) begins = absurd cc
lap_costs state (Recent name k) begins = absurd cc

refused_if_untold : (layer : Option Layer) (update : Option Update) (reply : Reply) → IsCost layer update reply Untold → has_cost reply ≡ true → is_refusal reply ≡ true
refused_if_untold layer update Made allowed has = absurd cc
refused_if_untold None update Updated allowed has = absurd allowed
refused_if_untold (Some layer) None Updated allowed has = absurd allowed
refused_if_untold (Some layer) (Some update) Updated allowed has = absurd allowed
refused_if_untold None update (Answered answer) allowed has = absurd allowed
refused_if_untold (Some layer) update (Answered answer) allowed has = absurd allowed
refused_if_untold layer update (Got shape) allowed has = absurd cc
refused_if_untold layer update (Sized n) allowed has = absurd cc
refused_if_untold layer update (Latest ids) allowed has = absurd cc
refused_if_untold layer update (Refused cause) allowed has = refl

-- ---- one line

-- what takes something and tells nothing was refused
untold_command : (state : State) (command : Command) → IsCost (layer_named (name_of command) state.layers) (update_of command) (step state command).reply Untold
    → work_of state command ≡ (if is_refusal (step state command).reply then work_of state command else no_work)
untold_command state command allowed =
    elim (cases_Bool (begins_lap command)) [
      | inl begins ↦
          let refused = refused_if_untold (layer_named (name_of command) state.layers) (update_of command) (step state command).reply allowed (lap_costs state command begins) in
          sym (ap (λ b. if b then work_of state command else no_work) refused)
      | inr none ↦ same_either (is_refusal (step state command).reply) (work_of state command) (lapless_command state command none)
    ]
  where
    same_either : (b : Bool) (work : Work) → work ≡ no_work → work ≡ (if b then work else no_work)
    same_either true work is = refl
    same_either false work is = is

untold : (state : State) (said : Parsed) (given : Given) → AnswersTo state said given → cost_told given.told ≡ Untold → work_said state said ≡ work_lacking state said given.told
untold state (Ok None) given answers none = sym (ap (λ (g : Given). work_lacking state (Ok None) g.told) answers)
untold state (Err fault) given answers none = sym (ap (λ (g : Given). work_lacking state (Err fault) g.told) answers)
untold state (Ok (Some command)) given (inr lacking) none = sym (ap (λ (g : Given). work_lacking state (Ok (Some command)) g.told) lacking.1)
untold state (Ok (Some command)) given (inl executes) none =
    let free : executes.cost ≡ Untold = sym (ap (λ (g : Given). cost_told g.told) executes.is_given) ∙ none in
    untold_command state command (subst (IsCost (layer_named (name_of command) state.layers) (update_of command) (step state command).reply) free executes.is_cost)
    ∙ sym (ap (λ (g : Given). work_lacking state (Ok (Some command)) g.told) executes.is_given)

-- what is told and what is lacking, beside what was counted
counted_cost : (cost : Cost) (work lacking : Work) (old new : Counts) → IsCounted work cost old new → (cost ≡ Untold → work ≡ lacking)
    → (old.turns + (work_told cost).turns ≤ new.turns) × (old.marks + (work_told cost).marks ≤ new.marks) × (old.touches + (work_told cost).touches ≤ new.touches)
    × (new.turns ≤ old.turns + (work_told cost).turns + lacking.turns) × (new.marks ≤ old.marks + (work_told cost).marks + lacking.marks)
    × (old.consulted + (work_told cost).consulted ≤ new.consulted) × (new.consulted ≤ old.consulted + (work_told cost).consulted + lacking.consulted)
counted_cost Untold work lacking old new c none =
    let turns : work.turns ≡ lacking.turns = ap (λ w. w.turns) (none refl) in
    let marks : work.marks ≡ lacking.marks = ap (λ w. w.marks) (none refl) in
    let consulted : work.consulted ≡ lacking.consulted = ap (λ w. w.consulted) (none refl) in (
      omega (arith, c.turns_kept),
      omega (arith, c.marks_kept),
      omega (arith, c.touches_kept),
      omega (arith, c.few_turns, turns),
      omega (arith, c.few_marks, marks),
      omega (arith, c.consulted_kept),
      omega (arith, c.few_consulted, consulted),
    )
counted_cost (Updating spent) work lacking old new c none = (
  omega (arith, c.told.0),
  omega (arith, c.told.1),
  omega (arith, c.touches_kept),
  omega (arith, c.told.0),
  omega (arith, c.told.1),
  omega (arith, c.told.2),
  omega (arith, c.told.2),
)
counted_cost (Joining spent) work lacking old new c none = (
  omega (arith, c.told.0),
  omega (arith, c.told.1),
  omega (arith, c.touches_kept),
  omega (arith, c.told.0),
  omega (arith, c.told.1),
  omega (arith, c.told.2),
  omega (arith, c.told.2),
)
counted_cost (Asking asked) work lacking old new c none = (
  omega (arith, c.told.0),
  omega (arith, c.told.1),
  omega (arith, c.told.2),
  omega (arith, c.told.0),
  omega (arith, c.told.1),
  omega (arith, c.told.3),
  omega (arith, c.told.3),
)

said_adds_up : (old : SessionState) (before : Counts) (said : Parsed) (given : Given) (new : SessionState) (after : Counts) → Executes old before said given new after
    → AddsUp (work_told (cost_told given.told)) (work_lacking (map_in old) said given.told) before after
said_adds_up old before said given new after e =
    let state = map_in old in
    let all = counted_cost (cost_told given.told) (work_said state said) (work_lacking state said given.told) before after e.counted (untold state said given e.answers) in
    record { turns_counted = all.0; marks_counted = all.1; touches_counted = all.2; turns_told = all.3; marks_told = all.4; consulted_counted = all.5; consulted_told = all.6 }

-- ---- all of them

nothing_adds_up : (old new : Counts) → new ≡ old → AddsUp no_work no_work old new
nothing_adds_up old new same =
    let turns : new.turns ≡ old.turns = ap (λ (c : Counts). c.turns) same in
    let marks : new.marks ≡ old.marks = ap (λ (c : Counts). c.marks) same in
    let touches : new.touches ≡ old.touches = ap (λ (c : Counts). c.touches) same in
    let consulted : new.consulted ≡ old.consulted = ap (λ (c : Counts). c.consulted) same in
    record {
      turns_counted = omega (arith, turns);
      marks_counted = omega (arith, marks);
      touches_counted = omega (arith, touches);
      consulted_counted = omega (arith, consulted);
      consulted_told = omega (arith, consulted);
      turns_told = omega (arith, turns);
      marks_told = omega (arith, marks);
    }

both_add_up : (told lacking told' lacking' : Work) (old next new : Counts) → AddsUp told lacking old next → AddsUp told' lacking' next new → AddsUp (both told told') (both lacking lacking') old new
both_add_up told lacking told' lacking' old next new one rest = record {
  turns_counted = omega (arith, one.turns_counted, rest.turns_counted);
  marks_counted = omega (arith, one.marks_counted, rest.marks_counted);
  touches_counted = omega (arith, one.touches_counted, rest.touches_counted);
  consulted_counted = omega (arith, one.consulted_counted, rest.consulted_counted);
  consulted_told = omega (arith, one.consulted_told, rest.consulted_told);
  turns_told = omega (arith, one.turns_told, rest.turns_told);
  marks_told = omega (arith, one.marks_told, rest.marks_told);
}

pub script_adds_up : (start : Moment) (script : List (List ℕ)) (now : Moment) (runs : Runs start script now)
    → AddsUp (told_in start script now runs) (lacking_in start script now runs) start.counts now.counts
script_adds_up start [] now runs = nothing_adds_up start.counts now.counts (ap (λ (m : Moment). m.counts) runs)
script_adds_up start (line ∷ lines) now runs =
    let given = runs.1.given in
    both_add_up (work_told (cost_told given.told)) (work_lacking (map_in start.session) (parse (map_in start.session).version line) given.told) (told_in runs.0 lines now runs.2) (lacking_in runs.0 lines now runs.2)
    start.counts runs.0.counts now.counts (said_adds_up start.session start.counts (parse (map_in start.session).version line) given runs.0.session runs.0.counts runs.1.executed) (script_adds_up runs.0 lines now runs.2)

pub commands_add_up : (old : SessionState) (before : Counts) (commands : List Command) (told : List Told) (new : SessionState) (after : Counts) (obeys : Obeys old before commands told new after)
    → AddsUp (told_to told) (lacking_to old before commands told new after obeys) before after
commands_add_up old before [] [] new after obeys = nothing_adds_up before after obeys.1
commands_add_up old before [] (one ∷ more) new after obeys = absurd obeys
commands_add_up old before (command ∷ commands) [] new after obeys = absurd obeys
commands_add_up old before (command ∷ commands) (one ∷ more) new after obeys =
    let said : Parsed = Ok (Some command) in
    let given : Given = record { told = Some one; state = map_in obeys.0 } in
    both_add_up (work_told one.cost) (work_lacking (map_in old) said (Some one)) (told_to more) (lacking_to obeys.0 obeys.1 commands more new after obeys.3)
    before obeys.1 after (said_adds_up old before said given obeys.0 obeys.1 obeys.2) (commands_add_up obeys.0 obeys.1 commands more new after obeys.3)
