-- What a session executed takes and counts, all together.
use Rattle.std.proofs.Common.{◌≡◌, ℕ, ◌+◌, List, [], ◌∷◌, length, if◌then◌else◌, arith, ap}
use Rattle.std.proofs.lemmas.List.Sums.{sum_by-cons}
use Rattle.query_laws.specs.StepLedger.{Counts}
use Rattle.map_model.specs.Grammar.{Parsed}
use Rattle.map_session.specs.Executing.{ExecutesAll, AreCounted}
use Rattle.map_session.specs.Session.{SessionState}
use Rattle.map_session.specs.Work.{is_update_said}

pub all_counted : (old : SessionState) (before : Counts) (script : List Parsed) (new : SessionState) (after : Counts) (all : ExecutesAll old before script new after) → AreCounted old before script new after all
all_counted old before [] new after all =
    let turns : after.turns ≡ before.turns = ap (λ (c : Counts). c.turns) all.1 in
    let marks : after.marks ≡ before.marks = ap (λ (c : Counts). c.marks) all.1 in
    let touches : after.touches ≡ before.touches = ap (λ (c : Counts). c.touches) all.1 in
    let consulted : after.consulted ≡ before.consulted = ap (λ (c : Counts). c.consulted) all.1 in
    let lines : new.lines ≡ old.lines = ap (λ (s : SessionState). s.lines) all.0 in
    let refused : new.refused ≡ old.refused = ap (λ (s : SessionState). s.refused) all.0 in
    let updates : new.layers.updates ≡ old.layers.updates = ap (λ (s : SessionState). s.layers.updates) all.0 in
    record {
      turns = omega (arith, turns);
      marks = omega (arith, marks);
      touches = omega (arith, touches);
      consulted = omega (arith, consulted);
      lines = omega (arith, lines);
      refused = omega (arith, refused);
      updates = omega (arith, updates);
    }
all_counted old before (said ∷ more) new after all =
    let one = all.3 in
    let rest = all_counted all.1 all.2 more new after all.4 in
    let count : 1 + length more ≡ length (said ∷ more) = omega arith in
    record {
      turns = omega (arith, rest.turns, one.counted.few_turns);
      marks = omega (arith, rest.marks, one.counted.few_marks);
      touches = omega (arith, rest.touches, one.counted.few_touches);
      consulted = omega (arith, rest.consulted, one.counted.few_consulted);
      lines = omega (arith, rest.lines, one.lines, count);
      refused = omega (arith, rest.refused, one.refused);
      updates = omega (arith, rest.updates, one.updates, sum_by-cons (λ (s : Parsed). if is_update_said s then 1 else 0) said more);
    }
