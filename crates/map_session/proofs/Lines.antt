-- Answering a text line by line.
use Rattle.std.proofs.Common.{◌≡◌, ◌==◌, ℕ, suc, ◌+◌, ◌-◌, ◌<◌, ◌≤◌, true, not, nat_eq, Bool, List, [], ◌∷◌, ◌++◌, length, take, drop, get_or, arith, refl, sym, ap, ◌∙◌, subst, append-nil, add-zero, length-append, length-take-le, take-append-drop, take_at, le_of_lt, if◌then◌else◌}
use Rattle.std.specs.Prelude.{count_by}
use Rattle.std.proofs.lemmas.List.{drop_more, take_rest, get_or-take, get_or_at, take-append-le, get_or_append_left}
use Rattle.std.proofs.lemmas.List.Sums.{sum_by-append, sum_by-cons}
use Rattle.std.proofs.lemmas.Bool.{eqb-true, and_from, not_from_false, false_from_ne_true}
use Rattle.std.specs.Io.KnownBytes.{Appends}
use Rattle.std.proofs.KnownBytes.{Appends-trans}
use Rattle.map_io.specs.Calls.{counted}
use Rattle.map_io.proofs.SinkLaws.{Delivers-nil}
use Rattle.map_model.specs.State.{State}
use Rattle.map_model.specs.Text.{lines, whole_lines, one_line}
use Rattle.map_model.specs.Grammar.{parse}
use Rattle.map_model.specs.Output.{Given, Interrupted, written_for}
use Rattle.map_model.proofs.TextLemmas.{lines_begin_whole}
use Rattle.map_model.proofs.Outputs.{refusals-push}
use Rattle.answer_text.specs.Pieces.{DeliversLines, CutOffInPieces}
use Rattle.answer_text.proofs.Pieces.{lines_both}
use Rattle.map_session.specs.Work.{no_work, both, work_said}
use Rattle.map_session.specs.Session.{map_in, ExecutesLine}
use Rattle.map_session.specs.Answering.{Moment, AnswersLine, Runs, IsStopped, IsStoppedBehind}
use Rattle.map_session.proofs.SumsUp.{within_is_output, sums_up}

-- ---- the first line of a text

-- no byte is a line feed
pub one_line_from : (text : List ℕ) → ((k : ℕ) → k < length text → (get_or text k 0 == 10) ≡ true → ⊥) → one_line text ≡ true
one_line_from [] h = refl
one_line_from (byte ∷ text) h =
    and_from (not (nat_eq byte 10)) (one_line text) (not_from_false (nat_eq byte 10) (false_from_ne_true (nat_eq byte 10) (h 0 (omega arith)))) (one_line_from text (λ k l. h (suc k) (omega arith)))

pub one_line-take : (text : List ℕ) (end : ℕ) → end ≤ length text → ((k : ℕ) → k < end → (get_or text k 0 == 10) ≡ true → ⊥) → one_line (take end text) ≡ true
one_line-take text end fits h =
    one_line_from (take end text) (λ k l e.
    let below : k < end = omega (arith, l, length-take-le end text fits) in
    h k below (sym (ap (λ b. b == 10) (get_or-take end text k 0 below)) ∙ e))

pub split_at_feed : (text : List ℕ) (end : ℕ) → end < length text → (get_or text end 0 == 10) ≡ true → text ≡ take end text ++ 10 ∷ take (length text - (end + 1)) (drop (end + 1) text)
split_at_feed text end fits h =
    sym (take-append-drop end text)
    ∙ ap (λ (rest : List ℕ). take end text ++ rest) (drop_more text end 0 fits ∙ (λ i. eqb-true (get_or text end 0) 10 h i ∷ sym (take_rest text (end + 1)) i))

-- ---- lines answered

-- one line more
pub Runs-push : (start now new : Moment) (script : List (List ℕ)) (line : List ℕ) → Runs start script now → AnswersLine now line new → Runs start (script ++ line ∷ []) new
Runs-push start now new [] line r a = (new, subst (λ m. AnswersLine m line new) r a, refl)
Runs-push start now new (first ∷ script) line r a = (r.0, r.1, Runs-push r.0 now new script line r.2 a)

-- ---- a fault

-- writing stopped in this line, behind those that were answered
abbrev pub stopped : (start now new : Moment) (answered more script : List (List ℕ)) (line : List ℕ) (given : Given) → script ≡ answered ++ line ∷ more → Runs start answered now
    → ExecutesLine now.session now.counts line given new.session new.counts → CutOffInPieces now.told new.told (written_for (map_in now.session).version now.session.ledger given.told) → IsStopped start script new
stopped start now new answered more script line given split p e prefix = record {
  answered = length answered;
  has_next = subst (λ (ls : List (List ℕ)). length answered < length ls) (sym split) (omega (arith, length-append answered (line ∷ more)));
  before = now;
  answers_before = subst (λ (ls : List (List ℕ)). Runs start ls now) (sym (ap (take (length answered)) split ∙ take_at answered (line ∷ more) (length answered) refl)) p;
  given = given;
  executed = subst (λ (l : List ℕ). ExecutesLine now.session now.counts l given new.session new.counts)
      (sym (ap (λ (ls : List (List ℕ)). get_or ls (length answered) []) split ∙ get_or_at answered line more [] (length answered) refl)) e;
  cut_off = prefix;
}

-- more lines behind those that writing stopped in
abbrev pub IsStopped-append : (start now : Moment) (script more : List (List ℕ)) → IsStopped start script now → IsStopped start (script ++ more) now
IsStopped-append start now script more s = record {
  answered = s.answered;
  has_next = omega (arith, s.has_next, length-append script more);
  before = s.before;
  answers_before = subst (λ (ls : List (List ℕ)). Runs start ls s.before) (sym (take-append-le s.answered script more (le_of_lt s.has_next))) s.answers_before;
  given = s.given;
  executed = subst (λ (l : List ℕ). ExecutesLine s.before.session s.before.counts l s.given now.session now.counts) (sym (get_or_append_left script more [] s.answered s.has_next)) s.executed;
  cut_off = s.cut_off;
}

-- the lines of a text begin with its whole lines
pub stopped_behind_in_text : (n : ℕ) (start now : Moment) (text : List ℕ) → IsStoppedBehind n start (whole_lines text) now → IsStoppedBehind n start (lines text) now
stopped_behind_in_text n start now text s =
    let r = lines_begin_whole text [] in
    subst (λ (ls : List (List ℕ)). IsStoppedBehind n start ls now) (sym r.1 ∙ ap lines (append-nil text)) (IsStopped-append start now (whole_lines text) r.0 s.0, s.1)

-- one call failed, after the lines that were answered
pub stopped_by_fault : (start now : Moment) (script : List (List ℕ)) → IsStopped start script now → now.told.faults ≡ counted start.told.faults
stopped_by_fault start now script s =
    let before = sums_up start (take s.answered script) s.before s.answers_before in
    s.cut_off.faults ∙ ap counted before.delivered.faults

-- ---- in the words of the definitions

-- what was written by a session that was stopped
pub stopped_is_interrupted : (start now : Moment) (script : List (List ℕ)) → IsStopped start script now
    → (bytes : List ℕ) × Appends start.told.written now.told.written bytes × Interrupted start.session.ledger (map_in start.session) script bytes (map_in now.session)
stopped_is_interrupted start now script s =
    let p = sums_up start (take s.answered script) s.before s.answers_before in
    let line = get_or script s.answered [] in
    let version = (map_in s.before.session).version in
    let told = written_for version start.session.ledger s.given.told in
    let cut : CutOffInPieces s.before.told now.told told = subst (λ (b : Bool). CutOffInPieces s.before.told now.told (written_for version b s.given.told)) p.ledger s.cut_off in
    let prefix = cut.written in (
      p.bytes ++ take prefix.0 told,
      Appends-trans start.told.written s.before.told.written now.told.written p.bytes (take prefix.0 told) p.delivered.written prefix.2,
      record {
        answered = s.answered;
        has_next = s.has_next;
        full = p.bytes;
        before = map_in s.before.session;
        answers_before = within_is_output start.session.ledger (map_in start.session) (map_in s.before.session) (take s.answered script) p.bytes p.work p.output;
        given = s.given;
        answers_next = s.executed.answers;
        executed = s.executed.map;
        part = prefix.0;
        is_part = prefix.1;
        is_written = refl;
      },
    )
