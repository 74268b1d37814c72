-- What lines that were answered took, wrote and led to, all together.
use Rattle.std.proofs.Common.{◌≡◌, ℕ, ◌+◌, Bool, List, [], ◌∷◌, ◌++◌, length, if◌then◌else◌, arith, refl, sym, ap, ◌∙◌, subst, append-nil, add-zero, zero-add}
use Rattle.std.specs.Prelude.{count_by}
use Rattle.std.proofs.lemmas.List.Sums.{sum_by-cons}
use Rattle.map_io.proofs.SinkLaws.{Delivers-nil}
use Rattle.map_model.specs.Grammar.{Parsed, parse}
use Rattle.map_model.specs.Output.{Given, Answers, written_for, refusal_count, Output}
use Rattle.map_model.specs.State.{State}
use Rattle.map_model.specs.Text.{refusals}
use Rattle.map_model.proofs.Outputs.{refusals-append_output, refusals-push}
use Rattle.answer_text.specs.Pieces.{DeliversLines}
use Rattle.answer_text.proofs.Pieces.{lines_both}
use Rattle.map_session.specs.Answering.{OutputWithin, Moment, AnswersLine, Runs, said_by, SumsUp}
use Rattle.map_session.specs.Session.{map_in}
use Rattle.map_session.specs.Work.{Work, no_work, both, work_said, is_update_said}

-- an output with what its commands may take is an output
pub within_is_output : (ledger : Bool) (start end : State) (script : List (List ℕ)) (written : List ℕ) (work : Work) → OutputWithin ledger start script written end work → Output ledger start script written end
within_is_output ledger start end [] written work o = (o.0, o.1)
within_is_output ledger start end (line ∷ script) written work o = (o.0, o.1, o.2, o.4, within_is_output ledger o.0.state end script o.2 o.3 o.6)

-- the answer to one line, with more behind it
refusals-first : (ledger : Bool) (state : State) (line : List ℕ) (given : Given) (rest : List ℕ) → Answers state line given
    → refusals (written_for state.version ledger given.told ++ rest) ≡ refusal_count given.told + refusals rest
refusals-first ledger state line given rest answers =
    let told = written_for state.version ledger given.told in
    let one : Output ledger state (line ∷ []) told given.state = (given, answers, [], sym (append-nil told), (refl, refl)) in
    refusals-append_output ledger state given.state (line ∷ []) told rest one
    ∙ ap (λ n. n + refusals rest) (refusals-push state.version ledger state state [] [] given.told (refl, refl) ∙ zero-add (refusal_count given.told))

no_lines : (start now : Moment) (same : now ≡ start) → SumsUp start [] now same
no_lines start now same =
    let turns : now.counts.turns ≡ start.counts.turns = ap (λ (m : Moment). m.counts.turns) same in
    let marks : now.counts.marks ≡ start.counts.marks = ap (λ (m : Moment). m.counts.marks) same in
    let touches : now.counts.touches ≡ start.counts.touches = ap (λ (m : Moment). m.counts.touches) same in
    record {
      bytes = [];
      work = no_work;
      output = (refl, ap (λ (m : Moment). map_in m.session) same, refl);
      delivered = subst (λ (m : Moment). DeliversLines start.told m.told [] 0) (sym same) (Delivers-nil start.told);
      turns = omega (arith, turns);
      marks = omega (arith, marks);
      touches = omega (arith, touches);
      ledger = ap (λ (m : Moment). m.session.ledger) same;
      lines = ap (λ (m : Moment). m.session.lines) same ∙ sym (add-zero start.session.lines);
      refused = ap (λ (m : Moment). m.session.refused) same ∙ sym (add-zero start.session.refused);
      updates = ap (λ (m : Moment). m.session.layers.updates) same ∙ sym (add-zero start.session.layers.updates);
    }

one_first : (start next now : Moment) (line : List ℕ) (lines : List (List ℕ)) (a : AnswersLine start line next) (runs : Runs next lines now) → SumsUp next lines now runs
    → SumsUp start (line ∷ lines) now (next, a, runs)
one_first start next now line lines a runs rest =
    let ledger = start.session.ledger in
    let version = (map_in start.session).version in
    let e = a.executed in
    let told = written_for version ledger a.given.told in
    let later : OutputWithin ledger (map_in next.session) lines rest.bytes (map_in now.session) rest.work =
    subst (λ (b : Bool). OutputWithin b (map_in next.session) lines rest.bytes (map_in now.session) rest.work) e.ledger rest.output in
    let count : 1 + length lines ≡ length (line ∷ lines) = omega arith in
    record {
      bytes = told ++ rest.bytes;
      work = both (work_said (map_in start.session) (parse version line)) rest.work;
      output = (
        a.given,
        e.answers,
        rest.bytes,
        rest.work,
        refl,
        refl,
        subst (λ (s : State). OutputWithin ledger s lines rest.bytes (map_in now.session) rest.work) e.map later,
      );
      delivered = subst (DeliversLines start.told now.told (told ++ rest.bytes)) count (lines_both start.told next.told now.told told rest.bytes 1 (length lines) a.delivered rest.delivered);
      turns = omega (arith, rest.turns, e.counted.few_turns);
      marks = omega (arith, rest.marks, e.counted.few_marks);
      touches = omega (arith, rest.touches, e.counted.few_touches);
      ledger = rest.ledger ∙ e.ledger;
      lines = omega (arith, rest.lines, e.lines, count);
      refused = omega (arith, rest.refused, e.refused, refusals-first ledger (map_in start.session) line a.given rest.bytes e.answers);
      updates = omega (arith, rest.updates, e.updates, sum_by-cons (λ (s : Parsed). if is_update_said s then 1 else 0) (parse version line) (said_by next lines now runs));
    }

pub sums_up : (start : Moment) (script : List (List ℕ)) (now : Moment) (runs : Runs start script now) → SumsUp start script now runs
sums_up start [] now runs = no_lines start now runs
sums_up start (line ∷ lines) now runs = one_first start runs.0 now line lines runs.1 runs.2 (sums_up runs.0 lines now runs.2)
