use Rattle.std.proofs.Common.{◌≡◌, ◌++◌, [], ◌∷◌, List, ℕ, length, take, refl, sym, ap, ◌∙◌, subst, append_assoc, append-nil, length-append, arith}
use Rattle.std.proofs.lemmas.Result.{err_from_is_err_and}
use Rattle.map_model.specs.Text.{whole_lines}
use Rattle.script_lang.specs.Front.{longest_front}
use Rattle.map_session.specs.Answering.{Moment, moment, IsStoppedBehind, IsUnderway}
use Rattle.map_session.proofs.Underway.{underway_line, underway_rest, stopped_line, more_lines, stopped_earlier}
use Rattle.map_session.proofs.answering.answer_piece.Goals as goal

pub loop-line-init : goal.loop-line-init
loop-line-init g c = ([], refl, omega arith, λ start text so_far. subst (λ (t : List ℕ). IsUnderway start t c.args.begun.now (moment c.args.session.now (g.K.Sink.told c.args.sink.now) c.args.steps.now)) (sym (append-nil text)) so_far)

pub loop-line-preserved : goal.loop-line-preserved
loop-line-preserved g c =
    let was = c.loop-line.invariant in
    let line = c.in-Some.line.now in
    let after = c.in-Some.after.now in
    let more = line ++ 10 ∷ [] in
    let split : c.loop-line.rest.now ≡ more ++ after = c.in-Some.ensures.0 ∙ sym (append_assoc line (10 ∷ []) after) in
    let new : Moment = moment c.end_line.new.session (g.K.Sink.told c.end_line.new.sink) c.end_line.new.steps in (
      was.0 ++ more,
      was.1 ∙ ap (λ (l : List ℕ). was.0 ++ l) split ∙ sym (append_assoc was.0 more after),
      omega (arith, was.2, ap length split, length-append more after, length-append line (10 ∷ []), c.end_line.ensures.counted),
      λ start text so_far.
          let before = was.3 start text so_far in
          rw c.in_ok-end_line.ensures.cleared
          (subst (λ (t : List ℕ). IsUnderway start t [] new) (append_assoc text was.0 more)
          (underway_line start _ new (text ++ was.0) c.loop-line.begun before line c.in-Some.ensures.1 (c.in_ok-end_line.ensures.answered _ before.front))),
    )

pub returns-in_err-end_line-clause-stopped : goal.returns-in_err-end_line-clause-stopped
returns-in_err-end_line-clause-stopped g c =
    let p = err_from_is_err_and c.from_residual.result c.from_residual.ensures.1 in
    let was = c.loop-line.invariant in
    let line = c.in-Some.line.now in
    let after = c.in-Some.after.now in
    let new : Moment = moment c.end_line.new.session (g.K.Sink.told c.end_line.new.sink) c.end_line.new.steps in
    rw p.1 (λ start text so_far.
    let before = was.3 start text so_far in
    let whole : (text ++ was.0) ++ (line ++ 10 ∷ after) ≡ text ++ c.args.piece.now =
    append_assoc text was.0 (line ++ 10 ∷ after) ∙ ap (λ (l : List ℕ). text ++ l) (sym (was.1 ∙ ap (λ (l : List ℕ). was.0 ++ l) c.in-Some.ensures.0)) in
    stopped_earlier (length (whole_lines text)) (length (whole_lines (text ++ was.0))) start new (whole_lines (text ++ c.args.piece.now)) (more_lines text was.0)
    (subst (λ (t : List ℕ). IsStoppedBehind (length (whole_lines (text ++ was.0))) start (whole_lines t) new) whole
    (stopped_line start _ new (text ++ was.0) c.loop-line.begun before line after c.in-Some.ensures.1 (c.in_err-end_line.ensures.stopped _ before.front))))

pub returns-clause-answered : goal.returns-clause-answered
returns-clause-answered g c = λ start text so_far.
    let was = c.loop-line.invariant in
    let rest = c.loop-line.rest.now in
    let now : Moment = moment c.loop-line.session (g.K.Sink.told c.loop-line.sink) c.loop-line.steps in
    let whole : (text ++ was.0) ++ rest ≡ text ++ c.args.piece.now = append_assoc text was.0 rest ∙ ap (λ (l : List ℕ). text ++ l) (sym was.1) in
    subst (λ (b : List ℕ). IsUnderway start (text ++ c.args.piece.now) b now) (sym c.push.ensures)
    (subst (λ (t : List ℕ). IsUnderway start t (take longest_front (c.loop-line.begun ++ rest)) now) whole
    (underway_rest start now now (text ++ was.0) c.loop-line.begun (was.3 start text so_far) rest c.in_default.ensures))
