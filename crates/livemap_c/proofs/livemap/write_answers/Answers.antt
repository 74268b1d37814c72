use Rattle.std.proofs.Common.{◌≡◌, List, ℕ, [], Some, None}
use Rattle.std.proofs.lemmas.Result.{err_from_is_err_and}
use Rattle.query_laws.specs.StepLedger.{Counts, nothing_counted}
use Rattle.map_session.specs.Session.{SessionState}
use Rattle.map_session.specs.Answering.{moment, IsUnderway}
use Rattle.map_session.proofs.Lines.{stopped_behind_in_text}
use Rattle.map_session.proofs.Underway.{underway_at_first}
use Rattle.livemap_c.specs.Calls.{start_of}
use Rattle.livemap_c.proofs.livemap.write_answers.Goals as goal

-- no text, no line that is begun and nothing counted: nothing is answered yet
begins : (session : SessionState) (faults : ℕ) (written begun : List ℕ) (counts : Counts) → written ≡ [] → begun ≡ [] → counts ≡ nothing_counted
    → IsUnderway (moment session (record { written = Some []; pieces = None; faults = faults }) nothing_counted) [] begun
    (moment session (record { written = Some written; pieces = None; faults = faults }) counts)
begins session faults written begun counts w b n = rw w (rw b (rw n (underway_at_first (moment session (record { written = Some []; pieces = None; faults = faults }) nothing_counted))))

pub returns-in_err-answer_piece-clause-stopped : goal.returns-in_err-answer_piece-clause-stopped
returns-in_err-answer_piece-clause-stopped g c =
    let p = err_from_is_err_and c.from_residual.result c.from_residual.ensures.1 in
    let start = start_of c.args.map.now in
    let first = begins c.args.map.now.session c.args.map.now.text.faults _ _ _ c.clear.ensures.items c.new-begun.ensures c.new-steps.ensures in
    let stopped = c.in_err-answer_piece.ensures.stopped start [] first in
    rw p.1 (c.answer_piece.new.steps, (stopped_behind_in_text 0 start _ c.args.script.now stopped).0)

pub returns-in_err-answer_begun-clause-stopped : goal.returns-in_err-answer_begun-clause-stopped
returns-in_err-answer_begun-clause-stopped g c =
    let p = err_from_is_err_and c.from_residual-in_err-answer_begun.result c.from_residual-in_err-answer_begun.ensures.1 in
    let start = start_of c.args.map.now in
    let first = begins c.args.map.now.session c.args.map.now.text.faults _ _ _ c.clear.ensures.items c.new-begun.ensures c.new-steps.ensures in
    let so_far = c.in_ok-answer_piece.ensures.answered start [] first in
    rw p.1 (c.answer_begun.new.steps, (c.in_err-answer_begun.ensures.stopped start c.args.script.now so_far).0)

pub returns-clause-answered : goal.returns-clause-answered
returns-clause-answered g c =
    let start = start_of c.args.map.now in
    let first = begins c.args.map.now.session c.args.map.now.text.faults _ _ _ c.clear.ensures.items c.new-begun.ensures c.new-steps.ensures in
    let so_far = c.in_ok-answer_piece.ensures.answered start [] first in
    (c.answer_begun.new.steps, c.in_ok-answer_begun.ensures.answered start c.args.script.now so_far)
