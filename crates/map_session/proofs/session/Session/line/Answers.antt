use Rattle.std.proofs.Common.{◌≡◌, ◌∙◌, Bool, None, Some, if◌then◌else◌, refl, ap, subst}
use Rattle.std.proofs.lemmas.Result.{err_from_is_err_and}
use Rattle.map_io.proofs.SinkLaws.{Delivers-nil}
use Rattle.map_model.specs.Output.{written_for}
use Rattle.map_model.specs.Version.{Version}
use Rattle.map_shapes.specs.Version.{version_of}
use Rattle.answer_text.specs.Pieces.{DeliversLines, CutOffInPieces}
use Rattle.map_session.specs.declared.session.Done.TheVariants.{Answered, Refused}
use Rattle.map_session.specs.Session.{map_in, given_by}
use Rattle.map_session.proofs.session.Session.line.Goals as goal

pub returns-in_default-clause-done : goal.returns-in_default-clause-done
returns-in_default-clause-done g c = (given_by None (map_in c.answer.new.self), c.in_default.ensures.executed, refl, Delivers-nil (g.K.Sink.told c.args.sink.now))

pub returns-in_default-clause-silent : goal.returns-in_default-clause-silent
returns-in_default-clause-silent g c = (λ _. c.in_default.ensures.silent.0 refl, λ _. refl)

pub returns-in_err-write_reply-clause-fault : goal.returns-in_err-write_reply-clause-fault
returns-in_err-write_reply-clause-fault g c =
    let p = err_from_is_err_and c.from_residual.result c.from_residual.ensures.1 in
    let given = given_by (Some c.in-Some.reply) (map_in c.answer.new.self) in
    let same : c.self.inside.ledger ≡ c.args.self.now.ledger = ap (λ v. v.ledger) c.self.view_is ∙ c.in-Some.ensures.executed.ledger in
    rw p.1 (
      given,
      c.in-Some.ensures.executed,
      subst (λ (v : Version). CutOffInPieces (g.K.Sink.told c.args.sink.now) (g.K.Sink.told c.write_reply.new.sink) (written_for v c.args.self.now.ledger given.told)) c.version-version.ensures
          (subst (λ (b : Bool). CutOffInPieces (g.K.Sink.told c.args.sink.now) (g.K.Sink.told c.write_reply.new.sink) (written_for (version_of c.version-version.result) b given.told)) same
          c.in_err-write_reply.ensures.cut_off),
    )

pub returns-then-refused-clause-done : goal.returns-then-refused-clause-done
returns-then-refused-clause-done g c =
    let given = given_by (Some c.in-Some.reply) (map_in c.answer.new.self) in
    let same : c.self.inside.ledger ≡ c.args.self.now.ledger = ap (λ v. v.ledger) c.self.view_is ∙ c.in-Some.ensures.executed.ledger in (
      given,
      c.in-Some.ensures.executed,
      ap (λ b. if b then Refused else Answered) c.if-refused.ensures,
      subst (λ (v : Version). DeliversLines (g.K.Sink.told c.args.sink.now) (g.K.Sink.told c.write_reply.new.sink) (written_for v c.args.self.now.ledger given.told) 1) c.version-version.ensures
          (subst (λ (b : Bool). DeliversLines (g.K.Sink.told c.args.sink.now) (g.K.Sink.told c.write_reply.new.sink) (written_for (version_of c.version-version.result) b given.told) 1) same
          c.in_ok-write_reply.ensures.delivered),
    )

pub returns-clause-done : goal.returns-clause-done
returns-clause-done g c =
    let given = given_by (Some c.in-Some.reply) (map_in c.answer.new.self) in
    let same : c.self.inside.ledger ≡ c.args.self.now.ledger = ap (λ v. v.ledger) c.self.view_is ∙ c.in-Some.ensures.executed.ledger in (
      given,
      c.in-Some.ensures.executed,
      ap (λ b. if b then Refused else Answered) c.if-refused.ensures,
      subst (λ (v : Version). DeliversLines (g.K.Sink.told c.args.sink.now) (g.K.Sink.told c.write_reply.new.sink) (written_for v c.args.self.now.ledger given.told) 1) c.version-version.ensures
          (subst (λ (b : Bool). DeliversLines (g.K.Sink.told c.args.sink.now) (g.K.Sink.told c.write_reply.new.sink) (written_for (version_of c.version-version.result) b given.told) 1) same
          c.in_ok-write_reply.ensures.delivered),
    )
