use Rattle.builder_trait.specs.Parts.{live_of}
use Rattle.kd_tree.proofs.Takings.{near-joined}
use Rattle.kd_tree.proofs.questions.KdRowsAnsweringRowsNear.ask.Goals as goal

pub returns-clause-joined : goal.returns-clause-joined
returns-clause-joined g c =
    near-joined c.args.question.now.x c.args.question.now.y c.args.tally.now c.walk.new.tally (live_of c.args.points.now) c.walk.ensures.taken
