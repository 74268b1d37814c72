use Rattle.std.proofs.Common.{map, subst, ◌∙◌}
use Rattle.builder_trait.specs.Parts.{live_of}
use Rattle.map_shapes.specs.Found.{nearer_le}
use Rattle.map_questions.specs.FirstFew.{IsFirstFew}
use Rattle.map_questions.specs.Questions.{found_at}
use Rattle.kd_tree.specs.Walks.{Takes}
use Rattle.kd_tree.proofs.Takings.{near_k-joined, Takes-IsFirstFew}
use Rattle.kd_tree.proofs.questions.KdRowsAnsweringRowsNearK.ask.Goals as goal

pub returns-clause-owned : goal.returns-clause-owned
returns-clause-owned g c =
    let q = c.args.question.now in (
      c.walk.ensures.most ∙ c.requires.owned.0,
      subst (λ k. IsFirstFew nearer_le k c.walk.new.tally.found) c.requires.owned.0
          (Takes-IsFirstFew c.args.tally.now.k c.args.tally.now.found (map (found_at q.x q.y) (live_of c.args.points.now)) c.walk.new.tally.found c.walk.ensures.taken),
    )

pub returns-clause-joined : goal.returns-clause-joined
returns-clause-joined g c =
    let q = c.args.question.now in
    let points = live_of c.args.points.now in
    near_k-joined q.k q.x q.y c.args.tally.now.found c.walk.new.tally.found points
    (subst (λ k. Takes k c.args.tally.now.found (map (found_at q.x q.y) points) c.walk.new.tally.found) c.requires.owned.0 c.walk.ensures.taken)
