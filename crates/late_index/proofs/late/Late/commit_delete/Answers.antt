use Rattle.std.proofs.Common.{rules, ◌≡◌, true, false, ◌∙◌, refl, sym}
use Rattle.id_chain.specs.Chain.{after, first_handle}
use Rattle.late_index.proofs.Catching.{some_wait}
use Rattle.late_index.proofs.Leaving.{HasLetGo, goes_on_at, was_handed, as_heavy, drops_walked, drops_other, short_gone, short_kept}
use Rattle.late_index.proofs.late.Late.commit_delete.Given.{Over}
use Rattle.late_index.proofs.late.Late.commit_delete.Goals.{After-let_go}
use Rattle.late_index.proofs.late.Late.commit_delete.Goals as goal

has_let_go : (g : Over) (c : After-let_go g) → HasLetGo g.B.Part.Part.contents g.B.Item.Item.stamp c.args.self.now c.args.chain.now.entries c.args.handle
    (first_handle (after c.args.handle c.args.chain.now.entries)) c.let_go.result c.let_go.new.self.walk
has_let_go g c = record {
  prepared = c.requires.prepared;
  going = c.requires.going;
  linked = c.requires.linked;
  goes = goes_on_at c.let_go.ensures.goes (search rules);
}

pub overflow_sub-self : goal.overflow_sub-self
overflow_sub-self g c = rw c.goal-goal.ensures (some_wait c.requires.chain.1 c.requires.prepared c.requires.going)

pub returns-then-let_go-clause-chain : goal.returns-then-let_go-clause-chain
returns-then-let_go-clause-chain g c stamps h =
    let was : c.let_go.result ≡ true = search rules in
    let d = has_let_go g (goal.at.returns-then-let_go-clause-chain g c).After-let_go in
    let late = rw (← c.self.view_is) at (drops_walked d h c.let_go.new.self.store was) in
    rw c.goal-goal.ensures late

pub returns-then-let_go-clause-short : goal.returns-then-let_go-clause-short
returns-then-let_go-clause-short g c =
    let was : c.let_go.result ≡ true = search rules in
    let d = has_let_go g (goal.at.returns-then-let_go-clause-short g c).After-let_go in
    let short = rw (← c.self.view_is) at (short_gone d c.requires.chain.1 was) in
    rw c.goal-goal.ensures short

pub returns-then-let_go-clause-waiting : goal.returns-then-let_go-clause-waiting
returns-then-let_go-clause-waiting g c =
    let was : c.let_go.result ≡ true = search rules in
    let handed = sym (was_handed (has_let_go g (goal.at.returns-then-let_go-clause-waiting g c).After-let_go)) ∙ was in
    rw (c.goal-goal.ensures, handed) refl

pub returns-then-let_go-clause-weight : goal.returns-then-let_go-clause-weight
returns-then-let_go-clause-weight g c = rw (← c.self.view_is) at (as_heavy (has_let_go g (goal.at.returns-then-let_go-clause-weight g c).After-let_go))

pub returns-then-let_go-clause-marks : goal.returns-then-let_go-clause-marks
returns-then-let_go-clause-marks g c item is =
    let handed = was_handed (has_let_go g (goal.at.returns-then-let_go-clause-marks g c).After-let_go) in
    rw (handed, ← c.self.view_is) at (c.let_go.ensures.marks item is)

pub returns-else-let_go-clause-chain : goal.returns-else-let_go-clause-chain
returns-else-let_go-clause-chain g c stamps h =
    let was : c.let_go.result ≡ false = search rules in
    let d = has_let_go g (goal.at.returns-else-let_go-clause-chain g c).After-let_go in
    let late = rw (← c.self.view_is) at (drops_other d h c.let_go.new.self.store was) in
    rw c.goal-goal.ensures late

pub returns-else-let_go-clause-short : goal.returns-else-let_go-clause-short
returns-else-let_go-clause-short g c =
    let was : c.let_go.result ≡ false = search rules in
    let d = has_let_go g (goal.at.returns-else-let_go-clause-short g c).After-let_go in
    let short = rw (← c.self.view_is) at (short_kept d c.requires.chain.1 was) in
    rw c.goal-goal.ensures short

pub returns-else-let_go-clause-waiting : goal.returns-else-let_go-clause-waiting
returns-else-let_go-clause-waiting g c =
    let was : c.let_go.result ≡ false = search rules in
    let handed = sym (was_handed (has_let_go g (goal.at.returns-else-let_go-clause-waiting g c).After-let_go)) ∙ was in
    rw (c.goal-goal.ensures, handed) refl

pub returns-else-let_go-clause-weight : goal.returns-else-let_go-clause-weight
returns-else-let_go-clause-weight g c = rw (← c.self.view_is) at (as_heavy (has_let_go g (goal.at.returns-else-let_go-clause-weight g c).After-let_go))

pub returns-else-let_go-clause-marks : goal.returns-else-let_go-clause-marks
returns-else-let_go-clause-marks g c item is =
    let handed = was_handed (has_let_go g (goal.at.returns-else-let_go-clause-marks g c).After-let_go) in
    rw (handed, ← c.self.view_is) at (c.let_go.ensures.marks item is)
