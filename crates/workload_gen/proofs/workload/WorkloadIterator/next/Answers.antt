use Rattle.std.proofs.Common.{rules, ◌≡◌, suc, true}
use Rattle.workload_gen.proofs.Giving.{gives_round, shorter}
use Rattle.workload_gen.proofs.workload.WorkloadIterator.next.Goals as goal

pub returns-clause-steps : goal.returns-clause-steps
returns-clause-steps c =
    let begun : c.self.inside.is_begun ≡ true = search rules in
    let is : c.self.inside.rounds ≡ suc c.in_ok-self-inside.field-0 = search rules in
    gives_round c.self.inside.is_begun c.self.inside.rounds c.in_ok-self-inside.field-0 c.self.inside.maker c.round.new.self c.round.result c.args.self.now
    begun is c.self.view_is c.round.ensures.command c.round.ensures.lawful c.round.ensures.after

pub returns-clause-goes : goal.returns-clause-goes
returns-clause-goes c = record { on = λ f. (tt, tt, shorter _ _ c.round.result (returns-clause-steps c)); keeps = tt; rests = λ f. tt }
