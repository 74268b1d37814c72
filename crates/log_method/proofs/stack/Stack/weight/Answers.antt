use Rattle.std.proofs.Common.{ap, arith}
use Rattle.log_method.specs.Height.{size_of}
use Rattle.log_method.proofs.Stacks.{size-all}
use Rattle.log_method.proofs.stack.Stack.weight.Goals as goal

pub returns-clause-items : goal.returns-clause-items
returns-clause-items g c =
    let contents = g.B.Part.Part.contents in
    omega (
      arith,
      size-all contents c.self.inside.levels.items,
      c.self.invariant.0.small,
      c.self.invariant.1,
      ap (λ s. size_of contents s.levels) c.self.view_is,
    )
