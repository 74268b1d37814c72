use Rattle.std.proofs.Common.{◌≡◌, IfSome, sym, subst}
use Rattle.builder_trait.specs.Builders.{begun}
use Rattle.binary_stack.specs.Charge.{charge_at}
use Rattle.binary_stack.proofs.Charges.{paid_more}
use Rattle.binary_stack.proofs.room.part_of.Goals as goal

pub single-part-requires : goal.single-part-requires
single-part-requires g c = subst (λ o. IfSome o (λ b. g.B.Builder.progress b ≡ begun 0)) (sym c.in-Some.ensures.value) c.requires.begun

pub returns-clause-charged : goal.returns-clause-charged
returns-clause-charged g c =
    paid_more c.args.spent.now c.single-part.result.1 (charge_at g.B.Builder.SLOPE g.B.Builder.BASE 0) c.single-part.ensures.charged
