use Rattle.std.proofs.Common.{◌-◌, ap, ◌∙◌, arith}
use Rattle.std.specs.Prelude.{bit_and}
use Rattle.std.proofs.lemmas.Nat.{one_shl, and_mask}
use lib.Count.{ones}
use Rattle.weak_delete.proofs.Packing.{ones-below}
use Rattle.weak_delete.proofs.packed.live_below.Goals as goal

pub returns-clause-value : goal.returns-clause-value
returns-clause-value c =
    ap (λ m. ones (bit_and c.args.mask (m - 1))) (one_shl c.args.slots 16 (omega arith))
    ∙ ap ones (and_mask c.args.mask c.args.slots) ∙ ones-below c.args.mask c.args.slots
