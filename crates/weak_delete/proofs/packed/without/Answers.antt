use Rattle.std.proofs.lemmas.Nat.Bits.{bit_at_clear_same, bit_at_clear_other}
use Rattle.std.specs.Int.{w16}
use Rattle.weak_delete.proofs.packed.without.Goals as goal

pub returns-clause-dead : goal.returns-clause-dead
returns-clause-dead c = bit_at_clear_same w16 c.args.mask c.args.slot c.requires

pub returns-clause-others : goal.returns-clause-others
returns-clause-others c k within other = bit_at_clear_other w16 c.args.mask c.args.slot c.requires k within other
