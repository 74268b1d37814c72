use Rattle.std.proofs.lemmas.Nat.Bits.{bit_at_clear_same, bit_at_clear_other}
use Rattle.std.specs.Int.{w16}
use Rattle.range_tree.proofs.leaves.Leaf.strike.Goals as goal

pub returns-clause-cleared : goal.returns-clause-cleared
returns-clause-cleared c = bit_at_clear_same w16 c.args.self.now.live c.args.slot c.requires

pub returns-clause-others : goal.returns-clause-others
returns-clause-others c k within other = bit_at_clear_other w16 c.args.self.now.live c.args.slot c.requires k within other
