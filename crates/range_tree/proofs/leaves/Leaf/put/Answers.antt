use Rattle.std.proofs.lemmas.Nat.Bits.{bit_at_set_same, bit_at_set_other}
use Rattle.std.specs.Int.{w16}
use Rattle.range_tree.proofs.leaves.Leaf.put.Goals as goal

pub returns-clause-set : goal.returns-clause-set
returns-clause-set c = bit_at_set_same w16 c.args.self.now.live c.args.slot c.requires

pub returns-clause-others : goal.returns-clause-others
returns-clause-others c k other = bit_at_set_other w16 c.args.self.now.live c.args.slot c.requires k other
