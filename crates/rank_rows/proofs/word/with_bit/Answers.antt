use Rattle.std.proofs.lemmas.Nat.Bits.{bit_at_set_same, bit_at_set_other}
use Rattle.std.specs.Int.{w64}
use Rattle.rank_rows.proofs.word.with_bit.Goals as goal

pub returns-clause-set : goal.returns-clause-set
returns-clause-set c = bit_at_set_same w64 c.args.mask c.args.bit c.requires

pub returns-clause-others : goal.returns-clause-others
returns-clause-others c k other = bit_at_set_other w64 c.args.mask c.args.bit c.requires k other
