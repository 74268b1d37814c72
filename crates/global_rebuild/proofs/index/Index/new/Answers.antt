use Rattle.global_rebuild.proofs.Weights.{IsIndex-empty, IsIndexOf-empty}
use Rattle.global_rebuild.proofs.index.Index.new.Goals as goal

pub invariant_of-result : goal.invariant_of-result
invariant_of-result g c = rw (c.new.ensures, c.new-2.ensures, c.new-3.ensures.items) (IsIndex-empty g.B.Part.Part.contents)

pub returns-clause-chain : goal.returns-clause-chain
returns-clause-chain g c = rw (c.new.ensures, c.new-2.ensures, c.new-3.ensures.items) (IsIndexOf-empty g.B.Part.Part.contents g.B.Item.Item.stamp)
