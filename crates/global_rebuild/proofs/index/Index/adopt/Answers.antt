use Rattle.global_rebuild.proofs.Adopting.{IsIndex-adopted, IsIndexOf-adopted, IsPrepared-adopted}
use Rattle.global_rebuild.proofs.index.Index.adopt.Goals as goal

pub invariant_of-result : goal.invariant_of-result
invariant_of-result g c =
    rw c.new.ensures.items (IsIndex-adopted g.B.Part.Part.contents c.args.stack c.args.store c.requires.quiet c.requires.lent c.requires.few)

pub returns-clause-chain : goal.returns-clause-chain
returns-clause-chain g c es stamps own rise differ few =
    rw c.new.ensures.items (IsIndexOf-adopted g.B.Part.Part.contents c.args.stack c.args.store g.B.Item.Item.stamp es stamps own rise differ few)

pub returns-clause-prepared : goal.returns-clause-prepared
returns-clause-prepared g c stocked = rw c.new.ensures.items (IsPrepared-adopted g.B.Part.Part.contents c.args.stack c.args.store stocked)
