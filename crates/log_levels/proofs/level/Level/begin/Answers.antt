use Rattle.log_levels.proofs.Distinct.{AllStampsDiffer-front, AllStampsDiffer-back, StampsDiffer-parts}
use Rattle.log_levels.proofs.level.Level.begin.Goals as goal

pub begin-requires-clause-apart : goal.begin-requires-clause-apart
begin-requires-clause-apart g c =
    AllStampsDiffer-front g.B.Item.Item.stamp (g.B.Part.Part.contents c.args.a.now).items (g.B.Part.Part.contents c.args.b.now).items c.requires.apart

pub begin-requires-clause-other_apart : goal.begin-requires-clause-other_apart
begin-requires-clause-other_apart g c =
    AllStampsDiffer-back g.B.Item.Item.stamp (g.B.Part.Part.contents c.args.a.now).items (g.B.Part.Part.contents c.args.b.now).items c.requires.apart

pub begin-requires-clause-differ : goal.begin-requires-clause-differ
begin-requires-clause-differ g c =
    StampsDiffer-parts g.B.Item.Item.stamp (g.B.Part.Part.contents c.args.a.now).items (g.B.Part.Part.contents c.args.b.now).items c.requires.apart
