use Rattle.kd_tree.proofs.Puttings.{room_first, IsPutting-first}
use Rattle.kd_tree.proofs.rows.KdRowsRows.put_first.Goals as goal

pub put-requires-clause-room : goal.put-requires-clause-room
put-requires-clause-room g c = (room_first c.args.points.now c.args.self.now c.requires.putting c.args._item.now c.args.place c.requires.fits).0

pub put-requires-clause-small : goal.put-requires-clause-small
put-requires-clause-small g c = (room_first c.args.points.now c.args.self.now c.requires.putting c.args._item.now c.args.place c.requires.fits).1

pub returns-clause-putting : goal.returns-clause-putting
returns-clause-putting g c =
    IsPutting-first c.args.points.now c.args.self.now c.requires.putting c.args._item.now c.args.place c.put.new.self c.put_first.new.self c.requires.fits
    c.put.ensures.put c.put_first.ensures.counts c.put_first.ensures.kept
