use Rattle.std.proofs.Common.{arith}
use Rattle.kd_tree.proofs.Puttings.{room_second}
use Rattle.kd_tree.proofs.rows.KdRowsRows.put_second.Goals as goal

pub put_second-requires-clause-small : goal.put_second-requires-clause-small
put_second-requires-clause-small g c =
    omega (arith, (room_second c.args.points.now c.args.self.now c.requires.putting c.args._item.now c.args.place c.requires.valid c.requires.fits).0)

pub put_second-requires-clause-room : goal.put_second-requires-clause-room
put_second-requires-clause-room g c =
    (room_second c.args.points.now c.args.self.now c.requires.putting c.args._item.now c.args.place c.requires.valid c.requires.fits).1
