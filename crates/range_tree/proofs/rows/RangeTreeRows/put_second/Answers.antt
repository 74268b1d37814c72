use Rattle.std.proofs.Common.{◌<◌, arith}
use Rattle.range_tree.proofs.Putting.{small_place, room-top, room-source, room-target}
use Rattle.range_tree.proofs.rows.RangeTreeRows.put_second.Goals as goal

pub overflow_cast-place : goal.overflow_cast-place
overflow_cast-place g c =
    let small = small_place c.args.points.now c.args.self.now c.args.item.now c.args.place c.requires.putting c.requires.valid c.requires.fits in
    omega (arith, small)

pub push-requires : goal.push-requires
push-requires g c =
    room-top c.args.points.now c.args.self.now c.args.item.now c.args.place c.requires.putting c.requires.valid c.requires.fits
    (let some : 0 < c.args.self.now.top.capacity = omega arith in some)

pub push-requires-then-cap-gt0 : goal.push-requires-then-cap-gt0
push-requires-then-cap-gt0 g c =
    room-source c.args.points.now c.args.self.now c.args.item.now c.args.place c.requires.putting c.requires.valid c.requires.fits
    (let some : 0 < c.args.self.now.top.capacity = omega arith in some)

pub push-requires-then-cap-gt0-2 : goal.push-requires-then-cap-gt0-2
push-requires-then-cap-gt0-2 g c =
    room-target c.args.points.now c.args.self.now c.args.item.now c.args.place c.requires.putting c.requires.valid c.requires.fits
    (let some : 0 < c.args.self.now.top.capacity = omega arith in some)
