use Rattle.std.proofs.Common.{◌≡◌, ◌-◌, ◌^◌, ap, arith}
use Rattle.std.proofs.lemmas.Result.{IfOk-weaker}
use Rattle.binary_stack.specs.Rooms.{IsRoomFor}
use Rattle.binary_stack.proofs.preparing.room_for.Goals as goal

pub returns-clause-fits : goal.returns-clause-fits
returns-clause-fits g c =
    IfOk-weaker c.new.result (λ room. room ≡ c.size_for.result) (λ room. IsRoomFor g.B.Part.Part.contents c.args.carried room c.args.part.now)
    (λ room is.
    let power : 2 ^ (room - 1) ≡ 2 ^ (c.size_for.result - 1) = ap (λ k. 2 ^ (k - 1)) is in
    record {
      fits = omega (arith, power, c.size_for.ensures.fits, c.requires.small);
      carried_fits = omega (arith, power, c.size_for.ensures.fits);
    }) c.new.ensures

pub returns-clause-within : goal.returns-clause-within
returns-clause-within g c =
    IfOk-weaker c.new.result (λ room. room ≡ c.size_for.result) _
    (λ room is i low carried. omega (arith, is, c.size_for.ensures.least i (omega (arith, low, carried)))) c.new.ensures
