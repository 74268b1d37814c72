use Rattle.std.proofs.Common.{◌≡◌, ◌+◌, ◌*◌, ◌^◌, ◌<◌, ◌≤◌, ◌∙◌, length, ap, sym, subst, arith}
use Rattle.binary_stack.specs.Charge.{charge_at, charge_of}
use Rattle.binary_stack.specs.Levels.{weight_of, AreLevels, IsTakenIn, IsCarried, raised}
use Rattle.binary_stack.proofs.Carried.{higher-full, one-higher}
use Rattle.binary_stack.proofs.Levels.{take_whole}
use Rattle.binary_stack.proofs.carrying.take_in.Goals as goal

pub carry-top-requires-clause-apart : goal.carry-top-requires-clause-apart
carry-top-requires-clause-apart g c = rw c.deref_mut.ensures.value c.requires.apart

pub carry-top-requires-clause-few : goal.carry-top-requires-clause-few
carry-top-requires-clause-few g c = rw c.deref_mut.ensures.value c.requires.few

pub carry-top-requires-clause-rooms : goal.carry-top-requires-clause-rooms
carry-top-requires-clause-rooms g c = rw c.deref_mut.ensures.value c.requires.rooms

pub carry-top-requires-clause-small : goal.carry-top-requires-clause-small
carry-top-requires-clause-small g c = omega (arith, c.requires.small, ap length c.deref_mut.ensures.value)

-- the vector holds the levels as they were carried to
pub put_on_top-requires : goal.put_on_top-requires
put_on_top-requires g c =
    omega (
      arith,
      c.requires.place,
      c.carry-top.ensures.carried.as_many,
      ap length c.deref_mut.ensures.value,
      ap length (take_whole c.carry-top.new.levels c.args.levels.now.items c.args.levels.now.len
          (omega (arith, c.carry-top.ensures.carried.as_many, c.deref_mut.ensures.len))),
    )

pub returns : goal.returns
returns g c =
    let contents = g.B.Part.Part.contents in
    let slope = g.B.Builder.SLOPE in
    let base = g.B.Builder.BASE in
    let xs = (contents c.args.part).items in
    let old = c.args.levels.now.items in
    let new = c.carry-top.new.levels in
    let top = c.carry-top.result in
    let value = c.deref_mut.ensures.value in
    let e = c.carry-top.ensures in
    let carried = subst (λ ls. IsCarried contents xs ls top new) value e.carried in
    let is = c.put_on_top.ensures ∙ ap (raised top) (take_whole new old c.args.levels.now.len (omega (arith, e.carried.as_many, c.deref_mut.ensures.len))) in
    record {
      taken_in = subst (IsTakenIn contents xs old) (sym is) carried.taken_in;
      one_more = subst (λ ls. length ls ≤ length old + 1) (sym is) (one-higher contents xs old new top carried);
      higher = subst (λ ls. length old < length ls → weight_of ls ≡ 2 ^ length old) (sym is) (higher-full contents xs old new top carried);
      charged = λ i levels few within.
          subst (λ ls. 2 * c.carry-top.new.spent + charge_at slope base i + charge_of slope base i old ≤ 2 * c.args.spent.now + charge_of slope base i ls) (sym is)
          (subst (λ ls. 2 * c.carry-top.new.spent + charge_at slope base i + charge_of slope base i ls ≤ 2 * c.args.spent.now + charge_of slope base i (raised top new)) value
          (e.charged i (subst (AreLevels contents i) (sym value) levels) few within));
      risen = e.risen;
      cost = e.cost;
    }
