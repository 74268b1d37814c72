use Rattle.std.proofs.Common.{◌^◌, ◌∙◌, length, refl, ap, sym, subst, arith}
use Rattle.binary_stack.specs.Levels.{live_items, HaveAtMost, AreLevels}
use Rattle.binary_stack.specs.Rooms.{HaveRooms}
use Rattle.binary_stack.proofs.preparing.take_memory.Goals as goal

pub make_rooms-requires-clause-few : goal.make_rooms-requires-clause-few
make_rooms-requires-clause-few g c =
    omega (arith, c.requires.few, ap (λ ls. length (live_items g.B.Part.Part.contents ls)) (c.deref.ensures.value ∙ c.reserve.ensures.items))

pub make_rooms-requires-clause-small : goal.make_rooms-requires-clause-small
make_rooms-requires-clause-small g c =
    subst (HaveAtMost g.B.Part.Part.contents (2 ^ 30)) (sym (c.deref.ensures.value ∙ c.reserve.ensures.items)) c.requires.small

pub returns-clause-ready : goal.returns-clause-ready
returns-clause-ready g c =
    let contents = g.B.Part.Part.contents in
    let seen = c.deref.ensures.value ∙ c.reserve.ensures.items in
    record {
      some = refl;
      builder = c.in_ok-starter.ensures;
      place = omega (arith, c.in_ok-reserve.ensures.ok, ap length c.deref.ensures.value, c.deref.ensures.len);
      rooms = subst (λ ls. HaveRooms contents 1 ls c.in_ok-rooms.rooms.items) c.deref.ensures.value c.in_ok-rooms.ensures.made;
      within = c.in_ok-rooms.ensures.within 0 (subst (AreLevels contents 0) (sym seen) c.requires.levels) (omega arith);
    }
