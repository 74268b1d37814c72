use Rattle.std.proofs.Common.{◌+◌, ◌^◌, ◌<◌, ◌≤◌, ◌∙◌, Some, ◌∷◌, length, ap, sym, subst, arith}
use Rattle.std.proofs.lemmas.List.{length-append}
use Rattle.std.proofs.lemmas.List.Elements.{All-head, All-tail}
use Rattle.builder_trait.specs.Parts.{live_of}
use Rattle.binary_stack.specs.Levels.{items_in, live_items, HaveAtMost, AreLevels}
use Rattle.binary_stack.specs.Rooms.{AreWithin, HaveRooms}
use Rattle.binary_stack.proofs.Distinct.{none_of}
use Rattle.binary_stack.proofs.Levels.{doubled, few_live}
use Rattle.binary_stack.proofs.preparing.+make_rooms.Goals as goal

pub returns-in_default-clause-made : goal.returns-in_default-clause-made
returns-in_default-clause-made g t c =
    let none = none_of c.args.levels.now (omega (arith, c.in_default.ensures.cases)) in
    subst (λ ls. HaveRooms g.B.Part.Part.contents c.args.carried ls c.new.result.items) (sym none) tt

pub returns-in_default-clause-within : goal.returns-in_default-clause-within
returns-in_default-clause-within g t c i levels few = subst (AreWithin i) (sym c.new.ensures.items) tt

pub returns-in_default-level-clause-made : goal.returns-in_default-level-clause-made
returns-in_default-level-clause-made g t c =
    let empty = c.in-Some.ensures.cases.0 ∙ ap (λ l. l ∷ c.in-Some.above.now) c.in_default-level.is in
    subst (λ ls. HaveRooms g.B.Part.Part.contents c.args.carried ls c.new-in_default-level.result.items) (sym empty) tt

pub returns-in_default-level-clause-within : goal.returns-in_default-level-clause-within
returns-in_default-level-clause-within g t c i levels few = subst (AreWithin i) (sym c.new-in_default-level.ensures.items) tt

pub room_for-requires-clause-small : goal.room_for-requires-clause-small
room_for-requires-clause-small g t c =
    let contents = g.B.Part.Part.contents in
    let above = c.in-Some.above.now in
    let full = c.in-Some.ensures.cases.0 ∙ ap (λ l. l ∷ above) c.in-Some-level.is in
    All-head (λ l. length (items_in contents l) ≤ 2 ^ 30) (Some c.in-Some-level.part) above
    (subst (HaveAtMost contents (2 ^ 30)) full c.requires.small)

pub overflow_add-more : goal.overflow_add-more
overflow_add-more g t c =
    let contents = g.B.Part.Part.contents in
    let live = live_of (contents c.in-Some-level.part) in
    let above = c.in-Some.above.now in
    let full = c.in-Some.ensures.cases.0 ∙ ap (λ l. l ∷ above) c.in-Some-level.is in
    omega (arith, c.requires.few, ap (λ ls. length (live_items contents ls)) full, length-append live (live_items contents above), c.live.ensures)

pub make_rooms-requires : goal.make_rooms-requires
make_rooms-requires g t c κs within =
    let contents = g.B.Part.Part.contents in
    let live = live_of (contents c.in-Some-level.part) in
    let above = c.in-Some.above.now in
    let full = c.in-Some.ensures.cases.0 ∙ ap (λ l. l ∷ above) c.in-Some-level.is in
    let some : 1 ≤ c.args.carried + c.live.result = omega (arith, c.requires.some) in
    let light : c.args.carried + c.live.result + length (live_items contents above) < 2 ^ 63 =
    omega (arith, c.requires.few, ap (λ ls. length (live_items contents ls)) full, length-append live (live_items contents above), c.live.ensures) in
    let small = All-tail (λ l. length (items_in contents l) ≤ 2 ^ 30) (Some c.in-Some-level.part) above
    (subst (HaveAtMost contents (2 ^ 30)) full c.requires.small) in
    (omega (arith, c.decreases, c.in-Some.ensures.cases.1), (within.0, (within.1.0, (within.1.1, (some, (light, small))))))

pub returns-clause-made : goal.returns-clause-made
returns-clause-made g t c =
    let contents = g.B.Part.Part.contents in
    let carried = c.args.carried in
    let above = c.in-Some.above.now in
    let old = c.in_ok-rooms.rooms.items in
    let room = c.in_ok-room.room in
    let full = c.in-Some.ensures.cases.0 ∙ ap (λ l. l ∷ above) c.in-Some-level.is in
    let more = ap (λ n. carried + n) c.live.ensures in
    subst (HaveRooms contents carried c.args.levels.now) (sym c.in_ok-push_front.ensures.items)
    (subst (λ ls. HaveRooms contents carried ls (room ∷ old)) (sym full)
    (c.in_ok-room.ensures.fits, subst (λ n. HaveRooms contents n above old) more c.in_ok-rooms.ensures.made))

pub returns-clause-within : goal.returns-clause-within
returns-clause-within g t c i levels low =
    let contents = g.B.Part.Part.contents in
    let part = c.in-Some-level.part in
    let above = c.in-Some.above.now in
    let full = c.in-Some.ensures.cases.0 ∙ ap (λ l. l ∷ above) c.in-Some-level.is in
    let each = subst (AreLevels contents i) full levels in
    let higher : c.args.carried + c.live.result ≤ 2 ^ (i + 1) = omega (arith, low, each.0, few_live contents part, c.live.ensures, doubled i) in
    subst (AreWithin i) (sym c.in_ok-push_front.ensures.items)
    (c.in_ok-room.ensures.within i each.0 low, c.in_ok-rooms.ensures.within (i + 1) each.1 higher)
