use Rattle.std.proofs.Common.{◌+◌, ◌*◌, ◌^◌, ◌<◌, ◌≤◌, ◌∙◌, Some, None, ◌∷◌, ◌++◌, length, refl, ap, sym, subst, arith}
use Rattle.std.proofs.lemmas.List.{length-append}
use Rattle.query_laws.specs.Orders.{AllStampsDiffer}
use Rattle.query_laws.proofs.Counting.{Spends-nothing, Spends-within}
use Rattle.builder_trait.specs.Parts.{live_of}
use Rattle.binary_stack.specs.Charge.{charge_at, charge_of}
use Rattle.binary_stack.specs.Levels.{live_items, all_items, AreLevels, IsCarried, raised}
use Rattle.binary_stack.specs.Rooms.{AreWithin, HaveRooms}
use Rattle.binary_stack.proofs.Carried.{IsCarried-past, IsCarried-here, IsCarried-joined, length-joined, apart-joined, apart-sources}
use Rattle.binary_stack.proofs.Charges.{charge-past, charge-here, charge-joined}
use Rattle.binary_stack.proofs.Distinct.{none_of}
use Rattle.binary_stack.proofs.Levels.{doubled, few_live}
use Rattle.binary_stack.proofs.Rooms.{first_room}
use Rattle.binary_stack.proofs.Spending.{Spends-risen}
use Rattle.binary_stack.proofs.carrying.+carry.Goals as goal

-- no level is left
pub returns-in_default-clause-carried : goal.returns-in_default-clause-carried
returns-in_default-clause-carried g t c =
    let contents = g.B.Part.Part.contents in
    let none = none_of c.args.levels.now (omega (arith, c.in_default.ensures.cases)) in
    subst (λ ls. IsCarried contents (contents c.args.part).items ls (Some c.args.part) ls) (sym none) (IsCarried-past contents c.args.part c.requires.fresh)

pub returns-in_default-clause-charged : goal.returns-in_default-clause-charged
returns-in_default-clause-charged g t c i levels few within =
    let slope = g.B.Builder.SLOPE in
    let base = g.B.Builder.BASE in
    let none = none_of c.args.levels.now (omega (arith, c.in_default.ensures.cases)) in
    subst (λ ls. 2 * c.args.spent.now + charge_at slope base i + charge_of slope base i ls ≤ 2 * c.args.spent.now + charge_of slope base i (raised (Some c.args.part) ls))
    (sym none) (charge-past slope base i c.args.spent.now c.args.part)

pub returns-in_default-clause-cost : goal.returns-in_default-clause-cost
returns-in_default-clause-cost g t c = Spends-within (Spends-nothing c.args.steps.now) (omega arith) refl (omega arith)

-- the level has no part
pub returns-in_default-take-clause-carried : goal.returns-in_default-take-clause-carried
returns-in_default-take-clause-carried g t c =
    let contents = g.B.Part.Part.contents in
    let part = c.args.part in
    let above = c.in-Some.above.now in
    let empty = c.in-Some.ensures.cases.0 ∙ ap (λ l. l ∷ above) (sym c.in_default-take.ensures.value) in
    subst (λ ls. IsCarried contents (contents part).items ls None (Some part ∷ above)) (sym empty) (IsCarried-here contents part c.requires.fresh above)

pub returns-in_default-take-clause-charged : goal.returns-in_default-take-clause-charged
returns-in_default-take-clause-charged g t c i levels few within =
    let slope = g.B.Builder.SLOPE in
    let base = g.B.Builder.BASE in
    let part = c.args.part in
    let above = c.in-Some.above.now in
    let spent = c.args.spent.now in
    let empty = c.in-Some.ensures.cases.0 ∙ ap (λ l. l ∷ above) (sym c.in_default-take.ensures.value) in
    subst (λ ls. 2 * spent + charge_at slope base i + charge_of slope base i ls ≤ 2 * spent + charge_of slope base i (Some part ∷ above)) (sym empty)
    (charge-here slope base i spent part above)

pub returns-in_default-take-clause-cost : goal.returns-in_default-take-clause-cost
returns-in_default-take-clause-cost g t c = Spends-within (Spends-nothing c.args.steps.now) (omega arith) refl (omega arith)

-- the level has one, and its room is the first
pub join_in-joined-requires-clause-room : goal.join_in-joined-requires-clause-room
join_in-joined-requires-clause-room g t c =
    let contents = g.B.Part.Part.contents in
    let n = length (contents c.args.part).items in
    let other = c.in-Some-take.other in
    let above = c.in-Some.above.now in
    let full = c.in-Some.ensures.cases.0 ∙ ap (λ l. l ∷ above) (sym c.in-Some-take.ensures.value) in
    let f = first_room contents n other above c.args.rooms.now.items (subst (λ ls. HaveRooms contents n ls c.args.rooms.now.items) full c.requires.rooms) in
    (f.0, f.1, f.2, omega (arith, f.3.carried_fits, c.requires.few), f.3.fits)

pub join_in-joined-requires-clause-differ : goal.join_in-joined-requires-clause-differ
join_in-joined-requires-clause-differ g t c =
    let contents = g.B.Part.Part.contents in
    let stamp = g.B.Item.Item.stamp in
    let xs = (contents c.args.part).items in
    let above = c.in-Some.above.now in
    let full = c.in-Some.ensures.cases.0 ∙ ap (λ l. l ∷ above) (sym c.in-Some-take.ensures.value) in
    apart-sources contents stamp c.args.part c.in-Some-take.other above
    (subst (λ ls. AllStampsDiffer stamp (xs ++ all_items contents ls)) full c.requires.apart)

pub join_in-joined-requires-clause-few : goal.join_in-joined-requires-clause-few
join_in-joined-requires-clause-few g t c =
    let full = c.in-Some.ensures.cases.0 ∙ ap (λ l. l ∷ c.in-Some.above.now) (sym c.in-Some-take.ensures.value) in
    omega (arith, c.requires.small, ap length full)

pub carry-requires : goal.carry-requires
carry-requires g t c κs lives =
    let contents = g.B.Part.Part.contents in
    let stamp = g.B.Item.Item.stamp in
    let part = c.args.part in
    let n = length (contents part).items in
    let other = c.in-Some-take.other in
    let joined = c.join_in-joined.result in
    let above = c.in-Some.above.now in
    let j = c.join_in-joined.ensures in
    let full = c.in-Some.ensures.cases.0 ∙ ap (λ l. l ∷ above) (sym c.in-Some-take.ensures.value) in
    let f = first_room contents n other above c.args.rooms.now.items (subst (λ ls. HaveRooms contents n ls c.args.rooms.now.items) full c.requires.rooms) in
    let apart = subst (λ ls. AllStampsDiffer stamp ((contents part).items ++ all_items contents ls)) full c.requires.apart in
    let more = length-joined contents part other joined above j.items c.requires.fresh in
    let differ = apart-joined contents part other joined above j.items c.requires.fresh stamp apart in
    let few : length (contents joined).items + length (live_items contents above) ≤ 2 ^ 30 =
    omega (arith, c.requires.few, more, ap (λ ls. length (live_items contents ls)) full, length-append (live_of (contents other)) (live_items contents above)) in
    let rooms = subst (HaveRooms contents (length (contents joined).items) above) (sym (j.rooms f.0 f.1 f.2))
    (subst (λ k. HaveRooms contents k above f.1) (sym more) f.4) in
    let small : c.join_in-joined.new.spent + 2 ^ 50 * length above < 2 ^ 64 = omega (arith, c.requires.small, j.few, ap length full) in
    (omega (arith, c.decreases, c.in-Some.ensures.cases.1), (lives.0, (lives.1.0, (lives.1.1.0, (lives.1.1.1, (j.live, (differ, (few, (rooms, small)))))))))

pub returns-clause-carried : goal.returns-clause-carried
returns-clause-carried g t c =
    let contents = g.B.Part.Part.contents in
    let part = c.args.part in
    let xs = (contents part).items in
    let other = c.in-Some-take.other in
    let above = c.in-Some.above.now in
    let new = c.carry.new.levels in
    let full = c.in-Some.ensures.cases.0 ∙ ap (λ l. l ∷ above) (sym c.in-Some-take.ensures.value) in
    subst (λ l. IsCarried contents xs c.args.levels.now c.carry.result (l ∷ new)) (sym c.take.ensures.after)
    (subst (λ ls. IsCarried contents xs ls c.carry.result (None ∷ new)) (sym full)
    (IsCarried-joined contents part other c.join_in-joined.result above c.join_in-joined.ensures.items c.requires.fresh c.carry.result new
    c.carry.ensures.carried))

pub returns-clause-charged : goal.returns-clause-charged
returns-clause-charged g t c i levels few within =
    let contents = g.B.Part.Part.contents in
    let slope = g.B.Builder.SLOPE in
    let base = g.B.Builder.BASE in
    let part = c.args.part in
    let n = length (contents part).items in
    let other = c.in-Some-take.other in
    let joined = c.join_in-joined.result in
    let above = c.in-Some.above.now in
    let new = c.carry.new.levels in
    let top = c.carry.result in
    let spent = c.args.spent.now in
    let final = c.carry.new.spent in
    let j = c.join_in-joined.ensures in
    let h = c.carry.ensures in
    let full = c.in-Some.ensures.cases.0 ∙ ap (λ l. l ∷ above) (sym c.in-Some-take.ensures.value) in
    let f = first_room contents n other above c.args.rooms.now.items (subst (λ ls. HaveRooms contents n ls c.args.rooms.now.items) full c.requires.rooms) in
    let each = subst (AreLevels contents i) full levels in
    let rooms = subst (AreWithin i) f.2 within in
    let more = length-joined contents part other joined above j.items c.requires.fresh in
    let fits : length (contents joined).items ≤ 2 ^ (i + 1) = omega (arith, more, few, each.0, few_live contents other, doubled i) in
    let rest = h.charged (i + 1) each.1 fits (subst (AreWithin (i + 1)) (sym (j.rooms f.0 f.1 f.2)) rooms.1) in
    subst (λ l. 2 * final + charge_at slope base i + charge_of slope base i c.args.levels.now ≤ 2 * spent + charge_of slope base i (raised top (l ∷ new)))
    (sym c.take.ensures.after)
    (subst (λ ls. 2 * final + charge_at slope base i + charge_of slope base i ls ≤ 2 * spent + charge_of slope base i (raised top (None ∷ new))) (sym full)
    (charge-joined slope base i f.0 spent c.join_in-joined.new.spent final other above new top (j.charged f.0 f.1 f.2) rooms.0 rest h.carried.taken_in.weight))

pub returns-clause-risen : goal.returns-clause-risen
returns-clause-risen g t c = omega (arith, c.join_in-joined.ensures.risen, c.carry.ensures.risen)

pub returns-clause-cost : goal.returns-clause-cost
returns-clause-cost g t c =
    Spends-risen c.args.spent.now c.join_in-joined.new.spent c.carry.new.spent c.join_in-joined.ensures.risen c.carry.ensures.risen
    c.join_in-joined.ensures.cost c.carry.ensures.cost
