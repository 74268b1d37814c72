use Rattle.std.proofs.Common.{◌≡◌, ◌+◌, ◌-◌, ◌^◌, ◌<◌, ◌≤◌, ◌∙◌, [], ◌∷◌, ◌++◌, length, ap, sym, subst, arith}
use Rattle.query_laws.specs.Orders.{AllStampsDiffer}
use Rattle.query_laws.proofs.Permutations.{Permuted-length}
use Rattle.binary_stack.specs.Charge.{charge_at, charge_of}
use Rattle.binary_stack.specs.Levels.{weight_of, live_items, all_items, IsTakenIn}
use Rattle.binary_stack.specs.Rooms.{HaveRooms}
use Rattle.binary_stack.proofs.Counters.{IsCounter-inserted, spent-few}
use Rattle.binary_stack.proofs.Charges.{paid_up, paid_here}
use Rattle.binary_stack.proofs.Distinct.{AllStampsDiffer-push}
use Rattle.binary_stack.proofs.Spending.{Spends-as_turns, Spends-risen}
use Rattle.binary_stack.proofs.stack.BinaryStack.insert.Goals as goal

pub part_of-part-requires-clause-some : goal.part_of-part-requires-clause-some
part_of-part-requires-clause-some g c = (c.self.invariant.4 (omega (arith, c.requires.spare, ap (λ v. v.spare) c.self.view_is))).some

pub part_of-part-requires-clause-begun : goal.part_of-part-requires-clause-begun
part_of-part-requires-clause-begun g c = (c.self.invariant.4 (omega (arith, c.requires.spare, ap (λ v. v.spare) c.self.view_is))).builder

pub part_of-part-requires-clause-few : goal.part_of-part-requires-clause-few
part_of-part-requires-clause-few g c = omega (arith, spent-few c.self.invariant.0 g.met.B.Builder.small.0 g.met.B.Builder.small.1)

pub take_in-requires-clause-place : goal.take_in-requires-clause-place
take_in-requires-clause-place g c = (c.self.invariant.4 (omega (arith, c.requires.spare, ap (λ v. v.spare) c.self.view_is))).place

pub take_in-requires-clause-fresh : goal.take_in-requires-clause-fresh
take_in-requires-clause-fresh g c = c.part_of-part.ensures.live ∙ sym c.part_of-part.ensures.items

pub take_in-requires-clause-apart : goal.take_in-requires-clause-apart
take_in-requires-clause-apart g c =
    let stamp = g.B.Item.Item.stamp in
    let all = all_items g.B.Part.Part.contents c.self.inside.levels.items in
    subst (λ xs. AllStampsDiffer stamp (xs ++ all)) (sym c.part_of-part.ensures.items)
    (AllStampsDiffer-push stamp c.args.item all (rw (← c.self.view_is) at c.requires.apart) c.self.invariant.0.apart)

pub take_in-requires-clause-few : goal.take_in-requires-clause-few
take_in-requires-clause-few g c =
    omega (arith, ap length c.part_of-part.ensures.items, c.requires.few, ap (λ v. length (live_items g.B.Part.Part.contents v.levels)) c.self.view_is)

pub take_in-requires-clause-rooms : goal.take_in-requires-clause-rooms
take_in-requires-clause-rooms g c =
    let contents = g.B.Part.Part.contents in
    subst (λ n. HaveRooms contents n c.self.inside.levels.items c.self.inside.rooms.items) (sym (ap length c.part_of-part.ensures.items))
    (c.self.invariant.4 (omega (arith, c.requires.spare, ap (λ v. v.spare) c.self.view_is))).rooms

pub take_in-requires-clause-small : goal.take_in-requires-clause-small
take_in-requires-clause-small g c =
    omega (
      arith,
      spent-few c.self.invariant.0 g.met.B.Builder.small.0 g.met.B.Builder.small.1,
      c.part_of-part.ensures.few,
      c.self.invariant.0.few,
    )

pub overflow_sub-self : goal.overflow_sub-self
overflow_sub-self g c = omega (arith, c.requires.spare, ap (λ v. v.spare) c.self.view_is)

pub overflow_add-self : goal.overflow_add-self
overflow_add-self g c = omega (arith, c.self.invariant.1, c.self.invariant.0.light)

pub overflow_add-self-2 : goal.overflow_add-self-2
overflow_add-self-2 g c = omega (arith, c.self.invariant.1, c.self.invariant.3, c.self.invariant.0.light)

pub invariant_of-self : goal.invariant_of-self
invariant_of-self g c =
    let contents = g.B.Part.Part.contents in
    let stamp = g.B.Item.Item.stamp in
    let slope = g.B.Builder.SLOPE in
    let base = g.B.Builder.BASE in
    let item = c.args.item in
    let h = c.self.invariant in
    let old = c.self.inside.levels.items in
    let new = c.take_in.new.levels.items in
    let t = c.take_in.ensures in
    let p = c.part_of-part.ensures in
    let one : 1 ≤ c.self.inside.spare = omega (arith, c.requires.spare, ap (λ v. v.spare) c.self.view_is) in
    let light : weight_of old < 2 ^ 40 = omega (arith, c.requires.light, ap (λ v. weight_of v.levels) c.self.view_is) in
    let few : length (live_items contents old) < 2 ^ 30 =
    omega (arith, c.requires.few, ap (λ v. length (live_items contents v.levels)) c.self.view_is) in
    let taken : IsTakenIn contents (item ∷ []) old new = subst (λ xs. IsTakenIn contents xs old new) p.items t.taken_in in
    let single : length (contents c.part_of-part.result).items ≡ 1 = ap length p.items in
    let charged = t.charged 0 h.0.levels (omega (arith, single)) (h.4 one).within in
    let live : length (live_items contents new) ≡ length (live_items contents old) + 1 = omega (arith, Permuted-length taken.live) in (
      IsCounter-inserted h.0 item (rw (← c.self.view_is) at c.requires.apart) taken light few t.one_more t.higher (omega (arith, h.0.spare_few))
          (paid_up c.self.inside.spent c.part_of-part.new.spent c.take_in.new.spent (charge_at slope base 0) (charge_of slope base 0 old)
          (charge_of slope base 0 new) h.0.paid p.charged charged),
      omega (arith, taken.weight, h.1),
      omega (arith, live, h.2),
      omega (arith, h.3),
      λ more. absurd (omega (arith, more, h.0.spare_few)),
    )

pub returns-clause-taken_in : goal.returns-clause-taken_in
returns-clause-taken_in g c =
    let contents = g.B.Part.Part.contents in
    let new = c.take_in.new.levels.items in
    subst (λ s. IsTakenIn contents (c.args.item ∷ []) s.levels new) c.self.view_is
    (subst (λ xs. IsTakenIn contents xs c.self.inside.levels.items new) c.part_of-part.ensures.items c.take_in.ensures.taken_in)

pub returns-clause-spare : goal.returns-clause-spare
returns-clause-spare g c = omega (arith, c.requires.spare, ap (λ v. v.spare) c.self.view_is)

pub returns-clause-paid : goal.returns-clause-paid
returns-clause-paid g c =
    let slope = g.B.Builder.SLOPE in
    let base = g.B.Builder.BASE in
    let h = c.self.invariant in
    let t = c.take_in.ensures in
    let p = c.part_of-part.ensures in
    let one : 1 ≤ c.self.inside.spare = omega (arith, c.requires.spare, ap (λ v. v.spare) c.self.view_is) in
    let charged = t.charged 0 h.0.levels (omega (arith, ap length p.items)) (h.4 one).within in
    paid_here c.self.inside.spent c.part_of-part.new.spent c.take_in.new.spent (charge_at slope base 0)
    (charge_of slope base 0 c.self.inside.levels.items) (charge_of slope base 0 c.take_in.new.levels.items) c.args.steps.now.turns
    c.part_of-part.new.steps.turns c.take_in.new.steps.turns p.charged charged p.risen t.risen p.cost.turns_spent t.cost.turns_spent
    (ap (λ v. charge_of slope base 0 v.levels) c.self.view_is)

pub returns-clause-spent : goal.returns-clause-spent
returns-clause-spent g c =
    omega (
      arith,
      ap (λ v. v.spent) c.self.view_is,
      c.part_of-part.ensures.risen,
      c.take_in.ensures.risen,
      c.part_of-part.ensures.cost.turns_spent,
      c.take_in.ensures.cost.turns_spent,
    )

pub returns-clause-cost : goal.returns-clause-cost
returns-clause-cost g c =
    Spends-as_turns (c.take_in.new.spent - c.self.inside.spent)
    (Spends-risen c.self.inside.spent c.part_of-part.new.spent c.take_in.new.spent (omega (arith, c.part_of-part.ensures.risen)) c.take_in.ensures.risen
    c.part_of-part.ensures.cost c.take_in.ensures.cost)

pub returns-clause-some_turns : goal.returns-clause-some_turns
returns-clause-some_turns g c =
    omega (
      arith,
      c.part_of-part.ensures.risen,
      c.take_in.ensures.risen,
      c.part_of-part.ensures.cost.turns_spent,
      c.take_in.ensures.cost.turns_spent,
    )
