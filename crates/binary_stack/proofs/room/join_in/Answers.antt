use Rattle.std.proofs.Common.{◌≡◌, ℕ, ◌+◌, ◌-◌, ◌*◌, ◌^◌, ◌≤◌, ◌∙◌, List, ◌∷◌, length, sym, subst}
use Rattle.binary_stack.specs.Charge.{charge_at}
use Rattle.binary_stack.proofs.Charges.{paid_more}
use Rattle.binary_stack.proofs.room.join_in.Goals as goal

-- the first of a list, and the others
same_first : (x y : ℕ) (xs ys : List ℕ) → x ∷ xs ≡ y ∷ ys → (x ≡ y) × (xs ≡ ys)
same_first x y xs ys same = (cc, cc)

pub join-part-requires-clause-fits : goal.join-part-requires-clause-fits
join-part-requires-clause-fits g c =
    let r = c.requires.room in
    let same = same_first r.0 c.in-Some.room r.1 c.pop_front.new.self.items (sym r.2 ∙ c.in-Some.ensures.items) in
    subst (λ n. length (g.B.Part.Part.contents c.args.a.now).items ≤ 2 ^ (n - 1)) same.0 r.3

pub join-part-requires-clause-other_fits : goal.join-part-requires-clause-other_fits
join-part-requires-clause-other_fits g c =
    let r = c.requires.room in
    let same = same_first r.0 c.in-Some.room r.1 c.pop_front.new.self.items (sym r.2 ∙ c.in-Some.ensures.items) in
    subst (λ n. length (g.B.Part.Part.contents c.args.b.now).items ≤ 2 ^ (n - 1)) same.0 r.4

pub returns-clause-rooms : goal.returns-clause-rooms
returns-clause-rooms g c size rest is =
    let same = same_first size c.in-Some.room rest c.pop_front.new.self.items (sym is ∙ c.in-Some.ensures.items) in sym same.1

pub returns-clause-charged : goal.returns-clause-charged
returns-clause-charged g c size rest is =
    let slope = g.B.Builder.SLOPE in
    let base = g.B.Builder.BASE in
    let turns = c.join-part.result.1 in
    let same = same_first size c.in-Some.room rest c.pop_front.new.self.items (sym is ∙ c.in-Some.ensures.items) in
    subst (λ n. 2 * (c.args.spent.now + turns) ≤ 2 * c.args.spent.now + charge_at slope base n) (sym same.0)
    (paid_more c.args.spent.now turns (charge_at slope base c.in-Some.room) c.join-part.ensures.charged)
