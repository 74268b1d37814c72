use Rattle.std.proofs.Common.{◌<◌, ◌≤◌, arith, ◌∙◌, subst}
use Rattle.std.specs.Prelude.{insert}
use Rattle.map_shapes.specs.Founds.{founds_in}
use Rattle.map_shapes.proofs.FoundLists.{list-length, founds-insert}
use Rattle.map_shapes.proofs.found_list.FoundList.insert.Goals as goal

pub insert-requires : goal.insert-requires
insert-requires c =
    let long = list-length c.self.inside.shorts.items c.self.inside.far.items c.args.self.now c.self.invariant c.self.view_is in
    (omega arith, (subst (λ n. c.args.k ≤ n) long c.requires.within, subst (λ n. n < 64) long c.requires.room))

pub insert-requires-2 : goal.insert-requires-2
insert-requires-2 c =
    let long = list-length c.self.inside.shorts.items c.self.inside.far.items c.args.self.now c.self.invariant c.self.view_is in
    (omega arith, (subst (λ n. c.args.k ≤ n) (long ∙ c.self.invariant) c.requires.within, subst (λ n. n < 64) (long ∙ c.self.invariant) c.requires.room))

pub returns : goal.returns
returns c =
    let shorts = c.self.inside.shorts.items in
    let bits = c.self.inside.far.items in
    let long = list-length shorts bits c.args.self.now c.self.invariant c.self.view_is in
    (λ i. founds_in (c.insert.ensures.items i) (c.insert-2.ensures.items i))
    ∙ founds-insert c.args.k shorts bits c.parts-far.result.0 c.parts-far.result.1 c.self.invariant (subst (λ n. c.args.k ≤ n) long c.requires.within)
    ∙ (λ i. insert (c.self.view_is i) c.args.k (c.parts-far.ensures i))
