use Rattle.std.proofs.Common.{◌<◌, [], ◌∷◌, ◌++◌, arith, ◌∙◌, subst}
use Rattle.map_shapes.specs.Founds.{founds_in}
use Rattle.map_shapes.proofs.FoundLists.{list-length, founds-append}
use Rattle.map_shapes.proofs.found_list.FoundList.push.Goals as goal

pub push-requires : goal.push-requires
push-requires c =
    let long = list-length c.self.inside.shorts.items c.self.inside.far.items c.args.self.now c.self.invariant c.self.view_is in
    (omega arith, subst (λ n. n < 64) long c.requires)

pub push-requires-2 : goal.push-requires-2
push-requires-2 c =
    let long = list-length c.self.inside.shorts.items c.self.inside.far.items c.args.self.now c.self.invariant c.self.view_is in
    (omega arith, subst (λ n. n < 64) (long ∙ c.self.invariant) c.requires)

pub returns : goal.returns
returns c =
    let shorts = c.self.inside.shorts.items in
    let bits = c.self.inside.far.items in
    (λ i. founds_in (c.push.ensures.items i) (c.push-2.ensures.items i))
    ∙ founds-append shorts (c.parts-far.result.0 ∷ []) bits (c.parts-far.result.1 ∷ []) c.self.invariant
    ∙ (λ i. c.self.view_is i ++ c.parts-far.ensures i ∷ [])
