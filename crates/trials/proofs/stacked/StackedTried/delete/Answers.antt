use Rattle.std.proofs.Common.{rules, ◌≡◌, ◌^◌, ◌<◌, ◌%◌, length, sym, subst, arith}
use Rattle.std.proofs.lemmas.Fn.{filter_same}
use Rattle.std.proofs.lemmas.List.Sorted.{Contains-permutation}
use Rattle.query_laws.proofs.Permutations.{IsPermutation-from_Permuted, Permuted-sym}
use Rattle.builder_trait.specs.Parts.{without}
use Rattle.log_levels.specs.Levels.{weight_of}
use Rattle.log_method.proofs.Taking.{lent_on, lent_prepared, may_tick}
use Rattle.trials.specs.Stacks.{IsStackOf}
use Rattle.trials.proofs.Stacks.{IsStackOf-same, IsStackOf-delete}
use Rattle.trials.proofs.stacked.StackedTried.delete.Goals as goal

pub delete-requires-clause-live : goal.delete-requires-clause-live
delete-requires-clause-live g c =
    let p = c.prepare.ensures.same in
    let h : IsStackOf g.B.Part.Part.contents g.B.Item.Item.stamp c.prepare.new.self.levels c.self.inside.items.items =
    IsStackOf-same p.weight p.items p.live c.self.invariant.0 in
    let items = c.self.inside.items.items in
    let k = c.args.pick % c.len.result in
    let within : k < length items = search rules in
    Contains-permutation _ _ c.index.result.now (IsPermutation-from_Permuted (Permuted-sym h.live)) (k, within, sym c.index.ensures)

pub delete-requires-clause-ready : goal.delete-requires-clause-ready
delete-requires-clause-ready g c =
    let p = c.prepare.ensures in
    let light : weight_of c.prepare.new.self.levels < 2 ^ 31 = omega (arith, c.weight.ensures.value, p.same.weight) in
    may_tick _ _ light (c.in_ok-prepare.ensures.stocked light) (lent_prepared _ _ _ _ _ p.each p.taken c.self.invariant.1)

pub invariant_of-self : goal.invariant_of-self
invariant_of-self g c =
    let p = c.prepare.ensures in
    (IsStackOf-same p.same.weight p.same.items p.same.live c.self.invariant.0, lent_prepared _ _ _ _ _ p.each p.taken c.self.invariant.1)

pub invariant_of-self-2 : goal.invariant_of-self-2
invariant_of-self-2 g c =
    let stamp = g.B.Item.Item.stamp in
    let p = c.prepare.ensures in
    let e = c.delete.ensures in
    let left : c.retain.new.self.items ≡ without stamp (stamp c.index.result.now) c.self.inside.items.items =
    filter_same _ _ _ (λ x b f' k. search rules) _ _ c.retain.ensures.filtered in (
      subst (IsStackOf g.B.Part.Part.contents stamp c.delete.new.self.levels) (sym left)
          (IsStackOf-delete (stamp c.index.result.now) e.deletes.weight e.deletes.items e.deletes.live
          (IsStackOf-same p.same.weight p.same.items p.same.live c.self.invariant.0)),
      lent_on _ _ _ _ e.trades.trades (lent_prepared _ _ _ _ _ p.each p.taken c.self.invariant.1),
    )
