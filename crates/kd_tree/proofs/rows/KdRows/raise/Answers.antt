use Rattle.std.proofs.Common.{◌≡◌, ◌+◌, ◌-◌, ◌/◌, ◌^◌, ◌<◌, arith, sym, ap, ◌∙◌, subst, refl}
use Rattle.query_laws.proofs.Counting.{Spends-then, Spends-within}
use Rattle.kd_tree.specs.declared.rows.KdRows.{KdRows}
use Rattle.kd_tree.specs.HeightLaws.{four_below}
use Rattle.kd_tree.specs.Blocks.{AreNodes}
use Rattle.kd_tree.specs.Shrinking.{IsShrinking, rest}
use Rattle.kd_tree.proofs.rows.KdRows.raise.Goals as goal

pub set_area-requires-clause-shrinking : goal.set_area-requires-clause-shrinking
set_area-requires-clause-shrinking g c =
    let there = c.requires.shrinking in
    let depth : c.args.self.now.depth ≡ c.loop-level.self.depth = sym (ap (λ r. r.depth) c.loop-level.invariant.kept) in (
      there.0,
      subst (λ d. IsShrinking there.0 d c.loop-level.level c.loop-level.block c.loop-level.area c.loop-level.self.nodes.items) depth
          (c.loop-level.invariant.shrinking there.0 there.1),
    )

pub loop-level-preserved : goal.loop-level-preserved
loop-level-preserved g c =
    let depth : c.args.self.now.depth ≡ c.loop-level.self.depth = sym (ap (λ r. r.depth) c.loop-level.invariant.kept) in
    record {
      inside = let within : c.loop-level.level < c.args.self.now.depth = omega (arith, c.loop-level-test.true) in
          let next : c.args.self.now.depth - (c.loop-level.level + 1) ≡ c.args.self.now.depth - 1 - c.loop-level.level = omega arith in
          omega (arith, c.loop-level.invariant.inside, four_below c.args.self.now.depth c.loop-level.level within, ap (λ i. 4 ^ i) next);
      shrinking = λ death begun.
          let here : IsShrinking death c.loop-level.self.depth c.loop-level.level c.loop-level.block c.loop-level.area c.loop-level.self.nodes.items =
          subst (λ d. IsShrinking death d c.loop-level.level c.loop-level.block c.loop-level.area c.loop-level.self.nodes.items) depth
          (c.loop-level.invariant.shrinking death begun) in
          subst (λ d. IsShrinking death d (c.loop-level.level + 1) (c.loop-level.block / 4) c.in-Some.above c.set_area.new.self.nodes.items) (sym depth)
          (c.in-Some.ensures.above death here);
      kept = c.set_area.ensures.kept
          ∙ ap (λ (r : KdRows). record r { nodes = record r.nodes { items = c.set_area.new.self.nodes.items } }) c.loop-level.invariant.kept;
      spent = Spends-within (Spends-then c.loop-level.invariant.spent c.set_area.ensures.cost) refl refl (omega arith);
    }

pub returns-in_default-clause-nodes : goal.returns-in_default-clause-nodes
returns-in_default-clause-nodes g c death begun =
    let depth : c.args.self.now.depth ≡ c.loop-level.self.depth = sym (ap (λ r. r.depth) c.loop-level.invariant.kept) in
    let here : IsShrinking death c.loop-level.self.depth c.loop-level.level c.loop-level.block c.loop-level.area c.loop-level.self.nodes.items =
    subst (λ d. IsShrinking death d c.loop-level.level c.loop-level.block c.loop-level.area c.loop-level.self.nodes.items) depth
    (c.loop-level.invariant.shrinking death begun) in
    subst (λ d. AreNodes (rest death) death.order d d 0 c.set_area.new.self.nodes.items) (sym depth) (c.in_default.ensures.there death here)

pub returns-clause-nodes : goal.returns-clause-nodes
returns-clause-nodes g c death begun =
    let depth = c.args.self.now.depth in
    let ended : c.loop-level.level ≡ depth = omega arith in
    subst (λ l. AreNodes (rest death) death.order depth l 0 c.loop-level.self.nodes.items) ended (c.loop-level.invariant.shrinking death begun).below
