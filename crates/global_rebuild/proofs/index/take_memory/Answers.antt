use Rattle.std.proofs.Common.{◌≡◌, Some}
use Rattle.log_method.specs.Few.{HaveFew}
use Rattle.log_method.proofs.Forecasting.{when_ok}
use Rattle.chain_walk.specs.Walk.{Walked as Shadow}
use Rattle.global_rebuild.proofs.Stocking.{stocked_both}
use Rattle.global_rebuild.proofs.Taking.{IsKeptToo, same_too, takes-levels, takes-wanted}
use Rattle.global_rebuild.proofs.index.take_memory.Given.{Over}
use Rattle.global_rebuild.proofs.index.take_memory.Goals.{After-add_levels-2}
use Rattle.global_rebuild.proofs.index.take_memory.Goals as goal

pub returns-in_err-add_levels-clause-memory : goal.returns-in_err-add_levels-clause-memory
returns-in_err-add_levels-clause-memory g c =
    takes-levels c.in_err-add_levels.ensures.each (same_too c.args.shadow.now) c.args.store.now

-- the shadow has its levels
too : (g : Over) (c : After-add_levels-2 g) → IsKeptToo c.args.shadow.now c.add_levels-2.new.shadow
too g c =
    let e = c.add_levels-2.ensures in
    (e.none, (λ r there. let k = e.some r there in (k.0, k.1, k.3)))

few_too : (g : Over) (c : After-add_levels-2 g) (r : Shadow g.row.B-Part.Denot g.row.B-Item.Denot) → c.add_levels-2.new.shadow ≡ Some r
    → HaveFew r.stack.levels
few_too g c r there = c.add_levels-2.ensures.few r there

pub returns-in_err-add_levels-2-clause-memory : goal.returns-in_err-add_levels-2-clause-memory
returns-in_err-add_levels-2-clause-memory g c =
    takes-levels c.in_ok-add_levels.ensures.each (too g (goal.at.returns-in_err-add_levels-2-clause-memory g c).After-add_levels-2) c.args.store.now

pub returns-clause-memory : goal.returns-clause-memory
returns-clause-memory g c =
    let at = (goal.at.returns-clause-memory g c).After-add_levels-2 in
    takes-wanted c.in_ok-add_levels.ensures.each (too g at) c.args.store.now c.stock.new.store c.in_ok-add_levels.ensures.has_few (few_too g at)
    c.stock.ensures.taken

pub returns-clause-stocked : goal.returns-clause-stocked
returns-clause-stocked g c =
    when_ok c.stock.result (λ rooms light light_too. stocked_both c.add_levels.new.self c.add_levels-2.new.shadow c.stock.new.store rooms
    (c.in_ok-add_levels.ensures.enough light) (λ r there. c.in_ok-add_levels-2.ensures.enough r there (light_too r there))) c.stock.ensures.stocked
