use Rattle.std.proofs.Common.{◌+◌, min, length, ap, ◌∙◌, refl, arith, ℕ}
use Rattle.query_laws.specs.StepLedger.{Entries}
use Rattle.query_laws.proofs.Counting.{Spends-then, Spends-within}
use Rattle.rank_rows.specs.Ranked.{Ranked}
use Rattle.rank_rows.proofs.Marks.{word_in, ready_in, kept_in, view_in}
use Rattle.rank_rows.proofs.ranks.RankRows.mark.Goals as goal

pub add_dead-requires-clause-block : goal.add_dead-requires-clause-block
add_dead-requires-clause-block g c =
    let at = word_in c.self.inside c.args.self.now c.self.view_is c.self.invariant c.args.row c.args.k c.base-base.result c.block_start.result c.min-end.result c.args.weight c.requires.place
    c.base-base.ensures c.block_start.ensures (c.min-end.ensures ∙ ap (min (c.base-base.result + c.self.inside.stride)) c.len.ensures.value) c.requires.live c.requires.weight in
    omega (arith, at.place.first_is, at.place.below)

pub add_dead-requires-clause-before_end : goal.add_dead-requires-clause-before_end
add_dead-requires-clause-before_end g c =
    let at = word_in c.self.inside c.args.self.now c.self.view_is c.self.invariant c.args.row c.args.k c.base-base.result c.block_start.result c.min-end.result c.args.weight c.requires.place
    c.base-base.ensures c.block_start.ensures (c.min-end.ensures ∙ ap (min (c.base-base.result + c.self.inside.stride)) c.len.ensures.value) c.requires.live c.requires.weight in
    omega (arith, at.place.end_is, at.place.within, at.place.there)

pub add_dead-requires-clause-ready : goal.add_dead-requires-clause-ready
add_dead-requires-clause-ready g c =
    ready_in c.self.inside c.args.self.now c.self.view_is c.self.invariant c.args.row c.args.k c.base-base.result c.block_start.result c.min-end.result c.args.weight c.requires.place
    c.base-base.ensures c.block_start.ensures (c.min-end.ensures ∙ ap (min (c.base-base.result + c.self.inside.stride)) c.len.ensures.value) c.requires.live c.requires.weight

pub kill-requires-clause-within : goal.kill-requires-clause-within
kill-requires-clause-within g c =
    let at = word_in c.self.inside c.args.self.now c.self.view_is c.self.invariant c.args.row c.args.k c.base-base.result c.block_start.result c.min-end.result c.args.weight c.requires.place
    c.base-base.ensures c.block_start.ensures (c.min-end.ensures ∙ ap (min (c.base-base.result + c.self.inside.stride)) c.len.ensures.value) c.requires.live c.requires.weight in
    omega (arith, at.within, at.position, ap (λ (r : Entries ℕ). length r.items) c.add_dead.ensures.weights)

pub kill-requires-clause-entries : goal.kill-requires-clause-entries
kill-requires-clause-entries g c =
    let at = word_in c.self.inside c.args.self.now c.self.view_is c.self.invariant c.args.row c.args.k c.base-base.result c.block_start.result c.min-end.result c.args.weight c.requires.place
    c.base-base.ensures c.block_start.ensures (c.min-end.ensures ∙ ap (min (c.base-base.result + c.self.inside.stride)) c.len.ensures.value) c.requires.live c.requires.weight in
    omega (arith, at.at_is, at.position, at.place.there, c.add_dead.ensures.as_many)

pub invariant_of-self : goal.invariant_of-self
invariant_of-self g c =
    kept_in c.self.inside c.args.self.now c.self.view_is c.self.invariant c.args.row c.args.k c.base-base.result c.block_start.result c.min-end.result c.args.weight c.requires.place
    c.base-base.ensures c.block_start.ensures (c.min-end.ensures ∙ ap (min (c.base-base.result + c.self.inside.stride)) c.len.ensures.value) c.requires.live c.requires.weight
    c.add_dead.new.self c.kill.new.self c.add_dead.ensures.nodes c.add_dead.ensures.others c.add_dead.ensures.behind c.add_dead.ensures.kept
    c.add_dead.ensures.as_many c.add_dead.ensures.room c.add_dead.ensures.weights c.kill.ensures.killed

pub returns-clause-marked : goal.returns-clause-marked
returns-clause-marked g c =
    view_in c.self.inside c.args.self.now c.self.view_is c.self.invariant c.args.row c.args.k c.base-base.result c.block_start.result c.min-end.result c.args.weight c.requires.place
    c.base-base.ensures c.block_start.ensures (c.min-end.ensures ∙ ap (min (c.base-base.result + c.self.inside.stride)) c.len.ensures.value) c.requires.live c.requires.weight
    c.add_dead.new.self c.kill.new.self c.add_dead.ensures.nodes c.add_dead.ensures.others c.add_dead.ensures.behind c.add_dead.ensures.kept
    c.add_dead.ensures.as_many c.add_dead.ensures.room c.add_dead.ensures.weights c.kill.ensures.killed

pub returns-clause-cost : goal.returns-clause-cost
returns-clause-cost g c =
    Spends-within (Spends-then c.add_dead.ensures.cost c.kill.ensures.cost) refl refl (omega (arith, c.requires.place.high, ap (λ (v : Ranked). v.height) c.self.view_is))
