use Rattle.std.proofs.Common.{◌-◌, ◌*◌, ◌+◌, ◌≤◌, ◌^◌, arith, refl}
use Rattle.std.proofs.lemmas.Nat.{mul-le}
use Rattle.std.proofs.lemmas.Option.{slice_get_within}
use Rattle.query_laws.proofs.Counting.{Spends-then, Spends-within}
use Rattle.builder_trait.proofs.SearchLemmas.{Spends-searched}
use Rattle.range_tree.specs.Heights.{rows_to}
use Rattle.range_tree.proofs.TopOrder.{no_entry, entry_each, rises, PassesUpTo-preceding}
use Rattle.range_tree.proofs.Dying.{IsFalling-found}
use Rattle.range_tree.proofs.rows.RangeTree.mark_rows.Goals as goal

pub overflow_cast-entry : goal.overflow_cast-entry
overflow_cast-entry g c =
    let dying = c.requires.there.1 in
    omega (arith, dying.few, slice_get_within c.requires.there.0.items c.args.place c.args.item.now dying.there)

pub partition_point-k-requires-clause-up_to_some : goal.partition_point-k-requires-clause-up_to_some
partition_point-k-requires-clause-up_to_some g c =
    let part = c.requires.there.0 in
    let dying = c.requires.there.1 in
    let top = c.args.self.now.top.items in
    PassesUpTo-preceding top (rises part top dying.valid dying.top) (record { y = c.args.item.now.y; place = c.args.place }) 0 c.len.result (omega (arith, c.len.ensures.value))

pub mark_down-requires-clause-low : goal.mark_down-requires-clause-low
mark_down-requires-clause-low g c = omega (arith, c.requires.there.1.low)

pub mark_down-requires-clause-falling : goal.mark_down-requires-clause-falling
mark_down-requires-clause-falling g c =
    let part = c.requires.there.0 in
    let dying = c.requires.there.1 in (
      part,
      c.args.place,
      c.args.self.now.source.items,
      IsFalling-found part c.args.place c.args.item.now c.args.self.now dying c.partition_point-k.result
          (λ i less. c.partition_point-k.ensures.before i no_entry (omega arith) less)
          (λ i from below. c.partition_point-k.ensures.after i no_entry from (omega (arith, below, c.len.ensures.value))),
    )

pub returns-clause-marked : goal.returns-clause-marked
returns-clause-marked g c part dying =
    c.mark_down.ensures.marked part c.args.place c.args.self.now.source.items
    (IsFalling-found part c.args.place c.args.item.now c.args.self.now dying c.partition_point-k.result
    (λ i less. c.partition_point-k.ensures.before i no_entry (omega arith) less)
    (λ i from below. c.partition_point-k.ensures.after i no_entry from (omega (arith, below, c.len.ensures.value))))

pub returns-clause-cost : goal.returns-clause-cost
returns-clause-cost g c part h dying few low =
    let long = entry_each part c.args.self.now.top.items dying.valid dying.top in
    let first : c.len.result - 0 ≤ 2 ^ h = omega (arith, long, few, c.len.ensures.value) in
    let less = mul-le (rows_to c.args.self.now.height) (2 * c.args.self.now.height + 2) (rows_to h) (2 * h + 2) (omega (arith, low)) (omega (arith, low)) in
    Spends-within (Spends-then (Spends-searched h (c.len.result - 0) first c.partition_point-k.ensures.cost) c.mark_down.ensures.cost) refl refl (omega (arith, less))
