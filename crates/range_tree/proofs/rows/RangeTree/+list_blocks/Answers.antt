use Rattle.std.proofs.Common.{◌++◌, map, refl, sym, subst, append-nil}
use Rattle.std.proofs.lemmas.Result.{on_ok_weaker}
use Rattle.query_laws.specs.Permuted.{Permuted}
use Rattle.query_laws.proofs.Counting.{Spends-then, Spends-within}
use Rattle.query_laws.proofs.Permutations.{Permuted-refl}
use Rattle.map_shapes.specs.declared.point.Point.{Point}
use Rattle.range_tree.specs.Costs.{list_touches_each}
use Rattle.range_tree.specs.Queries.{ends_inside, live_in_span}
use Rattle.range_tree.proofs.SpanMeasures.{cost_halves, cost_whole}
use Rattle.range_tree.proofs.ListingBlocks.{list_halves, length_halves, pushed_halves, cost_listed, cost_listed_whole, less_one}
use Rattle.range_tree.proofs.rows.RangeTree.+list_blocks.Goals as goal

pub returns-in-Outside-clause-listed : goal.returns-in-Outside-clause-listed
returns-in-Outside-clause-listed g t c low high is =
    subst (λ l. Permuted c.args.tally.now (c.args.tally.now ++ map (λ (p : Point). p.id) l)) (sym (c.in-Outside.ensures.cut low high is))
    (subst (λ l. Permuted c.args.tally.now l) (sym (append-nil c.args.tally.now)) (Permuted-refl c.args.tally.now))

pub returns-in-Whole-clause-listed : goal.returns-in-Whole-clause-listed
returns-in-Whole-clause-listed g t c =
    on_ok_weaker c.list_span.result
    (λ listed low high is.
    let all = c.args.tally.now ++ map (λ (p : Point). p.id) (live_in_span c.args.points.now c.args.self.now low high c.args.places c.args.span) in
    subst (λ l. Permuted l all) (sym (listed low high c.args.places is (c.in-Whole.ensures.cut low high is))) (Permuted-refl all))
    c.list_span.ensures.listed

pub returns-in-Whole-clause-cost : goal.returns-in-Whole-clause-cost
returns-in-Whole-clause-cost g t c low high is =
    let h = c.args.self.now.height in
    Spends-within (Spends-then c.cut.ensures.cost (c.list_span.ensures.cost low high c.args.places is (c.in-Whole.ensures.cut low high is))) refl refl
    (cost_listed_whole _ _ _ (cost_whole 0 h c.args.span.row (ends_inside h c.args.places c.args.span) is.row))

pub returns-in_err-list_blocks-in-Halves-clause-cost : goal.returns-in_err-list_blocks-in-Halves-clause-cost
returns-in_err-list_blocks-in-Halves-clause-cost g t c low high is =
    let part = c.args.points.now in
    let rows = c.args.self.now in
    let cut = c.in-Halves.ensures.cut low high is in
    Spends-within (Spends-then c.cut.ensures.cost (c.list_blocks.ensures.cost low high cut.1.first_span)) refl refl
    (less_one _ _ _
    (cost_listed _ _ _ (list_touches_each rows.height) _ _ _
    (cost_halves 0 part rows low high c.args.places c.args.span c.in-Halves.first c.in-Halves.second cut.1 cut.0 cut.2)
    (length_halves part rows low high c.args.places c.args.span c.in-Halves.first c.in-Halves.second cut.1 cut.0)))

pub returns-in_ok-list_blocks-in-Halves-clause-listed : goal.returns-in_ok-list_blocks-in-Halves-clause-listed
returns-in_ok-list_blocks-in-Halves-clause-listed g t c =
    on_ok_weaker c.list_blocks-in-Halves.result
    (λ listed low high is.
    let part = c.args.points.now in
    let rows = c.args.self.now in
    let cut = c.in-Halves.ensures.cut low high is in
    pushed_halves (λ (p : Point). p.id) c.args.tally.now c.list_blocks.new.tally c.list_blocks-in-Halves.new.tally
    (live_in_span part rows low high c.args.places c.in-Halves.first) (live_in_span part rows low high c.args.places c.in-Halves.second)
    (live_in_span part rows low high c.args.places c.args.span) (c.in_ok-list_blocks-in-Halves.ensures.listed low high cut.1.first_span) (listed low high cut.1.second_span)
    (list_halves part rows low high c.args.places c.args.span c.in-Halves.first c.in-Halves.second cut.1 cut.0))
    c.list_blocks-in-Halves.ensures.listed

pub returns-in_ok-list_blocks-in-Halves-clause-cost : goal.returns-in_ok-list_blocks-in-Halves-clause-cost
returns-in_ok-list_blocks-in-Halves-clause-cost g t c low high is =
    let part = c.args.points.now in
    let rows = c.args.self.now in
    let cut = c.in-Halves.ensures.cut low high is in
    Spends-within
    (Spends-then (Spends-then c.cut.ensures.cost (c.list_blocks.ensures.cost low high cut.1.first_span)) (c.list_blocks-in-Halves.ensures.cost low high cut.1.second_span)) refl refl
    (cost_listed _ _ _ (list_touches_each rows.height) _ _ _
    (cost_halves 0 part rows low high c.args.places c.args.span c.in-Halves.first c.in-Halves.second cut.1 cut.0 cut.2)
    (length_halves part rows low high c.args.places c.args.span c.in-Halves.first c.in-Halves.second cut.1 cut.0))
