use Rattle.std.proofs.Common.{◌-◌, ◌≤◌, ◌^◌, arith, refl}
use Rattle.query_laws.proofs.Permutations.{Permuted-length}
use Rattle.query_laws.proofs.Counting.{Spends-then, Spends-within}
use Rattle.builder_trait.proofs.SearchLemmas.{Spends-searched}
use Rattle.map_structures.specs.declared.reach.Reach.TheVariants.{Below, UpTo}
use Rattle.map_structures.proofs.Reaching.{below-from_reaches, from-from_reaches, up_to-from_reaches, above-from_reaches}
use Rattle.range_tree.proofs.TopOrder.{no_entry, entry_each, rises, y_is, PassesUpTo-ys}
use Rattle.range_tree.proofs.SpanLemmas.{many_places, whole_image}
use Rattle.range_tree.proofs.rows.RangeTree.span_in.Goals as goal

pub partition_point-from-requires-clause-up_to_some : goal.partition_point-from-requires-clause-up_to_some
partition_point-from-requires-clause-up_to_some g c =
    let top = c.args.self.now.top.items in
    PassesUpTo-ys top (rises c.args.points.now top c.requires.valid (c.requires.over.top c.requires.some)) (Below c.args.rect.now.y1) 0 c.len.result
    (omega (arith, c.len.ensures.value))

pub partition_point-to-requires-clause-up_to_some : goal.partition_point-to-requires-clause-up_to_some
partition_point-to-requires-clause-up_to_some g c =
    let top = c.args.self.now.top.items in
    PassesUpTo-ys top (rises c.args.points.now top c.requires.valid (c.requires.over.top c.requires.some)) (UpTo c.args.rect.now.y2) c.partition_point-from.result
    c.len-2.result (omega (arith, c.len-2.ensures.value))

pub returns-clause-span : goal.returns-clause-span
returns-clause-span g c =
    let part = c.args.points.now in
    let rows = c.args.self.now in
    let each = c.requires.valid.each_place in
    let many = entry_each part rows.top.items c.requires.valid (c.requires.over.top c.requires.some) in
    let places = many_places part each in
    record {
      ordered = c.partition_point-to.ensures.from_low;
      within = omega (arith, many, places, c.partition_point-to.ensures.to_high, c.len-2.ensures.value);
      row = c.requires.some;
      block = record { times = 0; is = omega arith };
      from = whole_image part rows each c.requires.over c.partition_point-from.result
          (omega (arith, many, places, c.partition_point-from.ensures.to_high, c.len.ensures.value));
      to = whole_image part rows each c.requires.over c.partition_point-to.result
          (omega (arith, many, places, c.partition_point-to.ensures.to_high, c.len-2.ensures.value));
    }

pub returns-clause-ys : goal.returns-clause-ys
returns-clause-ys g c =
    let part = c.args.points.now in
    let top = c.args.self.now.top.items in
    let valid = c.requires.valid in
    let is = c.requires.over.top c.requires.some in
    let many = entry_each part top valid is in
    record {
      ordered = c.partition_point-to.ensures.from_low;
      within = omega (arith, many, Permuted-length valid.same_items, c.partition_point-to.ensures.to_high, c.len-2.ensures.value);
      before = λ k p below at.
          let known = y_is part top valid is k p at in
          let found = below-from_reaches _ _ (c.partition_point-from.ensures.before k no_entry (omega arith) below) in
          omega (arith, known.1, found);
      inside = λ k p above below at.
          let known = y_is part top valid is k p at in
          let first = from-from_reaches _ _ (c.partition_point-from.ensures.after k no_entry above (omega (arith, known.0, c.len.ensures.value))) in
          let second = up_to-from_reaches _ _ (c.partition_point-to.ensures.before k no_entry above below) in
          (omega (arith, known.1, first), omega (arith, known.1, second));
      behind = λ k p above at.
          let known = y_is part top valid is k p at in
          let found = above-from_reaches _ _ (c.partition_point-to.ensures.after k no_entry above (omega (arith, known.0, c.len-2.ensures.value))) in
          omega (arith, known.1, found);
    }

pub returns-clause-cost : goal.returns-clause-cost
returns-clause-cost g c h few =
    let many = entry_each c.args.points.now c.args.self.now.top.items c.requires.valid (c.requires.over.top c.requires.some) in
    let first : c.len.result - 0 ≤ 2 ^ h = omega (arith, many, c.len.ensures.value) in
    let second : c.len-2.result - c.partition_point-from.result ≤ 2 ^ h = omega (arith, many, c.len-2.ensures.value) in
    Spends-within
    (Spends-then (Spends-searched h (c.len.result - 0) first c.partition_point-from.ensures.cost)
    (Spends-searched h (c.len-2.result - c.partition_point-from.result) second c.partition_point-to.ensures.cost))
    refl refl (omega arith)
