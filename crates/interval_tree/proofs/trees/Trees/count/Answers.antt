use Rattle.std.proofs.Common.{◌≡◌, ◌≤◌, ◌^◌, length, take, ap, ◌∙◌, arith, List}
use Rattle.std.specs.List.{count_by, filter}
use Rattle.query_laws.proofs.Counting.{Spends-then, Spends-within}
use Rattle.weak_delete.specs.declared.place.Place.{Place}
use Rattle.weak_delete.specs.Places.{is_live}
use Rattle.row_blocks.specs.Heights.{height_of, IsLeastHeight-height_of}
use Rattle.builder_trait.specs.Parts.{live_of}
use Rattle.builder_trait.proofs.RebuildingLemmas.{length-reordered, length-places}
use Rattle.interval_tree.specs.Queries.{has_begun, has_ended}
use Rattle.interval_tree.proofs.Counting.{count-begun, count-ended, count-over, length-lives_of, length-lives_reordered}
use Rattle.interval_tree.proofs.trees.Trees.count.Goals as goal

pub prefix-ended-requires-clause-within : goal.prefix-ended-requires-clause-within
prefix-ended-requires-clause-within g c =
    let valid = c.requires.valid in
    omega (
      arith,
      c.ended-upper.ensures.cut.within,
      ap length c.requires.over.by_upper,
      length-lives_reordered c.args.segments.now (length-places valid),
      length-reordered valid,
    )

pub overflow_sub-result : goal.overflow_sub-result
overflow_sub-result g c =
    let x = c.args.x in
    let part = c.args.segments.now in
    let begun : c.prefix-begun.result ≡ length (filter (has_begun x) (live_of part)) =
    c.prefix-begun.ensures.count ∙ ap (λ (ps : List Place). count_by is_live (take c.begun-lower.result ps)) c.requires.over.by_lower
    ∙ count-begun x part c.requires.valid c.begun-lower.result c.begun-lower.ensures.cut in
    let ended : c.prefix-ended.result ≡ length (filter (has_ended x) (live_of part)) =
    c.prefix-ended.ensures.count ∙ ap (λ (ps : List Place). count_by is_live (take c.ended-upper.result ps)) c.requires.over.by_upper
    ∙ count-ended x part c.requires.valid c.ended-upper.result c.ended-upper.ensures.cut in
    omega (arith, begun, ended, count-over x (live_of part))

pub returns-clause-value : goal.returns-clause-value
returns-clause-value g c =
    let x = c.args.x in
    let part = c.args.segments.now in
    let begun : c.prefix-begun.result ≡ length (filter (has_begun x) (live_of part)) =
    c.prefix-begun.ensures.count ∙ ap (λ (ps : List Place). count_by is_live (take c.begun-lower.result ps)) c.requires.over.by_lower
    ∙ count-begun x part c.requires.valid c.begun-lower.result c.begun-lower.ensures.cut in
    let ended : c.prefix-ended.result ≡ length (filter (has_ended x) (live_of part)) =
    c.prefix-ended.ensures.count ∙ ap (λ (ps : List Place). count_by is_live (take c.ended-upper.result ps)) c.requires.over.by_upper
    ∙ count-ended x part c.requires.valid c.ended-upper.result c.ended-upper.ensures.cut in
    omega (arith, begun, ended, count-over x (live_of part))

pub returns-clause-cost : goal.returns-clause-cost
returns-clause-cost g c =
    let part = c.args.segments.now in
    let over = c.requires.over in
    let h = height_of (length part.items) in
    let few : length part.items ≤ 2 ^ h = (IsLeastHeight-height_of (length part.items) (omega (arith, over.few))).above in
    let lower : length c.args.self.now.by_lower.places ≤ 2 ^ h = omega (arith, ap length over.by_lower, length-lives_of part over.flagged) in
    let upper : length c.args.self.now.by_upper.places ≤ 2 ^ h =
    omega (arith, ap length over.by_upper, length-lives_reordered part (length-places c.requires.valid)) in
    Spends-within
    (Spends-then (Spends-then (Spends-then (c.begun-lower.ensures.cost h few) (c.prefix-begun.ensures.cost h lower)) (c.ended-upper.ensures.cost h few))
    (c.prefix-ended.ensures.cost h upper))
    (omega arith) (omega arith) (omega arith)

pub returns-clause-read : goal.returns-clause-read
returns-clause-read g c some =
    let part = c.args.segments.now in
    let over = c.requires.over in
    let h = height_of (length part.items) in
    let few : length part.items ≤ 2 ^ h = (IsLeastHeight-height_of (length part.items) (omega (arith, over.few))).above in
    let lower : length c.args.self.now.by_lower.places ≤ 2 ^ h = omega (arith, ap length over.by_lower, length-lives_of part over.flagged) in
    let upper : length c.args.self.now.by_upper.places ≤ 2 ^ h =
    omega (arith, ap length over.by_upper, length-lives_reordered part (length-places c.requires.valid)) in
    let one = c.prefix-begun.ensures.cost h lower in
    let two = c.ended-upper.ensures.cost h few in
    let three = c.prefix-ended.ensures.cost h upper in
    omega (arith, c.begun-lower.ensures.read some, one.touches_kept, two.touches_kept, three.touches_kept)
