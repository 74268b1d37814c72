use Rattle.std.proofs.Common.{◌≡◌, ℕ, ◌-◌, Some, slice_get, slice_index, sym, arith, subst}
use Rattle.std.proofs.lemmas.Option.{slice_get_within}
use Rattle.query_laws.specs.OrderLaws.{IsStrictTotalOrder-before_in}
use Rattle.query_laws.specs.declared.item.Order.TheVariants.{First, Second}
use Rattle.query_laws.proofs.Permutations.{Permuted-sym}
use Rattle.builder_trait.specs.Parts.{Contents, IsPart}
use Rattle.builder_trait.proofs.FlatLemmas.{item_at_place}
use Rattle.builder_trait.proofs.RebuildingLemmas.{length-reordered, length-places, placed-at}
use Rattle.builder_trait.proofs.SearchLemmas.{PassesUpTo-rising}
use Rattle.map_shapes.specs.declared.segment.Segment.{Segment}
use Rattle.interval_tree.specs.Rows.{before, IsIndexOf}
use Rattle.interval_tree.proofs.Searching.{found_in, found_at, same_place, Spends-searched_twice}
use Rattle.interval_tree.proofs.search.index_of.Goals as goal

-- an index of the second order at which the segment of a place stands has that place, and is the only one
indexed : (part : Contents Segment) → IsPart before part → (segment : Segment) (place index : ℕ) → slice_get part.items place ≡ Some segment
    → slice_get part.reordered index ≡ Some segment → IsIndexOf part.places place index
indexed part valid segment place index there at = record {
  within = omega (arith, slice_get_within part.reordered index segment at, length-reordered valid, length-places valid);
  at_index =
      same_place (IsStrictTotalOrder-before_in (λ (s : Segment). s.lo) (λ s. s.hi) (λ s. s.stamp) First) part.items valid.rising
      (slice_index part.places index) place segment (placed-at valid index segment at) there;
  alone = λ k within is.
      let here : slice_get part.reordered k ≡ Some segment =
      item_at_place valid k segment (omega (arith, within, length-places valid)) (subst (λ p. slice_get part.items p ≡ Some segment) (sym is) there) in
      same_place (IsStrictTotalOrder-before_in (λ (s : Segment). s.lo) (λ s. s.hi) (λ s. s.stamp) Second) part.reordered valid.rising_reordered
      k index segment here at;
}

pub partition_reordered-requires-clause-up_to_some : goal.partition_reordered-requires-clause-up_to_some
partition_reordered-requires-clause-up_to_some g c =
    PassesUpTo-rising (IsStrictTotalOrder-before_in (λ (s : Segment). s.lo) (λ s. s.hi) (λ s. s.stamp) Second) c.args.segments.now.reordered c.args.segment.now
    c.len.ensures.valid.rising_reordered 0 c.len.result (omega (arith, length-reordered c.len.ensures.valid))

pub returns-clause-index : goal.returns-clause-index
returns-clause-index g c place there =
    let part : Contents Segment = c.args.segments.now in
    let valid = c.len.ensures.valid in
    let found = found_in (Permuted-sym valid.same_items) place c.args.segment.now there in
    let same : c.partition_reordered.result ≡ found.0 =
    found_at (IsStrictTotalOrder-before_in (λ (s : Segment). s.lo) (λ s. s.hi) (λ s. s.stamp) Second) part.reordered c.args.segment.now valid.rising_reordered
    c.partition_reordered.result c.partition_reordered.ensures.before
    (λ j d from inside. c.partition_reordered.ensures.after j d from (omega (arith, inside, length-reordered valid))) found.0 found.1 in
    subst (IsIndexOf part.places place) (sym same) (indexed part valid c.args.segment.now place found.0 there found.1)

pub returns-clause-cost : goal.returns-clause-cost
returns-clause-cost g c h few = Spends-searched_twice h (c.len.result - 0) (omega arith) c.partition_reordered.ensures.cost
