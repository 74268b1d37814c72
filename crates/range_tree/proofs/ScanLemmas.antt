-- A scan of neighbouring places, leaf after leaf.
use Rattle.std.proofs.Common.{◌≡◌, ℕ, ◌+◌, ◌*◌, ◌/◌, ◌%◌, ◌<◌, ◌≤◌, List, [], ◌++◌, length, length-append, map, max, min, Some, slice_get, slice_index, slice_index_or, ap, ◌∙◌, sym, arith, append_assoc}
use Rattle.std.specs.Int.{bit_at}
use Rattle.std.specs.List.{filter}
use Rattle.std.proofs.lemmas.List.{map-append}
use Rattle.std.proofs.lemmas.Option.{get_or_from_slice_get}
use Rattle.builder_trait.specs.Parts.{Contents}
use Rattle.map_shapes.specs.declared.point.Point.{Point}
use Rattle.map_shapes.specs.declared.rect.Rect.{Rect}
use Rattle.map_shapes.specs.Questions.{is_in}
use Rattle.range_tree.specs.declared.leaves.Leaf.{Leaf}
use Rattle.range_tree.specs.declared.scanning.Places.{Places}
use Rattle.range_tree.specs.Queries.{AreWithinX, IsLeafOf, live_between}
use Rattle.range_tree.specs.Tree.{AreLeaves, leaf_at}
use Rattle.range_tree.proofs.Between.{live_in-split}

-- the leaf of some places
pub leaf_of : (part : Contents Point) (rect : Rect) (leaves : List Leaf) (all places : Places) (l : ℕ) (leaf : Leaf) → AreLeaves part.items part.flags leaves
    → AreWithinX part all rect → all.from ≤ places.from → places.from ≤ places.to → places.to ≤ all.to → 16 * l ≤ places.from → places.to ≤ 16 * l + 16
    → slice_get leaves l ≡ Some leaf → IsLeafOf part rect places leaf
leaf_of part rect leaves all places l leaf kept within low ordered high first last is = record {
  ordered = ordered;
  within = omega (arith, within.within, high);
  own = omega (arith, first, last, ordered);
  inside = λ k p from to. within.inside k p (omega (arith, low)) (omega (arith, high));
  ys = λ k p from to at. ap (λ (it : Leaf). slice_index it.ys (k % 16)) (sym (own k from to)) ∙ kept.ys k p at;
  live = λ k from to. ap (λ (it : Leaf). bit_at it.live (k % 16)) (sym (own k from to)) ∙ kept.live k;
}
  where
    own : (k : ℕ) → places.from ≤ k → k < places.to → leaf_at leaves k ≡ leaf
    own k from to =
        let at : k / 16 ≡ l = omega (arith, first, last) in
        ap (λ i. slice_index_or leaves i (record { ys = []; live = 0 })) at ∙ get_or_from_slice_get leaves l leaf (record { ys = []; live = 0 }) is

-- the places are scanned up to here, before the leaf l
abbrev pub reached : (from to l : ℕ) → ℕ
reached from to l = max from (min to (16 * l))

-- those of fewer places are fewer
pub live_in-few : (part : Contents Point) (rect : Rect) (from k to : ℕ) → from ≤ k → k ≤ to
    → length (filter (is_in rect) (live_between part from k)) ≤ length (filter (is_in rect) (live_between part from to))
live_in-few part rect from k to low high =
    omega (
      arith,
      ap length (live_in-split part rect from k to low high),
      length-append (filter (is_in rect) (live_between part from k)) (filter (is_in rect) (live_between part k to)),
    )

-- one more stretch is listed
pub listed_next : {A : Type 0} (f : A → ℕ) (start old new : List ℕ) (before here whole : List A) → old ≡ start ++ map f before → new ≡ old ++ map f here
    → whole ≡ before ++ here → new ≡ start ++ map f whole
listed_next f start old new before here whole first second more =
    second ∙ ap (λ l. l ++ map f here) first ∙ append_assoc start (map f before) (map f here)
    ∙ ap (λ l. start ++ l) (sym (ap (map f) more ∙ map-append f before here))
