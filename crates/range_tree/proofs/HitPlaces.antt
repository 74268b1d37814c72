-- The points of a leaf that are hit, place by place.
use Rattle.std.proofs.Common.{◌≡◌, ℕ, zero, suc, ◌+◌, ◌-◌, ◌^◌, ◌<◌, ◌≤◌, false, cond, [], ◌++◌, length, w64, refl, sym, ap, ap₂, ◌∙◌, arith, append-nil}
use Rattle.std.specs.Int.{trailing_zeros}
use Rattle.std.specs.List.{filter, flat_map, range_with_len}
use Rattle.std.specs.Option.{option_to_list}
use Rattle.std.proofs.lemmas.List.Elements.{filter-append}
use Rattle.builder_trait.specs.Parts.{Contents}
use Rattle.map_shapes.specs.declared.point.Point.{Point}
use Rattle.map_shapes.specs.declared.rect.Rect.{Rect}
use Rattle.map_shapes.specs.Questions.{is_in}
use Rattle.range_tree.specs.declared.leaves.Leaf.{Leaf}
use Rattle.range_tree.specs.declared.scanning.Places.{Places}
use Rattle.range_tree.specs.LeafHits.{AreHits, is_hit, points_at}
use Rattle.range_tree.specs.Queries.{live_at, live_between, IsLeafOf}
use Rattle.range_tree.proofs.Between.{live_in-split, live_in-more}
use Rattle.range_tree.proofs.Hits.{leaf_hit, point_at}
use Rattle.range_tree.proofs.HitBits.{none_hit, gap_inside, none_before_hit, first_hit}

-- where each place has none, neighbouring ones have none
none_between_places : (part : Contents Point) (rect : Rect) (from n : ℕ) → ((k : ℕ) → from ≤ k → k < from + n → filter (is_in rect) (live_at part k) ≡ [])
    → filter (is_in rect) (flat_map (live_at part) (range_with_len from n)) ≡ []
none_between_places part rect from zero each = refl
none_between_places part rect from (suc n) each =
    filter-append (is_in rect) (live_at part from) (flat_map (live_at part) (range_with_len (from + 1) n))
    ∙ ap₂ (λ l m. l ++ m) (each from (omega arith) (omega arith)) (none_between_places part rect (from + 1) n (λ k low high. each k (omega arith) (omega arith)))

-- at a place before the end is one point
pub points_one : (part : Contents Point) (k : ℕ) → k < length part.items → length (points_at part k) ≡ 1
points_one part k inside = let found = point_at part.items k inside in ap (λ o. length (option_to_list o)) found.1

module _ (part : Contents Point) (rect : Rect) (places : Places) (leaf : Leaf) (is : IsLeafOf part rect places leaf) where
  -- what a place has, by its y and its bit
  by_hit : (k : ℕ) → places.from ≤ k → k < places.to
      → filter (is_in rect) (live_at part k) ≡ cond (is_hit rect leaf k) (points_at part k) []
  by_hit k low high =
      let found = point_at part.items k (omega (arith, is.within)) in
      leaf_hit part rect places leaf is k found.0 low high found.1
      ∙ ap (λ o. cond (is_hit rect leaf k) (option_to_list o) []) (sym found.1)

  passed_over : (a b : ℕ) → places.from ≤ a → a ≤ b → b ≤ places.to
      → ((k : ℕ) → a ≤ k → k < b → is_hit rect leaf k ≡ false)
      → filter (is_in rect) (live_between part a b) ≡ []
  passed_over a b low ordered high none =
      none_between_places part rect a (b - a)
      (λ k from to.
      by_hit k (omega arith) (omega arith) ∙ ap (λ t. cond t (points_at part k) []) (none k from (omega arith)))

  module _ (place left : ℕ) (low : places.from ≤ place) (high : place ≤ places.to) (are : AreHits rect leaf place places.to left) where
    -- no bit is left
    pub all_found : left ≡ 0 → filter (is_in rect) (live_between part places.from places.to) ≡ filter (is_in rect) (live_between part places.from place)
    all_found none =
        live_in-split part rect places.from place places.to low high
        ∙ ap (λ l. filter (is_in rect) (live_between part places.from place) ++ l)
        (passed_over place places.to low high (omega arith) (none_hit rect leaf place places.to left are none))
        ∙ append-nil (filter (is_in rect) (live_between part places.from place))

    -- the lowest bit tells of the next point
    pub next_found : 0 < left → left < 2 ^ 64
        → filter (is_in rect) (live_between part places.from (place + trailing_zeros w64 left + 1))
        ≡ filter (is_in rect) (live_between part places.from place) ++ points_at part (place + trailing_zeros w64 left)
    next_found some small =
        let gap = trailing_zeros w64 left in
        let inside : gap < places.to - place = gap_inside rect leaf place places.to left are some small in
        let hit = place + gap in
        live_in-more part rect places.from hit (omega arith)
        ∙ ap₂ (λ l m. l ++ m)
        (live_in-split part rect places.from place hit low (omega arith)
        ∙ ap (λ l. filter (is_in rect) (live_between part places.from place) ++ l)
        (passed_over place hit low (omega arith) (omega (arith, inside)) (none_before_hit rect leaf place places.to left are some small))
        ∙ append-nil (filter (is_in rect) (live_between part places.from place)))
        (by_hit hit (omega arith) (omega (arith, inside))
        ∙ ap (λ t. cond t (points_at part hit) []) (first_hit rect leaf place places.to left are some small))
