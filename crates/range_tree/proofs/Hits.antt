-- What the y and the bits of a leaf tell of the live points at its places.
use Rattle.std.proofs.Common.{◌≡◌, ℕ, zero, suc, ◌==◌, ◌+◌, ◌-◌, ◌/◌, ◌^◌, ◌<◌, ◌≤◌, ◌&&◌, Bool, true, false, cond, nat_le, List, [], ◌∷◌, length, get_or, Some, slice_get, slice_index_or, refl, sym, ap, ◌∙◌, arith, subst, length-append, ◌⊎◌, inl, inr, None, count_ones, pow-suc}
use Rattle.std.specs.Int.{bit_at}
use Rattle.std.specs.List.{filter, flat_map, range_with_len}
use Rattle.std.specs.Option.{option_to_list}
use Rattle.std.proofs.lemmas.Bool.{cond-false}
use Rattle.std.proofs.lemmas.Bool.Decides.{nat_tests}
use Rattle.std.proofs.lemmas.List.Elements.{filter-append}
use Rattle.std.proofs.lemmas.Nat.{ones-le}
use Rattle.std.proofs.lemmas.Nat.Bits.{bit_at_lowest, bit_at-suc}
use Rattle.std.proofs.lemmas.Option.{slice_get_cases}
use lib.Count.{ones_step}
use Rattle.builder_trait.specs.Parts.{Contents}
use Rattle.map_shapes.specs.declared.point.Point.{Point}
use Rattle.map_shapes.specs.declared.rect.Rect.{Rect}
use Rattle.map_shapes.specs.Questions.{is_in}
use Rattle.range_tree.specs.declared.leaves.Leaf.{Leaf}
use Rattle.range_tree.specs.declared.scanning.Places.{Places}
use Rattle.range_tree.specs.LeafHits.{AreHits, is_hit}
use Rattle.range_tree.specs.Queries.{live_at, live_between, has_y, IsLeafOf}

-- a point whose x is in the rectangle is in it where its y is
same_test : (x1 x2 y1 y2 x y : ℕ) → x1 ≤ x → x ≤ x2 → (nat_le x1 x && nat_le x x2 && nat_le y1 y && nat_le y y2) ≡ (nat_le y1 y && nat_le y y2)
same_test x1 x2 y1 y2 x y low high = grind (arith, nat_tests)

-- nor is one that is dead
cleared : (t : Bool) (bit : ℕ) → bit ≡ 0 → (t && (bit == 1)) ≡ false
cleared t bit none = grind (arith, nat_tests)

set : (t : Bool) (bit : ℕ) → bit ≡ 1 → (t && (bit == 1)) ≡ t
set t bit one = grind (arith, nat_tests)

pub one_or_none : {A : Type 0} (b : Bool) (x : A) → length (cond b (x ∷ []) []) ≡ cond b 1 0
one_or_none true x = refl
one_or_none false x = refl

-- there is a point at a place before the end
pub point_at : {A : Type 0} (xs : List A) (k : ℕ) → k < length xs → (x : A) × (slice_get xs k ≡ Some x)
point_at xs k inside = by (slice_get_cases xs k).1
  where
    by : ((x : _) × (k < length xs) × (slice_get xs k ≡ Some x) × (get_or xs k x ≡ x)) ⊎ ((length xs ≤ k) × (slice_get xs k ≡ None)) → (x : _) × (slice_get xs k ≡ Some x)
    by (inl found) = (found.0, found.2)
    by (inr past) = absurd (omega (arith, past.0))

module _ (part : Contents Point) (rect : Rect) where
  -- the live point at a place whose x is in the rectangle
  pub live_hit : (k : ℕ) (p : Point) → slice_get part.items k ≡ Some p → rect.x1 ≤ p.x → p.x ≤ rect.x2
      → (y bit : ℕ) → y ≡ p.y → bit ≡ cond (slice_index_or part.flags k false) 1 0
      → filter (is_in rect) (live_at part k) ≡ cond (has_y rect y && (bit == 1)) (p ∷ []) []
  live_hit k p at low high y bit is live = by (slice_index_or part.flags k false) live
    where
      by : (b : Bool) → bit ≡ cond b 1 0
          → filter (is_in rect) (cond b (option_to_list (slice_get part.items k)) []) ≡ cond (has_y rect y && (bit == 1)) (p ∷ []) []
      by false none = sym (cond-false (has_y rect y && (bit == 1)) (p ∷ []) [] (cleared (has_y rect y) bit none))
      by true one =
          ap (λ o. filter (is_in rect) (option_to_list o)) at
          ∙ ap (λ b. cond b (p ∷ []) [])
          (same_test rect.x1 rect.x2 rect.y1 rect.y2 p.x p.y low high ∙ ap (has_y rect) (sym is) ∙ sym (set (has_y rect y) bit one))

  -- neighbouring places of which the bits of a number tell
  bits_listed : (n bits from : ℕ) → bits < 2 ^ n → ((j : ℕ) → j < n → length (filter (is_in rect) (live_at part (from + j))) ≡ bit_at bits j)
      → count_ones bits ≡ length (filter (is_in rect) (flat_map (live_at part) (range_with_len from n)))
  bits_listed zero bits from few each = omega (arith, ones-le 0 bits few)
  bits_listed (suc n) bits from few each =
      let same : from + 0 ≡ from = omega arith in
      let here : length (filter (is_in rect) (live_at part from)) ≡ bit_at bits 0 =
      subst (λ k. length (filter (is_in rect) (live_at part k)) ≡ bit_at bits 0) same (each 0 (omega arith)) in
      let rest = bits_listed n (bits / 2) (from + 1) (omega (arith, few, pow-suc 2 n))
      (λ j less. let moved : from + suc j ≡ from + 1 + j = omega arith in
      subst (λ k. length (filter (is_in rect) (live_at part k)) ≡ bit_at (bits / 2) j) moved (each (suc j) (omega arith) ∙ bit_at-suc bits j)) in
      omega (
        arith,
        here,
        rest,
        bit_at_lowest bits,
        ones_step bits,
        ap length (filter-append (is_in rect) (live_at part from) (flat_map (live_at part) (range_with_len (from + 1) n))),
        length-append (filter (is_in rect) (live_at part from)) (filter (is_in rect) (flat_map (live_at part) (range_with_len (from + 1) n))),
      )

  module _ (places : Places) (leaf : Leaf) (is : IsLeafOf part rect places leaf) where
    pub leaf_hit : (k : ℕ) (p : Point) → places.from ≤ k → k < places.to → slice_get part.items k ≡ Some p
        → filter (is_in rect) (live_at part k) ≡ cond (is_hit rect leaf k) (p ∷ []) []
    leaf_hit k p from to at =
        let inside = is.inside k p from to at in
        live_hit k p at inside.0 inside.1 _ _ (is.ys k p from to at) (is.live k from to)

    -- as many bits as points
    pub leaf_hits : (bits : ℕ) → AreHits rect leaf places.from places.to bits
        → count_ones bits ≡ length (filter (is_in rect) (live_between part places.from places.to))
    leaf_hits bits are =
        bits_listed (places.to - places.from) bits places.from are.no_more
        (λ j less.
        let found = point_at part.items (places.from + j) (omega (arith, is.within)) in
        ap length (leaf_hit (places.from + j) found.0 (omega arith) (omega arith) found.1)
        ∙ one_or_none (is_hit rect leaf (places.from + j)) found.0
        ∙ sym (are.each j less))
