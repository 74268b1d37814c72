-- Bits that tell which live points of a leaf have y in a rectangle.
use Rattle.std.proofs.Common.{◌≡◌, ℕ, ◌+◌, ◌-◌, ◌*◌, ◌/◌, ◌%◌, ◌^◌, ◌<◌, ◌≤◌, ◌==◌, ◌&&◌, ◌⊎◌, inl, inr, Bool, true, false, cond, leb, List, map, length, get_or, min, replicate, slice_index, w32, w64, refl, sym, ap, ap₂, ◌∙◌, arith, bit_and}
use Rattle.std.specs.Int.{bit_at, trailing_zeros}
use Rattle.std.proofs.lemmas.Bool.{cases_lt}
use Rattle.std.proofs.lemmas.Bool.Decides.{nat_tests}
use Rattle.std.proofs.lemmas.List.{length-map, get_or-map}
use Rattle.std.proofs.lemmas.Nat.{pow_pos, shr-shr, shr_split, shr_below, mod_below, and_mask, one_shl}
use Rattle.std.proofs.lemmas.Nat.Bits.{bit_at_and, bit_at_cat_low, bit_at_above, bit_at-zero, bit_at-lt, bit_at-trailing_zeros}
use Rattle.std.proofs.lemmas.Simd.{tops_compared, zip2_splat_left, mask_l-mod, bit_mask_l}
use lib.Lanes.{zip2, mask_l, top}
use mir.Val.{bits, hbits}
use Rattle.map_shapes.specs.declared.rect.Rect.{Rect}
use Rattle.range_tree.specs.declared.leaves.Leaf.{Leaf}
use Rattle.range_tree.specs.LeafHits.{AreHits, is_hit}
use Rattle.range_tree.specs.Queries.{has_y}

-- all lanes compared with one number, from its side
pub splat_below : (ys : List ℕ) (y : ℕ) → length ys ≡ 16
    → mask_l (map (top (hbits w32)) (zip2 (λ a b. cond (leb a b) (2 ^ bits w32 - 1) 0) (replicate 16 y) ys)) % 2 ^ 64 ≡ mask_l (map (leb y) ys)
splat_below ys y long =
    ap (λ ms. mask_l ms % 2 ^ 64) (tops_compared w32 leb (replicate 16 y) ys ∙ zip2_splat_left leb y 16 ys long)
    ∙ mask_l-mod (map (leb y) ys) 64 (omega (arith, length-map ys (leb y), long))

both : (a b : Bool) → min (cond a 1 0) (cond b 1 0) ≡ cond (a && b) 1 0
both true true = refl
both true false = refl
both false true = refl
both false false = refl

mask_bit : (test : ℕ → Bool) (ys : List ℕ) (j : ℕ) → j < length ys → bit_at (mask_l (map test ys)) j ≡ cond (test (get_or ys j 0)) 1 0
mask_bit test ys j inside = bit_mask_l (map test ys) j ∙ ap (λ b. cond b 1 0) (get_or-map test ys j 0 false inside)

-- a bit of a mask, as a test
live_test : (bit : ℕ) → bit < 2 → bit ≡ cond (bit == 1) 1 0
live_test bit low = grind (arith, nat_tests)

-- further up, and no further than some bits
shifted : (n s j : ℕ) → bit_at (n / 2 ^ s) j ≡ bit_at n (s + j)
shifted n s j = ap (λ m. m % 2) (shr-shr n s j)

cut : (n k j : ℕ) → j < k → bit_at (n % 2 ^ k) j ≡ bit_at n j
cut n k j inside = sym (bit_at_cat_low (n / 2 ^ k) k (n % 2 ^ k) j inside) ∙ ap (λ m. bit_at m j) (shr_split n k)

-- both comparisons and the bits of the live ones, those of some places alone
pub hits_are : (rect : Rect) (leaf : Leaf) (place to : ℕ) → length leaf.ys ≡ 16 → place % 16 + (to - place) ≤ 16
    → (above below own : ℕ) → above ≡ mask_l (map (leb rect.y1) leaf.ys) → below ≡ mask_l (map (λ y. leb y rect.y2) leaf.ys)
    → own ≡ 1 * 2 ^ (to - place) % 2 ^ 64 - 1
    → AreHits rect leaf place to (bit_and (bit_and (bit_and above below) leaf.live / 2 ^ (place % 16)) own)
hits_are rect leaf place to long inside above below own low high mask = record {
  each = λ j less.
      let at : place % 16 + j ≡ (place + j) % 16 = omega arith in
      let within : place % 16 + j < length leaf.ys = omega arith in
      ap (λ n. bit_at n j) is ∙ cut (all / 2 ^ (place % 16)) (to - place) j less ∙ shifted all (place % 16) j ∙ one (place % 16 + j) within
      ∙ ap (λ k. cond (has_y rect (slice_index leaf.ys k) && (bit_at leaf.live k == 1)) 1 0) at;
  no_more = omega (arith, is, mod_below (all / 2 ^ (place % 16)) (2 ^ (to - place)) (pow_pos (to - place)));
}
  where
    all : ℕ
    all = bit_and (bit_and above below) leaf.live

    is : bit_and (all / 2 ^ (place % 16)) own ≡ all / 2 ^ (place % 16) % 2 ^ (to - place)
    is =
        ap (bit_and (all / 2 ^ (place % 16))) (mask ∙ ap (λ n. n - 1) (one_shl (to - place) 64 (omega arith)))
        ∙ and_mask (all / 2 ^ (place % 16)) (to - place)

    one : (i : ℕ) → i < length leaf.ys → bit_at all i ≡ cond (has_y rect (slice_index leaf.ys i) && (bit_at leaf.live i == 1)) 1 0
    one i within =
        bit_at_and (bit_and above below) leaf.live i
        ∙ ap₂ min
        (bit_at_and above below i
        ∙ ap₂ min (ap (λ n. bit_at n i) low ∙ mask_bit (leb rect.y1) leaf.ys i within) (ap (λ n. bit_at n i) high ∙ mask_bit (λ y. leb y rect.y2) leaf.ys i within)
        ∙ both (leb rect.y1 (slice_index leaf.ys i)) (leb (slice_index leaf.ys i) rect.y2))
        (live_test (bit_at leaf.live i) (bit_at-lt leaf.live i))
        ∙ both (has_y rect (slice_index leaf.ys i)) (bit_at leaf.live i == 1)

-- a bit is the test
on : (b : Bool) (n : ℕ) → n ≡ cond b 1 0 → n ≡ 1 → b ≡ true
on true n is one = refl
on false n is one = absurd (omega (arith, is, one))

off : (b : Bool) (n : ℕ) → n ≡ cond b 1 0 → n ≡ 0 → b ≡ false
off true n is none = absurd (omega (arith, is, none))
off false n is none = refl

module _ (rect : Rect) (leaf : Leaf) (place to left : ℕ) (are : AreHits rect leaf place to left) where
  -- where no bit is set, none is hit
  pub none_hit : left ≡ 0 → (k : ℕ) → place ≤ k → k < to → is_hit rect leaf k ≡ false
  none_hit none k low high =
      let back : place + (k - place) ≡ k = omega arith in
      ap (λ i. is_hit rect leaf i) (sym back)
      ∙ off _ (bit_at left (k - place)) (are.each (k - place) (omega arith)) (ap (λ n. bit_at n (k - place)) none ∙ bit_at-zero (k - place))

  module _ (some : 0 < left) (small : left < 2 ^ 64) where
    abbrev gap : ℕ
    gap = trailing_zeros w64 left

    lowest : (gap < 64) × (bit_at left gap ≡ 1) × ((i : ℕ) → i < gap → bit_at left i ≡ 0)
    lowest = bit_at-trailing_zeros w64 left some small

    pub gap_small : trailing_zeros w64 left < 64
    gap_small = lowest.0

    pub gap_inside : trailing_zeros w64 left < to - place
    gap_inside = by (cases_lt gap (to - place))
      where
        by : (gap < to - place) ⊎ (to - place ≤ gap) → gap < to - place
        by (inl inside) = inside
        by (inr past) = absurd (omega (arith, lowest.1, bit_at_above left (to - place) gap are.no_more past))

    -- none before the lowest bit, and that one
    pub none_before_hit : (k : ℕ) → place ≤ k → k < place + trailing_zeros w64 left
        → is_hit rect leaf k ≡ false
    none_before_hit k low high =
        let back : place + (k - place) ≡ k = omega arith in
        ap (λ i. is_hit rect leaf i) (sym back)
        ∙ off _ (bit_at left (k - place)) (are.each (k - place) (omega (arith, gap_inside))) (lowest.2 (k - place) (omega arith))

    pub first_hit : is_hit rect leaf (place + trailing_zeros w64 left) ≡ true
    first_hit = on _ (bit_at left gap) (are.each gap gap_inside) lowest.1

    -- behind it
    pub hits_left : AreHits rect leaf (place + trailing_zeros w64 left + 1) to (left / 2 ^ trailing_zeros w64 left / 2 ^ 1)
    hits_left = record {
      each = λ j less.
          let moved : place + (gap + 1 + j) ≡ place + gap + 1 + j = omega arith in
          ap (λ n. bit_at n j) (shr-shr left gap 1) ∙ shifted left (gap + 1) j ∙ are.each (gap + 1 + j) (omega (arith, less))
          ∙ ap (λ k. cond (is_hit rect leaf k) 1 0) moved;
      no_more =
          let parted : to - place ≡ to - (place + gap + 1) + (gap + 1) = omega (arith, gap_inside) in
          let fits : left < 2 ^ (to - (place + gap + 1) + (gap + 1)) = subst_lt parted are.no_more in
          omega (arith, shr-shr left gap 1, shr_below left (to - (place + gap + 1)) (gap + 1) fits);
    }
      where
        subst_lt : {m n : ℕ} → m ≡ n → left < 2 ^ m → left < 2 ^ n
        subst_lt same less = omega (arith, ap (λ i. 2 ^ i) same, less)
