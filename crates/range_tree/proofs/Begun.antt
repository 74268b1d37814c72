-- The growth as it begins.
use Rattle.std.proofs.Common.{◌≡◌, ℕ, zero, suc, ◌+◌, ◌-◌, ◌*◌, ◌^◌, ◌<◌, ◌≤◌, true, List, [], length, map, min, take, drop, slice_range, refl, sym, ap, ◌∙◌, arith, subst, All, pow_mono}
use Rattle.std.specs.List.{range_with_len}
use Rattle.std.proofs.lemmas.Nat.{mul-le}
use Rattle.std.proofs.lemmas.List.{length-map}
use Rattle.std.proofs.lemmas.List.Elements.{All-nil, All-map}
use Rattle.query_laws.specs.OrderLaws.{IsStrictTotalOrder-before_in}
use Rattle.query_laws.specs.Permuted.{Permuted}
use Rattle.query_laws.specs.declared.item.Order.TheVariants.{Second}
use Rattle.builder_trait.specs.Builders.{Progress, IsUnderway, IsQuota, all_live}
use Rattle.builder_trait.proofs.Places.{Permuted-placed, length-placed}
use Rattle.row_blocks.specs.Heights.{height_of, IsLeastHeight-height_of}
use Rattle.row_blocks.specs.Partitions.{IsInBlocks, IsMoved}
use Rattle.row_blocks.proofs.Partitioning.{IsInBlocks-whole}
use Rattle.rank_rows.specs.Ranked.{Ranked, no_places}
use Rattle.map_shapes.specs.declared.point.Point.{Point}
use Rattle.range_tree.specs.declared.growing.Carried.{Carried}
use Rattle.range_tree.specs.declared.rows.RangeTree.{RangeTree}
use Rattle.range_tree.specs.Heights.{rows_to, words_for}
use Rattle.range_tree.specs.Tree.{before}
use Rattle.range_tree.specs.Growing.{IsPutting, AreGrown, IsGrowing, carried_of}
use Rattle.range_tree.proofs.SpanLemmas.{has_each}

-- nothing stands between a place and itself
pub slice_none : {A : Type 0} (xs : List A) (a b : ℕ) → b ≤ a → slice_range xs a b ≡ []
slice_none xs a b le = let no : b - a ≡ 0 = omega arith in ap (λ n. take n (drop a xs)) no

-- nothing was moved yet
pub moved_none : (source target : List ℕ) (height n : ℕ) → length target ≡ length source → IsMoved (λ p. p) source target height (min 0 n) 0
moved_none source target height n long =
    let none : 0 ≡ min 0 n = omega arith in
    subst (λ k. IsMoved (λ p. p) source target height k 0) none
    (record { long = long; within = omega arith; moved = λ start multiple inside. refl; counted = refl })

-- a builder takes few points
pub few_items : (b : Progress Point) → IsUnderway before b → length b.items ≤ 2 ^ 31
few_items b underway =
    let level : b.at_level ≤ 31 = omega (arith, underway.small) in
    let most : 2 ^ b.at_level ≤ 2 ^ 31 = pow_mono level in
    omega (arith, most, underway.few)

-- what a builder may take where it has no rows
pub IsQuota-rowless : (n level : ℕ) → n ≤ 2 ^ level → IsQuota 4 12 level n (n + 0)
IsQuota-rowless n level few = record { enough = omega arith; bounded = omega (arith, few) }

-- and where it has some
pub IsQuota-begun : (n level height words : ℕ) → n ≤ 2 ^ level → height ≤ level → 0 < rows_to height → words ≡ words_for n
    → IsQuota 4 12 level n (n + rows_to height * (64 * words))
IsQuota-begun n level height words few low some is =
    let high : 9 ≤ level = omega (arith, some, low) in
    let large : 2 ^ 9 ≤ 2 ^ level = pow_mono high in
    let wide : 64 * words ≤ 2 * 2 ^ level = omega (arith, is, few, large) in
    record {
      enough = omega arith;
      bounded = omega (arith, few, mul-le (rows_to height) (64 * words) (level + 1) (2 * 2 ^ level) (omega (arith, low)) wide);
    }

module _ (b : Progress Point) (old : RangeTree) (putting : IsPutting b old) (underway : IsUnderway before b) (complete : length b.reordered ≡ length b.items)
    (height : ℕ) (height_is : height ≡ height_of (length b.items)) where
  small : length b.items ≤ 2 ^ 31
  small = few_items b underway

  pub within : height ≤ b.at_level
  within = omega (arith, height_is, (IsLeastHeight-height_of (length b.items) (omega (arith, small))).least b.at_level underway.few)

  above : length b.items ≤ 2 ^ height
  above = subst (λ h. length b.items ≤ 2 ^ h) (sym height_is) (IsLeastHeight-height_of (length b.items) (omega (arith, small))).above

  each : Permuted b.places (range_with_len 0 (length b.items))
  each =
      Permuted-placed b.items b.reordered b.places underway.placed (IsStrictTotalOrder-before_in (λ (p : Point). p.x) (λ p. p.y) (λ p. p.stamp) Second)
      underway.rising_reordered complete

  many : length b.places ≡ length b.items
  many = length-placed b.items b.reordered b.places underway.placed ∙ complete

  pub some_points : 0 < rows_to height → 0 < length b.items
  some_points some = by (length b.items) refl
    where
      by : (n : ℕ) → length b.items ≡ n → 0 < n
      by zero none = absurd (omega (arith, some, height_is, ap height_of none, (IsLeastHeight-height_of 0 (omega arith)).least 0 (omega arith)))
      by (suc n) is = omega arith

  -- without rows all is done
  pub IsGrowing-rowless : rows_to height ≡ 0 → IsGrowing (all_live b) (record old { height = height; at = 0 })
  IsGrowing-rowless none = record {
    room = record {
      small = putting.room.small;
      xs = putting.room.xs;
      leaves = putting.room.leaves;
      top = putting.room.top;
      source = putting.room.source;
      target = putting.room.target;
      ranks = putting.room.ranks;
      none = putting.room.none;
    };
    few = underway.few;
    height = height_is;
    xs = putting.xs;
    leaves = putting.leaves;
    top = λ some. absurd (omega (arith, some, none));
    grown = λ some. absurd (omega (arith, some, putting.none_left));
    unended = λ some. absurd (omega (arith, some, putting.none_left));
    ended = λ end. record {
      few = small;
      height = height_is;
      xs = putting.xs;
      leaves = putting.leaves;
      top = λ some. absurd (omega (arith, some, none));
      ranks = λ some. absurd (omega (arith, some, none));
    };
  }

  module _ (some : 0 < rows_to height) (words : ℕ) (words_is : words ≡ words_for (length b.items)) (ranks : Ranked) (is : ranks ≡ no_places words height old.ranks.room)
      (left : ℕ) (left_is : left ≡ rows_to height * (64 * words)) where
    some_level : 0 < rows_to b.at_level
    some_level = omega (arith, some, within)

    pub some_words : 0 < words
    some_words = omega (arith, words_is, some_points some)

    blocks : IsInBlocks (λ p. p) b.places height b.places
    blocks = IsInBlocks-whole (λ p. p) b.places height (has_each (all_live b) each) (omega (arith, many, above))

    abbrev begun : RangeTree
    begun = record old { ranks = ranks; height = height; at = 0; left = left }

    pub AreGrown-begun : AreGrown (all_live b) begun
    AreGrown-begun = record {
      count = 0;
      row = λ q. b.places;
      lower = 0;
      below = some;
      all_live = refl;
      each_place = each;
      stride = ap (λ (v : Ranked). v.stride) is ∙ words_is;
      same_height = ap (λ (v : Ranked). v.height) is;
      fresh = subst (λ (v : Ranked). All (λ live. live ≡ true) v.live) (sym is) (All-nil (λ live. live ≡ true));
      blocks = λ q le. let same : height ≡ height - q = omega arith in subst (λ g. IsInBlocks (λ p. p) b.places g b.places) same blocks;
      each = λ q less. absurd (omega arith);
      source = putting.source some_level;
      target = subst (λ (l : List Carried). All (λ c. c ≡ carried_of b.items c.place) l) (sym (putting.target some_level))
          (All-map (λ (c : Carried). c ≡ carried_of b.items c.place) (carried_of b.items) b.places (λ k d inside. refl));
      at_within = omega arith;
      second = omega (arith, ap (λ (v : Ranked). length v.second) is);
      live = omega (arith, ap (λ (v : Ranked). length v.live) is);
      weights = omega (arith, ap (λ (v : Ranked). length v.weights) is);
      begun = record {
        second = slice_none ranks.second (64 * (0 * ranks.stride) + 0) (64 * (0 * ranks.stride) + 0) (omega arith);
        live = slice_none ranks.live (64 * (0 * ranks.stride) + 0) (64 * (0 * ranks.stride) + 0) (omega arith);
        weights = slice_none ranks.weights (64 * (0 * ranks.stride) + 0) (64 * (0 * ranks.stride) + 0) (omega arith);
      };
      moved = moved_none b.places (map (λ (c : Carried). c.place) old.target.items) (height - 0 - 1) (length b.items)
          (length-map old.target.items (λ (c : Carried). c.place) ∙ ap length (putting.target some_level) ∙ length-map b.places (carried_of b.items));
      left = omega (arith, left_is ∙ ap (λ w. rows_to height * (64 * w)) words_is);
    }

    pub IsGrowing-begun : IsGrowing (all_live b) begun
    IsGrowing-begun = record {
      room = record {
        small = putting.room.small;
        xs = putting.room.xs;
        leaves = putting.room.leaves;
        top = putting.room.top;
        source = putting.room.source;
        target = putting.room.target;
        ranks = omega (arith, putting.room.ranks, ap (λ (v : Ranked). v.room) is);
        none = putting.room.none;
      };
      few = underway.few;
      height = height_is;
      xs = putting.xs;
      leaves = putting.leaves;
      top = λ has. putting.top some_level;
      grown = λ more. AreGrown-begun;
      unended = λ more. omega (arith, some_words, words_is);
      ended = λ end. absurd (omega (arith, end, left_is, mul-le 1 1 (rows_to height) (64 * words) (omega (arith, some)) (omega (arith, some_words))));
    }
