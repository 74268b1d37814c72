-- What words tell of places.
use Rattle.std.proofs.Common.{◌≡◌, ℕ, ◌+◌, ◌-◌, ◌*◌, ◌/◌, ◌%◌, ◌^◌, ◌<◌, ◌≤◌, ◌==◌, List, true, length, min, refl, sym, ap, ap₂, subst, ◌∙◌, arith}
use Rattle.std.specs.Prelude.{sum, slice_index_or}
use Rattle.std.specs.Prelude.{slice_get, Some}
use Rattle.std.specs.Int.{bit_at}
use Rattle.std.proofs.lemmas.Option.{slice_get-get_or}
use Rattle.std.proofs.lemmas.Nat.Bits.{bit_at-lt}
use Rattle.std.proofs.lemmas.List.FromFn.{length-map-range_with_len, get_or-map-range_with_len}
use Rattle.std.proofs.lemmas.List.Sums.{count_by-le-length}
use Rattle.row_blocks.specs.Blocks.{IsMultiple, start_of}
use Rattle.row_blocks.proofs.Lists.{length-slice_range}
use Rattle.row_blocks.proofs.Partitioning.{start_of_is, start_of-le, start_of-above, start_of-multiple}
use Rattle.row_blocks.proofs.Blocks.{pow_next, times_below}
use Rattle.rank_rows.specs.declared.word.Word.{Word}
use Rattle.rank_rows.specs.declared.ranks.RankRows.TheInside.{Inside}
use Rattle.rank_rows.specs.Totals.{total}
use Rattle.rank_rows.specs.Words.{word_at, second_at, dead_at, weight_at, dead_before, weight_before}
use Rattle.rank_rows.specs.Ranked.{Ranked, seconds, lives, IsFront, IsPlace, IsNextRow, AreRanks, AreTrees, IsKept, rank, slice_of, how_many, block_height, word_of}
use Rattle.rank_rows.specs.Nodes.{AreNodes, IsWordOf}
use Rattle.rank_rows.proofs.Sums.{total-from}
use Rattle.rank_rows.proofs.Trees.{AreNodes-sooner}
use Rattle.rank_rows.proofs.Lists.{how_many-ones, how_many-zeros, sum-between}

-- what contracts see of words and weights
abbrev pub seen : List Word → List ℕ → (stride height room : ℕ) → Ranked
seen words weights stride height room = record {
  second = seconds words (length weights);
  live = lives words (length weights);
  weights = weights;
  stride = stride;
  height = height;
  room = room;
}

-- a block of places is a block of words
pub record AreWords (start height : ℕ) : Type 0 where
  pub first : ℕ
  pub is : start ≡ 64 * first
  pub multiple : IsMultiple first (height - 6)
  pub long : 2 ^ height ≡ 64 * 2 ^ (height - 6)

pub eights : (low : ℕ) → 2 ^ (low + 6) ≡ 64 * 2 ^ low
eights low =
    let five = pow_next (low + 5) in
    let six : low + 5 + 1 ≡ low + 6 = omega arith in
    omega (
      arith,
      pow_next low,
      pow_next (low + 1),
      pow_next (low + 2),
      pow_next (low + 3),
      pow_next (low + 4),
      pow_next (low + 5),
      ap (λ h. 2 ^ h) (let e : low + 1 + 1 ≡ low + 2 = omega arith in e),
      ap (λ h. 2 ^ h) (let e : low + 2 + 1 ≡ low + 3 = omega arith in e),
      ap (λ h. 2 ^ h) (let e : low + 3 + 1 ≡ low + 4 = omega arith in e),
      ap (λ h. 2 ^ h) (let e : low + 4 + 1 ≡ low + 5 = omega arith in e),
      ap (λ h. 2 ^ h) six,
    )

pub words_of : (start height : ℕ) → 6 ≤ height → IsMultiple start height → AreWords start height
words_of start height high block =
    let long : 2 ^ height ≡ 64 * 2 ^ (height - 6) = ap (λ h. 2 ^ h) (let e : height ≡ height - 6 + 6 = omega arith in e) ∙ eights (height - 6) in
    record {
      first = block.times * 2 ^ (height - 6);
      is = block.is ∙ ap (λ n. block.times * n) long ∙ (let e : block.times * (64 * 2 ^ (height - 6)) ≡ 64 * (block.times * 2 ^ (height - 6)) = grind arith in e);
      multiple = record { times = block.times; is = refl };
      long = long;
    }

-- the last word of a front of a block
pub record IsLastWord (stride height row start to : ℕ) : Type 0 where
  pub words : AreWords start (height - row)
  pub from : words.first ≤ (to - 1) / 64
  pub block : (to - 1) / 64 < words.first + 2 ^ block_height height row
  pub own : start_of (block_height height row) ((to - 1) / 64) ≡ words.first
  pub within : (to - 1) / 64 < stride
  pub bits : 64 * (row * stride) + to ≡ 64 * word_of stride row ((to - 1) / 64) + ((to - 1) % 64 + 1)
  pub begins : 64 * (row * stride) + start ≡ 64 * word_of stride row words.first

module _ (words : List Word) (weights : List ℕ) (stride height room row start to : ℕ) (front : IsFront (seen words weights stride height room) row start to)
    (some : start < to) where
  pub last_word : IsLastWord stride height row start to
  last_word =
      let blocks = words_of start (height - row) (let high : 6 ≤ height - row = omega (arith, front.high) in high) front.block in
      let from : blocks.first ≤ (to - 1) / 64 = omega (arith, blocks.is) in
      let block : (to - 1) / 64 < blocks.first + 2 ^ block_height height row = omega (arith, blocks.is, blocks.long, front.below) in
      record {
        words = blocks;
        from = from;
        block = block;
        own = start_of_is ((to - 1) / 64) blocks.multiple from block;
        within = omega (arith, front.within);
        bits = omega arith;
        begins = omega (arith, blocks.is);
      }

  pub long : length (seconds words (length weights)) ≡ length weights
  long = length-map-range_with_len (λ k. second_at words k == 1) 0 (length weights)

  -- it is there
  pub last_there : length words ≡ (length weights + 63) / 64 → word_of stride row ((to - 1) / 64) < length words
  last_there entries = omega (arith, entries, front.there, long, last_word.bits)

  -- the bits of a mask up to there
  bits-total : (mask : Word → ℕ)
      → total (λ k. bit_at (mask (word_at words (k / 64))) (k % 64)) (64 * (row * stride) + to)
      ≡ total (λ k. bit_at (mask (word_at words (k / 64))) (k % 64)) (64 * word_of stride row ((to - 1) / 64))
      + total (bit_at (mask (word_at words (word_of stride row ((to - 1) / 64))))) ((to - 1) % 64 + 1)
  bits-total mask =
      let e = word_of stride row ((to - 1) / 64) in
      ap (total (λ k. bit_at (mask (word_at words (k / 64))) (k % 64))) last_word.bits
      ∙ total-from (λ k. bit_at (mask (word_at words (k / 64))) (k % 64)) (bit_at (mask (word_at words e))) (64 * e) ((to - 1) % 64 + 1)
      (λ k low. (let word : (64 * e + k) / 64 ≡ e = omega arith in let bit : (64 * e + k) % 64 ≡ k = omega arith in
      ap (λ w. bit_at (mask (word_at words w)) ((64 * e + k) % 64)) word ∙ ap (bit_at (mask (word_at words e))) bit))

  pub second-total : total (second_at words) (64 * (row * stride) + to)
      ≡ total (second_at words) (64 * word_of stride row ((to - 1) / 64)) + total (bit_at (word_at words (word_of stride row ((to - 1) / 64))).second) ((to - 1) % 64 + 1)
  second-total = bits-total (λ w. w.second)

  pub dead-total : total (dead_at words) (64 * (row * stride) + to)
      ≡ dead_before words (word_of stride row ((to - 1) / 64)) + total (bit_at (word_at words (word_of stride row ((to - 1) / 64))).dead) ((to - 1) % 64 + 1)
  dead-total = bits-total (λ w. w.dead)

  -- the rank by the last word
  pub rank-word : AreRanks words stride height → length words ≡ (length weights + 63) / 64
      → (word_at words (word_of stride row ((to - 1) / 64))).ones + total (bit_at (word_at words (word_of stride row ((to - 1) / 64))).second) ((to - 1) % 64 + 1)
      ≡ rank (seen words weights stride height room) row start to
  rank-word ranks entries =
      let l = last_word in
      let before : (word_at words (word_of stride row ((to - 1) / 64))).ones + total (second_at words) (64 * word_of stride row l.words.first)
      ≡ total (second_at words) (64 * word_of stride row ((to - 1) / 64)) =
      subst (λ s. (word_at words (word_of stride row ((to - 1) / 64))).ones + total (second_at words) (64 * word_of stride row s)
      ≡ total (second_at words) (64 * word_of stride row ((to - 1) / 64))) l.own (ranks.ones row ((to - 1) / 64) l.within (last_there entries)) in
      omega (
        arith,
        before,
        second-total,
        ap (total (second_at words)) l.begins,
        how_many-ones (second_at words) (λ k. bit_at-lt (word_at words (k / 64)).second (k % 64)) (length weights) (64 * (row * stride) + start)
            (64 * (row * stride) + to) (omega arith) (omega (arith, front.there, long)),
      )

-- no more places go into the second half than there are
pub rank-le : (v : Ranked) (row start to : ℕ) → start ≤ to → to ≤ start + 2 ^ 32 → 64 * (row * v.stride) + to ≤ length v.second → rank v row start to ≤ 2 ^ 32
rank-le v row start to from few there =
    omega (
      arith,
      count_by-le-length (λ bit. bit) (slice_of v v.second row start to),
      length-slice_range v.second (64 * (row * v.stride) + start) (64 * (row * v.stride) + to) (omega arith) there,
    )

-- a place of a row has its word
pub record IsFound (words : List Word) (weights : List ℕ) (stride row k base : ℕ) : Type 0 where
  pub there : base + k / 64 < length words
  pub position : 64 * (row * stride) + k < length weights
  pub base_is : base ≡ row * stride

pub found : (words : List Word) (weights : List ℕ) (stride height room : ℕ) (v : Ranked) (row k base : ℕ) → seen words weights stride height room ≡ v → IsPlace v row k
    → base ≡ row * v.stride → length words ≡ (length weights + 63) / 64 → IsFound words weights stride row k base
found words weights stride height room v row k base is place at entries =
    let there = subst (λ (v : Ranked). 64 * (row * v.stride) + k < length v.second) (sym is) place.there in
    let same : base ≡ row * stride = at ∙ ap (λ (v : Ranked). row * v.stride) (sym is) in
    let count = length-map-range_with_len (λ k. second_at words k == 1) 0 (length weights) in
    record { there = omega (arith, there, same, count, entries); position = omega (arith, there, count); base_is = same }

-- whether it goes into the second half
pub second_of : (words : List Word) (weights : List ℕ) (stride height room : ℕ) (v : Ranked) (row k base : ℕ) → seen words weights stride height room ≡ v
    → IsFound words weights stride row k base
    → (bit_at (word_at words (base + k / 64)).second (k % 64) == 1) ≡ slice_index_or v.second (64 * (row * v.stride) + k) true
second_of words weights stride height room v row k base is f =
    let word : (64 * (row * stride) + k) / 64 ≡ base + k / 64 = omega (arith, f.base_is) in
    let bit : (64 * (row * stride) + k) % 64 ≡ k % 64 = omega (arith, word, f.base_is) in
    ap₂ (λ e r. bit_at (word_at words e).second r == 1) (sym word) (sym bit)
    ∙ sym (get_or-map-range_with_len (λ k. second_at words k == 1) 0 (length weights) (64 * (row * stride) + k) (64 * (row * stride) + k) true f.position (omega arith))
    ∙ ap (λ (v : Ranked). slice_index_or v.second (64 * (row * v.stride) + k) true) is

-- before a place stand the places of its block's front
pub front_of : (v : Ranked) (row k : ℕ) → IsPlace v row k → IsFront v row (start_of (v.height - row) k) k
front_of v row k place = record {
  block = start_of-multiple (v.height - row) k;
  from = start_of-le (v.height - row) k;
  below = omega (arith, start_of-above (v.height - row) k);
  there = omega (arith, place.there);
  within = omega (arith, place.within);
  high = place.high;
}

-- a place has one row
pub same_row : (stride n row at other : ℕ) → n ≡ 64 * (row * stride) + at → at < 64 * stride → 64 * (other * stride) + 0 ≤ n
    → n < 64 * (other * stride) + 64 * stride → other ≡ row
same_row stride n row at other placed within begun unended =
    let more : (a b : ℕ) → 64 * (a * stride) < 64 * (b * stride) + 64 * stride → a < b + 1 = λ a b less.
    times_below a (b + 1) stride (omega (arith, less, (let e : (b + 1) * stride ≡ b * stride + stride = grind arith in e))) in
    let one = more other row (omega arith) in
    let two = more row other (omega arith) in
    omega arith

-- the row of the next place
pub next_row : (words : List Word) (weights : List ℕ) (stride height room : ℕ) (v : Ranked) (other row at : ℕ) → seen words weights stride height room ≡ v
    → IsNextRow v other → length weights ≡ 64 * (row * stride) + at → at < 64 * stride → other ≡ row
next_row words weights stride height room v other row at is next placed within =
    let here : IsNextRow (seen words weights stride height room) other = subst (λ v. IsNextRow v other) (sym is) next in
    let count = length-map-range_with_len (λ k. second_at words k == 1) 0 (length weights) in
    same_row stride (length weights) row at other placed within (omega (arith, here.begun, count)) (omega (arith, here.unended, count))

-- what the words of a front's block tell
pub record IsRead (words : List Word) (weights : List ℕ) (stride height row start to base first at : ℕ) : Type 0 where
  pub base_is : base ≡ row * stride
  pub at_is : at ≡ word_of stride row ((to - 1) / 64)
  pub first_is : 64 * first ≡ 64 * (row * stride) + start
  pub word : IsWordOf words weights first (block_height height row) at
  pub begins : (word_at words first).weight ≡ 0
  pub few : 64 * (row * stride) + to ≤ length weights
  pub dead : total (dead_at words) (64 * (row * stride) + to) ≡ dead_before words at + total (bit_at (word_at words at).dead) ((to - 1) % 64 + 1)
  pub bits : 64 * (row * stride) + to ≡ 64 * at + ((to - 1) % 64 + 1)

pub read : (words : List Word) (weights : List ℕ) (stride height room : ℕ) (v : Ranked) (row start to base first at : ℕ) → seen words weights stride height room ≡ v
    → IsFront v row start to → start < to → base ≡ row * v.stride → first ≡ base + start / 64 → at ≡ base + (to - 1) / 64 → length words ≡ (length weights + 63) / 64
    → length weights ≤ 2 ^ 40 → height ≤ 32 → AreTrees words weights stride height → IsRead words weights stride height row start to base first at
read words weights stride height room v row start to base first at is front some base_at first_at at_at entries small low trees =
    let here : IsFront (seen words weights stride height room) row start to = subst (λ v. IsFront v row start to) (sym is) front in
    let l = last_word words weights stride height room row start to here some in
    let there = last_there words weights stride height room row start to here some entries in
    let base_is : base ≡ row * stride = base_at ∙ ap (λ (v : Ranked). row * v.stride) (sym is) in
    let count = length-map-range_with_len (λ k. second_at words k == 1) 0 (length weights) in
    let at_is : at ≡ word_of stride row ((to - 1) / 64) = omega (arith, at_at, base_is) in
    let first_word : first ≡ word_of stride row l.words.first = omega (arith, first_at, base_is, l.words.is) in
    let inside : word_of stride row l.words.first < length words = omega (arith, l.from, there) in
    let tree = trees.each row l.words.first l.words.multiple (omega (arith, l.from, l.within)) inside in
    let sooner = AreNodes-sooner words (dead_before words) (weight_before weights) (word_of stride row l.words.first) (block_height height row)
    (min (word_of stride row stride) (length words)) (at + 1) (omega (arith, at_is, there, l.within)) tree in
    record {
      base_is = base_is;
      at_is = at_is;
      first_is = omega (arith, first_at, base_is, l.words.is);
      word = record {
        from = omega (arith, at_is, first_word, l.from);
        block = omega (arith, at_is, first_word, l.block);
        within = omega (arith, at_is, there);
        small = omega (arith, entries, small);
        low = omega (arith, low);
        nodes = subst (λ s. AreNodes words (dead_before words) (weight_before weights) s (block_height height row) (at + 1)) (sym first_word) sooner;
      };
      begins = ap (λ e. (word_at words e).weight) first_word ∙ trees.begins row l.words.first l.words.multiple (omega (arith, l.from, l.within)) inside;
      few = omega (arith, here.there, count);
      dead = dead-total words weights stride height room row start to here some
          ∙ ap (λ e. dead_before words e + total (bit_at (word_at words e).dead) ((to - 1) % 64 + 1)) (sym at_is);
      bits = omega (arith, l.bits, at_is);
    }

-- how many of them are live
pub live-front : (words : List Word) (weights : List ℕ) (stride height room : ℕ) (v : Ranked) (row start to : ℕ) → seen words weights stride height room ≡ v
    → IsFront v row start to
    → how_many (slice_of v v.live row start to) + total (dead_at words) (64 * (row * stride) + to) + start ≡ to + total (dead_at words) (64 * (row * stride) + start)
live-front words weights stride height room v row start to is front =
    let here : IsFront (seen words weights stride height room) row start to = subst (λ v. IsFront v row start to) (sym is) front in
    let count = length-map-range_with_len (λ k. second_at words k == 1) 0 (length weights) in
    omega (
      arith,
      ap (λ (v : Ranked). how_many (slice_of v v.live row start to)) is,
      how_many-zeros (dead_at words) (λ k. bit_at-lt (word_at words (k / 64)).dead (k % 64)) (length weights) (64 * (row * stride) + start) (64 * (row * stride) + to)
          (omega (arith, here.from)) (omega (arith, here.there, count)),
    )

-- what they weigh
pub weight-front : (words : List Word) (weights : List ℕ) (stride height room : ℕ) (v : Ranked) (row start to : ℕ) → seen words weights stride height room ≡ v
    → IsFront v row start to
    → sum (slice_of v v.weights row start to) + total (weight_at weights) (64 * (row * stride) + start) ≡ total (weight_at weights) (64 * (row * stride) + to)
weight-front words weights stride height room v row start to is front =
    let here : IsFront (seen words weights stride height room) row start to = subst (λ v. IsFront v row start to) (sym is) front in
    let count = length-map-range_with_len (λ k. second_at words k == 1) 0 (length weights) in
    omega (
      arith,
      ap (λ (v : Ranked). sum (slice_of v v.weights row start to)) is,
      sum-between weights (64 * (row * stride) + start) (64 * (row * stride) + to) (omega (arith, here.from)) (omega (arith, here.there, count)),
    )

pub front_from : (v : Ranked) (row k start height : ℕ) → IsPlace v row k → height ≡ v.height → start ≡ start_of (height - row) k → IsFront v row start k
front_from v row k start height place same at =
    subst (λ s. IsFront v row s k) (sym (at ∙ ap (λ h. start_of (h - row) k) same)) (front_of v row k place)

-- whether it is live
pub live_of : (words : List Word) (weights : List ℕ) (stride height room : ℕ) (v : Ranked) (row k base : ℕ) → seen words weights stride height room ≡ v
    → IsFound words weights stride row k base
    → slice_get v.live (64 * (row * v.stride) + k) ≡ Some (bit_at (word_at words (base + k / 64)).dead (k % 64) == 0)
live_of words weights stride height room v row k base is f =
    let word : (64 * (row * stride) + k) / 64 ≡ base + k / 64 = omega (arith, f.base_is) in
    let bit : (64 * (row * stride) + k) % 64 ≡ k % 64 = omega (arith, word, f.base_is) in
    let p = 64 * (row * stride) + k in
    let long = length-map-range_with_len (λ k. dead_at words k == 0) 0 (length weights) in
    ap (λ (v : Ranked). slice_get v.live (64 * (row * v.stride) + k)) (sym is)
    ∙ slice_get-get_or (lives words (length weights)) p true (omega (arith, long, f.position))
    ∙ ap (λ b. Some b) (get_or-map-range_with_len (λ k. dead_at words k == 0) 0 (length weights) p p true f.position (omega arith))
    ∙ ap₂ (λ e r. Some (bit_at (word_at words e).dead r == 0)) word bit

-- the same of what the struct has
module _ (i : Inside) (v : Ranked) (is : seen i.store.words.items i.store.weights.items i.stride i.height i.store.weights.capacity ≡ v)
    (kept : IsKept i.store.words i.store.weights i.stride i.height i.cursor) (row : ℕ) where
  pub read_in : (start to base : ℕ) → IsFront v row start to → start < to → base ≡ row * v.stride
      → IsRead i.store.words.items i.store.weights.items i.stride i.height row start to base (base + start / 64) (base + (to - 1) / 64)
  read_in start to base front some base_at =
      read i.store.words.items i.store.weights.items i.stride i.height i.store.weights.capacity v row start to base (base + start / 64) (base + (to - 1) / 64) is
      front some base_at refl refl kept.entries (omega (arith, kept.within, kept.small)) kept.low kept.trees

  pub found_in : (k base : ℕ) → IsPlace v row k → base ≡ row * v.stride → IsFound i.store.words.items i.store.weights.items i.stride row k base
  found_in k base place base_at =
      found i.store.words.items i.store.weights.items i.stride i.height i.store.weights.capacity v row k base is place base_at kept.entries
