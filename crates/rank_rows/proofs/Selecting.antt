-- The live place of a block with so many live ones before it.
use Rattle.std.proofs.Common.{◌≡◌, ℕ, ◌+◌, ◌-◌, ◌*◌, ◌/◌, ◌%◌, ◌^◌, ◌<◌, ◌≤◌, ◌==◌, inl, inr, List, true, length, min, sym, ap, ap₂, ◌∙◌, get_or, refl, arith}
use Rattle.std.specs.Prelude.{slice_get, Some}
use Rattle.std.specs.Int.{bit_at}
use Rattle.std.proofs.lemmas.Bool.{cases_lt}
use Rattle.std.proofs.lemmas.List.{get_or_read}
use Rattle.std.proofs.lemmas.Nat.Bits.{bit_at-lt}
use Rattle.std.proofs.lemmas.Option.{slice_get-get_or}
use Rattle.std.proofs.lemmas.List.FromFn.{length-map-range_with_len, get_or-map-range_with_len}
use Rattle.rank_rows.specs.declared.word.Word.{Word}
use Rattle.rank_rows.specs.declared.ranks.RankRows.TheInside.{Inside}
use Rattle.rank_rows.specs.declared.dead.Held.{Held}
use Rattle.rank_rows.specs.Totals.{total}
use Rattle.rank_rows.specs.Words.{word_at, no_word, dead_at, dead_before}
use Rattle.rank_rows.specs.Nodes.{HasMore, IsHolder}
use Rattle.rank_rows.specs.Ranked.{Ranked, lives, IsFront, IsKept, slice_of, how_many, block_height}
use Rattle.rank_rows.proofs.Sums.{total-from, total-le, dead_upto-le}
use Rattle.rank_rows.proofs.Lists.{how_many-zeros}
use Rattle.rank_rows.proofs.Reading.{seen, IsRead, live-front, read_in}

-- the dead of a word's first places
pub dead_in : (words : List Word) (e r : ℕ) → r ≤ 64 → total (dead_at words) (64 * e + r) ≡ dead_before words e + total (bit_at (word_at words e).dead) r
dead_in words e r small =
    total-from (dead_at words) (bit_at (word_at words e).dead) (64 * e) r
    (λ k low. (let word : (64 * e + k) / 64 ≡ e = omega arith in let bit : (64 * e + k) % 64 ≡ k = omega arith in
    ap₂ (λ w i. bit_at (word_at words w).dead i) word bit))

pub next_word : (words : List Word) (e : ℕ) → dead_before words (e + 1) ≡ dead_before words e + total (bit_at (word_at words e).dead) 64
next_word words e = ap (total (dead_at words)) (let is : 64 * (e + 1) ≡ 64 * e + 64 = omega arith in is) ∙ dead_in words e 64 (omega arith)

-- a live place of a front with so many live ones before it
pub record IsNth (v : Ranked) (row start to rank k : ℕ) : Type 0 where
  pub from : start ≤ k
  pub within : k < to
  pub live : slice_get v.live (64 * (row * v.stride) + k) ≡ Some true
  pub ranked : how_many (slice_of v v.live row start k) ≡ rank

module _ (words : List Word) (weights : List ℕ) (stride height room : ℕ) (v : Ranked) (row start to rank : ℕ) (is : seen words weights stride height room ≡ v)
    (front : IsFront v row start to) (more : rank < how_many (slice_of v v.live row start to)) where
  abbrev place : ℕ → ℕ
  place k = 64 * (row * stride) + k

  live-to : how_many (slice_of v v.live row start to) + total (dead_at words) (place to) + start ≡ to + total (dead_at words) (place start)
  live-to = live-front words weights stride height room v row start to is front

  -- the front isn't empty
  pub some : start < to
  some = omega (arith, live-to, more, total-le (dead_at words) (place start) (place to) (omega (arith, front.from)))

  module _ (base first at : ℕ) (read : IsRead words weights stride height row start to base first at) where
    dead_first : total (dead_at words) (place start) ≡ dead_before words first
    dead_first = ap (total (dead_at words)) (sym read.first_is)

    last : min (first + 2 ^ block_height height row) (at + 1) ≡ at + 1
    last = omega (arith, read.word.block)

    pub has_more : HasMore (dead_before words) first (min (first + 2 ^ block_height height row) (at + 1)) rank
    has_more =
        omega (
          arith,
          last,
          ap (dead_before words) last,
          live-to,
          more,
          dead_first,
          read.first_is,
          dead_upto-le words (place to) (64 * (at + 1)) (omega (arith, read.bits)),
        )

    module _ (held : Held) (bit k : ℕ) (holder : IsHolder (dead_before words) first (min (first + 2 ^ block_height height row) (at + 1)) rank held) (small : bit < 64)
        (clear : bit_at (word_at words held.at).dead bit ≡ 0) (ranked : held.rest + total (bit_at (word_at words held.at).dead) bit ≡ bit)
        (k_is : k ≡ (held.at - base) * 64 + bit) where
      here : place k ≡ 64 * held.at + bit
      here = omega (arith, k_is, read.base_is, read.first_is, holder.from)

      dead_here : total (dead_at words) (place k) ≡ dead_before words held.at + total (bit_at (word_at words held.at).dead) bit
      dead_here = ap (total (dead_at words)) here ∙ dead_in words held.at bit (omega (arith, small))

      within : k < to
      within = elim (cases_lt k to) [
        | inl low ↦ low
        | inr past ↦
            (let no : ⊥ = omega (
              arith,
              live-to,
              more,
              dead_upto-le words (place to) (place k) (omega (arith, past)),
              here,
              dead_here,
              holder.ranked,
              ranked,
              dead_first,
              read.first_is,
            ) in absurd no)
      ]

      pub IsNth-held : IsNth v row start to rank k
      IsNth-held = record {
        from = omega (arith, here, read.first_is, holder.from);
        within = within;
        live =
            (let p = place k in
            let word : p / 64 ≡ held.at = omega (arith, here, small) in
            let at_bit : p % 64 ≡ bit = omega (arith, here, small, word) in
            let long = length-map-range_with_len (λ j. dead_at words j == 0) 0 (length weights) in
            let inside : p < length weights = omega (arith, read.few, within) in
            ap (λ (u : Ranked). slice_get u.live (64 * (row * u.stride) + k)) (sym is)
            ∙ slice_get-get_or (lives words (length weights)) p true (omega (arith, long, inside))
            ∙ ap (λ b. Some b) (get_or-map-range_with_len (λ j. dead_at words j == 0) 0 (length weights) p p true inside (omega arith))
            ∙ ap (λ b. Some (b == 0)) (ap₂ (λ e i. bit_at (word_at words e).dead i) word at_bit ∙ clear));
        ranked =
            omega (
              arith,
              ap (λ (u : Ranked). how_many (slice_of u u.live row start k)) is,
              how_many-zeros (dead_at words) (λ j. bit_at-lt (word_at words (j / 64)).dead (j % 64)) (length weights) (place start) (place k)
                  (omega (arith, here, read.first_is, holder.from)) (omega (arith, read.few, within)),
              here,
              dead_here,
              holder.ranked,
              ranked,
              dead_first,
              read.first_is,
            );
      }

-- the same of what the struct has
module _ (i : Inside) (v : Ranked) (is : seen i.store.words.items i.store.weights.items i.stride i.height i.store.weights.capacity ≡ v)
    (kept : IsKept i.store.words i.store.weights i.stride i.height i.cursor) (row start to rank base : ℕ) (front : IsFront v row start to)
    (more : rank < how_many (slice_of v v.live row start to)) (base_at : base ≡ row * v.stride) where
  pub read_some : IsRead i.store.words.items i.store.weights.items i.stride i.height row start to base (base + start / 64) (base + (to - 1) / 64)
  read_some =
      read_in i v is kept row start to base front (some i.store.words.items i.store.weights.items i.stride i.height i.store.weights.capacity v row start to rank is front more) base_at

  pub more_in : HasMore (dead_before i.store.words.items) (base + start / 64) (min (base + start / 64 + 2 ^ block_height i.height row) (base + (to - 1) / 64 + 1)) rank
  more_in =
      has_more i.store.words.items i.store.weights.items i.stride i.height i.store.weights.capacity v row start to rank is front more base (base + start / 64)
      (base + (to - 1) / 64) read_some

  module _ (held : Held) (word : Word)
      (holder : IsHolder (dead_before i.store.words.items) (base + start / 64) (min (base + start / 64 + 2 ^ block_height i.height row) (base + (to - 1) / 64 + 1)) rank held) where
    pub there : held.at < length i.store.words.items
    there = omega (arith, holder.within, read_some.word.within)

    pub nth_in : (bit : ℕ) → word ≡ get_or i.store.words.items held.at word → bit < 64 → bit_at word.dead bit ≡ 0 → held.rest + total (bit_at word.dead) bit ≡ bit
        → IsNth v row start to rank ((held.at - base) * 64 + bit)
    nth_in bit read small clear ranked =
        let same = ap (λ (w : Word). bit_at w.dead) (sym (get_or_read i.store.words.items held.at word there read no_word)) in
        IsNth-held i.store.words.items i.store.weights.items i.stride i.height i.store.weights.capacity v row start to rank is front more base (base + start / 64)
        (base + (to - 1) / 64) read_some held bit ((held.at - base) * 64 + bit) holder small (ap (λ (f : ℕ → ℕ). f bit) same ∙ clear)
        (ap (λ (f : ℕ → ℕ). held.rest + total f bit) same ∙ ranked) refl

    pub more_bits : word ≡ get_or i.store.words.items held.at word → held.rest + total (bit_at word.dead) 64 < 64
    more_bits read =
        omega (
          arith,
          holder.less,
          next_word i.store.words.items held.at,
          ap (λ (w : Word). total (bit_at w.dead) 64) (get_or_read i.store.words.items held.at word there read no_word),
        )
