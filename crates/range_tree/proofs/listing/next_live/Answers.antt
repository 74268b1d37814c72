use Rattle.std.proofs.Common.{◌≡◌, ℕ, suc, ◌+◌, ◌-◌, ◌*◌, ◌<◌, ◌≤◌, ◌⊎◌, inl, inr, Bool, true, cond, List, ◌∷◌, take, drop, Some, slice_get, slice_range, ap, ap₂, ◌∙◌, arith}
use Rattle.std.proofs.lemmas.Bool.{cases_lt}
use Rattle.std.proofs.lemmas.List.{drop_more}
use Rattle.std.proofs.lemmas.List.Sums.{sum_by-cons, sum_by-append}
use Rattle.std.proofs.lemmas.Option.{slice_get_within, get_or_from_slice_get}
use Rattle.rank_rows.specs.Ranked.{how_many}
use Rattle.range_tree.proofs.RowSlices.{slice_range-append}
use Rattle.range_tree.proofs.listing.next_live.Goals as goal

-- a live place counts before all behind it
live_behind : (xs : List Bool) (start at end : ℕ) → start ≤ at → at < end → slice_get xs at ≡ Some true
    → how_many (slice_range xs start at) < how_many (slice_range xs start end)
live_behind xs start at end first less live =
    let inside = slice_get_within xs at true live in
    let more : end - at ≡ suc (end - at - 1) = omega arith in
    let here : slice_range xs at end ≡ true ∷ take (end - at - 1) (drop (at + 1) xs) =
    ap₂ (λ n l. take n l) more (drop_more xs at true inside)
    ∙ ap (λ b. b ∷ take (end - at - 1) (drop (at + 1) xs)) (get_or_from_slice_get xs at true true live) in
    omega (
      arith,
      ap how_many (slice_range-append xs start at end first (omega arith)),
      sum_by-append (λ (b : Bool). cond b 1 0) (slice_range xs start at) (slice_range xs at end),
      ap how_many here,
      sum_by-cons (λ (b : Bool). cond b 1 0) true (take (end - at - 1) (drop (at + 1) xs)),
    )

pub is_live-requires : goal.is_live-requires
is_live-requires g c = record {
  there = omega (arith, c.requires.front.there, c.requires.inside);
  within = omega (arith, c.requires.front.within, c.requires.inside);
  high = c.requires.front.high;
}

pub returns-clause-from : goal.returns-clause-from
returns-clause-from g c = by (cases_lt c.nth_live.result c.args.k)
  where
    by : (c.nth_live.result < c.args.k) ⊎ (c.args.k ≤ c.nth_live.result) → c.args.k ≤ c.nth_live.result
    by (inr from) = from
    by (inl less) =
        absurd (omega (
          arith,
          live_behind c.args.ranks.now.live (64 * (c.args.row * c.args.ranks.now.stride) + c.args.start) (64 * (c.args.row * c.args.ranks.now.stride) + c.nth_live.result)
              (64 * (c.args.row * c.args.ranks.now.stride) + c.args.k) (omega (arith, c.nth_live.ensures.from)) (omega (arith, less)) c.nth_live.ensures.live,
          c.nth_live.ensures.ranked,
          c.requires.ranked,
        ))
