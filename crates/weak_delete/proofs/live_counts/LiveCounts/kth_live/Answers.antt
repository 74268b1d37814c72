use Rattle.std.proofs.Common.{◌≡◌, ℕ, ◌+◌, ◌-◌, ◌*◌, ◌/◌, ◌^◌, ◌<◌, ◌≤◌, List, length, take, get_or, ap, sym, subst, ◌∙◌, arith, refl}
use Rattle.std.specs.List.{count_by}
use Rattle.std.specs.Int.{bit_at}
use Rattle.std.proofs.lemmas.List.{take_all, get_or_read, length-take}
use Rattle.std.proofs.lemmas.List.Sums.{count_by-le-length}
use Rattle.std.proofs.lemmas.Nat.{pow_pos}
use Rattle.query_laws.specs.StepLedger.{Spends}
use Rattle.query_laws.proofs.Counting.{Spends-nothing, Spends-one_touch, Spends-then, Spends-within}
use Rattle.row_blocks.proofs.Blocks.{halved, zero_multiple}
use Rattle.weak_delete.specs.declared.place.Place.{Place}
use Rattle.weak_delete.specs.Places.{LivePlaces, is_live, IsLive}
use Rattle.weak_delete.specs.declared.live_counts.LiveCounts.TheInside.{Inside}
use Rattle.weak_delete.specs.Packed.{live_bits}
use Rattle.weak_delete.specs.Fenwick.{IsFenwick}
use Rattle.weak_delete.proofs.Packing.{length-packed, count_by-slots, count_by-entry-le, slot_within, slot_live}
use Rattle.weak_delete.proofs.Opened.{IsOpened, opened, places_of}
use Rattle.weak_delete.proofs.live_counts.LiveCounts.kth_live.Goals as goal

pub returns-then-j-self-clause-none : goal.returns-then-j-self-clause-none
returns-then-j-self-clause-none g c =
    let o = opened c.self.inside c.args.self.now c.self.view_is in
    let kept = c.self.invariant in
    let all = ap (count_by is_live) (take_all c.self.inside.len (places_of c.self.inside) (omega (arith, o.count))) in
    ((λ e. omega (arith, kept.total_over.count, all, ap (count_by is_live) o.places)), (λ h. refl))

pub loop-height-init : goal.loop-height-init
loop-height-init g c =
    let o = opened c.self.inside c.args.self.now c.self.view_is in
    let kept = c.self.invariant in
    let old = places_of c.self.inside in
    let all = ap (count_by is_live) (take_all c.self.inside.len old (omega (arith, o.count))) in
    let whole = ap (count_by is_live) (take_all (16 * (0 + 2 ^ c.height_above-height.result)) old (omega (arith, o.count, c.height_above-height.ensures.above))) in
    record {
      block = zero_multiple c.height_above-height.result;
      within = omega arith;
      lower = omega arith;
      counted = omega arith;
      next = subst (λ (ps : List Place). c.args.j < count_by is_live (take (16 * (0 + 2 ^ c.height_above-height.result)) ps)) o.places
          (omega (arith, kept.total_over.count, all, whole, c.if-j-self.false));
      spent = Spends-within (Spends-nothing c.args.steps.now) refl refl (omega arith);
    }

pub half-count-requires-clause-within : goal.half-count-requires-clause-within
half-count-requires-clause-within g c =
    let o = opened c.self.inside c.args.self.now c.self.view_is in
    omega (arith, o.long)

pub half-count-requires-clause-half : goal.half-count-requires-clause-half
half-count-requires-clause-half g c =
    let block = halved _ _ _ c.loop-height.invariant.block c.loop-height-test.true (omega arith) c.block_len.ensures in
    omega (arith, block.own)

pub loop-height-preserved-then-count-rest : goal.loop-height-preserved-then-count-rest
loop-height-preserved-then-count-rest g c =
    let block = halved _ _ _ c.loop-height.invariant.block c.loop-height-test.true (omega arith) c.block_len.ensures in
    let over = c.half-count.ensures.over.count in
    record {
      block = block.second;
      within = c.if-end-last.true;
      lower = omega arith;
      counted = omega (arith, over, c.loop-height.invariant.counted);
      next =
          let same : c.loop-height.start + 2 ^ c.loop-height.height ≡ c.loop-height.start + c.block_len.result + 2 ^ (c.loop-height.height - 1) = omega (arith, block.twice, block.is) in
          subst (λ n. c.args.j < count_by is_live (take (16 * n) c.args.self.now.places)) same c.loop-height.invariant.next;
      spent = Spends-within (Spends-then c.loop-height.invariant.spent c.half-count.ensures.cost) refl refl (omega arith);
    }

pub loop-height-preserved-else-count-rest : goal.loop-height-preserved-else-count-rest
loop-height-preserved-else-count-rest g c =
    let block = halved _ _ _ c.loop-height.invariant.block c.loop-height-test.true (omega arith) c.block_len.ensures in
    record {
      block = block.first;
      within = c.loop-height.invariant.within;
      lower = omega arith;
      counted = c.loop-height.invariant.counted;
      next =
          let same : c.loop-height.start + c.block_len.result ≡ c.loop-height.start + 2 ^ (c.loop-height.height - 1) = omega (arith, block.is) in
          subst (λ n. c.args.j < count_by is_live (take (16 * n) c.args.self.now.places)) same
          (omega (arith, c.half-count.ensures.over.count, c.loop-height.invariant.counted, c.if-count-rest.false));
      spent = Spends-within (Spends-then c.loop-height.invariant.spent c.half-count.ensures.cost) refl refl (omega arith);
    }

pub loop-height-preserved : goal.loop-height-preserved
loop-height-preserved g c =
    let o = opened c.self.inside c.args.self.now c.self.view_is in
    let kept = c.self.invariant in
    let block = halved _ _ _ c.loop-height.invariant.block c.loop-height-test.true (omega arith) c.block_len.ensures in
    let old = places_of c.self.inside in
    let all = ap (count_by is_live) (take_all c.self.inside.len old (omega (arith, o.count))) in
    let whole = ap (count_by is_live) (take_all (16 * (c.loop-height.start + 2 ^ (c.loop-height.height - 1))) old (omega (arith, o.count, block.is))) in
    record {
      block = block.first;
      within = c.loop-height.invariant.within;
      lower = omega arith;
      counted = c.loop-height.invariant.counted;
      next = subst (λ (ps : List Place). c.args.j < count_by is_live (take (16 * (c.loop-height.start + 2 ^ (c.loop-height.height - 1))) ps)) o.places
          (omega (arith, kept.total_over.count, all, whole, c.if-j-self.false));
      spent = Spends-within c.loop-height.invariant.spent refl refl (omega arith);
    }

-- the entry that is left: its mask, and that enough places are live
entry_is : (inside : Inside) (j start mask : ℕ)
    → IsFenwick (places_of inside) inside.weights inside.masks inside.nodes inside.total inside.cap inside.len inside.unturned inside.sealed
    → j < inside.total.count → start ≤ (inside.len - 1) / 16 → mask ≡ get_or inside.masks.items start mask
    → (j < count_by is_live (places_of inside)) × (get_or inside.masks.items start 0 ≡ mask) × (16 * start ≤ inside.len)
entry_is inside j start mask kept some within read =
    let old = places_of inside in
    let count = length-packed inside.weights.items inside.masks.items inside.len in
    let all = ap (count_by is_live) (take_all inside.len old (omega (arith, count))) in
    let there : start < length inside.masks.items =
    omega (arith, kept.mask_each, kept.node_each, some, within, kept.total_over.count, count_by-le-length is_live (take inside.len old), length-take inside.len old) in
    (omega (arith, kept.total_over.count, all, some), sym (get_or_read inside.masks.items start mask there read 0), omega arith)

-- the slot that is found in it
slot_is : (inside : Inside) (s : LivePlaces) (j start mask rest slot : ℕ) → IsOpened inside s → (j < count_by is_live (places_of inside)) × (get_or inside.masks.items start 0 ≡ mask) × (16 * start ≤ inside.len)
    → count_by is_live (take (16 * start) s.places) + rest ≡ j → slot < 16 → live_bits mask slot ≡ rest → bit_at mask slot ≡ 1
    → IsLive s.places (16 * start + slot) × (count_by is_live (take (16 * start + slot) s.places) ≡ j)
slot_is inside s j start mask rest slot o entry counted small rank live =
    let weights = inside.weights.items in
    let masks = inside.masks.items in
    let bits = ap (λ m. live_bits m slot) entry.1 in
    let before = ap (λ (ps : List Place). count_by is_live (take (16 * start) ps)) o.places in
    let within : 16 * start + slot < inside.len = slot_within weights masks inside.len start slot entry.2 small (omega (arith, bits, before, entry.0, counted, rank)) in
    let all = count_by-slots weights masks inside.len start slot (omega (arith, small)) (omega (arith, within)) in (
      subst (λ (ps : List Place). IsLive ps (16 * start + slot)) o.places (slot_live weights masks inside.len start slot small within (ap (λ m. bit_at m slot) entry.1 ∙ live)),
      subst (λ (ps : List Place). count_by is_live (take (16 * start + slot) ps) ≡ j) o.places (omega (arith, all, bits, before, counted, rank)),
    )

pub nth_live-requires : goal.nth_live-requires
nth_live-requires g c =
    let o = opened c.self.inside c.args.self.now c.self.view_is in
    let last : c.loop-height.height ≡ 0 = omega arith in
    let one : c.loop-height.start + 2 ^ c.loop-height.height ≡ c.loop-height.start + 1 = ap (λ i. c.loop-height.start + 2 ^ i) last in
    let next = subst (λ n. c.args.j < count_by is_live (take (16 * n) c.args.self.now.places)) one c.loop-height.invariant.next in
    let entry = entry_is c.self.inside c.args.j c.loop-height.start c.at-mask.result c.self.invariant c.if-j-self.false c.loop-height.invariant.within c.at-mask.ensures.read_or in
    omega (
      arith,
      next,
      c.loop-height.invariant.counted,
      ap (λ (ps : List Place). count_by is_live (take (16 * (c.loop-height.start + 1)) ps)) o.places,
      ap (λ (ps : List Place). count_by is_live (take (16 * c.loop-height.start) ps)) o.places,
      count_by-entry-le c.self.inside.weights.items c.self.inside.masks.items c.self.inside.len c.loop-height.start (omega arith),
      ap (λ m. live_bits m 16) entry.1,
    )

pub returns-clause-found : goal.returns-clause-found
returns-clause-found g c =
    let entry = entry_is c.self.inside c.args.j c.loop-height.start c.at-mask.result c.self.invariant c.if-j-self.false c.loop-height.invariant.within c.at-mask.ensures.read_or in
    (slot_is c.self.inside c.args.self.now c.args.j c.loop-height.start c.at-mask.result c.loop-height.rest c.nth_live.result (opened c.self.inside c.args.self.now c.self.view_is) entry
    c.loop-height.invariant.counted c.nth_live.ensures.within (omega (arith, c.nth_live.ensures.rank)) c.nth_live.ensures.live).0

pub returns-clause-rank : goal.returns-clause-rank
returns-clause-rank g c =
    let entry = entry_is c.self.inside c.args.j c.loop-height.start c.at-mask.result c.self.invariant c.if-j-self.false c.loop-height.invariant.within c.at-mask.ensures.read_or in
    (slot_is c.self.inside c.args.self.now c.args.j c.loop-height.start c.at-mask.result c.loop-height.rest c.nth_live.result (opened c.self.inside c.args.self.now c.self.view_is) entry
    c.loop-height.invariant.counted c.nth_live.ensures.within (omega (arith, c.nth_live.ensures.rank)) c.nth_live.ensures.live).1

pub returns-clause-cost : goal.returns-clause-cost
returns-clause-cost g c h few =
    let o = opened c.self.inside c.args.self.now c.self.view_is in
    let low : c.height_above-height.result ≤ h = c.height_above-height.ensures.lowest h (omega (arith, o.long, pow_pos h)) in
    Spends-within (Spends-then c.loop-height.invariant.spent (subst (λ s. Spends c.loop-height.steps s 0 0 1) (sym c.at-mask.ensures.touched) (Spends-one_touch c.loop-height.steps)))
    (omega arith) (omega arith) (omega arith)
