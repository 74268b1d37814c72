use Rattle.std.proofs.Common.{◌≡◌, ℕ, ◌+◌, ◌-◌, ◌*◌, ◌/◌, ◌%◌, ◌^◌, ◌<◌, ◌≤◌, List, [], length, get_or, set, length-set, arith, ap, ap₂, subst, sym, refl, ◌∙◌, true, cond}
use Rattle.std.specs.Int.{bit_at}
use Rattle.std.proofs.lemmas.Bool.{both_ways}
use Rattle.std.proofs.lemmas.List.{get_or_read}
use Rattle.query_laws.specs.StepLedger.{Entries, Spends}
use Rattle.query_laws.proofs.Counting.{Spends-nothing, Spends-then, Spends-one_touch, Spends-within}
use Rattle.row_blocks.proofs.Blocks.{halved, zero_multiple}
use Rattle.weak_delete.specs.declared.place.Place.{Place}
use Rattle.weak_delete.specs.declared.live_counts.Node.{Node}
use Rattle.weak_delete.specs.declared.live_counts.LiveCounts.TheInside.{Inside}
use Rattle.weak_delete.specs.Places.{LivePlaces, IsLive, cleared, no_place}
use Rattle.weak_delete.specs.Packed.{packed}
use Rattle.weak_delete.specs.Fenwick.{AreNodes, IsFenwick, IsOver, entries_for}
use Rattle.weak_delete.proofs.Nodes.{IsClearing, IsClearing-begin, IsClearing-second, IsClearing-first, IsClearing-cut, IsClearing-end, IsClearing-node, IsOver-cleared-inside, node-of-live, sum-cleared-le, live_within, unturned-none}
use Rattle.weak_delete.proofs.Packing.{get_or-packed, packed-cleared}
use Rattle.weak_delete.proofs.Opened.{opened, IsOpened, places_of}
use Rattle.weak_delete.proofs.live_counts.LiveCounts.clear.Goals as goal

pub at-weights-requires : goal.at-weights-requires
at-weights-requires g c =
    let o = opened c.self.inside c.args.self.now c.self.view_is in
    let kept = c.self.invariant in
    omega (arith, live_within c.args.self.now.places c.args.k c.requires.live, o.long, kept.node_each, kept.weights_each)

-- the place that is taken out, as its entry has it
taken_of : (inside : Inside) (s : LivePlaces) (k : ℕ) (entry : List ℕ) → IsOpened inside s → IsLive s.places k → length inside.weights.items ≡ entries_for inside.len
    → entry ≡ get_or inside.weights.items (k / 16) entry
    → IsLive (places_of inside) k × (k < inside.len) × (get_or entry (k % 16) 0 ≡ (get_or (places_of inside) k no_place).amount)
taken_of inside s k entry o live as_many read =
    let here : IsLive (places_of inside) k = subst (λ (ps : List Place). IsLive ps k) (sym o.places) live in
    let within : k < inside.len = omega (arith, live_within (places_of inside) k here, o.count) in
    let is : get_or inside.weights.items (k / 16) [] ≡ entry = sym (get_or_read inside.weights.items (k / 16) entry (omega arith) read []) in (
      here,
      within,
      ap (λ (e : List ℕ). get_or e (k % 16) 0) (sym is)
          ∙ sym (ap (λ (p : Place). p.amount) (get_or-packed inside.weights.items inside.masks.items inside.len k no_place within)),
    )

-- the places afterwards
places_cleared : (weights weights' : Entries (List ℕ)) (masks masks' written : Entries ℕ) (n n' k mask without : ℕ) → weights' ≡ weights → masks' ≡ masks → n' ≡ n
    → written ≡ record masks' { items = set masks'.items (k / 16) without } → k < n → k / 16 < length masks.items → mask ≡ get_or masks'.items (k / 16) mask
    → bit_at without (k % 16) ≡ 0 → ((j : ℕ) → j < 16 → (j ≡ k % 16 → ⊥) → bit_at without j ≡ bit_at mask j)
    → packed weights'.items written.items n' ≡ cleared (packed weights.items masks.items n) k
places_cleared weights weights' masks masks' written n n' k mask without same same_masks same_len is within there read dead others =
    let at : get_or masks.items (k / 16) 0 ≡ mask =
    sym (get_or_read masks.items (k / 16) mask there (read ∙ ap (λ (m : Entries ℕ). get_or m.items (k / 16) mask) same_masks) 0) in
    ap₂ (λ (w : Entries (List ℕ)) m. packed w.items m n') same
    (ap (λ (m : Entries ℕ). m.items) is ∙ ap (λ (m : Entries ℕ). set m.items (k / 16) without) same_masks)
    ∙ ap (packed weights.items (set masks.items (k / 16) without)) same_len
    ∙ packed-cleared weights.items masks.items n k without within there dead
    (λ j small apart. others j small apart ∙ ap (λ m. bit_at m j) (sym at))

pub loop-height-init : goal.loop-height-init
loop-height-init g c =
    let o = opened c.self.inside c.args.self.now c.self.view_is in
    let kept = c.self.invariant in
    let inside = c.self.inside in
    let old = places_of inside in
    let taken = taken_of c.self.inside c.args.self.now c.args.k c.at-weights.result o c.requires.live (kept.weights_each ∙ kept.node_each) c.at-weights.ensures.read_or in
    let sealed : inside.sealed ≡ true = o.sealed ∙ c.requires.built.sealed in
    let none : inside.unturned ≡ 0 = unturned-none _ _ _ o.left sealed c.requires.built.turned in
    let built : AreNodes old inside.nodes.items 0 = subst (AreNodes old inside.nodes.items) (let no : entries_for inside.unturned ≡ 0 = omega arith in no) kept.nodes_over in
    record {
      block = zero_multiple c.height_above-height.result;
      from = omega arith;
      before = omega (arith, c.height_above-height.ensures.above, kept.node_each, taken.1, c.len-entries.ensures.value);
      lower = omega arith;
      long = c.len-entries.ensures.value;
      kept = refl;
      room = refl;
      node_each = refl;
      clearing = IsClearing-begin built refl (omega (arith, c.height_above-height.ensures.above, c.len-entries.ensures.value));
      spent = Spends-within (Spends-nothing c.at-weights.new.steps) refl refl (omega arith);
    }

pub loop-height-preserved-then-end-entry : goal.loop-height-preserved-then-end-entry
loop-height-preserved-then-end-entry g c =
    let o = opened c.self.inside c.args.self.now c.self.view_is in
    let kept = c.self.invariant in
    let taken = taken_of c.self.inside c.args.self.now c.args.k c.at-weights.result o c.requires.live (kept.weights_each ∙ kept.node_each) c.at-weights.ensures.read_or in
    let now = c.loop-height.invariant in
    let block = halved _ _ _ now.block c.loop-height-test.true (omega arith) c.block_len.ensures in
    record {
      block = block.second;
      from = c.if-end-entry.true;
      before = omega (arith, block.twice, block.is);
      lower = omega arith;
      long = now.long;
      kept = now.kept;
      room = now.room;
      node_each = now.node_each;
      clearing = IsClearing-second taken.0 now.clearing block c.if-end-entry.true;
      spent = Spends-within now.spent refl refl (omega arith);
    }

pub overflow_sub-node : goal.overflow_sub-node
overflow_sub-node g c =
    let o = opened c.self.inside c.args.self.now c.self.view_is in
    let kept = c.self.invariant in
    let taken = taken_of c.self.inside c.args.self.now c.args.k c.at-weights.result o c.requires.live (kept.weights_each ∙ kept.node_each) c.at-weights.ensures.read_or in
    let now = c.loop-height.invariant in
    let block = halved _ _ _ now.block c.loop-height-test.true (omega arith) c.block_len.ensures in
    let over = IsClearing-node _ now.clearing block (omega arith) c.at-node.ensures.read_or in
    (node-of-live _ _ taken.0 _ _ _ (omega arith) (omega (arith, c.if-end-entry.false)) over).0

pub overflow_sub-node-then-end-entries : goal.overflow_sub-node-then-end-entries
overflow_sub-node-then-end-entries g c =
    let o = opened c.self.inside c.args.self.now c.self.view_is in
    let kept = c.self.invariant in
    let taken = taken_of c.self.inside c.args.self.now c.args.k c.at-weights.result o c.requires.live (kept.weights_each ∙ kept.node_each) c.at-weights.ensures.read_or in
    let now = c.loop-height.invariant in
    let block = halved _ _ _ now.block c.loop-height-test.true (omega arith) c.block_len.ensures in
    let over = IsClearing-node _ now.clearing block (omega arith) c.at-node.ensures.read_or in
    omega (arith, taken.2, (node-of-live _ _ taken.0 _ _ _ (omega arith) (omega (arith, c.if-end-entry.false)) over).1)

pub loop-height-preserved-then-end-entries : goal.loop-height-preserved-then-end-entries
loop-height-preserved-then-end-entries g c =
    let o = opened c.self.inside c.args.self.now c.self.view_is in
    let kept = c.self.invariant in
    let inside = c.self.inside in
    let old = places_of inside in
    let taken = taken_of c.self.inside c.args.self.now c.args.k c.at-weights.result o c.requires.live (kept.weights_each ∙ kept.node_each) c.at-weights.ensures.read_or in
    let now = c.loop-height.invariant in
    let block = halved _ _ _ now.block c.loop-height-test.true (omega arith) c.block_len.ensures in
    let over = IsClearing-node _ now.clearing block (omega arith) c.at-node.ensures.read_or in
    let of_live = node-of-live _ _ taken.0 _ _ _ (omega arith) (omega (arith, c.if-end-entry.false)) over in
    let less : Node = record { count = c.at-node.result.count - 1; weight = c.at-node.result.weight - get_or c.at-weights.result (c.args.k % 16) 0 } in
    let first : Spends c.loop-height.steps c.at-node.new.steps 0 0 1 = subst (λ s. Spends c.loop-height.steps s 0 0 1) (sym c.at-node.ensures.touched) (Spends-one_touch _) in
    let second : Spends c.at-node.new.steps c.set.new.steps 0 0 1 = subst (λ s. Spends c.at-node.new.steps s 0 0 1) (sym c.set.ensures.touched) (Spends-one_touch _) in
    let items : c.set.new.self.items ≡ set c.loop-height.self-inside.nodes.items (c.loop-height.start + c.block_len.result - 1) less = ap (λ (r : Entries Node). r.items) c.set.ensures.written in
    record {
      block = block.first;
      from = now.from;
      before = omega (arith, block.is);
      lower = omega arith;
      long = now.long ∙ sym (ap length items ∙ length-set c.loop-height.self-inside.nodes.items (c.loop-height.start + c.block_len.result - 1) less);
      kept = ap (λ (s : Inside). record s { nodes = c.set.new.self }) now.kept;
      room = ap (λ (r : Entries Node). r.capacity) c.set.ensures.written ∙ now.room;
      node_each = ap length items ∙ length-set c.loop-height.self-inside.nodes.items (c.loop-height.start + c.block_len.result - 1) less ∙ now.node_each;
      clearing = subst (λ l. IsClearing old c.args.k l c.loop-height.start (c.loop-height.height - 1)) (sym items)
          (IsClearing-first c.at-node.result less taken.0 now.clearing block (omega arith) now.from c.if-end-entry.false (omega arith) c.at-node.ensures.read_or
          (omega (arith, of_live.0)) (omega (arith, of_live.1, taken.2)));
      spent = Spends-within (Spends-then (Spends-then now.spent first) second) refl refl (omega arith);
    }

pub loop-height-preserved : goal.loop-height-preserved
loop-height-preserved g c =
    let now = c.loop-height.invariant in
    let block = halved _ _ _ now.block c.loop-height-test.true (omega arith) c.block_len.ensures in
    record {
      block = block.first;
      from = now.from;
      before = omega (arith, block.is);
      lower = omega arith;
      long = now.long;
      kept = now.kept;
      room = now.room;
      node_each = now.node_each;
      clearing = IsClearing-cut now.clearing block (omega arith);
      spent = Spends-within now.spent refl refl (omega arith);
    }

pub overflow_sub-self : goal.overflow_sub-self
overflow_sub-self g c =
    let o = opened c.self.inside c.args.self.now c.self.view_is in
    let kept = c.self.invariant in
    let inside = c.self.inside in
    let old = places_of inside in
    let taken = taken_of c.self.inside c.args.self.now c.args.k c.at-weights.result o c.requires.live (kept.weights_each ∙ kept.node_each) c.at-weights.ensures.read_or in
    let same = ap (λ (s : Inside). s.total.count) c.loop-height.invariant.kept in
    omega (arith, same, (node-of-live old c.args.k taken.0 0 inside.len inside.total (omega arith) taken.1 kept.total_over).0)

pub overflow_sub-self-2 : goal.overflow_sub-self-2
overflow_sub-self-2 g c =
    let o = opened c.self.inside c.args.self.now c.self.view_is in
    let kept = c.self.invariant in
    let inside = c.self.inside in
    let old = places_of inside in
    let taken = taken_of c.self.inside c.args.self.now c.args.k c.at-weights.result o c.requires.live (kept.weights_each ∙ kept.node_each) c.at-weights.ensures.read_or in
    let same = ap (λ (s : Inside). s.total.weight) c.loop-height.invariant.kept in
    omega (arith, same, taken.2, (node-of-live old c.args.k taken.0 0 inside.len inside.total (omega arith) taken.1 kept.total_over).1)

pub at-mask-requires : goal.at-mask-requires
at-mask-requires g c =
    let o = opened c.self.inside c.args.self.now c.self.view_is in
    let kept = c.self.invariant in
    let same = ap (λ (s : Inside). length s.masks.items) c.loop-height.invariant.kept in
    omega (arith, same, live_within c.args.self.now.places c.args.k c.requires.live, o.long, kept.node_each, kept.mask_each)

pub set-requires-2 : goal.set-requires-2
set-requires-2 g c =
    let o = opened c.self.inside c.args.self.now c.self.view_is in
    let kept = c.self.invariant in
    let same = ap (λ (s : Inside). length s.masks.items) c.loop-height.invariant.kept in
    omega (arith, same, live_within c.args.self.now.places c.args.k c.requires.live, o.long, kept.node_each, kept.mask_each)

pub invariant_of-self : goal.invariant_of-self
invariant_of-self g c =
    let o = opened c.self.inside c.args.self.now c.self.view_is in
    let kept = c.self.invariant in
    let inside = c.self.inside in
    let old = places_of inside in
    let taken = taken_of c.self.inside c.args.self.now c.args.k c.at-weights.result o c.requires.live (kept.weights_each ∙ kept.node_each) c.at-weights.ensures.read_or in
    let now = c.loop-height.invariant in
    let last = c.loop-height.self-inside in
    let after = places_cleared inside.weights last.weights inside.masks last.masks c.set-2.new.self inside.len last.len c.args.k c.at-mask.result c.without.result
    (ap (λ (s : Inside). s.weights) now.kept) (ap (λ (s : Inside). s.masks) now.kept) (ap (λ (s : Inside). s.len) now.kept) c.set-2.ensures.written taken.1
    (omega (arith, taken.1, kept.mask_each, kept.node_each)) c.at-mask.ensures.read_or c.without.ensures.dead c.without.ensures.others in
    let total : Node = record { count = last.total.count - 1; weight = last.total.weight - get_or c.at-weights.result (c.args.k % 16) 0 } in
    let of_live = node-of-live old c.args.k taken.0 0 inside.len inside.total (omega arith) taken.1 kept.total_over in
    let same_len : last.len ≡ inside.len = ap (λ (s : Inside). s.len) now.kept in
    let same_count = ap (λ (s : Inside). s.total.count) now.kept in
    let same_weight = ap (λ (s : Inside). s.total.weight) now.kept in
    let same_cap = ap (λ (s : Inside). s.cap) now.kept in
    let same_unturned = ap (λ (s : Inside). s.unturned) now.kept in
    let sealed : last.sealed ≡ true = ap (λ (s : Inside). s.sealed) now.kept ∙ o.sealed ∙ c.requires.built.sealed in
    let none : inside.unturned ≡ 0 = unturned-none _ _ _ o.left (o.sealed ∙ c.requires.built.sealed) c.requires.built.turned in
    let masks : length c.set-2.new.self.items ≡ length last.masks.items = ap (λ (r : Entries ℕ). length r.items) c.set-2.ensures.written ∙ length-set last.masks.items _ _ in
    let over : IsOver (cleared old c.args.k) 0 inside.len total =
    IsOver-cleared-inside old c.args.k taken.0 0 inside.len inside.total total (omega arith) taken.1 kept.total_over (omega (arith, of_live.0, same_count)) (omega (arith, of_live.1, same_weight, taken.2)) in
    let P : List Place → Type 0 = λ ps. IsFenwick ps last.weights c.set-2.new.self last.nodes total last.cap last.len last.unturned last.sealed in
    subst P (sym after) (record {
      node_each = omega (arith, now.node_each, kept.node_each, same_len);
      weights_each = omega (arith, ap (λ (s : Inside). length s.weights.items) now.kept, now.node_each, kept.weights_each);
      mask_each = omega (arith, masks, ap (λ (s : Inside). length s.masks.items) now.kept, now.node_each, kept.mask_each);
      within = omega (arith, same_len, same_cap, kept.within);
      room = omega (arith, now.room, same_cap, kept.room);
      room_weights = omega (arith, ap (λ (s : Inside). s.weights.capacity) now.kept, same_cap, kept.room_weights);
      room_masks = omega (arith, ap (λ (r : Entries ℕ). r.capacity) c.set-2.ensures.written, ap (λ (s : Inside). s.masks.capacity) now.kept, same_cap, kept.room_masks);
      few = omega (arith, same_cap, kept.few);
      small = omega (arith, same_len, ap (λ n. n * (2 ^ 32 - 1)) same_len, kept.small, sum-cleared-le old c.args.k (omega (arith, taken.1, o.count)));
      total_over = subst (λ n. IsOver (cleared old c.args.k) 0 n total) (sym same_len) over;
      unturned_within = omega (arith, same_len, same_unturned, kept.unturned_within);
      unsealed = λ e. absurd (both_ways last.sealed e sealed);
      all_live = λ e. absurd (both_ways last.sealed e sealed);
      nodes_over = subst (AreNodes (cleared old c.args.k) last.nodes.items) (let zero_left : 0 ≡ entries_for last.unturned = omega (arith, same_unturned, none) in zero_left)
          (IsClearing-end now.clearing (omega arith));
    })

pub returns-clause-cleared : goal.returns-clause-cleared
returns-clause-cleared g c =
    let o = opened c.self.inside c.args.self.now c.self.view_is in
    let kept = c.self.invariant in
    let inside = c.self.inside in
    let taken = taken_of c.self.inside c.args.self.now c.args.k c.at-weights.result o c.requires.live (kept.weights_each ∙ kept.node_each) c.at-weights.ensures.read_or in
    let now = c.loop-height.invariant in
    let last = c.loop-height.self-inside in
    let after = places_cleared inside.weights last.weights inside.masks last.masks c.set-2.new.self inside.len last.len c.args.k c.at-mask.result c.without.result
    (ap (λ (s : Inside). s.weights) now.kept) (ap (λ (s : Inside). s.masks) now.kept) (ap (λ (s : Inside). s.len) now.kept) c.set-2.ensures.written taken.1
    (omega (arith, taken.1, kept.mask_each, kept.node_each)) c.at-mask.ensures.read_or c.without.ensures.dead c.without.ensures.others in
    let left : cond last.sealed last.unturned 0 ≡ c.args.self.now.left = ap (λ (s : Inside). cond s.sealed s.unturned 0) now.kept ∙ o.left in
    ap₂ (λ (ps : List Place) n. record { places = ps; capacity = last.cap; sealed = last.sealed; left = n }) (after ∙ ap (λ (ps : List Place). cleared ps c.args.k) o.places) left
    ∙ ap₂ (λ n b. record { places = cleared c.args.self.now.places c.args.k; capacity = n; sealed = b; left = c.args.self.now.left })
    (ap (λ (s : Inside). s.cap) now.kept ∙ o.capacity) (ap (λ (s : Inside). s.sealed) now.kept ∙ o.sealed)

pub returns-clause-cost : goal.returns-clause-cost
returns-clause-cost g c h few =
    let o = opened c.self.inside c.args.self.now c.self.view_is in
    let kept = c.self.invariant in
    let low : c.height_above-height.result ≤ h + 1 = c.height_above-height.ensures.least h (omega (arith, o.long, kept.node_each, c.len-entries.ensures.value)) in
    let one = subst (λ s. Spends c.args.steps.now s 0 0 1) (sym c.at-weights.ensures.touched) (Spends-one_touch c.args.steps.now) in
    let two = subst (λ s. Spends c.loop-height.steps s 0 0 1) (sym c.at-mask.ensures.touched) (Spends-one_touch c.loop-height.steps) in
    let three = subst (λ s. Spends c.at-mask.new.steps s 0 0 1) (sym c.set-2.ensures.touched) (Spends-one_touch c.at-mask.new.steps) in
    Spends-within (Spends-then (Spends-then (Spends-then one c.loop-height.invariant.spent) two) three) (omega arith) (omega arith) (omega arith)
