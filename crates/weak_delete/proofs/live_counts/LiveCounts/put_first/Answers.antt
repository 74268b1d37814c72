use Rattle.std.proofs.Common.{◌≡◌, ℕ, ◌+◌, ◌-◌, ◌%◌, ◌^◌, List, [], ◌∷◌, ◌++◌, length, replicate, refl, ap, ap₂, sym, subst, ◌∙◌, arith, All, false}
use Rattle.std.proofs.lemmas.List.{length_push}
use Rattle.std.proofs.lemmas.List.Elements.{All-push}
use Rattle.std.proofs.lemmas.List.Sums.{sum_by_push}
use Rattle.query_laws.specs.StepLedger.{Entries}
use Rattle.weak_delete.specs.declared.place.Place.{Place}
use Rattle.weak_delete.specs.declared.live_counts.Node.{Node}
use Rattle.weak_delete.specs.Places.{LivePlaces, live_amount, live_place}
use Rattle.weak_delete.specs.Packed.{packed}
use Rattle.weak_delete.specs.Fenwick.{IsFenwick, AreNodes, entries_for}
use Rattle.weak_delete.proofs.Nodes.{IsOver-put, AreNodes-put_first}
use Rattle.weak_delete.proofs.Packing.{length-packed, packed-put_first}
use Rattle.weak_delete.proofs.Opened.{value_put, opened, places_of}
use Rattle.weak_delete.proofs.live_counts.LiveCounts.put_first.Goals as goal

pub push-requires : goal.push-requires
push-requires g c =
    let o = opened c.self.inside c.args.self.now c.self.view_is in
    let kept = c.self.invariant in
    omega (arith, o.long, o.capacity, kept.node_each, kept.weights_each, kept.room_weights, c.requires.room, c.requires.first)

pub push-requires-2 : goal.push-requires-2
push-requires-2 g c =
    let o = opened c.self.inside c.args.self.now c.self.view_is in
    let kept = c.self.invariant in
    omega (arith, o.long, o.capacity, kept.node_each, kept.mask_each, kept.room_masks, c.requires.room, c.requires.first)

pub push-requires-3 : goal.push-requires-3
push-requires-3 g c =
    let o = opened c.self.inside c.args.self.now c.self.view_is in
    let kept = c.self.invariant in
    omega (arith, o.long, o.capacity, kept.node_each, kept.room, c.requires.room, c.requires.first)

-- the places afterwards
placed : (s : LivePlaces) (weights weights' : Entries (List ℕ)) (masks masks' : Entries ℕ) (len weight : ℕ) → packed weights.items masks.items len ≡ s.places
    → length weights.items ≡ entries_for len → length masks.items ≡ entries_for len → length s.places % 16 ≡ 0
    → weights' ≡ record weights { items = weights.items ++ replicate 16 weight ∷ [] } → masks' ≡ record masks { items = masks.items ++ (2 ^ 16 - 1) ∷ [] }
    → packed weights'.items masks'.items (len + 1) ≡ packed weights.items masks.items len ++ live_place weight ∷ []
placed s weights weights' masks masks' len weight places as_many masks_too first pushed pushed_too =
    let count = length-packed weights.items masks.items len in
    ap₂ (λ (w : Entries (List ℕ)) (m : Entries ℕ). packed w.items m.items (len + 1)) pushed pushed_too
    ∙ packed-put_first weights.items masks.items len weight (omega (arith, ap length places, count)) (omega (arith, ap length places, count)) (omega (arith, ap length places, count))

pub invariant_of-self : goal.invariant_of-self
invariant_of-self g c =
    let o = opened c.self.inside c.args.self.now c.self.view_is in
    let kept = c.self.invariant in
    let inside = c.self.inside in
    let old = places_of inside in
    let open_yet : inside.sealed ≡ false = o.sealed ∙ c.requires.open in
    let after = placed c.args.self.now inside.weights c.push.new.self inside.masks c.push-2.new.self inside.len c.args.weight o.places (kept.weights_each ∙ kept.node_each) (kept.mask_each ∙ kept.node_each) c.requires.first c.push.ensures.appended c.push-2.ensures.appended in
    let total : Node = record { count = inside.total.count + 1; weight = inside.total.weight + c.args.weight } in
    let nodes : c.push-3.new.self.items ≡ inside.nodes.items ++ total ∷ [] = ap (λ (r : Entries Node). r.items) c.push-3.ensures.appended in
    let node_count : length c.push-3.new.self.items ≡ length inside.nodes.items + 1 = ap length nodes ∙ length_push inside.nodes.items total in
    let weight_count : length c.push.new.self.items ≡ length inside.weights.items + 1 = ap (λ (r : Entries (List ℕ)). length r.items) c.push.ensures.appended ∙ length_push inside.weights.items _ in
    let mask_count : length c.push-2.new.self.items ≡ length inside.masks.items + 1 = ap (λ (r : Entries ℕ). length r.items) c.push-2.ensures.appended ∙ length_push inside.masks.items _ in
    let first : inside.len % 16 ≡ 0 = omega (arith, o.long, c.requires.first) in
    let whole : entries_for inside.unturned ≡ entries_for inside.len = ap entries_for (kept.unsealed open_yet) in
    let built : AreNodes old inside.nodes.items (entries_for inside.len) = subst (AreNodes old inside.nodes.items) whole kept.nodes_over in
    let built_after = AreNodes-put_first old inside.len c.args.weight o.count inside.nodes.items inside.total built kept.node_each kept.total_over first in
    let P : List Place → Type 0 = λ ps. IsFenwick ps c.push.new.self c.push-2.new.self c.push-3.new.self total inside.cap (inside.len + 1) (inside.unturned + 1) inside.sealed in
    subst P (sym after) (record {
      node_each = omega (arith, node_count, kept.node_each, first);
      weights_each = omega (arith, weight_count, node_count, kept.weights_each);
      mask_each = omega (arith, mask_count, node_count, kept.mask_each);
      within = omega (arith, o.long, o.capacity, c.requires.room);
      room = omega (arith, kept.room, ap (λ (r : Entries Node). r.capacity) c.push-3.ensures.appended);
      room_weights = omega (arith, kept.room_weights, ap (λ (r : Entries (List ℕ)). r.capacity) c.push.ensures.appended);
      room_masks = omega (arith, kept.room_masks, ap (λ (r : Entries ℕ). r.capacity) c.push-2.ensures.appended);
      few = kept.few;
      small = omega (arith, kept.small, sum_by_push live_amount old (live_place c.args.weight), c.ranges.weight.fits);
      total_over = IsOver-put old inside.len c.args.weight o.count inside.total (inside.len + 1) kept.total_over (omega arith);
      unturned_within = omega (arith, kept.unturned_within);
      unsealed = λ e. ap (λ n. n + 1) (kept.unsealed e);
      all_live = λ e. subst (λ l. All (λ mask. mask ≡ 2 ^ 16 - 1) l) (sym (ap (λ (r : Entries ℕ). r.items) c.push-2.ensures.appended))
          (All-push (λ mask. mask ≡ 2 ^ 16 - 1) inside.masks.items (2 ^ 16 - 1) (kept.all_live e) refl);
      nodes_over = subst (λ l. AreNodes (old ++ live_place c.args.weight ∷ []) l (entries_for (inside.unturned + 1))) (sym nodes)
          (subst (AreNodes (old ++ live_place c.args.weight ∷ []) (inside.nodes.items ++ total ∷ [])) (ap (λ n. entries_for (n + 1)) (sym (kept.unsealed open_yet))) built_after);
    })

pub returns-clause-put : goal.returns-clause-put
returns-clause-put g c =
    let o = opened c.self.inside c.args.self.now c.self.view_is in
    let kept = c.self.invariant in
    let inside = c.self.inside in
    let after = placed c.args.self.now inside.weights c.push.new.self inside.masks c.push-2.new.self inside.len c.args.weight o.places (kept.weights_each ∙ kept.node_each) (kept.mask_each ∙ kept.node_each) c.requires.first c.push.ensures.appended c.push-2.ensures.appended in
    value_put c.self.inside c.args.self.now c.args.weight _ o c.requires.open after
