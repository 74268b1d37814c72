use Rattle.std.proofs.Common.{rules, ◌≡◌, ℕ, ◌+◌, ◌-◌, ◌/◌, ◌%◌, ◌^◌, ◌<◌, List, [], ◌∷◌, ◌++◌, length, get_or, set, ap, sym, subst, ◌∙◌, arith, All, length-set, false, refl}
use Rattle.std.proofs.lemmas.List.{get_or_read}
use Rattle.std.proofs.lemmas.List.Elements.{All-get_or}
use Rattle.std.proofs.lemmas.List.Sums.{sum_by_push}
use Rattle.query_laws.specs.StepLedger.{Entries}
use Rattle.weak_delete.specs.declared.place.Place.{Place}
use Rattle.weak_delete.specs.declared.live_counts.Node.{Node}
use Rattle.weak_delete.specs.Places.{LivePlaces, live_amount, live_place}
use Rattle.weak_delete.specs.Packed.{packed}
use Rattle.weak_delete.specs.Fenwick.{IsFenwick, AreNodes, entries_for}
use Rattle.weak_delete.proofs.Nodes.{IsOver-put, AreNodes-put_behind}
use Rattle.weak_delete.proofs.Packing.{length-packed, packed-put_behind}
use Rattle.weak_delete.proofs.Opened.{value_put, opened, places_of}
use Rattle.weak_delete.proofs.live_counts.LiveCounts.put_behind.Goals as goal

pub entry_mut-requires : goal.entry_mut-requires
entry_mut-requires g c =
    let o = opened c.self.inside c.args.self.now c.self.view_is in
    let kept = c.self.invariant in
    omega (arith, o.long, kept.node_each, kept.weights_each, c.requires.behind)

pub set-requires : goal.set-requires
set-requires g c =
    let o = opened c.self.inside c.args.self.now c.self.view_is in
    let kept = c.self.invariant in
    omega (arith, o.long, kept.node_each, c.requires.behind)

-- the places afterwards
placed : (s : LivePlaces) (weights weights' : Entries (List ℕ)) (masks : Entries ℕ) (nodes len weight : ℕ) (entry : List ℕ) → packed weights.items masks.items len ≡ s.places
    → length weights.items ≡ entries_for len → length masks.items ≡ entries_for len → (length s.places % 16 ≡ 0 → ⊥)
    → All (λ mask. mask ≡ 2 ^ 16 - 1) masks.items → entry ≡ get_or weights.items (len / 16) entry → length entry ≡ 16
    → weights' ≡ record weights { items = set weights.items (len / 16) (set entry (len % 16) weight) }
    → packed weights'.items masks.items (len + 1) ≡ packed weights.items masks.items len ++ live_place weight ∷ []
placed s weights weights' masks nodes len weight entry places as_many masks_too behind live read long written =
    let count = length-packed weights.items masks.items len in
    let there : len / 16 < length weights.items = omega (arith, ap length places, count, behind) in
    let there_too : len / 16 < length masks.items = omega (arith, ap length places, count, behind) in
    ap (λ (w : Entries (List ℕ)). packed w.items masks.items (len + 1)) written
    ∙ packed-put_behind weights.items masks.items len weight entry there (sym (get_or_read weights.items (len / 16) entry there read [])) (omega arith)
    (All-get_or (λ mask. mask ≡ 2 ^ 16 - 1) masks.items (len / 16) 0 there_too live)

pub invariant_of-self : goal.invariant_of-self
invariant_of-self g c =
    let o = opened c.self.inside c.args.self.now c.self.view_is in
    let kept = c.self.invariant in
    let inside = c.self.inside in
    let weights : Entries (List ℕ) =
    record inside.weights { items = set inside.weights.items (inside.len / 16) (set c.entry_mut.result.now (inside.len % 16) c.args.weight) } in
    let old = places_of inside in
    let open_yet : inside.sealed ≡ false = o.sealed ∙ c.requires.open in
    let after = placed c.args.self.now inside.weights weights inside.masks 0 inside.len c.args.weight c.entry_mut.result.now o.places (kept.weights_each ∙ kept.node_each) (kept.mask_each ∙ kept.node_each)
    c.requires.behind (kept.all_live open_yet) c.entry_mut.ensures.read_or (let sixteen : length c.entry_mut.result.now ≡ 16 = search rules in sixteen) refl in
    let total : Node = record { count = inside.total.count + 1; weight = inside.total.weight + c.args.weight } in
    let nodes : c.set.new.self.items ≡ set inside.nodes.items (inside.len / 16) total = ap (λ (r : Entries Node). r.items) c.set.ensures.written in
    let node_count : length c.set.new.self.items ≡ length inside.nodes.items = ap length nodes ∙ length-set inside.nodes.items (inside.len / 16) total in
    let weight_count : length weights.items ≡ length inside.weights.items = length-set inside.weights.items _ _ in
    let behind : inside.len % 16 ≡ 0 → ⊥ = λ e. c.requires.behind (omega (arith, o.long)) in
    let whole : entries_for inside.unturned ≡ entries_for inside.len = ap entries_for (kept.unsealed open_yet) in
    let built : AreNodes old inside.nodes.items (entries_for inside.len) = subst (AreNodes old inside.nodes.items) whole kept.nodes_over in
    let built_after = AreNodes-put_behind old inside.len c.args.weight o.count inside.nodes.items inside.total built kept.node_each kept.total_over behind in
    let P : List Place → Type 0 = λ ps. IsFenwick ps weights inside.masks c.set.new.self total inside.cap (inside.len + 1) (inside.unturned + 1) inside.sealed in
    subst P (sym after) (record {
      node_each = omega (arith, node_count, kept.node_each, behind);
      weights_each = omega (arith, weight_count, node_count, kept.weights_each);
      mask_each = omega (arith, node_count, kept.mask_each);
      within = omega (arith, o.long, o.capacity, c.requires.room);
      room = omega (arith, kept.room, ap (λ (r : Entries Node). r.capacity) c.set.ensures.written);
      room_weights = kept.room_weights;
      room_masks = kept.room_masks;
      few = kept.few;
      small = omega (arith, kept.small, sum_by_push live_amount old (live_place c.args.weight), c.ranges.weight.fits);
      total_over = IsOver-put old inside.len c.args.weight o.count inside.total (inside.len + 1) kept.total_over (omega arith);
      unturned_within = omega (arith, kept.unturned_within);
      unsealed = λ e. ap (λ n. n + 1) (kept.unsealed e);
      all_live = kept.all_live;
      nodes_over = subst (λ l. AreNodes (old ++ live_place c.args.weight ∷ []) l (entries_for (inside.unturned + 1))) (sym nodes)
          (subst (AreNodes (old ++ live_place c.args.weight ∷ []) (set inside.nodes.items (inside.len / 16) total)) (ap (λ n. entries_for (n + 1)) (sym (kept.unsealed open_yet))) built_after);
    })

pub returns-clause-put : goal.returns-clause-put
returns-clause-put g c =
    let o = opened c.self.inside c.args.self.now c.self.view_is in
    let kept = c.self.invariant in
    let inside = c.self.inside in
    let weights : Entries (List ℕ) =
    record inside.weights { items = set inside.weights.items (inside.len / 16) (set c.entry_mut.result.now (inside.len % 16) c.args.weight) } in
    let open_yet : inside.sealed ≡ false = o.sealed ∙ c.requires.open in
    let after = placed c.args.self.now inside.weights weights inside.masks 0 inside.len c.args.weight c.entry_mut.result.now o.places (kept.weights_each ∙ kept.node_each) (kept.mask_each ∙ kept.node_each)
    c.requires.behind (kept.all_live open_yet) c.entry_mut.ensures.read_or (let sixteen : length c.entry_mut.result.now ≡ 16 = search rules in sixteen) refl in
    value_put c.self.inside c.args.self.now c.args.weight _ o c.requires.open after
