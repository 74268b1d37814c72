use Rattle.std.proofs.Common.{◌≡◌, ℕ, ◌+◌, ◌*◌, ◌/◌, ◌%◌, ◌<◌, List, [], length, take, get_or, ap, ap₂, sym, subst, arith}
use Rattle.std.specs.List.{sum_by}
use Rattle.std.proofs.lemmas.List.{get_or_read}
use Rattle.weak_delete.specs.declared.place.Place.{Place}
use Rattle.weak_delete.specs.Places.{live_amount}
use Rattle.weak_delete.specs.Packed.{live_weights, packed}
use Rattle.weak_delete.proofs.Packing.{length-packed, sum_by-slots}
use Rattle.weak_delete.proofs.Opened.{opened}
use Rattle.weak_delete.proofs.live_counts.LiveCounts.weight_before.Goals as goal

pub at-weights-requires : goal.at-weights-requires
at-weights-requires g c =
    let o = opened c.self.inside c.args.self.now c.self.view_is in
    omega (arith, o.long, c.self.invariant.node_each, c.self.invariant.weights_each, c.requires)

pub at-mask-requires : goal.at-mask-requires
at-mask-requires g c =
    let o = opened c.self.inside c.args.self.now c.self.view_is in
    omega (arith, o.long, c.self.invariant.node_each, c.self.invariant.mask_each, c.requires)

pub returns-then-k-eq0-clause-sum : goal.returns-then-k-eq0-clause-sum
returns-then-k-eq0-clause-sum g c =
    let whole : 16 * (c.args.k / 16) ≡ c.args.k = omega arith in
    omega (arith, ap (λ i. sum_by live_amount (take i c.args.self.now.places)) whole)

pub returns-clause-sum : goal.returns-clause-sum
returns-clause-sum g c =
    let o = opened c.self.inside c.args.self.now c.self.view_is in
    let kept = c.self.invariant in
    let weights = c.self.inside.weights.items in
    let masks = c.self.inside.masks.items in
    let long = length-packed weights masks c.self.inside.len in
    let within : c.args.k / 16 < length masks = omega (arith, o.long, kept.node_each, kept.mask_each, c.requires) in
    let within_weights : c.args.k / 16 < length weights = omega (arith, within, kept.mask_each, kept.weights_each) in
    let mask : get_or masks (c.args.k / 16) 0 ≡ c.at-mask.result = sym (get_or_read masks (c.args.k / 16) c.at-mask.result within c.at-mask.ensures.read_or 0) in
    let entry : get_or weights (c.args.k / 16) [] ≡ c.at-weights.result = sym (get_or_read weights (c.args.k / 16) c.at-weights.result within_weights c.at-weights.ensures.read_or []) in
    let split : 16 * (c.args.k / 16) + c.args.k % 16 ≡ c.args.k = omega arith in
    let slots = sum_by-slots weights masks c.self.inside.len (c.args.k / 16) (c.args.k % 16) (omega arith) (omega (arith, o.long, c.requires)) in
    subst (λ (ps : List Place). c.weight_below.result + sum_by live_amount (take (16 * (c.args.k / 16)) ps) ≡ sum_by live_amount (take c.args.k ps)) o.places
    (omega (
      arith,
      slots,
      ap (λ i. sum_by live_amount (take i (packed weights masks c.self.inside.len))) split,
      ap₂ (λ (e : List ℕ) m. live_weights e m (c.args.k % 16)) entry mask,
      c.weight_below.ensures.value,
    ))
