use Rattle.std.proofs.Common.{◌≡◌, ◌+◌, ◌*◌, ◌/◌, ◌%◌, ◌<◌, List, length, take, get_or, ap, sym, subst, arith}
use Rattle.std.specs.List.{count_by}
use Rattle.std.proofs.lemmas.List.{get_or_read}
use Rattle.weak_delete.specs.declared.place.Place.{Place}
use Rattle.weak_delete.specs.Places.{is_live}
use Rattle.weak_delete.specs.Packed.{live_bits, packed}
use Rattle.weak_delete.proofs.Packing.{length-packed, count_by-slots}
use Rattle.weak_delete.proofs.Opened.{opened}
use Rattle.weak_delete.proofs.live_counts.LiveCounts.live_before.Goals as goal

pub at-mask-requires : goal.at-mask-requires
at-mask-requires g c =
    let o = opened c.self.inside c.args.self.now c.self.view_is in
    omega (arith, o.long, c.self.invariant.node_each, c.self.invariant.mask_each, c.requires)

pub returns-then-k-eq0-clause-count : goal.returns-then-k-eq0-clause-count
returns-then-k-eq0-clause-count g c =
    let whole : 16 * (c.args.k / 16) ≡ c.args.k = omega arith in
    omega (arith, ap (λ i. count_by is_live (take i c.args.self.now.places)) whole)

pub returns-clause-count : goal.returns-clause-count
returns-clause-count g c =
    let o = opened c.self.inside c.args.self.now c.self.view_is in
    let kept = c.self.invariant in
    let weights = c.self.inside.weights.items in
    let masks = c.self.inside.masks.items in
    let long = length-packed weights masks c.self.inside.len in
    let within : c.args.k / 16 < length masks = omega (arith, o.long, kept.node_each, kept.mask_each, c.requires) in
    let mask : get_or masks (c.args.k / 16) 0 ≡ c.at-mask.result = sym (get_or_read masks (c.args.k / 16) c.at-mask.result within c.at-mask.ensures.read_or 0) in
    let split : 16 * (c.args.k / 16) + c.args.k % 16 ≡ c.args.k = omega arith in
    let slots = count_by-slots weights masks c.self.inside.len (c.args.k / 16) (c.args.k % 16) (omega arith) (omega (arith, o.long, c.requires)) in
    subst (λ (ps : List Place). c.live_below.result + count_by is_live (take (16 * (c.args.k / 16)) ps) ≡ count_by is_live (take c.args.k ps)) o.places
    (omega (
      arith,
      slots,
      ap (λ i. count_by is_live (take i (packed weights masks c.self.inside.len))) split,
      ap (λ m. live_bits m (c.args.k % 16)) mask,
      c.live_below.ensures.value,
    ))
