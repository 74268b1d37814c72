use Rattle.std.proofs.Common.{◌≡◌, Some, slice_get, slice_index, ap, sym, ◌∙◌, length, arith}
use Rattle.std.proofs.lemmas.Option.{get_or_from_slice_get}
use Rattle.builder_trait.proofs.RebuildingLemmas.{length-places, place_within}
use Rattle.builder_trait.specs.Parts.{in_order}
use Rattle.builder_trait.proofs.FlatLemmas.{item_at_place}
use Rattle.builder_trait.proofs.flat.FlatPartPart.item.Goals as goal

pub at-place-requires : goal.at-place-requires
at-place-requires g c = omega (arith, ap (λ p. length p.items) c.self.view_is, length-places c.self.invariant.0.valid)

pub at-requires-in-Second : goal.at-requires-in-Second
at-requires-in-Second g c =
    let is = get_or_from_slice_get c.self.inside.places.items c.args.k c.at-place.result 0 c.at-place.ensures.read in
    omega (arith, is, place_within c.self.invariant.0.valid c.args.k (omega (arith, ap (λ p. length p.items) c.self.view_is)))

pub returns-in-Second-clause-value : goal.returns-in-Second-clause-value
returns-in-Second-clause-value g c =
    let is = get_or_from_slice_get c.self.inside.places.items c.args.k c.at-place.result 0 c.at-place.ensures.read in
    let there : slice_get c.self.inside.items.items (slice_index c.self.inside.places.items c.args.k) ≡ Some c.at-in-Second.result =
    ap (slice_get c.self.inside.items.items) is ∙ c.at-in-Second.ensures.read in
    ap (λ o. slice_get (in_order o c.args.self.now) c.args.k) c.in-Second.is
    ∙ sym (ap (λ p. slice_get p.reordered c.args.k) c.self.view_is)
    ∙ item_at_place c.self.invariant.0.valid c.args.k c.at-in-Second.result (omega (arith, ap (λ p. length p.items) c.self.view_is)) there
