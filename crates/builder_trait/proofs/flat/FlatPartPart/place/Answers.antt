use Rattle.std.proofs.Common.{ap, sym, ◌∙◌, length, arith, slice_index}
use Rattle.std.proofs.lemmas.Option.{get_or_from_slice_get}
use Rattle.builder_trait.specs.Parts.{place_of}
use Rattle.builder_trait.proofs.RebuildingLemmas.{length-places}
use Rattle.builder_trait.proofs.flat.FlatPartPart.place.Goals as goal

pub at-requires : goal.at-requires
at-requires g c = omega (arith, ap (λ p. length p.items) c.self.view_is, length-places c.self.invariant.0.valid)

pub returns-in-Second-clause-value : goal.returns-in-Second-clause-value
returns-in-Second-clause-value g c =
    sym (get_or_from_slice_get c.self.inside.places.items c.args.k c.at.result 0 c.at.ensures.read)
    ∙ ap (λ p. slice_index p.places c.args.k) c.self.view_is
    ∙ sym (ap (λ o. place_of o c.args.self.now c.args.k) c.in-Second.is)
