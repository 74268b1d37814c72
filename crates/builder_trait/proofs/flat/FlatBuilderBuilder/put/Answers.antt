use Rattle.std.proofs.Common.{ap, sym, ◌∙◌, arith}
use Rattle.query_laws.specs.declared.item.Order.TheVariants.{Second}
use Rattle.builder_trait.proofs.FlatLemmas.{IsFlatBuilding-first, small-put, room-put, IsFlatBuilding-put, IsFlagging-put, IsUnderway-building}
use Rattle.builder_trait.proofs.StampLemmas.{AreStamps-put}
use Rattle.builder_trait.proofs.flat.FlatBuilderBuilder.put.Goals as goal

pub push-requires-in-Second : goal.push-requires-in-Second
push-requires-in-Second g c =
    omega (
      arith,
      c.self.invariant.0.wide.room_places,
      room-put (g.met.I.Item.ordered Second) c.self.invariant.0 (c.requires.second c.in-Second.is)
          (ap (λ p. p.items) (sym c.self.view_is)) (ap (λ p. p.reordered) (sym c.self.view_is)),
    )

pub invariant_of-self-in-Second : goal.invariant_of-self-in-Second
invariant_of-self-in-Second g c = (
  IsFlatBuilding-put (g.met.I.Item.ordered Second) c.self.invariant.0 (c.requires.second c.in-Second.is)
      (ap (λ p. p.items) (sym c.self.view_is)) (ap (λ p. p.reordered) (sym c.self.view_is)) c.push-in-Second.ensures.appended,
  IsFlagging-put (ap (λ p. p.is_sealed) c.self.view_is ∙ c.requires.open) c.self.invariant.1,
  c.self.invariant.2,
)

pub overflow_cast-place : goal.overflow_cast-place
overflow_cast-place g c =
    let small = small-put (g.met.I.Item.ordered Second) c.self.invariant.0 (c.requires.second c.in-Second.is)
    (ap (λ p. p.items) (sym c.self.view_is)) (ap (λ p. p.reordered) (sym c.self.view_is)) in
    omega (arith, small)

pub invariant_of-self : goal.invariant_of-self
invariant_of-self g c = (
  IsFlatBuilding-first c.self.invariant.0 (c.requires.first c.in-First.is)
      (ap (λ p. p.items) (sym c.self.view_is)) (ap (λ p. p.reordered) (sym c.self.view_is)) (ap (λ p. p.at_level) (sym c.self.view_is)) c.push.ensures.appended,
  IsFlagging-put (ap (λ p. p.is_sealed) c.self.view_is ∙ c.requires.open) c.self.invariant.1,
  AreStamps-put c.self.invariant.2 c.push.ensures.appended c.stamp.ensures (omega arith)
      (ap (λ s. s.least) c.widen.ensures) (ap (λ s. s.greatest) c.widen.ensures),
)

pub returns-in-First-clause-valid : goal.returns-in-First-clause-valid
returns-in-First-clause-valid g c =
    IsUnderway-building
    (IsFlatBuilding-first c.self.invariant.0 (c.requires.first c.in-First.is)
    (ap (λ p. p.items) (sym c.self.view_is)) (ap (λ p. p.reordered) (sym c.self.view_is)) (ap (λ p. p.at_level) (sym c.self.view_is)) c.push.ensures.appended)
    (IsFlagging-put (ap (λ p. p.is_sealed) c.self.view_is ∙ c.requires.open) c.self.invariant.1)

pub returns-in-Second-clause-valid : goal.returns-in-Second-clause-valid
returns-in-Second-clause-valid g c =
    IsUnderway-building
    (IsFlatBuilding-put (g.met.I.Item.ordered Second) c.self.invariant.0 (c.requires.second c.in-Second.is)
    (ap (λ p. p.items) (sym c.self.view_is)) (ap (λ p. p.reordered) (sym c.self.view_is)) c.push-in-Second.ensures.appended)
    (IsFlagging-put (ap (λ p. p.is_sealed) c.self.view_is ∙ c.requires.open) c.self.invariant.1)
