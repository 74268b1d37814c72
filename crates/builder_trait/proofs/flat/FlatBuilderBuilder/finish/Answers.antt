use Rattle.std.proofs.Common.{ap, sym, ◌∙◌, length}
use Rattle.query_laws.specs.declared.item.Order.TheVariants.{Second}
use Rattle.builder_trait.proofs.FlatLemmas.{IsPart-ended, items-ended}
use Rattle.builder_trait.proofs.flat.FlatBuilderBuilder.finish.Goals as goal

pub invariant_of-result : goal.invariant_of-result
invariant_of-result g c =
    let closed = ap (λ p. p.is_sealed) c.self.view_is ∙ c.requires.closed in
    let ended = ap (λ p. p.left) c.self.view_is ∙ c.requires.ended in (
      record {
        wide = c.self.invariant.0.wide;
        valid = IsPart-ended (g.met.I.Item.ordered Second) c.self.invariant.0 c.self.invariant.1 closed ended;
        live_counted = c.len-live.ensures.value ∙ sym (ap length (items-ended c.self.invariant.1 closed ended));
      },
      c.self.invariant.2,
    )

pub returns-clause-live : goal.returns-clause-live
returns-clause-live g c =
    items-ended c.self.invariant.1 (ap (λ p. p.is_sealed) c.self.view_is ∙ c.requires.closed) (ap (λ p. p.left) c.self.view_is ∙ c.requires.ended)
    ∙ ap (λ p. p.items) c.self.view_is

pub returns-clause-valid : goal.returns-clause-valid
returns-clause-valid g c =
    IsPart-ended (g.met.I.Item.ordered Second) c.self.invariant.0 c.self.invariant.1
    (ap (λ p. p.is_sealed) c.self.view_is ∙ c.requires.closed) (ap (λ p. p.left) c.self.view_is ∙ c.requires.ended)
