use Rattle.std.proofs.Common.{◌≡◌, ◌+◌, ◌<◌, ◌^◌, true, length, ap, sym, ◌∙◌, arith, subst}
use Rattle.builder_trait.specs.Builders.{all_live}
use Rattle.builder_trait.proofs.RowsLemmas.{IsQuota-small}
use Rattle.builder_trait.proofs.rows.RowsBuilderBuilder.seal.Goals as goal

pub invariant_of-self : goal.invariant_of-self
invariant_of-self g c =
    let closed = c.seal.ensures.closed in
    let sealed : c.seal.new.self.is_sealed ≡ true = ap (λ b. b.is_sealed) closed in
    let small : length c.self.inside.items.items + g.R.Rows.left c.begin.new.self < 2 ^ 63 =
    IsQuota-small g.met.R.Rows.small.0 g.met.R.Rows.small.1 (c.self.invariant.0 (ap (λ b. b.is_sealed) c.self.view_is ∙ c.requires.open)).0.small c.begin.ensures.quota in (
      λ still. absurd cc,
      λ _. (
        subst (λ b. g.R.Rows.IsGrowing (all_live b) c.begin.new.self) (sym closed) c.begin.ensures.growing,
        omega (arith, c.seal.ensures.left, small),
      ),
    )
