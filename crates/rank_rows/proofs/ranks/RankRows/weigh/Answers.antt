use Rattle.std.proofs.Common.{◌≡◌, ◌<◌, length, ap, ◌∙◌, refl, arith}
use Rattle.std.proofs.lemmas.List.{get_or_read}
use Rattle.query_laws.specs.StepLedger.{Spends}
use Rattle.query_laws.proofs.Counting.{Spends-nothing, Spends-then, Spends-within, Spends-one_touch}
use Rattle.rank_rows.specs.Totals.{total}
use Rattle.rank_rows.specs.Words.{weight_at}
use Rattle.rank_rows.specs.Ranked.{Ranked}
use Rattle.rank_rows.proofs.Sums.{total-more}
use Rattle.rank_rows.proofs.Lists.{sum-between}
use Rattle.rank_rows.proofs.ranks.RankRows.weigh.Goals as goal

pub loop-k-init : goal.loop-k-init
loop-k-init g c = record { sum = omega arith; few = omega arith; spent = Spends-within (Spends-nothing c.args.steps.now) refl refl (omega arith) }

pub loop-k-preserved : goal.loop-k-preserved
loop-k-preserved g c =
    let kept = c.loop-k.invariant in
    let weights = ap (λ (v : Ranked). v.weights) c.self.view_is in
    let there : c.loop-k.k < length c.self.inside.store.weights.items = omega (arith, c.requires.there, ap length weights) in
    let read : c.at.result ≡ weight_at c.args.self.now.weights c.loop-k.k =
    get_or_read c.self.inside.store.weights.items c.loop-k.k c.at.result there c.at.ensures.read_or 0 ∙ ap (λ ws. weight_at ws c.loop-k.k) weights in
    let touched : Spends c.loop-k.steps c.at.new.steps 0 0 1 = rw c.at.ensures.touched (Spends-one_touch c.loop-k.steps) in
    record {
      sum = omega (arith, kept.sum, read, total-more (weight_at c.args.self.now.weights) c.loop-k.k);
      few = omega (arith, kept.few, c.at.type_inv);
      spent = Spends-within (Spends-then kept.spent touched) refl refl (omega arith);
    }

pub returns-clause-value : goal.returns-clause-value
returns-clause-value g c =
    let ended : c.loop-k.k ≡ c.args.to = omega arith in
    omega (
      arith,
      sum-between c.args.self.now.weights c.args.from c.args.to c.requires.ordered c.requires.there,
      c.loop-k.invariant.sum,
      ap (total (weight_at c.args.self.now.weights)) ended,
    )
