use Rattle.std.proofs.Common.{◌≡◌, ◌*◌, ◌∙◌, ap, sym, subst, arith}
use Rattle.log_levels.specs.Cost.{quotas}
use Rattle.global_rebuild.specs.Index.{IsIndexOf}
use Rattle.global_rebuild.proofs.Weights.{as_many, four_ticks}
use Rattle.map_model.specs.Cost.{Rate}
use Rattle.layer_kinds.specs.Shares.{IsShared, prepare_turns, prepare_marks}
use Rattle.layer_kinds.specs.Indexing.{Absent, Whole, Late, rates_of, IsOf}
use Rattle.layer_kinds.specs.Places.{placed}
use Rattle.layer_kinds.specs.Memory.{Each, IsReadied, memories_of}
use Rattle.layer_kinds.proofs.Keeping.{readied}
use Rattle.layer_kinds.proofs.Branches.{late_readied, late_prepares}
use Rattle.layer_kinds.proofs.Shared.{IsShared-there, IsShared-nothing}
use Rattle.layer_kinds.proofs.indexes.LayerIndexIndexes.prepare.Goals as goal
use Rattle.layer_kinds.proofs.indexes.LayerIndexIndexes.prepare.Goals.{in-Absent, in-Whole, in-Late}

pub returns-clause-kept : goal.returns-clause-kept
returns-clause-kept g c =
    let contents = g.B.Part.Part.contents in
    let old = c.args.self.now in
    elim c.match-self.branch [
      | in-Absent w ↦
          subst (λ q. Each IsReadied (memories_of contents old) (memories_of contents q)) (sym (ap (λ l. placed l.place) w.self-inside-is ∙ ap placed w.in-Absent.is))
          (subst (λ q. Each IsReadied (memories_of contents q) (memories_of contents Absent)) (sym (sym c.self.view_is ∙ ap placed w.in-Absent.is)) tt)
      | in-Whole w ↦
          let i = w.in-Whole.index in
          let i' = w.prepare.new.self in
          let e = w.prepare.ensures in
          subst (λ q. Each IsReadied (memories_of contents old) (memories_of contents q)) (sym (ap (λ l. placed l.place) w.self-inside-is))
          (subst (λ q. Each IsReadied (memories_of contents q) (memories_of contents (Whole i'))) (sym (sym c.self.view_is ∙ ap placed w.in-Whole.is))
          (readied contents w.prepare.result i i' e.walked e.refused e.frees, tt))
      | in-Late w ↦
          let l = w.in-Late.late in
          let l' = w.prepare-in-Late.new.self in
          subst (λ q. Each IsReadied (memories_of contents old) (memories_of contents q)) (sym (ap (λ l. placed l.place) w.self-inside-is))
          (subst (λ q. Each IsReadied (memories_of contents q) (memories_of contents (Late l'))) (sym (sym c.self.view_is ∙ ap placed w.in-Late.is))
          (late_readied contents l l' w.prepare-in-Late.ensures.held, tt))
    ]

pub returns-clause-cost : goal.returns-clause-cost
returns-clause-cost g c = record {
  within = λ g' less.
      let contents = g.B.Part.Part.contents in
      let stamp = g.B.Item.Item.stamp in
      let rate : Rate = record { slope = g.B.Builder.SLOPE; base = g.B.Builder.BASE } in
      let es = c.args.chain.now.entries in
      let of = c.requires.of in
      let old = c.args.self.now in
      let before = c.args.steps.now in
      elim c.match-self.branch [
        | in-Absent w ↦
            subst (λ s. IsShared (prepare_turns g') (prepare_marks g') (rates_of rate old) g' before s) (sym w.steps-is)
            (IsShared-nothing (prepare_turns g') (prepare_marks g') g' (rates_of rate old) before)
        | in-Whole w ↦
            let i = w.in-Whole.index in
            let at : old ≡ Whole i = sym c.self.view_is ∙ ap placed w.in-Whole.is in
            let h : IsIndexOf contents stamp i es of.0 = subst (λ q. IsOf contents stamp q es of.0) at of.1 in
            subst (λ s. IsShared (prepare_turns g') (prepare_marks g') (rates_of rate old) g' before s) (sym w.steps-is)
            (subst (λ q. IsShared (prepare_turns g') (prepare_marks g') (rates_of rate q) g' before w.prepare.new.steps) (sym at)
            (IsShared-there (prepare_turns g') (prepare_marks g') g' rate (g.met.B.MapStructure.few_touches g')
            (four_ticks _ (quotas rate.slope rate.base 0 g') (2 * g') (w.prepare.ensures.cost g' (omega (arith, less, as_many contents stamp i es h))))))
        | in-Late w ↦
            let l = w.in-Late.late in
            let at : old ≡ Late l = sym c.self.view_is ∙ ap placed w.in-Late.is in
            subst (λ s. IsShared (prepare_turns g') (prepare_marks g') (rates_of rate old) g' before s) (sym w.steps-is)
            (subst (λ q. IsShared (prepare_turns g') (prepare_marks g') (rates_of rate q) g' before w.prepare-in-Late.new.steps) (sym at)
            (late_prepares contents rate l w.prepare-in-Late.new.self g' w.prepare-in-Late.ensures.handed (g.met.B.MapStructure.few_touches g')
            (w.prepare-in-Late.ensures.cost g' less)))
      ];
}
