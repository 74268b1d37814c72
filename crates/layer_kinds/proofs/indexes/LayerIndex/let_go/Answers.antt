use Rattle.std.proofs.Common.{◌≡◌, ◌+◌, ◌*◌, ◌∙◌, false, length, ap, refl, sym, subst, arith}
use Rattle.log_levels.proofs.Spending.{IsWithin-more}
use Rattle.global_rebuild.specs.Index.{IsIndexOf}
use Rattle.global_rebuild.proofs.Weights.{as_many}
use Rattle.late_index.specs.Late.{IsLateOf, IsPrepared}
use Rattle.map_model.specs.Cost.{Rate}
use Rattle.layer_kinds.specs.Shares.{delete_turns, delete_marks}
use Rattle.layer_kinds.specs.Indexing.{Absent, Whole, Late, wait_by, IsReady}
use Rattle.layer_kinds.specs.Places.{placed}
use Rattle.layer_kinds.specs.Committing.{IsGoing, IsOver}
use Rattle.layer_kinds.proofs.Branches.{absent_commits, whole_commits, late_commits, commits_as, late_dropped}
use Rattle.layer_kinds.proofs.Shared.{IsShared-there}
use Rattle.layer_kinds.proofs.Waiting.{none_left}
use Rattle.layer_kinds.proofs.indexes.LayerIndex.let_go.Goals as goal
use Rattle.layer_kinds.proofs.indexes.LayerIndex.let_go.Goals.{in-Absent, in-Whole, in-Late}

pub returns-clause-commits : goal.returns-clause-commits
returns-clause-commits g c =
    let contents = g.B.Part.Part.contents in
    let stamp = g.B.Item.Item.stamp in
    let rate : Rate = record { slope = g.B.Builder.SLOPE; base = g.B.Builder.BASE } in
    let es = c.args.chain.now.entries in
    let after = wait_by false c.args.handle es in
    let old = c.args.self.now in
    let new = placed c.match-self.self-inside.place in
    elim c.match-self.branch [
      | in-Absent w ↦
          commits_as contents {rate = rate} {after = after} {turns = delete_turns} {marks = delete_marks} {many = 2 * length es + 10} old Absent new Absent
          (sym c.self.view_is ∙ ap placed w.in-Absent.is) (ap (λ l. placed l.place) w.self-inside-is ∙ ap placed w.in-Absent.is) w.steps-is
          (absent_commits contents c.args.steps.now)
      | in-Whole w ↦
          let i = w.in-Whole.index in
          let i' = w.commit_delete.new.self in
          let at : old ≡ Whole i = sym c.self.view_is ∙ ap placed w.in-Whole.is in
          let h : IsIndexOf contents stamp i es c.requires.of.0 = subst (λ q. IsOver contents stamp q es c.requires.of.0) at c.requires.of.1 in
          commits_as contents {rate = rate} {after = after} {turns = delete_turns} {marks = delete_marks} {many = 2 * length es + 10} old (Whole i) new (Whole i')
          at (ap (λ l. placed l.place) w.self-inside-is) w.steps-is
          (whole_commits contents i i' (none_left false c.args.handle es 0 refl) w.commit_delete.ensures.held (λ g' less.
          IsShared-there (delete_turns g') (delete_marks g') g' rate (g.met.B.MapStructure.few_touches g')
          (w.commit_delete.ensures.cost g' (omega (arith, less, as_many contents stamp i es h)))))
      | in-Late w ↦
          let l = w.in-Late.late in
          let l' = w.commit_delete-in-Late.new.self in
          let at : old ≡ Late l = sym c.self.view_is ∙ ap placed w.in-Late.is in
          let h : IsLateOf contents stamp l es c.requires.of.0 = subst (λ q. IsOver contents stamp q es c.requires.of.0) at c.requires.of.1 in
          let prepared : IsPrepared contents l es = subst (λ q. IsReady contents q es) at c.requires.ready in
          commits_as contents {rate = rate} {after = after} {turns = delete_turns} {marks = delete_marks} {many = 2 * length es + 10} old (Late l) new (Late l')
          at (ap (λ l. placed l.place) w.self-inside-is) w.steps-is
          (late_commits contents l l' (w.commit_delete-in-Late.ensures.waiting ∙ late_dropped contents c.args.handle (subst IsGoing at c.requires.going) h prepared c.requires.linked)
          w.commit_delete-in-Late.ensures.held (λ g' less.
          IsShared-there (delete_turns g') (delete_marks g') g' rate (g.met.B.MapStructure.few_touches g')
          (IsWithin-more (w.commit_delete-in-Late.ensures.cost g' less) (omega arith) (omega arith) (omega arith))))
    ]
