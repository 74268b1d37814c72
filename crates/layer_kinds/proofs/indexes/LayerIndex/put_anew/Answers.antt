use Rattle.std.proofs.Common.{◌≡◌, ◌+◌, ◌*◌, ◌∙◌, true, length, ap, refl, sym, subst, arith}
use Rattle.log_levels.proofs.Spending.{IsWithin-more}
use Rattle.id_chain.specs.Chain.{is_linked, before_cursor}
use Rattle.global_rebuild.specs.Index.{IsIndexOf}
use Rattle.global_rebuild.proofs.Weights.{as_many}
use Rattle.chain_walk.specs.Walk.{renewed}
use Rattle.late_index.specs.Late.{IsLateOf, IsPrepared}
use Rattle.map_model.specs.Cost.{Rate}
use Rattle.layer_kinds.specs.Shares.{move_turns, move_marks, ready_count}
use Rattle.layer_kinds.specs.Indexing.{Absent, Whole, Late, waits_of, wait_by, IsOf, IsReady}
use Rattle.layer_kinds.specs.Places.{placed}
use Rattle.layer_kinds.specs.Committing.{IsGoing, IsOver}
use Rattle.layer_kinds.proofs.Branches.{absent_commits, whole_commits, late_commits, commits_as, late_moved, moved_some, late_unready}
use Rattle.layer_kinds.proofs.Shared.{IsShared-there}
use Rattle.layer_kinds.proofs.Waiting.{none_left}
use Rattle.layer_kinds.proofs.indexes.LayerIndex.put_anew.Goals as goal
use Rattle.layer_kinds.proofs.indexes.LayerIndex.put_anew.Goals.{in-Absent, in-Whole, in-Late}

pub returns-clause-commits : goal.returns-clause-commits
returns-clause-commits g c =
    let contents = g.B.Part.Part.contents in
    let stamp = g.B.Item.Item.stamp in
    let rate : Rate = record { slope = g.B.Builder.SLOPE; base = g.B.Builder.BASE } in
    let es = c.args.chain.now.entries in
    let after = wait_by true c.args.handle es in
    let old = c.args.self.now in
    let new = placed c.match-self.self-inside.place in
    elim c.match-self.branch [
      | in-Absent w ↦
          commits_as contents {rate = rate} {after = after} {turns = move_turns} {marks = move_marks} {many = 2 * length es + 10} old Absent new Absent
          (sym c.self.view_is ∙ ap placed w.in-Absent.is) (ap (λ l. placed l.place) w.self-inside-is ∙ ap placed w.in-Absent.is) w.steps-is
          (absent_commits contents c.args.steps.now)
      | in-Whole w ↦
          let i = w.in-Whole.index in
          let i' = w.commit_move.new.self in
          let at : old ≡ Whole i = sym c.self.view_is ∙ ap placed w.in-Whole.is in
          let h : IsIndexOf contents stamp i es (stamp c.args.item) = subst (λ q. IsOver contents stamp q es (stamp c.args.item)) at c.requires.of in
          commits_as contents {rate = rate} {after = after} {turns = move_turns} {marks = move_marks} {many = 2 * length es + 10} old (Whole i) new (Whole i')
          at (ap (λ l. placed l.place) w.self-inside-is) w.steps-is
          (whole_commits contents i i' (none_left true c.args.handle es 0 refl) w.commit_move.ensures.held (λ g' less.
          IsShared-there (move_turns g') (move_marks g') g' rate (g.met.B.MapStructure.few_touches g')
          (w.commit_move.ensures.cost g' (omega (arith, less, as_many contents stamp i es h)))))
      | in-Late w ↦
          let l = w.in-Late.late in
          let l' = w.commit_move-in-Late.new.self in
          let at : old ≡ Late l = sym c.self.view_is ∙ ap placed w.in-Late.is in
          let h : IsLateOf contents stamp l es (stamp c.args.item) = subst (λ q. IsOver contents stamp q es (stamp c.args.item)) at c.requires.of in
          let prepared : IsPrepared contents l es = subst (λ q. IsReady contents q es) at c.requires.ready in
          commits_as contents {rate = rate} {after = after} {turns = move_turns} {marks = move_marks} {many = 2 * length es + 10} old (Late l) new (Late l')
          at (ap (λ l. placed l.place) w.self-inside-is) w.steps-is
          (late_commits contents l l' (w.commit_move-in-Late.ensures.waiting ∙ late_moved contents c.args.handle (subst IsGoing at c.requires.going) h prepared c.requires.linked)
          w.commit_move-in-Late.ensures.held (λ g' less.
          IsShared-there (move_turns g') (move_marks g') g' rate (g.met.B.MapStructure.few_touches g')
          (IsWithin-more (w.commit_move-in-Late.ensures.cost g' less) (omega arith) (omega arith) (omega arith))))
    ]

pub returns-clause-of : goal.returns-clause-of
returns-clause-of g c =
    let contents = g.B.Part.Part.contents in
    let stamp = g.B.Item.Item.stamp in
    let es = c.args.chain.now.entries in
    let stamps = stamp c.args.item in
    let all = renewed c.args.handle c.args.item es in
    let old = c.args.self.now in
    elim c.match-self.branch [
      | in-Absent w ↦ subst (λ q. IsOf contents stamp q all (stamps + 1)) (sym (ap (λ l. placed l.place) w.self-inside-is ∙ ap placed w.in-Absent.is)) tt
      | in-Whole w ↦ subst (λ q. IsOf contents stamp q all (stamps + 1)) (sym (ap (λ l. placed l.place) w.self-inside-is)) w.commit_move.ensures.chain
      | in-Late w ↦
          let l = w.in-Late.late in
          let at : old ≡ Late l = sym c.self.view_is ∙ ap placed w.in-Late.is in
          let h : IsLateOf contents stamp l es stamps = subst (λ q. IsOver contents stamp q es stamps) at c.requires.of in
          let prepared : IsPrepared contents l es = subst (λ q. IsReady contents q es) at c.requires.ready in
          let some = moved_some contents (is_linked c.args.handle (before_cursor l.walk.cursor es)) (subst IsGoing at c.requires.going) h prepared in
          subst (λ q. IsOf contents stamp q all (stamps + 1)) (sym (ap (λ l. placed l.place) w.self-inside-is))
          (w.commit_move-in-Late.ensures.chain c.args.item h, omega (arith, w.commit_move-in-Late.ensures.waiting, some))
    ]

pub returns-clause-some_turns : goal.returns-clause-some_turns
returns-clause-some_turns g c =
    let contents = g.B.Part.Part.contents in
    let stamp = g.B.Item.Item.stamp in
    let es = c.args.chain.now.entries in
    let stamps = stamp c.args.item in
    let old = c.args.self.now in
    elim c.match-self.branch [
      | in-Absent w ↦
          let none = ap (λ q. ready_count (waits_of q)) (sym c.self.view_is ∙ ap placed w.in-Absent.is) in
          omega (arith, none, ap (λ s. s.turns) w.steps-is)
      | in-Whole w ↦
          let one = ap (λ q. ready_count (waits_of q)) (sym c.self.view_is ∙ ap placed w.in-Whole.is) in
          omega (arith, one, ap (λ s. s.turns) w.steps-is, w.commit_move.ensures.some_turns)
      | in-Late w ↦
          let at : old ≡ Late w.in-Late.late = sym c.self.view_is ∙ ap placed w.in-Late.is in
          let h : IsLateOf contents stamp w.in-Late.late es stamps = subst (λ q. IsOver contents stamp q es stamps) at c.requires.of in
          let prepared : IsPrepared contents w.in-Late.late es = subst (λ q. IsReady contents q es) at c.requires.ready in
          let none = ap (λ q. ready_count (waits_of q)) at ∙ late_unready contents (subst IsGoing at c.requires.going) h prepared in
          let within = w.commit_move-in-Late.ensures.cost 30 (omega (arith, h.few)) in
          omega (arith, none, ap (λ s. s.turns) w.steps-is, within.spent.turns_spent)
    ]
