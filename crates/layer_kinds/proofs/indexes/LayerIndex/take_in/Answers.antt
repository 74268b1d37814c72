use Rattle.std.proofs.Common.{◌≡◌, ◌+◌, ◌*◌, ◌∙◌, true, [], ◌∷◌, Some, length, ap, refl, sym, subst, arith}
use Rattle.std.specs.Option.{option_map_or}
use Rattle.std.proofs.lemmas.List.{length-append}
use Rattle.id_chain.specs.Chain.{Entry, HandlesDiffer, item_at}
use Rattle.id_chain.proofs.Entries.{Apart-parts, item_at-split, linked_head}
use Rattle.global_rebuild.specs.Index.{IsIndexOf}
use Rattle.global_rebuild.proofs.Weights.{as_many}
use Rattle.late_index.specs.Late.{IsLateOf, IsPrepared, goal_of}
use Rattle.map_model.specs.Cost.{Rate}
use Rattle.layer_kinds.specs.Shares.{insert_turns, insert_marks, ready_count}
use Rattle.layer_kinds.specs.Indexing.{Absent, Whole, Late, waits_of, wait_by, IsOf, IsReady}
use Rattle.layer_kinds.specs.Places.{placed}
use Rattle.layer_kinds.specs.Committing.{IsGoing, IsOver}
use Rattle.layer_kinds.proofs.Branches.{absent_commits, whole_commits, late_commits, commits_as, keeps_both, late_appended, late_unready}
use Rattle.layer_kinds.proofs.Shared.{IsShared-there, IsShared-nothing}
use Rattle.layer_kinds.proofs.Waiting.{none_left}
use Rattle.layer_kinds.proofs.indexes.LayerIndex.take_in.Goals as goal
use Rattle.layer_kinds.proofs.indexes.LayerIndex.take_in.Goals.{in-Absent, in-Whole, in-Late}

pub returns-clause-commits : goal.returns-clause-commits
returns-clause-commits g c front item is =
    let contents = g.B.Part.Part.contents in
    let stamp = g.B.Item.Item.stamp in
    let rate : Rate = record { slope = g.B.Builder.SLOPE; base = g.B.Builder.BASE } in
    let es = c.args.chain.now.entries in
    let last = c.requires.last in
    let e : Entry g.row.B-Item.Denot = record { handle = c.args.handle; item = item } in
    let e' : Entry g.row.B-Item.Denot = record { handle = c.args.handle; item = last.1 } in
    let after = wait_by true c.args.handle front in
    let old = c.args.self.now in
    let new = placed c.match-self.self-inside.place in
    let more = ap length last.2 ∙ length-append last.0 (e' ∷ []) in
    elim c.match-self.branch [
      | in-Absent w ↦
          commits_as contents {rate = rate} {after = after} {turns = insert_turns} {marks = insert_marks} {many = 2 * length es + 8} old Absent new Absent
          (sym c.self.view_is ∙ ap placed w.in-Absent.is) (ap (λ l. placed l.place) w.self-inside-is ∙ ap placed w.in-Absent.is) w.steps-is
          (absent_commits contents c.args.steps.now)
      | in-Whole w ↦
          let i = w.in-Whole.index in
          let i' = w.commit_insert.new.self in
          let at : old ≡ Whole i = sym c.self.view_is ∙ ap placed w.in-Whole.is in
          let h : IsIndexOf contents stamp i last.0 (stamp last.1) = subst (λ q. IsOver contents stamp q last.0 (stamp last.1)) at last.3 in
          commits_as contents {rate = rate} {after = after} {turns = insert_turns} {marks = insert_marks} {many = 2 * length es + 8} old (Whole i) new (Whole i')
          at (ap (λ l. placed l.place) w.self-inside-is) w.steps-is
          (whole_commits contents i i' (none_left true c.args.handle front 0 refl) w.commit_insert.ensures.held (λ g' less.
          IsShared-there (insert_turns g') (insert_marks g') g' rate (g.met.B.MapStructure.few_touches g')
          (w.commit_insert.ensures.cost g' (omega (arith, less, more, as_many contents stamp i last.0 h)))))
      | in-Late w ↦
          let l = w.in-Late.late in
          let l' = w.commit_insert-in-Late.new.self in
          let at : old ≡ Late l = sym c.self.view_is ∙ ap placed w.in-Late.is in
          let h : IsLateOf contents stamp l last.0 (stamp last.1) = subst (λ q. IsOver contents stamp q last.0 (stamp last.1)) at last.3 in
          let prepared : IsPrepared contents l last.0 = subst (λ q. IsReady contents q last.0) at last.4 in
          let counted = w.commit_insert-in-Late.ensures.counted in
          commits_as contents {rate = rate} {after = after} {turns = insert_turns} {marks = insert_marks} {many = 2 * length es + 8} old (Late l) new (Late (record l { waiting = goal_of l + 1 }))
          at (ap (λ l. placed l.place) w.self-inside-is ∙ ap Late counted) w.steps-is
          (late_commits contents l (record l { waiting = goal_of l + 1 })
          (late_appended contents front e (subst IsGoing at c.requires.going) h prepared (subst HandlesDiffer is c.requires.differ))
          (keeps_both l.store) (λ g' less. IsShared-nothing (insert_turns g') (insert_marks g') g' (Some rate ∷ []) c.args.steps.now))
    ]

pub returns-clause-of : goal.returns-clause-of
returns-clause-of g c item found =
    let contents = g.B.Part.Part.contents in
    let stamp = g.B.Item.Item.stamp in
    let es = c.args.chain.now.entries in
    let last = c.requires.last in
    let old = c.args.self.now in
    elim c.match-self.branch [
      | in-Absent w ↦
          subst (λ q. IsOf contents stamp q es (stamp item + 1)) (sym (ap (λ l. placed l.place) w.self-inside-is ∙ ap placed w.in-Absent.is)) tt
      | in-Whole w ↦
          subst (λ q. IsOf contents stamp q es (stamp item + 1)) (sym (ap (λ l. placed l.place) w.self-inside-is)) (w.commit_insert.ensures.chain item found)
      | in-Late w ↦
          let l = w.in-Late.late in
          let l' = w.commit_insert-in-Late.new.self in
          let e' : Entry g.row.B-Item.Denot = record { handle = c.args.handle; item = last.1 } in
          let at : old ≡ Late l = sym c.self.view_is ∙ ap placed w.in-Late.is in
          let h : IsLateOf contents stamp l last.0 (stamp last.1) = subst (λ q. IsOver contents stamp q last.0 (stamp last.1)) at last.3 in
          let prepared : IsPrepared contents l last.0 = subst (λ q. IsReady contents q last.0) at last.4 in
          let differ = subst HandlesDiffer last.2 c.requires.differ in
          let apart = Apart-parts last.0 (e' ∷ []) differ in
          let here : item_at c.args.handle es ≡ Some last.1 =
          ap (item_at c.args.handle) last.2 ∙ item_at-split c.args.handle last.1 last.0 [] (apart.back_only c.args.handle (linked_head e' [])) in
          let same : stamp last.1 ≡ stamp item = ap (λ o. option_map_or stamp o 0) (sym here ∙ found) in
          let chain = w.commit_insert-in-Late.ensures.chain last.0 e' differ (omega (arith, ap length last.2, c.requires.few)) prepared h in
          let all : IsLateOf contents stamp l' es (stamp item + 1) =
          subst (λ n. IsLateOf contents stamp l' es (n + 1)) same (subst (λ xs. IsLateOf contents stamp l' xs (stamp last.1 + 1)) (sym last.2) chain) in
          subst (λ q. IsOf contents stamp q es (stamp item + 1)) (sym (ap (λ l. placed l.place) w.self-inside-is))
          (all, omega (arith, ap (λ x. x.waiting) w.commit_insert-in-Late.ensures.counted))
    ]

pub returns-clause-some_turns : goal.returns-clause-some_turns
returns-clause-some_turns g c =
    let contents = g.B.Part.Part.contents in
    let stamp = g.B.Item.Item.stamp in
    let last = c.requires.last in
    let old = c.args.self.now in
    elim c.match-self.branch [
      | in-Absent w ↦
          let none = ap (λ q. ready_count (waits_of q)) (sym c.self.view_is ∙ ap placed w.in-Absent.is) in
          omega (arith, none, ap (λ s. s.turns) w.steps-is)
      | in-Whole w ↦
          let one = ap (λ q. ready_count (waits_of q)) (sym c.self.view_is ∙ ap placed w.in-Whole.is) in
          omega (arith, one, ap (λ s. s.turns) w.steps-is, w.commit_insert.ensures.some_turns)
      | in-Late w ↦
          let at : old ≡ Late w.in-Late.late = sym c.self.view_is ∙ ap placed w.in-Late.is in
          let h : IsLateOf contents stamp w.in-Late.late last.0 (stamp last.1) = subst (λ q. IsOver contents stamp q last.0 (stamp last.1)) at last.3 in
          let prepared : IsPrepared contents w.in-Late.late last.0 = subst (λ q. IsReady contents q last.0) at last.4 in
          let none = ap (λ q. ready_count (waits_of q)) at ∙ late_unready contents (subst IsGoing at c.requires.going) h prepared in
          omega (arith, none, ap (λ s. s.turns) w.steps-is)
    ]
