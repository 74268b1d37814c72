use Rattle.std.proofs.Common.{rules, ◌≡◌, ℕ, ◌-◌, ◌*◌, min, None, ◌∙◌, Some, IfOk, inl, sym, ap, subst, arith}
use Rattle.query_laws.specs.StepLedger.{Counts}
use Rattle.log_levels.specs.Cost.{IsWithin, quotas}
use Rattle.log_method.proofs.Forecasting.{when_ok}
use Rattle.chain_walk.specs.Walk.{Walked as Shadow}
use Rattle.global_rebuild.specs.Index.{IsIndex, AreStocked, OwnsMemory, FreesOne, Clears, to_walk}
use Rattle.global_rebuild.specs.Retiring.{with_retired}
use Rattle.global_rebuild.proofs.Freeing.{walked_frees, anyway_ok, anyway_err}
use Rattle.global_rebuild.proofs.Swapping.{IsSwapped, ended, not_swapped, owns-swapped, settled_light, settled_light_too, as_far, IsMade, made}
use Rattle.global_rebuild.proofs.index.Index.prepare.Given.{Over}
use Rattle.global_rebuild.proofs.index.Index.prepare.Goals.{then-has_walked+in_ok-reserve, else-has_walked}
use Rattle.global_rebuild.proofs.index.Index.prepare.Goals as goal

is_swapped : (g : Over) (c : goal.After-settle g)
    → IsSwapped c.walk.new.self c.if-has_walked.self-inside.main c.if-has_walked.self-inside.shadow c.if-has_walked.self-inside.retired.items
is_swapped g c = elim c.if-has_walked.branch [
  | then-has_walked+in_ok-reserve w ↦
      let told : (r : Shadow g.row.B-Part.Denot g.row.B-Item.Denot) × (c.walk.new.self.shadow ≡ Some r) × (r.cursor ≡ None) = search rules in
      let put = w.swap.ensures.swapped told.0 (ap (λ i. i.shadow) c.self.view_is ∙ told.1) in
      ended told.0 told.1 told.2 (ap (λ i. i.main) w.self-inside-is ∙ put.0) (ap (λ i. i.shadow) w.self-inside-is ∙ w.swap.ensures.ended)
      (ap (λ i. i.retired.items) w.self-inside-is ∙ put.1 ∙ ap (λ rs. with_retired rs c.self.inside.main) w.reserve.ensures.items
      ∙ ap (λ i. with_retired i.retired i.main) c.self.view_is)
  | else-has_walked w ↦
      let some : (r : Shadow g.row.B-Part.Denot g.row.B-Item.Denot) → c.walk.new.self.shadow ≡ Some r → r.cursor ≡ None → ⊥ = search rules in
      not_swapped c.walk.new.self some (ap (λ i. i.main) w.self-inside-is ∙ ap (λ i. i.main) c.self.view_is)
      (ap (λ i. i.shadow) w.self-inside-is ∙ ap (λ i. i.shadow) c.self.view_is)
      (ap (λ i. i.retired.items) w.self-inside-is ∙ ap (λ i. i.retired) c.self.view_is)
]

made_of : (g : Over) (c : goal.After-settle g) → IsMade g.B.Part.Part.contents c.args.self.now
    (record { store = c.settle.new.store; main = c.settle.new.main; shadow = c.settle.new.shadow; retired = c.settle.new.retired.items })
made_of g c =
    let w = c.walk.ensures in
    let e = c.settle.ensures in
    made _ _ (w.chain c.requires.chain.0 c.requires.chain.1) (is_swapped g c) w.paused (search rules) (search rules)
    e.one e.live e.weight e.none e.some

-- both stacks are light
is_stocked : (g : Over) (c : goal.After-settle g) → IfOk c.settle.result (λ _. AreStocked 2 c.settle.new.main c.settle.new.shadow c.settle.new.store)
is_stocked g c =
    let e = c.settle.ensures in
    let h = c.walk.ensures.chain c.requires.chain.0 c.requires.chain.1 in
    let v = subst (IsIndex g.B.Part.Part.contents) c.self.view_is c.self.invariant in
    when_ok c.settle.result (λ stocked. stocked (settled_light h v (is_swapped g c) c.settle.new.main e.weight)
    (settled_light_too h v (is_swapped g c) c.settle.new.shadow e.none e.some)) e.stocked

pub returns-clause-prepared : goal.returns-clause-prepared
returns-clause-prepared g c =
    let ahead = (made_of g c).ahead in
    when_ok c.settle.result (λ stocked. record { stocked = stocked; shadow = ahead }) (is_stocked g c)

pub returns-clause-ready : goal.returns-clause-ready
returns-clause-ready g c = is_stocked g c

pub returns-clause-walked : goal.returns-clause-walked
returns-clause-walked g c = anyway_ok c.settle.result (made_of g c).on

pub returns-clause-refused : goal.returns-clause-refused
returns-clause-refused g c = anyway_err c.settle.result (inl (made_of g c).on)

pub settle-requires-clause-owns : goal.settle-requires-clause-owns
settle-requires-clause-owns g c =
    let owns = subst (λ i. OwnsMemory i) c.self.view_is c.self.invariant.memory in
    elim c.if-has_walked.branch [
      | then-has_walked+in_ok-reserve w ↦
          let told : (r : Shadow g.row.B-Part.Denot g.row.B-Item.Denot) × (c.walk.new.self.shadow ≡ Some r) × (r.cursor ≡ None) = search rules in
          let put = w.swap.ensures.swapped told.0 (ap (λ i. i.shadow) c.self.view_is ∙ told.1) in
          owns-swapped (ended told.0 told.1 told.2 (ap (λ i. i.main) w.self-inside-is ∙ put.0)
          (ap (λ i. i.shadow) w.self-inside-is ∙ w.swap.ensures.ended)
          (ap (λ i. i.retired.items) w.self-inside-is ∙ put.1 ∙ ap (λ rs. with_retired rs c.self.inside.main) w.reserve.ensures.items
          ∙ ap (λ i. with_retired i.retired i.main) c.self.view_is))
          c.if-has_walked.self-inside.store (ap (λ i. i.store) w.self-inside-is ∙ ap (λ i. i.store) c.self.view_is) owns
      | else-has_walked w ↦
          let some : (r : Shadow g.row.B-Part.Denot g.row.B-Item.Denot) → c.walk.new.self.shadow ≡ Some r → r.cursor ≡ None → ⊥ = search rules in
          owns-swapped (not_swapped c.walk.new.self some (ap (λ i. i.main) w.self-inside-is ∙ ap (λ i. i.main) c.self.view_is)
          (ap (λ i. i.shadow) w.self-inside-is ∙ ap (λ i. i.shadow) c.self.view_is)
          (ap (λ i. i.retired.items) w.self-inside-is ∙ ap (λ i. i.retired) c.self.view_is))
          c.if-has_walked.self-inside.store (ap (λ i. i.store) w.self-inside-is ∙ ap (λ i. i.store) c.self.view_is) owns
    ]

-- a swap takes nothing of the store
same_store : (g : Over) (c : goal.After-settle g) → c.if-has_walked.self-inside.store ≡ c.walk.new.self.store
same_store g c = elim c.if-has_walked.branch [
  | then-has_walked+in_ok-reserve w ↦ ap (λ i. i.store) w.self-inside-is ∙ ap (λ i. i.store) c.self.view_is
  | else-has_walked w ↦ ap (λ i. i.store) w.self-inside-is ∙ ap (λ i. i.store) c.self.view_is
]

pub returns-clause-frees : goal.returns-clause-frees
returns-clause-frees g c =
    walked_frees c.walk.ensures.paused.no_less
    (subst (λ s. FreesOne g.B.Part.Part.contents s c.settle.new.main c.settle.new.shadow c.settle.new.store) (same_store g c) c.settle.ensures.frees)

pub returns-clause-clears : goal.returns-clause-clears
returns-clause-clears g c =
    anyway_ok c.settle.result (λ none. subst (λ s. Clears g.B.Part.Part.contents s c.settle.new.main c.settle.new.shadow c.settle.new.store)
    (same_store g c ∙ c.walk.ensures.quiet none) c.settle.ensures.clears)

-- as many are handed over
ticked : (walked handed turns marks : ℕ) {touches : ℕ} {old new : Counts} → walked ≡ handed
    → IsWithin (min 4 walked * turns) (min 4 walked * marks) touches old new → IsWithin (min 4 handed * turns) (min 4 handed * marks) touches old new
ticked walked handed turns marks {touches} {old} {new} same h = subst (λ n. IsWithin (min 4 n * turns) (min 4 n * marks) touches old new) same h

pub returns-in_err-reserve-clause-cost : goal.returns-in_err-reserve-clause-cost
returns-in_err-reserve-clause-cost g c g' light =
    let left = to_walk g.B.Part.Part.contents in
    ticked _ _ (quotas g.B.Builder.SLOPE g.B.Builder.BASE 0 g') (2 * g') (ap (λ i. left c.args.self.now - left i) (sym c.self.view_is)) (c.walk.ensures.cost g' light)

-- as much is left to walk as after the walk
far : (g : Over) (c : goal.After-settle g) → to_walk g.B.Part.Part.contents c.walk.new.self
    ≡ to_walk g.B.Part.Part.contents (record { store = c.settle.new.store; main = c.settle.new.main; shadow = c.settle.new.shadow; retired = c.settle.new.retired.items })
far g c =
    let e = c.settle.ensures in
    as_far (record { store = c.settle.new.store; main = c.settle.new.main; shadow = c.settle.new.shadow; retired = c.settle.new.retired.items })
    (c.walk.ensures.chain c.requires.chain.0 c.requires.chain.1) e.live e.none e.some (is_swapped g c)

pub returns-clause-cost : goal.returns-clause-cost
returns-clause-cost g c g' light =
    ticked _ _ (quotas g.B.Builder.SLOPE g.B.Builder.BASE 0 g') (2 * g') (ap (λ n. to_walk g.B.Part.Part.contents c.args.self.now - n) (far g c)) (c.walk.ensures.cost g' light)

pub returns-in_err-reserve-clause-some_turns : goal.returns-in_err-reserve-clause-some_turns
returns-in_err-reserve-clause-some_turns g c = omega (arith, c.walk.ensures.some_turns, ap (to_walk g.B.Part.Part.contents) c.self.view_is)

pub returns-clause-some_turns : goal.returns-clause-some_turns
returns-clause-some_turns g c = omega (arith, c.walk.ensures.some_turns, far g c)
