use Rattle.std.proofs.Common.{◌≡◌, suc, ◌+◌, ◌^◌, ◌<◌, ◌∙◌, List, ◌∷◌, ◌++◌, All, Contains, ⊎_elim, refl, sym, ap, subst, arith}
use Rattle.std.proofs.lemmas.Bool.{cases_lt}
use Rattle.std.proofs.lemmas.List.Elements.{All-cons, All-nil}
use Rattle.std.proofs.lemmas.List.Sorted.{All-permutation, Contains-permutation}
use Rattle.query_laws.proofs.Permutations.{IsPermutation-from_Permuted, Permuted-sym}
use Rattle.log_levels.specs.Slots.{IsPartOf}
use Rattle.log_levels.specs.Levels.{weight_of, live_items, all_items}
use Rattle.log_levels.proofs.Marks.{All-first}
use Rattle.log_method.proofs.Taking.{lent_none, lent_on, lent_prepared, may_tick}
use Rattle.index_tests.proofs.stacks.insert_up_to.Goals as goal

all_of : {A : Type 0} (Q : A → Type 0) (xs ys : List A) → IsPartOf xs ys → All Q ys → All Q xs
all_of Q xs ys part each =
    All-first Q xs part.0 (All-permutation Q ys (xs ++ part.0) (IsPermutation-from_Permuted (Permuted-sym part.1)) each)

at_head : {A : Type 0} (xs : List A) (x y : A) → x ≡ y → Contains (x ∷ xs) y
at_head xs x y same = (0, omega arith, same)

further : {A : Type 0} (xs : List A) (x y : A) → Contains xs y → Contains (x ∷ xs) y
further xs x y at = (suc at.0, omega (arith, at.1), at.2)

pub loop-stamp-init : goal.loop-stamp-init
loop-stamp-init g c = rw c.requires.empty (record {
  weight = refl;
  below = All-nil (λ x. x.stamp < 0);
  first = λ some. absurd (omega (arith, some));
  lent = lent_none c.args.store.now;
})

pub insert-requires-clause-ready : goal.insert-requires-clause-ready
insert-requires-clause-ready g c =
    let p = c.prepare.ensures in
    let light : weight_of c.prepare.new.self.levels < 2 ^ 31 = omega (arith, p.same.weight, c.loop-stamp.invariant.weight, c.requires.few) in
    may_tick _ _ light (c.in_ok-prepare.ensures.stocked light) (lent_prepared _ _ _ _ _ p.each p.taken c.loop-stamp.invariant.lent)

pub loop-stamp-preserved : goal.loop-stamp-preserved
loop-stamp-preserved g c =
    let contents = g.B.Part.Part.contents in
    let h = c.loop-stamp.invariant in
    let prepared = c.prepare.ensures.same in
    let n = c.loop-stamp.stamp in
    let new = c.insert.new.self.levels in
    let item : c.pair.result ≡ record { x = 1; y = 2; stamp = n } = c.pair.ensures in
    let below = subst (All (λ x. x.stamp < n)) (sym prepared.items) h.below in
    let later : All (λ x. x.stamp < n + 1) (all_items contents c.prepare.new.self.levels) = λ k d within. omega (arith, below k d within) in
    record {
      weight = c.insert.ensures.inserts.weight ∙ ap (λ w. w + 1) (prepared.weight ∙ h.weight);
      below = all_of (λ x. x.stamp < n + 1) (all_items contents new) (c.pair.result ∷ all_items contents c.prepare.new.self.levels) c.insert.ensures.inserts.items
          (All-cons (λ x. x.stamp < n + 1) c.pair.result (all_items contents c.prepare.new.self.levels)
          (omega (arith, ap (λ x. x.stamp) item)) later);
      first = λ some.
          let before = live_items contents c.prepare.new.self.levels in
          Contains-permutation (c.pair.result ∷ before) (live_items contents new) (record { x = 1; y = 2; stamp = 0 })
          (IsPermutation-from_Permuted (Permuted-sym c.insert.ensures.inserts.live))
          (⊎_elim
          (λ none. let zero_now : n ≡ 0 = omega (arith, none) in
          at_head before c.pair.result (record { x = 1; y = 2; stamp = 0 }) (item ∙ ap (λ s. record { x = 1; y = 2; stamp = s }) zero_now))
          (λ more. further before c.pair.result (record { x = 1; y = 2; stamp = 0 })
          (subst (λ l. Contains l (record { x = 1; y = 2; stamp = 0 })) (sym prepared.live) (h.first (omega (arith, more)))))
          (cases_lt n 1));
      lent = lent_on _ _ _ _ c.insert.ensures.trades.trades (lent_prepared _ _ _ _ _ c.prepare.ensures.each c.prepare.ensures.taken h.lent);
    }
