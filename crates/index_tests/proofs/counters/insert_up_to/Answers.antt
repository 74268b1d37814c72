use Rattle.std.proofs.Common.{◌≡◌, suc, ◌+◌, ◌<◌, ◌∙◌, List, ◌∷◌, ◌++◌, All, Contains, ⊎_elim, length, refl, sym, ap, subst, arith}
use Rattle.std.proofs.lemmas.Bool.{cases_lt}
use Rattle.std.proofs.lemmas.List.Elements.{All-cons, All-nil}
use Rattle.std.proofs.lemmas.List.Sorted.{All-permutation, Contains-permutation}
use Rattle.query_laws.proofs.Permutations.{IsPermutation-from_Permuted, Permuted-length, Permuted-sym}
use Rattle.binary_stack.specs.Levels.{IsPartOf, weight_of, live_items, all_items}
use Rattle.binary_stack.proofs.Marked.{All-first}
use Rattle.index_tests.proofs.counters.insert_up_to.Goals as goal

all_of : {A : Type 0} (Q : A → Type 0) (xs ys : List A) → IsPartOf xs ys → All Q ys → All Q xs
all_of Q xs ys part each =
    All-first Q xs part.0 (All-permutation Q ys (xs ++ part.0) (IsPermutation-from_Permuted (Permuted-sym part.1)) each)

at_head : {A : Type 0} (xs : List A) (x y : A) → x ≡ y → Contains (x ∷ xs) y
at_head xs x y same = (0, omega arith, same)

further : {A : Type 0} (xs : List A) (x y : A) → Contains xs y → Contains (x ∷ xs) y
further xs x y at = (suc at.0, omega (arith, at.1), at.2)

pub loop-stamp-init : goal.loop-stamp-init
loop-stamp-init g c = rw c.requires.empty (record {
  weight = refl;
  live = refl;
  below = All-nil (λ x. x.stamp < 0);
  first = λ some. absurd (omega (arith, some));
})

pub insert-requires-clause-light : goal.insert-requires-clause-light
insert-requires-clause-light g c =
    omega (arith, ap (λ s. weight_of s.levels) c.prepare.ensures.same, c.loop-stamp.invariant.weight, c.loop-stamp-test.true, c.requires.few)

pub insert-requires-clause-few : goal.insert-requires-clause-few
insert-requires-clause-few g c =
    omega (
      arith,
      ap (λ s. length (live_items g.B.Part.Part.contents s.levels)) c.prepare.ensures.same,
      c.loop-stamp.invariant.live,
      c.loop-stamp-test.true,
      c.requires.few,
    )

pub insert-requires-clause-apart : goal.insert-requires-clause-apart
insert-requires-clause-apart g c k d within same =
    let below = subst (λ s. All (λ x. x.stamp < c.loop-stamp.stamp) (all_items g.B.Part.Part.contents s.levels)) (sym c.prepare.ensures.same)
    c.loop-stamp.invariant.below in
    absurd (omega (arith, below k d within, same, ap (λ x. x.stamp) c.pair.ensures))

pub loop-stamp-preserved : goal.loop-stamp-preserved
loop-stamp-preserved g c =
    let contents = g.B.Part.Part.contents in
    let h = c.loop-stamp.invariant in
    let t = c.insert.ensures.taken_in in
    let same = ap (λ s. s.levels) c.prepare.ensures.same in
    let n = c.loop-stamp.stamp in
    let old = c.prepare.new.self.levels in
    let new = c.insert.new.self.levels in
    let item : c.pair.result ≡ record { x = 1; y = 2; stamp = n } = c.pair.ensures in
    let below = subst (λ ls. All (λ x. x.stamp < n) (all_items contents ls)) (sym same) h.below in
    let later : All (λ x. x.stamp < n + 1) (all_items contents old) = λ k d within. omega (arith, below k d within) in
    record {
      weight = t.weight ∙ ap (λ w. w + 1) (ap weight_of same ∙ h.weight);
      live = omega (arith, Permuted-length t.live, ap (λ ls. length (live_items contents ls)) same, h.live);
      below = all_of (λ x. x.stamp < n + 1) (all_items contents new) (c.pair.result ∷ all_items contents old) t.items
          (All-cons (λ x. x.stamp < n + 1) c.pair.result (all_items contents old) (omega (arith, ap (λ x. x.stamp) item)) later);
      first = λ some.
          let before = live_items contents old in
          Contains-permutation (c.pair.result ∷ before) (live_items contents new) (record { x = 1; y = 2; stamp = 0 })
          (IsPermutation-from_Permuted (Permuted-sym t.live))
          (⊎_elim
          (λ none. let zero_now : n ≡ 0 = omega (arith, none) in
          at_head before c.pair.result (record { x = 1; y = 2; stamp = 0 }) (item ∙ ap (λ s. record { x = 1; y = 2; stamp = s }) zero_now))
          (λ more. further before c.pair.result (record { x = 1; y = 2; stamp = 0 })
          (subst (λ ls. Contains (live_items contents ls) (record { x = 1; y = 2; stamp = 0 })) (sym same) (h.first (omega (arith, more)))))
          (cases_lt n 1));
    }
