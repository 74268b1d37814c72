-- Memory that is taken for both stacks.
use Rattle.std.proofs.Common.{◌≡◌, ◌==◌, ℕ, ◌+◌, ◌^◌, ◌<◌, ◌≤◌, ◌≢◌, ◌⊎◌, ◌∙◌, true, false, if◌then◌else◌, nat_le, List, [], ◌∷◌, ◌++◌, All, Option, Some, None, inl, inr, refl, ap, sym, arith, pow_mono}
use Rattle.std.proofs.lemmas.Bool.{cases_eq}
use Rattle.std.proofs.lemmas.Bool.Decides.{nat_tests}
use Rattle.part_store.specs.Shelves.{one_if}
use Rattle.part_store.specs.Store.{Stored}
use Rattle.std.proofs.lemmas.List.{append-nil}
use Rattle.std.proofs.lemmas.List.Elements.{All-nil, All-head, All-tail}
use Rattle.log_levels.specs.Slots.{Slots, IsIdle, ticks_of}
use Rattle.log_levels.specs.Trades.{used_at, built_at, is_due, due_at, wanted_at}
use Rattle.log_levels.proofs.Neighbouring.{none_ticks}
use Rattle.log_method.specs.Stack.{Stacked}
use Rattle.log_method.specs.Few.{HaveFew}
use Rattle.log_method.specs.Preparing.{AreKept, HasTaken}
use Rattle.log_method.proofs.Taking.{used_kept, built_kept}
use Rattle.chain_walk.specs.Walk.{Walked as Shadow}
use Rattle.global_rebuild.specs.Index.{in_both}
use Rattle.global_rebuild.specs.Retiring.{TakeMemory}
use Rattle.global_rebuild.proofs.Owning.{in_shadow, shadow_few}

-- a level that is idle is due soon where it is one of the lowest two
early : (level k ticks : ℕ) → 4 ≤ k → k ≡ level + 1 → ticks ≡ 0 → nat_le (2 ^ level) (ticks + 2) ≡ false
early level k ticks four next none =
    let high : 2 ^ 3 ≤ 2 ^ level = pow_mono {i = 3} {j = level} (omega (arith, four, next)) in
    let late : ticks + 2 < 2 ^ level = omega (arith, high, none) in grind (arith, nat_tests, late)

module _ {P Item : Type 0} where
  due_append : (k : ℕ) (a b : List (Slots P Item)) → due_at 2 k (a ++ b) ≡ due_at 2 k a + due_at 2 k b
  due_append k [] b = omega arith
  due_append k (l ∷ a) b = omega (arith, due_append k a b)

  due_idle : (k : ℕ) (levels : List (Slots P Item)) → 4 ≤ k → All IsIdle levels → due_at 2 k levels ≡ 0
  due_idle k [] four h = refl
  due_idle k (l ∷ above) four h = omega (arith, here (cases_eq k (l.level + 1)), due_idle k above four (All-tail IsIdle l above h))
    where
      here : (k ≡ l.level + 1) ⊎ (k ≢ l.level + 1) → (if k == l.level + 1 then one_if (is_due 2 l) else 0) ≡ 0
      here (inl next) =
          let itself : (k == (l.level + 1)) ≡ true = grind (arith, nat_tests, next) in
          rw (itself, early l.level k (ticks_of l) four next (none_ticks l (All-head IsIdle l above h).no_construction)) refl
      here (inr apart) = let other : (k == (l.level + 1)) ≡ false = grind (arith, nat_tests, apart) in rw other refl

  -- idle levels want nothing but for the lowest
  wanted_kept : (old new : List (Slots P Item)) → AreKept old new → (k : ℕ) → 4 ≤ k → wanted_at 2 k new ≡ wanted_at 2 k old
  wanted_kept old new h k four = omega (arith, ap (due_at 2 k) h.are, due_append k old h.added, due_idle k h.added four h.idle)

  -- a shadow, where there is one, has the levels that it had, and idle ones
  abbrev pub IsKeptToo : Option (Shadow P Item) → Option (Shadow P Item) → Type 0
  IsKeptToo shadow shadow' = (shadow ≡ None → shadow' ≡ None)
      × ((r : Shadow P Item) → shadow ≡ Some r → (r' : Shadow P Item) × (shadow' ≡ Some r') × AreKept r.stack.levels r'.stack.levels)

  kept_too : (f : List (Slots P Item) → ℕ) → ((old new : List (Slots P Item)) → AreKept old new → f new ≡ f old)
      → (shadow shadow' : Option (Shadow P Item)) → IsKeptToo shadow shadow' → in_shadow f shadow' ≡ in_shadow f shadow
  kept_too f same None shadow' h = ap (in_shadow f) (h.0 refl)
  kept_too f same (Some r) shadow' h = let k = h.1 r refl in ap (in_shadow f) k.1 ∙ same r.stack.levels k.0.stack.levels k.2

  pub same_too : (shadow : Option (Shadow P Item)) → IsKeptToo shadow shadow
  same_too shadow =
      ((λ none. none), (λ r there. (r, there, record { added = []; are = sym (append-nil r.stack.levels); idle = All-nil IsIdle })))

  module _ {main main' : Stacked P Item} {shadow shadow' : Option (Shadow P Item)} (kept : AreKept main.levels main'.levels)
      (too : IsKeptToo shadow shadow') where
    used_same : (k : ℕ) → in_both (used_at k) main' shadow' ≡ in_both (used_at k) main shadow
    used_same k = omega (
      arith,
      used_kept main.levels main'.levels kept k,
      kept_too (used_at k) (λ old new h. used_kept old new h k) shadow shadow' too,
    )

    built_same : (k : ℕ) → in_both (built_at k) main' shadow' ≡ in_both (built_at k) main shadow
    built_same k = omega (
      arith,
      built_kept main.levels main'.levels kept k,
      kept_too (built_at k) (λ old new h. built_kept old new h k) shadow shadow' too,
    )

    wanted_same : (k : ℕ) → 4 ≤ k → in_both (wanted_at 2 k) main' shadow' ≡ in_both (wanted_at 2 k) main shadow
    wanted_same k four = omega (
      arith,
      wanted_kept main.levels main'.levels kept k four,
      kept_too (wanted_at 2 k) (λ old new h. wanted_kept old new h k four) shadow shadow' too,
    )

    -- levels alone were added
    pub takes-levels : (store : Stored) → TakeMemory main shadow store main' shadow' store
    takes-levels store = record {
      used = used_same;
      built = built_same;
      lent = λ k. refl;
      lent_tables = λ k. refl;
      kept = λ k. omega arith;
      kept_tables = λ k. omega arith;
      few = λ k. omega (arith, used_same k);
      no_more = λ k. omega arith;
      no_more_tables = λ k. omega arith;
      wanted = wanted_same;
    }

    -- and what is wanted is taken
    pub takes-wanted : (store store' : Stored) → HaveFew main'.levels → ((r : Shadow P Item) → shadow' ≡ Some r → HaveFew r.stack.levels)
        → HasTaken (λ k. in_both (wanted_at 2 k) main' shadow') store store' → TakeMemory main shadow store main' shadow' store'
    takes-wanted store store' few few_too taken = record {
      used = used_same;
      built = built_same;
      lent = taken.builders.lent;
      lent_tables = taken.tables.lent;
      kept = taken.builders.no_less;
      kept_tables = taken.tables.no_less;
      few = λ k. omega (arith, used_same k, taken.builders.no_more k, few.builders k, shadow_few shadow' few_too k);
      no_more = taken.builders.no_more;
      no_more_tables = taken.tables.no_more;
      wanted = wanted_same;
    }
