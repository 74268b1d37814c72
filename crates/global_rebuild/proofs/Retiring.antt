-- Stacks that are put out of use, and one of their parts that is given back.
use Rattle.std.proofs.Common.{◌≡◌, ℕ, ◌+◌, ◌<◌, ◌≤◌, ◌==◌, ◌∙◌, Bool, false, true, if◌then◌else◌, ⊎_elim, nat_lt, List, [], ◌∷◌, ◌++◌, refl, ap, sym, subst, arith}
use Rattle.std.proofs.lemmas.Bool.{cases_lt}
use Rattle.std.proofs.lemmas.Bool.Decides.{nat_tests}
use Rattle.std.proofs.lemmas.List.Sums.{sum_by_push}
use Rattle.part_store.specs.Shelves.{one_if, lent_at}
use Rattle.part_store.specs.Store.{Stored}
use Rattle.log_levels.specs.Slots.{Slots}
use Rattle.log_levels.specs.Trades.{used_at, built_at, Trades, AreLent}
use Rattle.log_method.specs.Stack.{Stacked}
use Rattle.log_method.specs.Retired.{used_of, top_of, GivesOneBack}
use Rattle.global_rebuild.specs.Index.{in_retired}
use Rattle.global_rebuild.specs.Retiring.{with_retired, GivesBack}

unless : (b : Bool) {m n : ℕ} → m ≡ 0 → n ≡ 0 → (if b then m else 0) + n ≡ 0
unless true first second = omega (arith, first, second)
unless false first second = omega (arith, second)

module _ {P Item : Type 0} where
  -- where nothing is had, nothing of any level is
  pub used_none : (k : ℕ) (levels : List (Slots P Item)) → used_of levels ≡ 0 → used_at k levels ≡ 0
  used_none k [] nothing = refl
  used_none k (l ∷ above) nothing =
      unless (k == l.level) (omega (arith, nothing)) (used_none k above (omega (arith, nothing)))

  pub built_none : (k : ℕ) (levels : List (Slots P Item)) → used_of levels ≡ 0 → built_at k levels ≡ 0
  built_none k [] nothing = refl
  built_none k (l ∷ above) nothing =
      unless (k == l.level) (omega (arith, nothing)) (built_none k above (omega (arith, nothing)))

  -- a stack is put out of use after others
  pub with_both : (retired : List (Stacked P Item)) (s : Stacked P Item) (f : List (Slots P Item) → ℕ) → (used_of s.levels ≡ 0 → f s.levels ≡ 0)
      → in_retired f (with_retired retired s) ≡ in_retired f retired + f s.levels
  with_both retired s f nothing = ⊎_elim
      (λ some. let yes : nat_lt 0 (used_of s.levels) ≡ true = grind (arith, nat_tests, some) in rw yes (sum_by_push (λ s. f s.levels) retired s))
      (λ none. let no : nat_lt 0 (used_of s.levels) ≡ false = grind (arith, nat_tests, none) in rw no (omega (arith, nothing (omega (arith, none)))))
      (cases_lt 0 (used_of s.levels))

  pub with-some : (retired : List (Stacked P Item)) (s s' : Stacked P Item) → s' ≡ s → (used_of s'.levels == 0) ≡ false
      → retired ++ s' ∷ [] ≡ with_retired retired s
  with-some retired s s' same some =
      let memory : used_of s'.levels ≡ used_of s.levels = ap (λ x. used_of x.levels) same in
      let yes : nat_lt 0 (used_of s.levels) ≡ true = grind (arith, nat_tests, some, memory) in rw (yes, same) refl

  pub with-none : (retired : List (Stacked P Item)) (s s' : Stacked P Item) → s' ≡ s → (used_of s'.levels == 0) ≡ true
      → retired ≡ with_retired retired s
  with-none retired s s' same none =
      let memory : used_of s'.levels ≡ used_of s.levels = ap (λ x. used_of x.levels) same in
      let no : nat_lt 0 (used_of s.levels) ≡ false = grind (arith, nat_tests, none, memory) in rw no refl

  -- what the last of them has is lent
  pub lent_to_last : (before retired : List (Stacked P Item)) (last : Stacked P Item) (store : Stored) → retired ≡ before ++ last ∷ []
      → ((k : ℕ) → in_retired (used_at k) retired ≤ lent_at k store.builders) → ((k : ℕ) → in_retired (built_at k) retired ≤ lent_at k store.tables)
      → AreLent last.levels store
  lent_to_last before retired last store is lent lent_tables = record {
    builders = λ k. omega (arith, lent k, ap (in_retired (used_at k)) is, sum_by_push (λ s. used_at k s.levels) before last);
    tables = λ k. omega (arith, lent_tables k, ap (in_retired (built_at k)) is, sum_by_push (λ s. built_at k s.levels) before last);
  }

  -- there are none
  pub gives-none : (retired retired' : List (Stacked P Item)) (store : Stored) → retired ≡ [] → retired' ≡ [] → GivesBack 0 retired store retired' store
  gives-none retired retired' store is is' = record {
    one = rw (is, is') refl;
    keeps = record { builders = λ k. refl; tables = λ k. refl };
    lent = λ k. rw (is, is') refl;
    lent_tables = λ k. rw (is, is') refl;
    kept = λ k. omega arith;
  }

  -- the last gives a part back
  pub gives-some : (level : ℕ) (before retired retired' : List (Stacked P Item)) (last last' : Stacked P Item) (store store' : Stored)
      → retired ≡ before ++ last ∷ [] → 0 < used_of last.levels → level ≡ top_of last.levels → GivesOneBack last.levels last'.levels
      → Trades last.levels store last'.levels store'
      → ((f : List (Slots P Item) → ℕ) → (used_of last'.levels ≡ 0 → f last'.levels ≡ 0) → in_retired f retired' ≡ in_retired f before + f last'.levels)
      → GivesBack level retired store retired' store'
  gives-some level before retired retired' last last' store store' is some at g moves rest = record {
    one = omega (arith, ap (in_retired used_of) is, sum_by_push (λ s. used_of s.levels) before last, rest used_of (λ h. h), g.one, some);
    keeps = moves.keeps;
    lent = λ k. omega (
      arith,
      moves.builders k,
      ap (in_retired (used_at k)) is,
      sum_by_push (λ s. used_at k s.levels) before last,
      rest (used_at k) (used_none k last'.levels),
    );
    lent_tables = λ k. omega (
      arith,
      moves.tables k,
      ap (in_retired (built_at k)) is,
      sum_by_push (λ s. built_at k s.levels) before last,
      rest (built_at k) (built_none k last'.levels),
    );
    kept = λ k.
        let fewer : used_at k last.levels ≤ used_at k last'.levels + one_if (k == level) =
        subst (λ t. used_at k last.levels ≤ used_at k last'.levels + one_if (k == t)) (sym at) (omega (arith, g.at some k)) in
        omega (arith, moves.builders k, moves.keeps.builders k, fewer);
  }

  -- and is still there, or has nothing left
  pub rest_stays : (before retired' : List (Stacked P Item)) (last' : Stacked P Item) → retired' ≡ before ++ last' ∷ [] → (f : List (Slots P Item) → ℕ)
      → (used_of last'.levels ≡ 0 → f last'.levels ≡ 0) → in_retired f retired' ≡ in_retired f before + f last'.levels
  rest_stays before retired' last' is f nothing = ap (in_retired f) is ∙ sum_by_push (λ s. f s.levels) before last'

  pub rest_gone : (before retired' : List (Stacked P Item)) (last' : Stacked P Item) → retired' ≡ before → (used_of last'.levels == 0) ≡ true
      → (f : List (Slots P Item) → ℕ) → (used_of last'.levels ≡ 0 → f last'.levels ≡ 0) → in_retired f retired' ≡ in_retired f before + f last'.levels
  rest_gone before retired' last' is gone f nothing =
      omega (arith, ap (in_retired f) is, nothing (grind (arith, nat_tests, gone)))
