-- What a preparation frees.
use Rattle.std.proofs.Common.{◌≡◌, ◌==◌, ◌≢◌, ◌⊎◌, ⊎_elim, ℕ, ◌+◌, ◌-◌, ◌*◌, ◌^◌, ◌<◌, ◌≤◌, Bool, true, false, Option, Some, None, IfNone, Result, Ok, Err, IfOk, OnErr, if◌then◌else◌, inl, inr, ap, sym, subst, arith, pow_mono}
use Rattle.std.proofs.lemmas.Bool.{cases_eq, cases_lt}
use Rattle.std.proofs.lemmas.Bool.Decides.{nat_tests}
use Rattle.builder_trait.specs.Parts.{Contents}
use Rattle.part_store.specs.Shelves.{one_if, kept_at, lent_at, held_at}
use Rattle.part_store.specs.Store.{Stored, KeepsBoth, FreesOne, tables_for, kept_in}
use Rattle.log_levels.specs.Trades.{wanted_at}
use Rattle.log_method.specs.Stack.{Stacked}
use Rattle.chain_walk.specs.Walk.{Walked as Shadow, live_in}
use Rattle.global_rebuild.specs.Index.{Indexed, HasPaused, in_both, IsSpare, enough, too_high, FreesOne as Frees, none as frees_none, one as frees_one, IsCleared, Clears, fewer, fewer_tables, cleared}
use Rattle.chain_walk.specs.Memory.{HoldsNoLess}
use Rattle.global_rebuild.specs.Memory.{FreesOneAt}
use Rattle.global_rebuild.specs.Retiring.{FreesSpare, none, one, FreesUnwanted, crowded, one_builder, one_tables, cleared_before, TakeMemory}

pub anyway_ok : {A E p : Type 0} (r : Result A E) → p → IfOk r (λ _. p)
anyway_ok (Ok x) h = h
anyway_ok (Err e) h = tt

pub anyway_err : {A E p : Type 0} (r : Result A E) → p → OnErr r p
anyway_err (Ok x) h = tt
anyway_err (Err e) h = h

pub anyway_none : {A p : Type 0} (o : Option A) → p → IfNone o p
anyway_none None h = h
anyway_none (Some x) h = tt

-- a store frees what is kept of a level
pub freed_at : (level : ℕ) (old new : Stored) → FreesOne level old new → FreesOneAt level old new
freed_at level old new f = elim (cases_eq (kept_at level old.builders) 0) [
  | inl nothing ↦
      let t = f.tables nothing in
      record {
        lent = λ k. ap (lent_at k) t.0;
        lent_tables = t.1.lent;
        at = λ k. omega (arith, ap (kept_at k) t.0);
        at_tables = λ k. omega (arith, t.1.kept k);
        no_more = λ k. omega (arith, ap (kept_at k) t.0);
      }
  | inr there ↦
      let t = f.builder there in
      record {
        lent = t.0.lent;
        lent_tables = λ k. ap (lent_at k) t.1;
        at = λ k. omega (arith, t.0.kept k);
        at_tables = λ k. omega (arith, ap (kept_at k) t.1);
        no_more = λ k. omega (arith, t.0.kept k);
      }
]

-- where there is one builder too much of a level, it is freed
pub few_freed : (level : ℕ) (both : ℕ → ℕ) (old new : Stored) → FreesOne level old new → both level ≤ 10 → 10 < kept_at level old.builders + both level
    → ((k : ℕ) → kept_at k old.builders + both k ≤ 10 + one_if (k == level))
    → ((k : ℕ) → kept_at k new.builders + both k ≤ 10) × (10 ≤ kept_at level new.builders + both level)
few_freed level both old new f fits many few =
    let some : kept_at level old.builders ≢ 0 = λ none. absurd (omega (arith, none, fits, many)) in
    let t = (f.builder some).0 in
    let itself : (level == level) ≡ true = grind (arith, nat_tests) in
    let fewer : kept_at level new.builders ≡ kept_at level old.builders - 1 = rw itself at (t.kept level) in
    let most : kept_at level old.builders + both level ≤ 10 + 1 = rw itself at (few level) in (
      (λ k. elim (cases_eq k level) [
        | inl same ↦ rw same (omega (arith, fewer, most, many))
        | inr apart ↦
            let other : (k == level) ≡ false = grind (arith, nat_tests, apart) in
            let as_many : kept_at k new.builders ≡ kept_at k old.builders - 0 = rw other at (t.kept k) in
            let within : kept_at k old.builders + both k ≤ 10 + 0 = rw other at (few k) in
            omega (arith, as_many, within)
      ]),
      omega (arith, fewer, many),
    )

-- where there isn't, there are few of all
pub few_else : (level : ℕ) (both : ℕ → ℕ) (store : Stored) → kept_at level store.builders + both level ≤ 10
    → ((k : ℕ) → kept_at k store.builders + both k ≤ 10 + one_if (k == level)) → (k : ℕ) → kept_at k store.builders + both k ≤ 10
few_else level both store here few k = elim (cases_eq k level) [
  | inl same ↦ rw same here
  | inr apart ↦
      let other : (k == level) ≡ false = grind (arith, nat_tests, apart) in
      let within : kept_at k store.builders + both k ≤ 10 + 0 = rw other at (few k) in
      omega (arith, within)
]

-- a builder less is in memory, where one was kept
pub lowers : (level : ℕ) (old new : Stored) → FreesOne level old new → kept_at level old.builders ≢ 0
    → (kept_at level new.builders + 1 ≡ kept_at level old.builders) × (held_at level new.builders < held_at level old.builders)
lowers level old new f some =
    let t = (f.builder some).0 in
    let itself : (level == level) ≡ true = grind (arith, nat_tests) in
    let less : kept_at level new.builders ≡ kept_at level old.builders - 1 = rw itself at (t.kept level) in
    (omega (arith, less, some), omega (arith, less, t.lent level, some))

-- and tables less, where none was
pub lowers_tables : (level : ℕ) (old new : Stored) → FreesOne level old new → kept_at level old.builders ≡ 0 → 0 < kept_in level old
    → held_at level new.tables < held_at level old.tables
lowers_tables level old new f nothing some =
    let t = (f.tables nothing).1 in
    let itself : (level == level) ≡ true = grind (arith, nat_tests) in
    let less : kept_at level new.tables ≡ kept_at level old.tables - 1 = rw itself at (t.kept level) in
    omega (arith, less, t.lent level, some, nothing)

-- an index of any size has the lowest levels
high_level : (k n : ℕ) → 2 * n + 10 < 2 ^ k → 4 ≤ k
high_level k n high = elim (cases_lt k 4) [
  | inl low ↦ let small : 2 ^ k ≤ 2 ^ 3 = pow_mono {i = k} {j = 3} (omega (arith, low)) in absurd (omega (arith, small, high))
  | inr above ↦ above
]

tables_most : (k n : ℕ) → tables_for k n ≤ n
tables_most k n = most (k == 0)
  where
    most : (b : Bool) → (if b then 0 else n) ≤ n
    most true = omega arith
    most false = omega arith

module _ {P Item : Type 0} (contents : P → Contents Item) where
  -- no memory of a high level is left after some was taken
  cleared_still : {main main' : Stacked P Item} {shadow shadow' : Option (Shadow P Item)} {store new : Stored} → TakeMemory main shadow store main' shadow' new
      → live_in contents main' ≡ live_in contents main → IsCleared contents main shadow store → IsCleared contents main' shadow' new
  cleared_still {main} {main'} {shadow} {shadow'} {store} {new} t live clear k high = ⊎_elim
      (λ none. ⊎_elim
      (λ zero. inl (omega (arith, none, zero, t.no_more k, t.no_more_tables k, tables_most k (in_both (wanted_at 2 k) main' shadow'))))
      (λ some. inr (k, omega arith, omega (arith, some)))
      (cases_eq (in_both (wanted_at 2 k) main' shadow') 0))
      (λ some. let four : 4 ≤ some.0 = omega (arith, some.1, high_level k (live_in contents main') high) in
      inr (some.0, some.1, omega (arith, some.2, t.wanted some.0 four)))
      (clear k (omega (arith, high, live)))

module _ {P Item : Type 0} {contents : P → Contents Item} where
  -- a walk alone frees none
  pub paused_frees : {most : ℕ} {old new : Indexed P Item} → HasPaused contents most old new
      → Frees contents old.store new.main new.shadow new.store
  paused_frees p = frees_none p.no_less

  -- nor does what follows free more
  pub walked_frees : {old mid new : Stored} {main : Stacked P Item} {shadow : Option (Shadow P Item)} → HoldsNoLess old mid
      → Frees contents mid main shadow new → Frees contents old main shadow new
  walked_frees h f = elim f [
    | frees_none k ↦ frees_none (record {
      builders = λ n. omega (arith, h.builders n, k.builders n);
      tables = λ n. omega (arith, h.tables n, k.tables n);
    })
    | frees_one level k spare ↦ frees_one level (record {
      builders = λ n. omega (arith, h.builders n, k.builders n);
      tables = λ n. omega (arith, h.tables n, k.tables n);
    }) spare
  ]

  module _ {main : Stacked P Item} {shadow : Option (Shadow P Item)} {old new : Stored} (f : FreesSpare contents main shadow old new) where
    pub freed_lent : (k : ℕ) → lent_at k new.builders ≡ lent_at k old.builders
    freed_lent k = elim f [ none same ↦ ap (λ s. lent_at k s.builders) same | one level at spare ↦ at.lent k ]

    pub freed_lent_tables : (k : ℕ) → lent_at k new.tables ≡ lent_at k old.tables
    freed_lent_tables k = elim f [ none same ↦ ap (λ s. lent_at k s.tables) same | one level at spare ↦ at.lent_tables k ]

  -- what is spare is so after memory was taken, where levels have as much
  spare_still : {main main' : Stacked P Item} {shadow shadow' : Option (Shadow P Item)} {store store' : Stored} (level : ℕ)
      → TakeMemory main shadow store main' shadow' store' → live_in contents main' ≡ live_in contents main
      → IsSpare contents level main shadow store → IsSpare contents level main' shadow' store'
  spare_still level t live spare = elim spare [
    | enough many ↦ enough (omega (arith, many, t.used level, t.kept level))
    | too_high high ↦ too_high (omega (arith, high, live))
  ]

  -- one part is freed at most: one comes back, one may be freed, and memory is taken
  pub frees : {main main' : Stacked P Item} {shadow shadow' : Option (Shadow P Item)} {old back freed new : Stored} → KeepsBoth old back
      → FreesSpare contents main shadow back freed → TakeMemory main shadow freed main' shadow' new → live_in contents main' ≡ live_in contents main
      → Frees contents old main' shadow' new
  frees keeps f t live = elim f [
    | none same ↦ frees_none (record {
      builders = λ k. omega (arith, keeps.builders k, ap (λ s. held_at k s.builders) same, t.lent k, t.kept k);
      tables = λ k. omega (arith, keeps.tables k, ap (λ s. held_at k s.tables) same, t.lent_tables k, t.kept_tables k);
    })
    | one level at spare ↦ frees_one level (record {
      builders = λ k. omega (arith, keeps.builders k, at.lent k, at.at k, t.lent k, t.kept k);
      tables = λ k. omega (arith, keeps.tables k, at.lent_tables k, at.at_tables k, t.lent_tables k, t.kept_tables k);
    }) (spare_still level t live spare)
  ]

  -- what is freed of a high level isn't wanted there
  pub unwanted_freed : {main : Stacked P Item} {shadow : Option (Shadow P Item)} (level : ℕ) (old new : Stored) → FreesOne level old new
      → 2 * live_in contents main + 10 < 2 ^ level → 0 < kept_in level old
      → (in_both (wanted_at 2 level) main shadow ≡ 0) ⊎ (in_both (wanted_at 2 level) main shadow < kept_at level old.builders)
      → FreesUnwanted contents main shadow old new
  unwanted_freed level old new f high some free = elim (cases_eq (kept_at level old.builders) 0) [
    | inl nothing ↦ one_tables level (lowers_tables level old new f nothing some) high
        (⊎_elim (λ zero. zero) (λ less. absurd (omega (arith, less, nothing))) free)
    | inr there ↦ let less = lowers level old new f there in
        one_builder level less.1 high (⊎_elim (λ zero. omega (arith, zero)) (λ fits. omega (arith, fits, less.0)) free)
  ]

  -- one comes back, one that isn't wanted may be freed, and memory is taken
  pub clears : {main main' : Stacked P Item} {shadow shadow' : Option (Shadow P Item)} {old back freed new : Stored} → KeepsBoth old back
      → FreesUnwanted contents main shadow back freed → TakeMemory main shadow freed main' shadow' new → live_in contents main' ≡ live_in contents main
      → Clears contents old main' shadow' new
  clears {main} {main'} {shadow} {shadow'} keeps f t live = elim f [
    | crowded level less ten ↦ fewer level (omega (arith, less, ten, keeps.builders level, t.lent level, t.few level, t.used level))
    | one_builder level less high fits ↦
        fewer level (omega (arith, less, fits, keeps.builders level, t.lent level, t.no_more level, t.wanted level (high_level level (live_in contents main) high)))
    | one_tables level less high zero ↦ fewer_tables level (omega (
      arith,
      less,
      zero,
      keeps.tables level,
      t.lent_tables level,
      t.no_more_tables level,
      tables_most level (in_both (wanted_at 2 level) main' shadow'),
      t.wanted level (high_level level (live_in contents main) high),
    ))
    | cleared_before same clear ↦ cleared (cleared_still contents t live (subst (IsCleared contents main shadow) (sym same) clear))
  ]
