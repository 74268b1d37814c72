-- What a store keeps for the ticks to come.
use Rattle.std.proofs.Common.{◌≡◌, ◌==◌, ℕ, ◌+◌, ◌-◌, ◌^◌, ◌<◌, ◌≤◌, ◌&&◌, ◌∙◌, Bool, true, false, nat_le, List, [], ◌∷◌, ◌++◌, All, if◌then◌else◌, length, inl, inr, refl, ap, sym, subst, arith}
use Rattle.std.proofs.lemmas.Bool.{cases_eq, cases_lt}
use Rattle.std.proofs.lemmas.Bool.Decides.{nat_tests}
use Rattle.std.proofs.lemmas.List.Elements.{All-head, All-tail}
use Rattle.std.specs.Option.{is_some}
use Rattle.part_store.specs.Shelves.{Shelved, one_if, kept_at, TakesUpTo}
use Rattle.part_store.specs.Store.{Stored, HasRooms, StocksUpTo, tables_for}
use Rattle.log_levels.specs.Slots.{Slots, IsIdle, ticks_of}
use Rattle.log_levels.specs.Levels.{weight_of}
use Rattle.log_levels.specs.Trades.{is_due, due_at, wanted_at, used_at, built_at, used_in, runs_in, AreLent, Trades, IsStocked, IsQuietAbove, IsQuiet}
use Rattle.log_method.specs.Stack.{MayTick}
use Rattle.log_method.specs.Preparing.{AreKept, AreEnough, AreTaken, HasTaken, HasRoomsBelow}
use Rattle.log_method.proofs.Forecasting.{none_at_zero}

AreTaken-refl : (wanted : ℕ → ℕ) (l : List Shelved) → AreTaken wanted l l
AreTaken-refl wanted l = record { lent = λ k. refl; no_less = λ k. omega arith; no_more = λ k. omega arith }

AreTaken-then : (wanted : ℕ → ℕ) (a b c : List Shelved) → AreTaken wanted a b → AreTaken wanted b c → AreTaken wanted a c
AreTaken-then wanted a b c h k = record {
  lent = λ n. k.lent n ∙ h.lent n;
  no_less = λ n. omega (arith, h.no_less n, k.no_less n);
  no_more = λ n. omega (arith, h.no_more n, k.no_more n);
}

AreTaken-stock : (wanted : ℕ → ℕ) (level n : ℕ) (old new : List Shelved) → n ≡ wanted level → TakesUpTo level n old new → AreTaken wanted old new
AreTaken-stock wanted level n old new is h = record {
  lent = h.lent;
  no_less = h.no_less;
  no_more = λ k. elim (cases_eq k level) [
    | inl same ↦ let here : (k == level) ≡ true = grind (arith, nat_tests, same) in
        let some : kept_at k new ≤ kept_at k old + (n - kept_at k old) = rw here at (h.no_more k) in omega (arith, some, is, ap wanted same)
    | inr apart ↦ let other : (k == level) ≡ false = grind (arith, nat_tests, apart) in
        let none : kept_at k new ≤ kept_at k old + 0 = rw other at (h.no_more k) in omega (arith, none)
  ];
}

module _ (wanted : ℕ → ℕ) where
  pub HasTaken-refl : (store : Stored) → HasTaken wanted store store
  HasTaken-refl store = record {
    builders = AreTaken-refl wanted store.builders;
    tables = AreTaken-refl (λ k. tables_for k (wanted k)) store.tables;
  }

  pub HasTaken-then : (a b c : Stored) → HasTaken wanted a b → HasTaken wanted b c → HasTaken wanted a c
  HasTaken-then a b c h k = record {
    builders = AreTaken-then wanted a.builders b.builders c.builders h.builders k.builders;
    tables = AreTaken-then (λ k. tables_for k (wanted k)) a.tables b.tables c.tables h.tables k.tables;
  }

  -- a store took what is wanted of a level
  pub HasTaken-stock : (level n : ℕ) (old new : Stored) → n ≡ wanted level → StocksUpTo level n old new → HasTaken wanted old new
  HasTaken-stock level n old new is h = record {
    builders = AreTaken-stock wanted level n old.builders new.builders is h.builders;
    tables = AreTaken-stock (λ k. tables_for k (wanted k)) level (tables_for level n) old.tables new.tables (ap (tables_for level) is) h.tables;
  }

  pub HasRoomsBelow-none : (store : Stored) → HasRoomsBelow 0 wanted store
  HasRoomsBelow-none store k below = absurd (omega (arith, below))

  -- those below the level that was stocked find their memory still
  pub HasRoomsBelow-more : (level n : ℕ) (old new : Stored) → n ≡ wanted level → StocksUpTo level n old new → HasRooms level n new
      → HasRoomsBelow level wanted old → HasRoomsBelow (level + 1) wanted new
  HasRoomsBelow-more level n old new is h has below k within = elim (cases_eq k level) [
    | inl same ↦ subst (λ j. HasRooms j (wanted j) new) (sym same) (subst (λ m. HasRooms level m new) is has)
    | inr apart ↦ let was = below k (omega (arith, within, apart)) in
        record { builders = omega (arith, was.builders, h.builders.no_less k); tables = omega (arith, was.tables, h.tables.no_less k) }
  ]

module _ {P Item : Type 0} where
  -- two ticks find what they may take, where each level was stocked
  pub stocked : (levels : List (Slots P Item)) (store : Stored) → HasRoomsBelow 32 (λ k. wanted_at 2 k levels) store → AreEnough levels
      → IsStocked levels store 2
  stocked levels store rooms enough = record {
    builders = λ k. elim (cases_lt k 32) [
      | inl low ↦ (rooms k low).builders
      | inr high ↦ let zero : (k == 0) ≡ false = grind (arith, nat_tests, high) in rw zero (omega (arith, enough.within k high))
    ];
    tables = λ k. elim (cases_lt k 32) [
      | inl low ↦ at k (rooms k low).tables
      | inr high ↦ omega (arith, enough.within k high)
    ];
    quiet = enough.quiet;
  }
    where
      at : (k : ℕ) → tables_for k (wanted_at 2 k levels) ≤ kept_at k store.tables → due_at 2 k levels ≤ kept_at k store.tables
      at k has = elim (cases_eq k 0) [
        | inl lowest ↦ let none : due_at 2 k levels ≡ 0 = ap (λ j. due_at 2 j levels) lowest ∙ none_at_zero 2 levels in omega (arith, none)
        | inr above ↦ let other : (k == 0) ≡ false = grind (arith, nat_tests, above) in
            let some : 0 + due_at 2 k levels ≤ kept_at k store.tables = rw other at has in omega (arith, some)
      ]

  used_append : (k : ℕ) (a b : List (Slots P Item)) → used_at k (a ++ b) ≡ used_at k a + used_at k b
  used_append k [] b = omega arith
  used_append k (l ∷ a) b = omega (arith, used_append k a b)

  built_append : (k : ℕ) (a b : List (Slots P Item)) → built_at k (a ++ b) ≡ built_at k a + built_at k b
  built_append k [] b = omega arith
  built_append k (l ∷ a) b = omega (arith, built_append k a b)

  used_idle : (k : ℕ) (levels : List (Slots P Item)) → All IsIdle levels → used_at k levels ≡ 0
  used_idle k [] h = refl
  used_idle k (l ∷ above) h =
      let idle = All-head IsIdle l above h in
      let none : used_in l ≡ 0 = omega (arith, ap length idle.no_parts, ap (λ o. one_if (is_some o)) idle.no_construction) in
      rw none (unless (k == l.level) (used_idle k above (All-tail IsIdle l above h)))
    where
      unless : (b : Bool) {n : ℕ} → n ≡ 0 → (if b then 0 else 0) + n ≡ 0
      unless true none = omega (arith, none)
      unless false none = omega (arith, none)

  built_idle : (k : ℕ) (levels : List (Slots P Item)) → All IsIdle levels → built_at k levels ≡ 0
  built_idle k [] h = refl
  built_idle k (l ∷ above) h =
      let idle = All-head IsIdle l above h in
      let none : runs_in l ≡ 0 = ap (λ o. one_if (is_some o)) idle.no_construction in
      rw none (unless (k == l.level) (built_idle k above (All-tail IsIdle l above h)))
    where
      unless : (b : Bool) {n : ℕ} → n ≡ 0 → (if b then 0 else 0) + n ≡ 0
      unless true none = omega (arith, none)
      unless false none = omega (arith, none)

  -- idle levels have nothing of a store
  pub used_kept : (old new : List (Slots P Item)) → AreKept old new → (k : ℕ) → used_at k new ≡ used_at k old
  used_kept old new h k = omega (arith, ap (used_at k) h.are, used_append k old h.added, used_idle k h.added h.idle)

  pub built_kept : (old new : List (Slots P Item)) → AreKept old new → (k : ℕ) → built_at k new ≡ built_at k old
  built_kept old new h k = omega (arith, ap (built_at k) h.are, built_append k old h.added, built_idle k h.added h.idle)

  -- a preparation lends nothing
  pub lent_prepared : (wanted : ℕ → ℕ) (old new : List (Slots P Item)) (store store' : Stored) → AreKept old new → HasTaken wanted store store'
      → AreLent old store → AreLent new store'
  lent_prepared wanted old new store store' kept taken h = record {
    builders = λ k. omega (arith, used_kept old new kept k, taken.builders.lent k, h.builders k);
    tables = λ k. omega (arith, built_kept old new kept k, taken.tables.lent k, h.tables k);
  }

  -- what is had after moves is lent, as what was had before
  pub lent_on : (old new : List (Slots P Item)) (store store' : Stored) → Trades old store new store' → AreLent old store → AreLent new store'
  lent_on old new store store' moves h = record {
    builders = λ k. omega (arith, moves.builders k, h.builders k);
    tables = λ k. omega (arith, moves.tables k, h.tables k);
  }

  -- nothing is had
  pub lent_none : (store : Stored) → AreLent {P = P} {Item = Item} [] store
  lent_none store = record { builders = λ k. omega arith; tables = λ k. omega arith }

  less_due : (l : Slots P Item) → one_if (is_due 1 l) ≤ one_if (is_due 2 l)
  less_due l = less (nat_le (2 ^ l.level) (ticks_of l + 1)) (nat_le (2 ^ l.level) (ticks_of l + 2)) (length l.parts == 1)
      (λ now. grind (arith, nat_tests, now))
    where
      less : (a b c : Bool) → (a ≡ true → b ≡ true) → one_if (a && c) ≤ one_if (b && true)
      less true true true h = omega arith
      less true true false h = omega arith
      less true false c h = let wrong : false ≡ true = h refl in absurd cc
      less false b c h = omega arith

  less_wanted : (k : ℕ) (levels : List (Slots P Item)) → due_at 1 k levels ≤ due_at 2 k levels
  less_wanted k [] = omega arith
  less_wanted k (l ∷ above) = omega (arith, both (k == (l.level + 1)) (one_if (is_due 1 l)) (one_if (is_due 2 l)) (less_due l), less_wanted k above)
    where
      both : (b : Bool) (m n : ℕ) → m ≤ n → (if b then m else 0) ≤ (if b then n else 0)
      both true m n le = le
      both false m n le = omega arith

  quiet_first : (levels : List (Slots P Item)) → IsQuiet 2 levels → IsQuiet 1 levels
  quiet_first [] quiet = quiet
  quiet_first (lowest ∷ above) quiet = from lowest above quiet
    where
      off : (a b : Bool) → one_if a ≤ one_if b → b ≡ false → a ≡ false
      off false b less none = refl
      off true b less none = absurd (omega (arith, less, ap one_if none))

      from : (l : Slots P Item) (above : List (Slots P Item)) → IsQuietAbove 2 l above → IsQuietAbove 1 l above
      from l [] quiet = off (is_due 1 l) (is_due 2 l) (less_due l) quiet
      from l (next ∷ above) quiet = from next above quiet

  -- levels that are prepared for two ticks may take one
  pub may_tick : (levels : List (Slots P Item)) (store : Stored) → weight_of levels < 2 ^ 31 → IsStocked levels store 2 → AreLent levels store
      → MayTick levels store
  may_tick levels store light h lent = record {
    stocked = record {
      builders = λ k. omega (arith, first (k == 0), less_wanted k levels, h.builders k);
      tables = λ k. omega (arith, less_wanted k levels, h.tables k);
      quiet = quiet_first levels h.quiet;
    };
    lent = lent;
    light = light;
  }
    where
      first : (b : Bool) → (if b then 1 else 0) ≤ (if b then 2 else 0)
      first true = omega arith
      first false = omega arith
