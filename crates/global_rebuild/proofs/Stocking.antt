-- What ticks of both stacks find in their store.
use Rattle.std.proofs.Common.{◌≡◌, ◌==◌, ℕ, ◌^◌, ◌<◌, ◌≤◌, ◌∙◌, Bool, true, false, if◌then◌else◌, List, Option, Some, None, inl, inr, refl, ap, sym, subst, arith}
use Rattle.std.proofs.lemmas.Bool.{cases_eq, cases_lt}
use Rattle.std.proofs.lemmas.Bool.Decides.{nat_tests}
use Rattle.part_store.specs.Shelves.{kept_at}
use Rattle.part_store.specs.Store.{Stored, HasRooms, tables_for}
use Rattle.log_levels.specs.Slots.{Slots}
use Rattle.log_levels.specs.Levels.{weight_of}
use Rattle.log_levels.specs.Trades.{due_at, wanted_at, Ticks}
use Rattle.log_method.specs.Stack.{Stacked, MayTick}
use Rattle.log_method.specs.Preparing.{AreEnough, HasRoomsBelow}
use Rattle.log_method.proofs.Forecasting.{none_at_zero}
use Rattle.chain_walk.specs.Walk.{Walked as Shadow}
use Rattle.chain_walk.proofs.Stocking.{wanted_less, due_less, quiet_less}
use Rattle.global_rebuild.specs.Index.{Indexed, in_both, AreStocked, OwnsMemory}
use Rattle.global_rebuild.proofs.Owning.{in_shadow, lent_to_main, lent_to_shadow, owns-main}

-- above the lowest level constructions have tables, each its own
tables_fit : (k n most : ℕ) → (k == 0) ≡ false → tables_for k n ≤ most → n ≤ most
tables_fit k n most other has = rw other at has

-- of no level from one on anything is wanted: so what there is below it is all
pub below_all : (w : ℕ → ℕ) (level : ℕ) (store : Stored) → HasRoomsBelow level w store → ((k : ℕ) → k < 32 → level ≤ k → w k ≡ 0) → HasRoomsBelow 32 w store
below_all w level store has none k within = elim (cases_lt k level) [
  | inl below ↦ has k below
  | inr past ↦ subst (λ n. HasRooms k n store) (sym (none k within past)) (record { builders = omega arith; tables = no_tables (k == 0) })
]
  where
    no_tables : (b : Bool) → (if b then 0 else 0) ≤ kept_at k store.tables
    no_tables true = omega arith
    no_tables false = omega arith

module _ {P Item : Type 0} where
  -- memory for two ticks of each stack is memory for one
  pub stocked_less : (main : Stacked P Item) (shadow : Option (Shadow P Item)) (store : Stored) → AreStocked 2 main shadow store → AreStocked 1 main shadow store
  stocked_less main shadow store s = record {
    builders = λ k. omega (arith, s.builders k, wanted_less k main.levels, of_shadow (wanted_at 1 k) (wanted_at 2 k) (wanted_less k) shadow);
    tables = λ k. omega (arith, s.tables k, due_less k main.levels, of_shadow (due_at 1 k) (due_at 2 k) (due_less k) shadow);
    quiet = quiet_less main.levels s.quiet;
    quiet_too = λ r there. quiet_less r.stack.levels (s.quiet_too r there);
  }
    where
      of_shadow : (f g : List (Slots P Item) → ℕ) → ((levels : List (Slots P Item)) → f levels ≤ g levels) → (o : Option (Shadow P Item))
          → in_shadow f o ≤ in_shadow g o
      of_shadow f g less None = omega arith
      of_shadow f g less (Some r) = less r.stack.levels

  module _ {i : Indexed P Item} (s : AreStocked 1 i.main i.shadow i.store) (o : OwnsMemory i) where
    -- the main stack may take its tick
    pub main_ticks : weight_of i.main.levels < 2 ^ 31 → MayTick i.main.levels i.store
    main_ticks light = record {
      stocked = record { builders = λ k. omega (arith, s.builders k); tables = λ k. omega (arith, s.tables k); quiet = s.quiet };
      lent = lent_to_main o;
      light = light;
    }

    -- and after it the shadow
    pub shadow_ticks : (main : Stacked P Item) (store : Stored) (r : Shadow P Item) → Ticks i.main.levels i.store main.levels store → i.shadow ≡ Some r
        → weight_of r.stack.levels < 2 ^ 31 → MayTick r.stack.levels store
    shadow_ticks main store r t there light = record {
      stocked = record {
        builders = λ k. omega (arith, s.builders k, t.takes k, ap (in_shadow (wanted_at 1 k)) there);
        tables = λ k. omega (arith, s.tables k, t.takes_tables k, ap (in_shadow (due_at 1 k)) there);
        quiet = s.quiet_too r there;
      };
      lent = lent_to_shadow (owns-main o main store t.trades) r there;
      light = light;
    }

  module _ {i : Indexed P Item} (s : AreStocked 2 i.main i.shadow i.store) (o : OwnsMemory i) where
    -- the main stack may take a second tick
    pub main_ticks_again : (main : Stacked P Item) (store : Stored) → Ticks i.main.levels i.store main.levels store → weight_of main.levels < 2 ^ 31
        → MayTick main.levels store
    main_ticks_again main store t light = record {
      stocked = record {
        builders = λ k. omega (arith, s.builders k, t.stays k);
        tables = λ k. omega (arith, s.tables k, t.stays_tables k);
        quiet = t.quiet s.quiet;
      };
      lent = lent_to_main (owns-main o main store t.trades);
      light = light;
    }

    -- and after it the shadow
    pub shadow_ticks_after : (mid main : Stacked P Item) (between store : Stored) (r : Shadow P Item) → Ticks i.main.levels i.store mid.levels between
        → Ticks mid.levels between main.levels store → i.shadow ≡ Some r → weight_of r.stack.levels < 2 ^ 31 → MayTick r.stack.levels store
    shadow_ticks_after mid main between store r t t' there light = record {
      stocked = record {
        builders = λ k. omega (arith, s.builders k, t.stays k, t'.takes k, wanted_less k r.stack.levels, ap (in_shadow (wanted_at 2 k)) there);
        tables = λ k. omega (arith, s.tables k, t.stays_tables k, t'.takes_tables k, due_less k r.stack.levels, ap (in_shadow (due_at 2 k)) there);
        quiet = quiet_less r.stack.levels (s.quiet_too r there);
      };
      lent = lent_to_shadow (owns-main (owns-main o mid between t.trades) main store t'.trades) r there;
      light = light;
    }

  -- what both stacks may want is kept where each level was stocked
  pub stocked_both : (main : Stacked P Item) (shadow : Option (Shadow P Item)) (store : Stored)
      → HasRoomsBelow 32 (λ k. in_both (wanted_at 2 k) main shadow) store → AreEnough main.levels
      → ((r : Shadow P Item) → shadow ≡ Some r → AreEnough r.stack.levels) → AreStocked 2 main shadow store
  stocked_both main shadow store rooms enough enough_too = record {
    builders = λ k. elim (cases_lt k 32) [
      | inl low ↦ (rooms k low).builders
      | inr high ↦
          let zero : (k == 0) ≡ false = grind (arith, nat_tests, high) in
          let here : wanted_at 2 k main.levels ≡ 0 = rw zero (omega (arith, enough.within k high)) in
          omega (arith, here, past (wanted_at 2 k) (λ r there. rw zero (omega (arith, (enough_too r there).within k high))) shadow refl)
    ];
    tables = λ k. elim (cases_lt k 32) [
      | inl low ↦ at k (rooms k low).tables
      | inr high ↦ omega (arith, enough.within k high, past (due_at 2 k) (λ r there. (enough_too r there).within k high) shadow refl)
    ];
    quiet = enough.quiet;
    quiet_too = λ r there. (enough_too r there).quiet;
  }
    where
      past : (f : List (Slots P Item) → ℕ) → ((r : Shadow P Item) → shadow ≡ Some r → f r.stack.levels ≡ 0) → (o : Option (Shadow P Item)) → shadow ≡ o
          → in_shadow f shadow ≡ 0
      past f none None is = rw is refl
      past f none (Some r) is = ap (in_shadow f) is ∙ none r is

      lowest : (o : Option (Shadow P Item)) → in_shadow (due_at 2 0) o ≡ 0
      lowest None = refl
      lowest (Some r) = none_at_zero 2 r.stack.levels

      due_shadow : (k : ℕ) → (k == 0) ≡ false → (o : Option (Shadow P Item)) → in_shadow (wanted_at 2 k) o ≡ in_shadow (due_at 2 k) o
      due_shadow k above None = refl
      due_shadow k above (Some r) = rw above (omega arith)

      at : (k : ℕ) → tables_for k (in_both (wanted_at 2 k) main shadow) ≤ kept_at k store.tables → in_both (due_at 2 k) main shadow ≤ kept_at k store.tables
      at k has = elim (cases_eq k 0) [
        | inl first ↦ rw first (omega (arith, none_at_zero 2 main.levels, lowest shadow))
        | inr above ↦ let other : (k == 0) ≡ false = grind (arith, nat_tests, above) in
            let some = tables_fit k (in_both (wanted_at 2 k) main shadow) (kept_at k store.tables) other has in
            let here : wanted_at 2 k main.levels ≡ due_at 2 k main.levels = rw other (omega arith) in
            omega (arith, some, here, due_shadow k other shadow)
      ]
