-- One store, from which main stack, shadow and retired stacks lend.
use Rattle.std.proofs.Common.{◌≡◌, ◌==◌, ℕ, ◌+◌, ◌≤◌, List, [], Option, Some, None, refl, ap, arith}
use Rattle.std.specs.Option.{option_map_or}
use Rattle.part_store.specs.Shelves.{one_if, kept_at, lent_at}
use Rattle.part_store.specs.Store.{Stored}
use Rattle.log_levels.specs.Slots.{Slots}
use Rattle.log_levels.specs.Trades.{used_at, built_at, wanted_at, AreLent, Trades}
use Rattle.log_method.specs.Stack.{Stacked}
use Rattle.log_method.specs.Few.{HaveFew}
use Rattle.chain_walk.specs.Walk.{Walked as Shadow}
use Rattle.global_rebuild.specs.Index.{Indexed, in_both, in_retired, OwnsMemory}
use Rattle.chain_walk.specs.Memory.{LendsFew}
use Rattle.global_rebuild.specs.Retiring.{GivesBack, TakeMemory}

module _ {P Item : Type 0} where
  -- how much a shadow has
  abbrev pub in_shadow : (List (Slots P Item) → ℕ) → Option (Shadow P Item) → ℕ
  in_shadow count shadow = option_map_or (λ r. count r.stack.levels) shadow 0

  pub owns-empty : OwnsMemory {P = P} {Item = Item} (record { store = record { builders = []; tables = [] }; main = record { levels = [] }; shadow = None; retired = [] })
  owns-empty = record { lent = λ k. refl; lent_tables = λ k. refl; few = λ k. omega arith }

  module _ {i : Indexed P Item} (o : OwnsMemory i) where
    -- each stack has what is lent
    pub lent_to_main : AreLent i.main.levels i.store
    lent_to_main = record { builders = λ k. omega (arith, o.lent k); tables = λ k. omega (arith, o.lent_tables k) }

    pub lent_to_retired : (k : ℕ) → in_retired (used_at k) i.retired ≤ lent_at k i.store.builders
    lent_to_retired k = omega (arith, o.lent k)

    pub lent_tables_to_retired : (k : ℕ) → in_retired (built_at k) i.retired ≤ lent_at k i.store.tables
    lent_tables_to_retired k = omega (arith, o.lent_tables k)

    -- a tick of the main stack
    pub owns-main : (main : Stacked P Item) (store : Stored) → Trades i.main.levels i.store main.levels store
        → OwnsMemory (record i { store = store; main = main })
    owns-main main store t = record {
      lent = λ k. omega (arith, o.lent k, t.builders k);
      lent_tables = λ k. omega (arith, o.lent_tables k, t.tables k);
      few = λ k. omega (arith, o.few k, t.builders k, t.keeps.builders k);
    }

    -- a rebuild starts
    pub owns-fresh : i.shadow ≡ None → (cursor : Option ℕ) → OwnsMemory (record i { shadow = Some (record { stack = record { levels = [] }; cursor = cursor }) })
    owns-fresh none cursor = record {
      lent = λ k. omega (arith, o.lent k, ap (in_shadow (used_at k)) none);
      lent_tables = λ k. omega (arith, o.lent_tables k, ap (in_shadow (built_at k)) none);
      few = λ k. omega (arith, o.few k, ap (in_shadow (used_at k)) none);
    }

    module _ (r : Shadow P Item) (there : i.shadow ≡ Some r) where
      pub lent_to_shadow : AreLent r.stack.levels i.store
      lent_to_shadow = record {
        builders = λ k. omega (arith, o.lent k, ap (in_shadow (used_at k)) there);
        tables = λ k. omega (arith, o.lent_tables k, ap (in_shadow (built_at k)) there);
      }

      -- a tick of the shadow
      pub owns-shadow : (r' : Shadow P Item) (store : Stored) → Trades r.stack.levels i.store r'.stack.levels store
          → OwnsMemory (record i { store = store; shadow = Some r' })
      owns-shadow r' store t = record {
        lent = λ k. omega (arith, o.lent k, t.builders k, ap (in_shadow (used_at k)) there);
        lent_tables = λ k. omega (arith, o.lent_tables k, t.tables k, ap (in_shadow (built_at k)) there);
        few = λ k. omega (arith, o.few k, t.builders k, t.keeps.builders k, ap (in_shadow (used_at k)) there);
      }

      -- the walk goes on elsewhere
      pub owns-moved : (cursor : Option ℕ) → OwnsMemory (record i { shadow = Some (record r { cursor = cursor }) })
      owns-moved cursor = record {
        lent = λ k. omega (arith, o.lent k, ap (in_shadow (used_at k)) there);
        lent_tables = λ k. omega (arith, o.lent_tables k, ap (in_shadow (built_at k)) there);
        few = λ k. omega (arith, o.few k, ap (in_shadow (used_at k)) there);
      }

      -- the shadow takes items, and memory for them
      pub owns-walked : (r' : Shadow P Item) (store : Stored) → HaveFew i.main.levels → LendsFew r.stack.levels i.store r'.stack.levels store
          → OwnsMemory (record i { store = store; shadow = Some r' })
      owns-walked r' store few l = record {
        lent = λ k. omega (arith, o.lent k, l.lent k, ap (in_shadow (used_at k)) there);
        lent_tables = λ k. omega (arith, o.lent_tables k, l.lent_tables k, ap (in_shadow (built_at k)) there);
        few = λ k. omega (arith, o.few k, few.builders k, l.few k, ap (in_shadow (used_at k)) there);
      }

  -- what a shadow has and may take
  pub shadow_few : (shadow : Option (Shadow P Item)) → ((r : Shadow P Item) → shadow ≡ Some r → HaveFew r.stack.levels) → (k : ℕ)
      → in_shadow (used_at k) shadow + in_shadow (wanted_at 2 k) shadow ≤ 5
  shadow_few None few k = omega arith
  shadow_few (Some r) few k = omega (arith, (few r refl).builders k)

  -- What is had of a store is all that is lent, but of one level there may be a builder too much.
  pub record OwnsMore (level : ℕ) (i : Indexed P Item) : Type 0 where
    pub lent : (k : ℕ) → lent_at k i.store.builders ≡ in_both (used_at k) i.main i.shadow + in_retired (used_at k) i.retired
    pub lent_tables : (k : ℕ) → lent_at k i.store.tables ≡ in_both (built_at k) i.main i.shadow + in_retired (built_at k) i.retired
    pub few : (k : ℕ) → kept_at k i.store.builders + in_both (used_at k) i.main i.shadow ≤ 10 + one_if (k == level)

  -- a part comes back from a retired stack
  pub owns-back : {i : Indexed P Item} (level : ℕ) (retired : List (Stacked P Item)) (store : Stored) → OwnsMemory i
      → GivesBack level i.retired i.store retired store → OwnsMore level (record i { store = store; retired = retired })
  owns-back level retired store o g = record {
    lent = λ k. omega (arith, o.lent k, g.lent k);
    lent_tables = λ k. omega (arith, o.lent_tables k, g.lent_tables k);
    few = λ k. omega (arith, o.few k, g.kept k);
  }

  -- what is wanted is taken, where there isn't too much of a level
  pub owns-taken : {i : Indexed P Item} (level : ℕ) (main : Stacked P Item) (shadow : Option (Shadow P Item)) (freed store : Stored) → OwnsMore level i
      → ((k : ℕ) → lent_at k freed.builders ≡ lent_at k i.store.builders) → ((k : ℕ) → lent_at k freed.tables ≡ lent_at k i.store.tables)
      → ((k : ℕ) → kept_at k freed.builders + in_both (used_at k) i.main i.shadow ≤ 10)
      → TakeMemory i.main i.shadow freed main shadow store
      → OwnsMemory (record i { store = store; main = main; shadow = shadow })
  owns-taken level main shadow freed store o lent lent_tables few t = record {
    lent = λ k. omega (arith, o.lent k, lent k, t.lent k, t.used k);
    lent_tables = λ k. omega (arith, o.lent_tables k, lent_tables k, t.lent_tables k, t.built k);
    few = λ k. omega (arith, few k, t.few k);
  }
