-- An index of a stack that has all items of a chain already.
use Rattle.std.proofs.Common.{ℕ, ◌+◌, ◌^◌, ◌<◌, ◌≤◌, List, [], None, length, arith}
use Rattle.std.proofs.lemmas.List.Elements.{All-nil}
use Rattle.builder_trait.specs.Parts.{Contents}
use Rattle.id_chain.specs.Chain.{Entry, HandlesDiffer}
use Rattle.id_chain.specs.StampsRise.{StampsRise}
use Rattle.part_store.specs.Shelves.{kept_at}
use Rattle.part_store.specs.Store.{Stored}
use Rattle.log_levels.specs.Trades.{used_at, IsStocked}
use Rattle.log_method.specs.Stack.{Stacked}
use Rattle.log_method.specs.Retired.{used_of}
use Rattle.log_method.specs.Preparing.{LendsOnly}
use Rattle.chain_walk.specs.Walk.{IsWalkOf}
use Rattle.global_rebuild.specs.Index.{Indexed, IsIndexOf, IsIndex, IsPrepared, IsQuiet}

module _ {P Item : Type 0} (contents : P → Contents Item) (stack : Stacked P Item) (store : Stored) where
  abbrev adopted : Indexed P Item
  adopted = record { store = store; main = stack; shadow = None; retired = [] }

  pub IsIndex-adopted : IsQuiet contents stack → LendsOnly stack.levels store → ((k : ℕ) → kept_at k store.builders + used_at k stack.levels ≤ 10)
      → IsIndex contents adopted
  IsIndex-adopted quiet lends few = record {
    quiet = λ none. quiet;
    in_time = λ r is. absurd cc;
    left = All-nil (λ s. 0 < used_of s.levels);
    memory = record {
      lent = λ k. omega (arith, lends.builders k);
      lent_tables = λ k. omega (arith, lends.tables k);
      few = λ k. omega (arith, few k);
    };
  }

  pub IsIndexOf-adopted : (stamp : Item → ℕ) (es : List (Entry Item)) (stamps : ℕ) → IsWalkOf contents stamp (record { stack = stack; cursor = None }) es stamps
      → StampsRise stamp 0 es stamps → HandlesDiffer es → length es < 2 ^ 29 → IsIndexOf contents stamp adopted es stamps
  IsIndexOf-adopted stamp es stamps own rise differ few = record {
    live = own.live;
    below = own.below;
    shadow = λ r is. absurd cc;
    rise = rise;
    differ = differ;
    few = few;
  }

  pub IsPrepared-adopted : IsStocked stack.levels store 2 → IsPrepared contents adopted
  IsPrepared-adopted s = record {
    stocked = record {
      builders = λ k. omega (arith, s.builders k);
      tables = λ k. omega (arith, s.tables k);
      quiet = s.quiet;
      quiet_too = λ r there. absurd cc;
    };
    shadow = λ r there. absurd cc;
  }
