-- A stack that lends from a store, for which memory is taken.
use Rattle.std.proofs.Common.{List, refl, arith}
use Rattle.part_store.specs.Store.{Stored}
use Rattle.log_levels.specs.Slots.{Slots}
use Rattle.log_levels.specs.Trades.{wanted_at, AreLent, Trades}
use Rattle.log_method.specs.Few.{HaveFew}
use Rattle.log_method.specs.Preparing.{AreKept, HasTaken}
use Rattle.log_method.proofs.Taking.{used_kept, built_kept}
use Rattle.chain_walk.specs.Memory.{LendsFew}

module _ {P Item : Type 0} where
  pub lends-none : (levels : List (Slots P Item)) (store : Stored) → LendsFew levels store levels store
  lends-none levels store = record {
    no_less = record { builders = λ k. omega arith; tables = λ k. omega arith };
    lent = λ k. refl;
    lent_tables = λ k. refl;
    few = λ k. omega arith;
  }

  pub lends-then : {a b c : List (Slots P Item)} {s t u : Stored} → LendsFew a s b t → LendsFew b t c u → LendsFew a s c u
  lends-then h k = record {
    no_less = record {
      builders = λ n. omega (arith, h.no_less.builders n, k.no_less.builders n);
      tables = λ n. omega (arith, h.no_less.tables n, k.no_less.tables n);
    };
    lent = λ n. omega (arith, h.lent n, k.lent n);
    lent_tables = λ n. omega (arith, h.lent_tables n, k.lent_tables n);
    few = λ n. omega (arith, h.few n, k.few n);
  }

  -- memory is taken for it
  pub lends-prepared : {old new : List (Slots P Item)} {s t : Stored} → AreKept old new → HasTaken (λ k. wanted_at 2 k new) s t → HaveFew new
      → LendsFew old s new t
  lends-prepared {old} {new} kept taken few = record {
    no_less = record {
      builders = λ k. omega (arith, taken.builders.lent k, taken.builders.no_less k);
      tables = λ k. omega (arith, taken.tables.lent k, taken.tables.no_less k);
    };
    lent = λ k. omega (arith, taken.builders.lent k, used_kept old new kept k);
    lent_tables = λ k. omega (arith, taken.tables.lent k, built_kept old new kept k);
    few = λ k. omega (arith, taken.builders.no_more k, used_kept old new kept k, few.builders k);
  }

  -- it takes a tick
  pub lends-ticked : {old new : List (Slots P Item)} {s t : Stored} → Trades old s new t → LendsFew old s new t
  lends-ticked moves = record {
    no_less = record { builders = λ k. omega (arith, moves.keeps.builders k); tables = λ k. omega (arith, moves.keeps.tables k) };
    lent = moves.builders;
    lent_tables = moves.tables;
    few = λ k. omega (arith, moves.builders k, moves.keeps.builders k);
  }

  pub lent_after : {a b : List (Slots P Item)} {s t : Stored} → LendsFew a s b t → AreLent a s → AreLent b t
  lent_after l h = record { builders = λ k. omega (arith, l.lent k, h.builders k); tables = λ k. omega (arith, l.lent_tables k, h.tables k) }
