use Rattle.std.proofs.Common.{rules, refl, arith}
use Rattle.log_levels.specs.Trades.{used_at}
use Rattle.global_rebuild.specs.Index.{in_both, enough, too_high}
use Rattle.global_rebuild.specs.Retiring.{none, one, crowded, cleared_before}
use Rattle.global_rebuild.proofs.Freeing.{freed_at, few_freed, few_else, lowers, unwanted_freed}
use Rattle.global_rebuild.proofs.index.free_spare.Goals as goal

pub returns-then-there-gt-BUILDERS-clause-few : goal.returns-then-there-gt-BUILDERS-clause-few
returns-then-there-gt-BUILDERS-clause-few g c =
    (few_freed c.args.back (λ k. in_both (used_at k) c.args.main.now c.args.shadow.now) c.args.store.now c.give_up.new.self c.give_up.ensures
    (omega (arith, c.used.ensures.few, c.used.ensures.value)) (omega (arith, c.if-there-gt-BUILDERS.true, c.used.ensures.value, c.builders.ensures)) c.requires).0

pub returns-then-there-gt-BUILDERS-clause-frees : goal.returns-then-there-gt-BUILDERS-clause-frees
returns-then-there-gt-BUILDERS-clause-frees g c =
    one c.args.back (freed_at c.args.back c.args.store.now c.give_up.new.self c.give_up.ensures)
    (enough (few_freed c.args.back (λ k. in_both (used_at k) c.args.main.now c.args.shadow.now) c.args.store.now c.give_up.new.self c.give_up.ensures
    (omega (arith, c.used.ensures.few, c.used.ensures.value)) (omega (arith, c.if-there-gt-BUILDERS.true, c.used.ensures.value, c.builders.ensures)) c.requires).1)

pub returns-in_default-clause-few : goal.returns-in_default-clause-few
returns-in_default-clause-few g c =
    few_else c.args.back (λ k. in_both (used_at k) c.args.main.now c.args.shadow.now) c.args.store.now
    (omega (arith, c.if-there-gt-BUILDERS.false, c.used.ensures.value, c.builders.ensures)) c.requires

pub returns-in_default-clause-frees : goal.returns-in_default-clause-frees
returns-in_default-clause-frees g c = none refl

pub returns-clause-few : goal.returns-clause-few
returns-clause-few g c k =
    omega (
      arith,
      few_else c.args.back (λ k. in_both (used_at k) c.args.main.now c.args.shadow.now) c.args.store.now
          (omega (arith, c.if-there-gt-BUILDERS.false, c.used.ensures.value, c.builders.ensures)) c.requires k,
      (freed_at c.in-Some.level c.args.store.now c.give_up-2.new.self c.give_up-2.ensures).no_more k,
    )

pub returns-clause-frees : goal.returns-clause-frees
returns-clause-frees g c =
    one c.in-Some.level (freed_at c.in-Some.level c.args.store.now c.give_up-2.new.self c.give_up-2.ensures) (too_high c.in-Some.ensures.high)

pub returns-then-there-gt-BUILDERS-clause-unwanted : goal.returns-then-there-gt-BUILDERS-clause-unwanted
returns-then-there-gt-BUILDERS-clause-unwanted g c =
    crowded c.args.back (lowers c.args.back c.args.store.now c.give_up.new.self c.give_up.ensures (λ nothing. absurd (omega (
      arith,
      nothing,
      c.used.ensures.few,
      c.if-there-gt-BUILDERS.true,
      c.builders.ensures,
    )))).1
    (few_freed c.args.back (λ k. in_both (used_at k) c.args.main.now c.args.shadow.now) c.args.store.now c.give_up.new.self c.give_up.ensures
    (omega (arith, c.used.ensures.few, c.used.ensures.value)) (omega (arith, c.if-there-gt-BUILDERS.true, c.used.ensures.value, c.builders.ensures)) c.requires).1

pub returns-in_default-clause-unwanted : goal.returns-in_default-clause-unwanted
returns-in_default-clause-unwanted g c = cleared_before refl (search rules)

pub returns-clause-unwanted : goal.returns-clause-unwanted
returns-clause-unwanted g c =
    let e = c.in-Some.ensures in unwanted_freed c.in-Some.level c.args.store.now c.give_up-2.new.self c.give_up-2.ensures e.high e.some e.unwanted
