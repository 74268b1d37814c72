use Rattle.std.proofs.Common.{rules, ◌≡◌, ◌∷◌, ◌∙◌, nat_lt, ap, sym, subst, arith}
use Rattle.log_levels.specs.Trades.{used_in, AreLent, Trades}
use Rattle.log_levels.proofs.Publishing.{none_of}
use Rattle.log_method.specs.Retired.{used_of, GivesOneBack}
use Rattle.log_method.proofs.GivingBack.{gives_none, gives_above, gives_here, lent_above, lent_here, moves_above, moves_both, some_left, none_left, given_one, given_if}
use Rattle.log_method.proofs.retired.+give_back_highest.Goals as goal

pub give_back_highest-requires : goal.give_back_highest-requires
give_back_highest-requires g t c κs within =
    let lent : AreLent c.in-Some.above.now c.args.store.now =
    lent_above c.in-Some.level.now c.in-Some.above.now c.args.store.now
    (subst (λ ls. AreLent ls c.args.store.now) c.in-Some.ensures.cases.0 c.requires) in
    search rules

pub give_back-requires : goal.give_back-requires
give_back-requires g t c =
    lent_here c.in-Some.level.now c.in-Some.above.now c.give_back_highest.new.levels c.args.store.now c.give_back_highest.new.store
    c.give_back_highest.ensures.trades (subst (λ ls. AreLent ls c.args.store.now) c.in-Some.ensures.cases.0 c.requires)

pub returns-then-give_back_highest-clause-given : goal.returns-then-give_back_highest-clause-given
returns-then-give_back_highest-clause-given g t c =
    let e = c.give_back_highest.ensures in
    subst (λ ls. GivesOneBack ls (c.in-Some.level.now ∷ c.give_back_highest.new.levels)) (sym c.in-Some.ensures.cases.0)
    (gives_above c.in-Some.level.now c.in-Some.above.now c.give_back_highest.new.levels
    (some_left (used_of c.in-Some.above.now) e.some c.if-give_back_highest.true) e.given)

pub returns-then-give_back_highest-clause-trades : goal.returns-then-give_back_highest-clause-trades
returns-then-give_back_highest-clause-trades g t c =
    subst (λ ls. Trades ls c.args.store.now (c.in-Some.level.now ∷ c.give_back_highest.new.levels) c.give_back_highest.new.store)
    (sym c.in-Some.ensures.cases.0)
    (moves_above c.in-Some.level.now c.in-Some.above.now c.give_back_highest.new.levels c.args.store.now c.give_back_highest.new.store
    c.give_back_highest.ensures.trades)

pub returns-else-give_back_highest-clause-some : goal.returns-else-give_back_highest-clause-some
returns-else-give_back_highest-clause-some g t c =
    let e = c.give_back.ensures in
    let none = none_left (used_of c.in-Some.above.now) c.give_back_highest.ensures.some c.if-give_back_highest.false in
    given_if c.give_back.result (used_in c.in-Some.level.now) (used_in c.give_back.new.self) e.one e.none (used_of c.in-Some.above.now) none
    ∙ ap (λ ls. nat_lt 0 (used_of ls)) (sym c.in-Some.ensures.cases.0)

pub returns-else-give_back_highest-clause-given : goal.returns-else-give_back_highest-clause-given
returns-else-give_back_highest-clause-given g t c =
    let e = c.give_back.ensures in
    let h = c.give_back_highest.ensures in
    let none = none_left (used_of c.in-Some.above.now) h.some c.if-give_back_highest.false in
    let none' : used_of c.give_back_highest.new.levels ≡ 0 = omega (arith, none, h.given.one) in
    subst (λ ls. GivesOneBack ls (c.give_back.new.self ∷ c.give_back_highest.new.levels)) (sym c.in-Some.ensures.cases.0)
    (gives_here c.in-Some.level.now c.give_back.new.self c.in-Some.above.now c.give_back_highest.new.levels none none' e.level
    (given_one c.give_back.result (used_in c.in-Some.level.now) (used_in c.give_back.new.self) e.one e.none))

pub returns-else-give_back_highest-clause-trades : goal.returns-else-give_back_highest-clause-trades
returns-else-give_back_highest-clause-trades g t c =
    subst (λ ls. Trades ls c.args.store.now (c.give_back.new.self ∷ c.give_back_highest.new.levels) c.give_back.new.store)
    (sym c.in-Some.ensures.cases.0)
    (moves_both c.in-Some.level.now c.give_back.new.self c.in-Some.above.now c.give_back_highest.new.levels c.args.store.now
    c.give_back_highest.new.store c.give_back.new.store c.give_back_highest.ensures.trades c.give_back.ensures.trades)

pub returns-in-None-clause-given : goal.returns-in-None-clause-given
returns-in-None-clause-given g t c =
    gives_none c.args.levels.now (ap used_of (none_of c.args.levels.now (omega (arith, c.in-None.ensures.cases))))
