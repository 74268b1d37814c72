use Rattle.std.proofs.Common.{◌≡◌, ◌+◌, ◌<◌, ◌∙◌, Some, None, length, ap, sym, subst, arith, eqb-true}
use Rattle.std.proofs.lemmas.Bool.{eqb-false}
use Rattle.std.specs.Option.{is_some}
use Rattle.part_store.specs.Shelves.{one_if, lent_at}
use Rattle.part_store.specs.Store.{TakesPart, TakesRoom}
use Rattle.log_levels.specs.Trades.{runs_in, used_in}
use Rattle.log_levels.proofs.Held.{IsLevel-built, length-rest}
use Rattle.log_levels.proofs.Trading.{runs-one, runs-none, lent-of, trades-room, trades-part, trades-none}
use Rattle.log_levels.proofs.level.Level.give_back.Goals as goal

pub take_back_room-requires-clause-builder : goal.take_back_room-requires-clause-builder
take_back_room-requires-clause-builder g c =
    let was : c.args.self.now.construction ≡ Some c.in-Some.construction = ap (λ v. v.construction) (sym c.self.view_is) ∙ sym c.take.ensures.value ∙ c.in-Some.is in
    subst (λ k. 0 < lent_at k c.args.store.now.builders) (sym (ap (λ v. v.level) c.self.view_is))
    (omega (arith, (lent-of c.requires).0, runs-one c.args.self.now (ap is_some was)))

pub take_back_room-requires-clause-tables : goal.take_back_room-requires-clause-tables
take_back_room-requires-clause-tables g c =
    let was : c.args.self.now.construction ≡ Some c.in-Some.construction = ap (λ v. v.construction) (sym c.self.view_is) ∙ sym c.take.ensures.value ∙ c.in-Some.is in
    subst (λ k. 0 < lent_at k c.args.store.now.tables) (sym (ap (λ v. v.level) c.self.view_is))
    (omega (arith, (lent-of c.requires).1, runs-one c.args.self.now (ap is_some was)))

pub take_back_room-requires-clause-of_level : goal.take_back_room-requires-clause-of_level
take_back_room-requires-clause-of_level g c =
    c.abandon.ensures ∙ c.self.invariant.builds c.in-Some.construction (sym c.take.ensures.value ∙ c.in-Some.is)

pub invariant_of-self : goal.invariant_of-self
invariant_of-self g c = IsLevel-built c.self.invariant c.take.ensures.after

pub invariant_of-self-then-is_empty : goal.invariant_of-self-then-is_empty
invariant_of-self-then-is_empty g c = IsLevel-built c.self.invariant c.take.ensures.after

pub invariant_of-self-2 : goal.invariant_of-self-2
invariant_of-self-2 g c = IsLevel-built c.self.invariant c.take.ensures.after

pub returns-in-Some-clause-trades : goal.returns-in-Some-clause-trades
returns-in-Some-clause-trades g c =
    let was : c.args.self.now.construction ≡ Some c.in-Some.construction = ap (λ v. v.construction) (sym c.self.view_is) ∙ sym c.take.ensures.value ∙ c.in-Some.is in
    let one = runs-one c.args.self.now (ap is_some was) in
    let gone : one_if (is_some c.take.new.self) ≡ 0 = ap (λ o. one_if (is_some o)) c.take.ensures.after in
    let level = ap (λ v. v.level) c.self.view_is in
    trades-room c.args.self.now _ level (omega (arith, one, gone, ap (λ v. length v.parts) c.self.view_is)) (omega (arith, one, gone))
    (subst (λ k. TakesRoom k c.args.store.now c.take_back_room.new.self) level c.take_back_room.ensures)

pub returns-in-Some-clause-one : goal.returns-in-Some-clause-one
returns-in-Some-clause-one g c =
    let was : c.args.self.now.construction ≡ Some c.in-Some.construction = ap (λ v. v.construction) (sym c.self.view_is) ∙ sym c.take.ensures.value ∙ c.in-Some.is in
    let one = runs-one c.args.self.now (ap is_some was) in
    let gone : one_if (is_some c.take.new.self) ≡ 0 = ap (λ o. one_if (is_some o)) c.take.ensures.after in
    omega (arith, one, gone, ap (λ v. length v.parts) c.self.view_is)

pub returns-then-is_empty-clause-trades : goal.returns-then-is_empty-clause-trades
returns-then-is_empty-clause-trades g c =
    let none : c.self.inside.construction ≡ None = sym c.take.ensures.value ∙ c.in_default.is in
    trades-none c.args.self.now _ c.args.store.now
    (ap (λ o. record { level = c.self.inside.level; parts = c.self.inside.parts.items; construction = o }) (c.take.ensures.after ∙ sym none) ∙ c.self.view_is)

pub returns-then-is_empty-clause-one : goal.returns-then-is_empty-clause-one
returns-then-is_empty-clause-one g c =
    let none : c.self.inside.construction ≡ None = sym c.take.ensures.value ∙ c.in_default.is in
    let gone : one_if (is_some c.take.new.self) ≡ 0 = ap (λ o. one_if (is_some o)) c.take.ensures.after in
    omega (
      arith,
      gone,
      ap (λ v. length v.parts) c.self.view_is,
      runs-none c.args.self.now (ap (λ v. v.construction) (sym c.self.view_is) ∙ none),
    )

pub returns-then-is_empty-clause-none : goal.returns-then-is_empty-clause-none
returns-then-is_empty-clause-none g c is =
    let none : c.self.inside.construction ≡ None = sym c.take.ensures.value ∙ c.in_default.is in
    omega (
      arith,
      eqb-true _ _ (sym c.is_empty.ensures ∙ c.if-is_empty.true),
      ap (λ v. length v.parts) c.self.view_is,
      runs-none c.args.self.now (ap (λ v. v.construction) (sym c.self.view_is) ∙ none),
    )

pub retire_oldest-requires-clause-some : goal.retire_oldest-requires-clause-some
retire_oldest-requires-clause-some g c = omega (arith, eqb-false _ _ (sym c.is_empty.ensures ∙ c.if-is_empty.false))

pub retire_oldest-requires-clause-lent : goal.retire_oldest-requires-clause-lent
retire_oldest-requires-clause-lent g c =
    let some : 0 < length c.self.inside.parts.items = omega (arith, eqb-false _ _ (sym c.is_empty.ensures ∙ c.if-is_empty.false)) in
    subst (λ k. 0 < lent_at k c.args.store.now.builders) (sym (ap (λ v. v.level) c.self.view_is))
    (omega (arith, (lent-of c.requires).0, some, ap (λ v. length v.parts) c.self.view_is))

pub returns : goal.returns
returns g c =
    let some : 0 < length c.self.inside.parts.items = omega (arith, eqb-false _ _ (sym c.is_empty.ensures ∙ c.if-is_empty.false)) in
    let none : c.self.inside.construction ≡ None = sym c.take.ensures.value ∙ c.in_default.is in
    let e = c.retire_oldest.ensures in
    let new = c.retire_oldest.new.self in
    let gone : runs_in new ≡ 0 = ap (λ v. runs_in v) e.retired ∙ ap (λ o. one_if (is_some o)) c.take.ensures.after in
    let idle = runs-none c.args.self.now (ap (λ v. v.construction) (sym c.self.view_is) ∙ none) in
    let level : new.level ≡ c.args.self.now.level = ap (λ v. v.level) e.retired ∙ ap (λ v. v.level) c.self.view_is in
    let less : used_in c.args.self.now ≡ used_in new + 1 =
    omega (
      arith,
      gone,
      idle,
      ap (λ v. length v.parts) e.retired,
      length-rest c.self.inside.parts.items some,
      ap (λ v. length v.parts) c.self.view_is,
    ) in
    record {
      trades = trades-part c.args.self.now new level less (idle ∙ sym gone)
          (subst (λ k. TakesPart k c.args.store.now c.retire_oldest.new.store) (ap (λ v. v.level) c.self.view_is) e.back);
      one = omega (arith, less);
      none = λ is. absurd cc;
      level = level;
    }
