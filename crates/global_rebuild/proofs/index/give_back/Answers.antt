use Rattle.std.proofs.Common.{rules, ◌≡◌, ◌<◌, ◌==◌, ◌++◌, ◌∷◌, [], ◌∙◌, true, IfSome, option_to_list, refl, ap, subst}
use Rattle.std.proofs.lemmas.List.Elements.{All-pop}
use Rattle.log_method.specs.Stack.{Stacked}
use Rattle.log_method.specs.Retired.{used_of}
use Rattle.global_rebuild.proofs.Retiring.{lent_to_last, gives-none, gives-some, rest_stays, rest_gone}
use Rattle.global_rebuild.proofs.index.give_back.Given.{Over}
use Rattle.global_rebuild.proofs.index.give_back.Goals.{After-top-level}
use Rattle.global_rebuild.proofs.index.give_back.Goals as goal

abbrev HasSome : (g : Over) → Stacked g.row.B-Part.Denot g.row.B-Item.Denot → Type 0
HasSome g s = 0 < used_of s.levels

-- the last of them, and that it has some
last_is : (g : Over) (c : After-top-level g) → c.args.retired.now.items ≡ c.pop.new.self.items ++ c.in-Some.last ∷ []
last_is g c = c.pop.ensures.items ∙ ap (λ o. c.pop.new.self.items ++ option_to_list o) c.in-Some.is

last_some : (g : Over) (c : After-top-level g) → 0 < used_of c.in-Some.last.levels
last_some g c =
    subst (λ o. IfSome o (HasSome g)) c.in-Some.is
    (All-pop (HasSome g) c.args.retired.now.items c.pop.new.self.items c.pop.result c.pop.ensures.items c.requires.left).1

pub give_up-requires : goal.give_up-requires
give_up-requires g c =
    lent_to_last c.pop.new.self.items c.args.retired.now.items c.in-Some.last c.args.store.now
    (last_is g (goal.at.give_up-requires g c).After-top-level) c.requires.lent c.requires.lent_tables

pub returns-then-not-is_empty-clause-given : goal.returns-then-not-is_empty-clause-given
returns-then-not-is_empty-clause-given g c =
    let at = (goal.at.returns-then-not-is_empty-clause-given g c).After-top-level in
    gives-some c.top-level.result c.pop.new.self.items c.args.retired.now.items c.push_reserved.new.self.items c.in-Some.last c.give_up.new.self c.args.store.now
    c.give_up.new.store (last_is g at) (last_some g at) (c.top-level.ensures (last_some g at)) c.give_up.ensures.given c.give_up.ensures.trades
    (rest_stays c.pop.new.self.items c.push_reserved.new.self.items c.give_up.new.self c.push_reserved.ensures.items)

pub returns-else-not-is_empty-clause-given : goal.returns-else-not-is_empty-clause-given
returns-else-not-is_empty-clause-given g c =
    let at = (goal.at.returns-else-not-is_empty-clause-given g c).After-top-level in
    let gone : (used_of c.give_up.new.self.levels == 0) ≡ true = cc in
    gives-some c.top-level.result c.pop.new.self.items c.args.retired.now.items c.pop.new.self.items c.in-Some.last c.give_up.new.self c.args.store.now
    c.give_up.new.store (last_is g at) (last_some g at) (c.top-level.ensures (last_some g at)) c.give_up.ensures.given c.give_up.ensures.trades
    (rest_gone c.pop.new.self.items c.pop.new.self.items c.give_up.new.self refl gone)

pub returns-in_default-clause-given : goal.returns-in_default-clause-given
returns-in_default-clause-given g c =
    let empty : c.args.retired.now.items ≡ [] = search rules in
    let none : c.pop.new.self.items ≡ [] = search rules in gives-none c.args.retired.now.items c.pop.new.self.items c.args.store.now empty none
