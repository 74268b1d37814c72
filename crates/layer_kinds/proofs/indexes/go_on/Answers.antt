use Rattle.std.proofs.Common.{rules, ◌≡◌, ◌≢◌, [], None, refl}
use Rattle.layer_kinds.proofs.Adopting.{adopted_going, adopted_ended}
use Rattle.layer_kinds.proofs.indexes.go_on.Goals as goal

pub returns-then-not-has_ended : goal.returns-then-not-has_ended
returns-then-not-has_ended g c =
    let going : c.args.late.walk.cursor ≢ None = search rules in
    adopted_going c.args.late going

pub returns : goal.returns
returns g c =
    let ended : c.args.late.walk.cursor ≡ None = c.if-not-has_ended.ensures.ended refl in
    let is : c.adopt.result ≡ record { store = c.args.late.store; main = c.args.late.walk.stack; shadow = None; retired = [] } = search rules in
    adopted_ended c.args.late c.adopt.result ended is
