use Rattle.std.proofs.Common.{ap, sym, subst, ◌∙◌, arith}
use Rattle.rank_rows.specs.Cursors.{next_of, target_of}
use Rattle.rank_rows.specs.Ranked.{IsKept}
use Rattle.rank_rows.proofs.Puts.{few_in, room_in, high_in, height_in, light_in, kept_in, view_in, target_in}
use Rattle.rank_rows.proofs.ranks.RankRows.push.Goals as goal

pub put-requires-clause-room : goal.put-requires-clause-room
put-requires-clause-room g c = room_in c.self.inside c.args.self.now c.self.view_is c.self.invariant c.requires.room

pub next-self-inside-requires-clause-rows : goal.next-self-inside-requires-clause-rows
next-self-inside-requires-clause-rows g c = omega (arith, high_in c.self.inside c.args.self.now c.self.view_is c.self.invariant c.requires.row.0 c.requires.row.1 c.requires.fresh, c.self.invariant.low)

pub next-self-inside-requires-clause-few : goal.next-self-inside-requires-clause-few
next-self-inside-requires-clause-few g c = few_in c.self.inside c.args.self.now c.self.view_is c.self.invariant

pub target-requires-clause-few : goal.target-requires-clause-few
target-requires-clause-few g c = few_in c.self.inside c.args.self.now c.self.view_is c.self.invariant

pub next-self-inside-requires-clause-light : goal.next-self-inside-requires-clause-light
next-self-inside-requires-clause-light g c = omega (arith, light_in c.self.inside c.args.self.now c.self.view_is c.self.invariant c.requires.row.0 c.requires.row.1 c.requires.fresh, c.ranges.weight.fits)

pub invariant_of-self : goal.invariant_of-self
invariant_of-self g c =
    let height = c.next_height-height.ensures c.requires.row.0 c.requires.row.1 ∙ height_in c.self.inside c.args.self.now c.self.view_is c.self.invariant c.requires.row.0 c.requires.row.1 c.requires.fresh in
    subst (IsKept c.put.new.self.words c.put.new.self.weights c.self.inside.stride c.self.inside.height)
    (sym (c.next-self-inside.ensures ∙ ap (λ h. next_of c.args.second c.args.weight h c.self.inside.stride c.self.inside.cursor) height))
    (kept_in c.self.inside c.args.self.now c.self.view_is c.self.invariant c.requires.row.0 c.requires.row.1 c.requires.fresh c.put.new.self c.args.second c.args.weight c.put.ensures.put c.requires.room
    c.ranges.weight.fits)

pub returns-clause-put : goal.returns-clause-put
returns-clause-put g c = view_in c.self.inside c.args.self.now c.self.view_is c.self.invariant c.requires.row.0 c.requires.row.1 c.requires.fresh c.put.new.self c.args.second c.args.weight c.put.ensures.put c.requires.room
    c.ranges.weight.fits

pub returns-clause-next : goal.returns-clause-next
returns-clause-next g c row k at within =
    let height = c.next_height-height.ensures c.requires.row.0 c.requires.row.1 ∙ height_in c.self.inside c.args.self.now c.self.view_is c.self.invariant c.requires.row.0 c.requires.row.1 c.requires.fresh in
    c.target.ensures ∙ ap (λ h. target_of h c.args.second c.self.inside.cursor) height ∙ target_in c.self.inside c.args.self.now c.self.view_is c.self.invariant c.requires.row.0 c.requires.row.1 c.requires.fresh c.put.new.self c.args.second c.args.weight c.put.ensures.put c.requires.room
    c.ranges.weight.fits row k at within
