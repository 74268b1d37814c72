use Rattle.std.proofs.Common.{◌-◌, ap, ap₂, sym, arith}
use Rattle.rank_rows.specs.Ranked.{Ranked}
use Rattle.rank_rows.proofs.Reading.{next_row}
use Rattle.rank_rows.proofs.ranks.RankRows.next_height.Goals as goal

pub overflow_sub-result : goal.overflow_sub-result
overflow_sub-result c =
    let row = c.requires.0 in
    let inside = c.self.inside in
    let is = next_row inside.store.words.items inside.store.weights.items inside.stride inside.height inside.store.weights.capacity c.args.self.now row inside.cursor.row inside.cursor.at
    c.self.view_is c.requires.1 c.self.invariant.placed c.self.invariant.at_within in
    omega (arith, is, c.requires.1.high, ap (λ (v : Ranked). v.height) c.self.view_is)

pub returns : goal.returns
returns c row next =
    let inside = c.self.inside in
    let is = next_row inside.store.words.items inside.store.weights.items inside.stride inside.height inside.store.weights.capacity c.args.self.now row inside.cursor.row inside.cursor.at
    c.self.view_is next c.self.invariant.placed c.self.invariant.at_within in
    ap₂ (λ h q. h - q) (ap (λ (v : Ranked). v.height) c.self.view_is) (sym is)
