use Rattle.std.proofs.Common.{◌≤◌, Bool, false, List, length, get_or, slice_get, Some, arith, sym, ap, ◌∙◌}
use Rattle.std.proofs.lemmas.Option.{slice_get-get_or}
use Rattle.map_model.specs.Found.{Found}
use Rattle.map_shapes.specs.declared.found.Short.{Short}
use Rattle.map_shapes.proofs.FoundLists.{list-length, founds-get}
use Rattle.map_shapes.proofs.found_list.FoundList.get.Goals as goal

pub offset_bounds-deref-k : goal.offset_bounds-deref-k
offset_bounds-deref-k c =
    let long = list-length c.self.inside.shorts.items c.self.inside.far.items c.args.self.now c.self.invariant c.self.view_is in
    let few : length c.deref.result.now ≤ 64 = c.deref.ensures.1 in
    omega (arith, c.requires, long, ap length c.deref.ensures.0, few)

pub bounds-deref-k : goal.bounds-deref-k
bounds-deref-k c =
    let long = list-length c.self.inside.shorts.items c.self.inside.far.items c.args.self.now c.self.invariant c.self.view_is in
    omega (arith, c.requires, long, ap length c.deref.ensures.0)

pub bounds-deref-k-2 : goal.bounds-deref-k-2
bounds-deref-k-2 c =
    let long = list-length c.self.inside.shorts.items c.self.inside.far.items c.args.self.now c.self.invariant c.self.view_is in
    omega (arith, c.requires, long, c.self.invariant, ap length c.deref-2.ensures.0)

pub returns : goal.returns
returns c =
    let k = c.args.k in
    let shorts = c.self.inside.shorts.items in
    let bits = c.self.inside.far.items in
    let none : Short = record { id = 0; low = 0 } in
    let long = list-length shorts bits c.args.self.now c.self.invariant c.self.view_is in
    let short = slice_get-get_or c.deref.result.now k none (omega (arith, c.requires, long, ap length c.deref.ensures.0)) in
    let bit = slice_get-get_or c.deref-2.result.now k false (omega (arith, c.requires, long, c.self.invariant, ap length c.deref-2.ensures.0)) in
    ap (λ (l : List Found). slice_get l k) (sym c.self.view_is)
    ∙ founds-get k shorts bits (get_or c.deref.result.now k none) (get_or c.deref-2.result.now k false)
    (ap (λ (l : List Short). slice_get l k) (sym c.deref.ensures.0) ∙ short) (ap (λ (l : List Bool). slice_get l k) (sym c.deref-2.ensures.0) ∙ bit)
    ∙ ap (λ (f : Found). Some f) (sym c.joined.ensures)
