use Rattle.std.proofs.Common.{◌%◌, refl, sym, ◌∙◌, ap}
use Rattle.priority_tree.proofs.Filling.{leaf_room, IsFilling-opened, IsFilling-put}
use Rattle.priority_tree.proofs.heap.Heap.put.Goals as goal

pub open_leaf-requires : goal.open_leaf-requires
open_leaf-requires g c =
    leaf_room c.args.points.now.at_level c.args.points.now.items c.args.self.now c.requires.filling c.requires.room
    (ap (λ n. n % 16) (sym c.requires.next_place) ∙ c.if-place-eq0.true)

pub returns-then-place-eq0-clause-filling : goal.returns-then-place-eq0-clause-filling
returns-then-place-eq0-clause-filling g c =
    IsFilling-opened c.args.points.now.at_level c.args.points.now.items c.args.item.now c.args.self.now c.open_leaf.new.self _ c.requires.filling c.requires.room
    (ap (λ n. n % 16) (sym c.requires.next_place) ∙ c.if-place-eq0.true) refl c.open_leaf.ensures.put c.open_leaf.ensures.opened

pub returns-else-place-eq0-clause-filling : goal.returns-else-place-eq0-clause-filling
returns-else-place-eq0-clause-filling g c =
    IsFilling-put c.args.points.now.at_level c.args.points.now.items c.args.item.now c.args.self.now c.put_in.new.self c.args.place _ c.requires.filling
    c.requires.next_place c.if-place-eq0.false refl c.put_in.ensures.put c.put_in.ensures.same
