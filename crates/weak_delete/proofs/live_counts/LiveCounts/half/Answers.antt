use Rattle.std.proofs.Common.{◌≡◌, ◌-◌, ◌*◌, ◌^◌, ◌≤◌, List, length, ap, subst, ◌∙◌, arith}
use Rattle.std.specs.List.{sum_by}
use Rattle.weak_delete.specs.declared.place.Place.{Place}
use Rattle.weak_delete.specs.Places.{LivePlaces, live_amount}
use Rattle.weak_delete.specs.Fenwick.{entries_for}
use Rattle.weak_delete.proofs.Nodes.{node_of_half, built_nodes, unturned-none}
use Rattle.weak_delete.proofs.Packing.{length-packed}
use Rattle.weak_delete.proofs.live_counts.LiveCounts.half.Goals as goal

pub at-requires : goal.at-requires
at-requires g c =
    let places = ap (λ (s : LivePlaces). length s.places) c.self.view_is in
    omega (arith, places, length-packed c.self.inside.weights.items c.self.inside.masks.items c.self.inside.len, c.self.invariant.node_each, c.requires.some, c.requires.within)

pub returns-clause-over : goal.returns-clause-over
returns-clause-over g c =
    let kept = c.self.invariant in
    let sealed : c.self.inside.sealed ≡ c.args.self.now.sealed = ap (λ (s : LivePlaces). s.sealed) c.self.view_is in
    let none : c.self.inside.unturned ≡ 0 = unturned-none _ _ _ (ap (λ (s : LivePlaces). s.left) c.self.view_is) (sealed ∙ c.requires.built.sealed) c.requires.built.turned in
    let places = ap (λ (s : LivePlaces). s.places) c.self.view_is in
    let nodes = built_nodes kept.nodes_over places (let no : entries_for c.self.inside.unturned ≡ 0 = omega arith in no) in
    node_of_half nodes _ _ _ c.requires.half c.requires.some
    (omega (arith, ap length places, length-packed c.self.inside.weights.items c.self.inside.masks.items c.self.inside.len, kept.node_each, c.requires.within)) c.at.ensures.read_or

pub returns-clause-few : goal.returns-clause-few
returns-clause-few g c =
    let places = ap (λ (s : LivePlaces). length s.places) c.self.view_is in
    omega (arith, places, length-packed c.self.inside.weights.items c.self.inside.masks.items c.self.inside.len, c.self.invariant.within, c.self.invariant.few)

pub returns-clause-light : goal.returns-clause-light
returns-clause-light g c =
    let places = ap (λ (s : LivePlaces). s.places) c.self.view_is in
    let count = length-packed c.self.inside.weights.items c.self.inside.masks.items c.self.inside.len in
    subst (λ (ps : List Place). sum_by live_amount ps ≤ length ps * (2 ^ 32 - 1)) places
    (omega (arith, count, c.self.invariant.small, ap (λ n. n * (2 ^ 32 - 1)) count))
