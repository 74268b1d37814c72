use Rattle.std.proofs.Common.{◌≡◌, ◌<◌, false, length, sym, ap, ◌∙◌, arith}
use Rattle.std.proofs.lemmas.List.{get_or-replicate, length-replicate}
use Rattle.weak_delete.specs.Places.{LivePlaces, live_place}
use Rattle.interval_tree.proofs.Filling.{IsFilling-put}
use Rattle.interval_tree.proofs.growing.grow_counts.Goals as goal

pub returns-else-len-n-clause-filling : goal.returns-else-len-n-clause-filling
returns-else-len-n-clause-filling g c =
    let n = c.args.n in
    let unsealed : c.args.counts.now.sealed ≡ false = sym c.is_sealed.ensures ∙ c.if-is_sealed.false in
    let below : length c.args.counts.now.places < n = omega (arith, c.requires.filling.open_yet unsealed, length-replicate n (live_place 0)) in
    let still : c.put.new.self.sealed ≡ false = ap (λ (s : LivePlaces). s.sealed) c.put.ensures.put ∙ unsealed in
    IsFilling-put 0 c.put.new.self c.requires.filling unsealed (get_or-replicate n (length c.args.counts.now.places) (live_place 0) (live_place 0) below)
    (ap (λ (s : LivePlaces). s.places) c.put.ensures.put) (omega arith) (λ ended. absurd cc)
    (λ more whole. c.if-len-n.false (omega (arith, whole, length-replicate n (live_place 0))))
