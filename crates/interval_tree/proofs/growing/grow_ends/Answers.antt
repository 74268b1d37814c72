use Rattle.std.proofs.Common.{◌≡◌, true, false, length, sym, ap, ◌∙◌, arith}
use Rattle.std.proofs.lemmas.List.{length-map}
use Rattle.weak_delete.specs.Places.{LivePlaces, live_place}
use Rattle.map_shapes.specs.declared.segment.Segment.{Segment}
use Rattle.interval_tree.proofs.Filling.{IsFilling-put, next_end}
use Rattle.interval_tree.proofs.growing.grow_ends.Goals as goal

pub returns-else-len-clause-filling : goal.returns-else-len-clause-filling
returns-else-len-clause-filling g c =
    let segments = c.args.segments.now.items in
    let many = length-map segments (λ (s : Segment). live_place s.hi) in
    let unsealed : c.args.ends.now.sealed ≡ false = sym c.is_sealed.ensures ∙ c.if-is_sealed.false in
    let still : c.put.new.self.sealed ≡ false = ap (λ (s : LivePlaces). s.sealed) c.put.ensures.put ∙ unsealed in
    IsFilling-put c.at-segment.result.hi c.put.new.self c.requires.filling unsealed
    (next_end segments c.at-segment.result c.len.result (length c.args.ends.now.places) c.at-segment.ensures.read c.len.ensures.value)
    (ap (λ (s : LivePlaces). s.places) c.put.ensures.put) (omega arith) (λ ended. absurd cc)
    (λ more whole. c.if-len.false (omega (arith, whole, many)))

pub returns-then-len-clause-filling : goal.returns-then-len-clause-filling
returns-then-len-clause-filling g c =
    let segments = c.args.segments.now.items in
    let many = length-map segments (λ (s : Segment). live_place s.hi) in
    let unsealed : c.args.ends.now.sealed ≡ false = sym c.is_sealed.ensures ∙ c.if-is_sealed.false in
    let closed : c.seal.new.self.sealed ≡ true = ap (λ (s : LivePlaces). s.sealed) c.seal.ensures in
    let same = ap (λ (s : LivePlaces). s.places) c.seal.ensures in
    IsFilling-put c.at-segment.result.hi c.seal.new.self c.requires.filling unsealed
    (next_end segments c.at-segment.result c.len.result (length c.args.ends.now.places) c.at-segment.ensures.read c.len.ensures.value)
    (same ∙ ap (λ (s : LivePlaces). s.places) c.put.ensures.put) (omega arith) (λ ended. omega (arith, many, ap length same))
    (λ more. absurd cc)
