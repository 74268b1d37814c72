use Rattle.std.proofs.Common.{◌≡◌, ◌+◌, ◌∙◌, [], ◌∷◌, ◌++◌, length, take, map, ap, sym, arith, get_or}
use Rattle.std.proofs.lemmas.List.{take_more, map-append, length-map, length-take-le}
use Rattle.weak_delete.specs.Places.{live_place}
use Rattle.index_tests.proofs.live_places.put_weights.Goals as goal

pub put-requires-clause-room : goal.put-requires-clause-room
put-requires-clause-room g c =
    let weights = c.args.weights.now in
    let k = c.loop-weight.weight-index in
    omega (
      arith,
      ap length c.loop-weight.invariant.put,
      length-map (take k weights) live_place,
      length-take-le k weights (omega (arith, c.loop-weight-test.true)),
      c.loop-weight.invariant.room,
      c.loop-weight-test.true,
    )

pub loop-weight-preserved : goal.loop-weight-preserved
loop-weight-preserved g c =
    let weights = c.args.weights.now in
    let k = c.loop-weight.weight-index in
    let more : map live_place (take (k + 1) weights) ≡ map live_place (take k weights) ++ live_place (get_or weights k 0) ∷ [] =
    ap (map live_place) (take_more weights k 0 c.loop-weight-test.true) ∙ map-append live_place (take k weights) (get_or weights k 0 ∷ []) in
    record {
      put = ap (λ s. s.places) c.put.ensures.put ∙ ap (λ l. l ++ live_place (get_or weights k 0) ∷ []) c.loop-weight.invariant.put ∙ sym more;
      open_ = ap (λ s. s.sealed) c.put.ensures.put ∙ c.loop-weight.invariant.open_;
      room = ap (λ s. s.capacity) c.put.ensures.put ∙ c.loop-weight.invariant.room;
    }
