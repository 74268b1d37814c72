use Rattle.std.proofs.Common.{◌≡◌, ◌+◌, ◌-◌, ◌*◌, ◌/◌, ◌^◌, length, arith, ap, ap₂, sym, ◌∙◌}
use Rattle.weak_delete.specs.Places.{LivePlaces}
use Rattle.row_blocks.specs.Blocks.{IsMultiple}
use Rattle.row_blocks.proofs.Blocks.{height_at-middle, pow_next}
use Rattle.weak_delete.proofs.Winners.{IsPlayed-same_height, IsPlayed-next_height}
use Rattle.weak_delete.proofs.live_max.LiveMax.turn.Goals as goal

pub play-requires-clause-block : goal.play-requires-clause-block
play-requires-clause-block g c = record {
  times = (c.len.result - 1) / c.block_len-half.result - c.self.inside.left;
  is = omega (arith, ap (λ x. ((c.len.result - 1) / c.block_len-half.result - c.self.inside.left) * x) (pow_next c.self.inside.height ∙ ap (λ x. x + x) (sym c.block_len-half.ensures)));
}

pub invariant_of-self : goal.invariant_of-self
invariant_of-self g c =
    let inside = c.self.inside in
    let kept = c.self.invariant in
    let played = kept.played (ap (λ (s : LivePlaces). s.sealed) c.self.view_is ∙ c.requires.sealed) in
    let left : inside.left ≡ c.args.self.now.left = ap (λ (s : LivePlaces). s.left) c.self.view_is in
    let blocks : (c.len.result - 1) / c.block_len-half.result ≡ (length inside.places.items - 1) / 2 ^ inside.height = ap₂ (λ n h. (n - 1) / h) c.len.ensures.value c.block_len-half.ensures in
    let times = (c.len.result - 1) / c.block_len-half.result - inside.left in
    let multiple : IsMultiple (2 * times * c.block_len-half.result) (inside.height + 1) = record { times = times; is = omega (arith, ap (λ x. times * x) (pow_next inside.height ∙ ap (λ x. x + x) (sym c.block_len-half.ensures))) } in
    let next : 2 * times * c.block_len-half.result + 2 ^ inside.height ≡ (2 * ((length inside.places.items - 1) / 2 ^ inside.height - inside.left) + 1) * 2 ^ inside.height =
    ap₂ (λ b h. 2 * (b - inside.left) * h + 2 ^ inside.height) blocks c.block_len-half.ensures ∙ omega arith in
    record {
      winner_each = c.play.ensures.long ∙ kept.winner_each;
      within = kept.within;
      same_room = c.play.ensures.room ∙ kept.same_room;
      few = kept.few;
      played = λ _. IsPlayed-next_height c.play.new.winners.items played (omega (arith, left)) (omega arith) _ next (height_at-middle _ _ multiple (omega (arith, played.small))) c.play.ensures.others c.play.ensures.wins (omega (arith, c.if-self-blocks.true, ap (λ n. n / 2) blocks));
    }

pub invariant_of-self-else-self-blocks : goal.invariant_of-self-else-self-blocks
invariant_of-self-else-self-blocks g c =
    let inside = c.self.inside in
    let kept = c.self.invariant in
    let played = kept.played (ap (λ (s : LivePlaces). s.sealed) c.self.view_is ∙ c.requires.sealed) in
    let left : inside.left ≡ c.args.self.now.left = ap (λ (s : LivePlaces). s.left) c.self.view_is in
    let blocks : (c.len.result - 1) / c.block_len-half.result ≡ (length inside.places.items - 1) / 2 ^ inside.height = ap₂ (λ n h. (n - 1) / h) c.len.ensures.value c.block_len-half.ensures in
    let times = (c.len.result - 1) / c.block_len-half.result - inside.left in
    let multiple : IsMultiple (2 * times * c.block_len-half.result) (inside.height + 1) = record { times = times; is = omega (arith, ap (λ x. times * x) (pow_next inside.height ∙ ap (λ x. x + x) (sym c.block_len-half.ensures))) } in
    let next : 2 * times * c.block_len-half.result + 2 ^ inside.height ≡ (2 * ((length inside.places.items - 1) / 2 ^ inside.height - inside.left) + 1) * 2 ^ inside.height =
    ap₂ (λ b h. 2 * (b - inside.left) * h + 2 ^ inside.height) blocks c.block_len-half.ensures ∙ omega arith in
    record {
      winner_each = c.play.ensures.long ∙ kept.winner_each;
      within = kept.within;
      same_room = c.play.ensures.room ∙ kept.same_room;
      few = kept.few;
      played = λ _. IsPlayed-same_height c.play.new.winners.items played (omega (arith, left)) (omega arith) _ next (height_at-middle _ _ multiple (omega (arith, played.small))) c.play.ensures.others c.play.ensures.wins (λ e. c.if-self-blocks.false (e ∙ sym (ap (λ n. n / 2) blocks)));
    }
