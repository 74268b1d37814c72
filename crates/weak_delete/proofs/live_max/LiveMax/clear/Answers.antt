use Rattle.std.proofs.Common.{◌≡◌, ℕ, ◌+◌, ◌*◌, ◌/◌, ◌%◌, ◌^◌, ◌<◌, List, length, set, false, arith, ap, subst, sym, refl, length-set, mod-lt, ◌∙◌}
use Rattle.std.proofs.lemmas.List.{get_or_read}
use Rattle.std.proofs.lemmas.Nat.{div-add-mod', pow_pos}
use Rattle.query_laws.specs.StepLedger.{Entries}
use Rattle.query_laws.proofs.Counting.{Spends-nothing, Spends-then, Spends-within}
use Rattle.weak_delete.specs.declared.place.Place.{Place}
use Rattle.weak_delete.specs.Places.{IsLive, LivePlaces, cleared, place_at, no_place}
use Rattle.row_blocks.specs.Blocks.{IsMultiple}
use Rattle.weak_delete.specs.Tournament.{IsPlayed}
use Rattle.row_blocks.proofs.Blocks.{pow_next}
use Rattle.weak_delete.proofs.Nodes.{live_within}
use Rattle.weak_delete.proofs.Winners.{IsRepaired, IsRepaired-begin, IsRepaired-play, IsRepaired-skip, IsRepaired-all, IsPlayed-all, IsPlayed-again}
use Rattle.weak_delete.proofs.live_max.LiveMax.clear.Goals as goal

pub loop-height-init : goal.loop-height-init
loop-height-init g c =
    let kept = c.self.invariant in
    let old = c.self.inside.places.items in
    let played = kept.played (ap (λ (s : LivePlaces). s.sealed) c.self.view_is ∙ c.requires.built.sealed) in
    let none : c.self.inside.left ≡ 0 = ap (λ (s : LivePlaces). s.left) c.self.view_is ∙ c.requires.built.turned in
    let seen : c.args.self.now.places ≡ old = sym (ap (λ (s : LivePlaces). s.places) c.self.view_is) in
    let L : List Place → Type 0 = λ places. IsLive places c.args.k in
    let within : c.args.k < length old = live_within old c.args.k (subst L seen c.requires.live) in
    let amount : c.at-amount.result.amount ≡ (place_at old c.args.k).amount = ap (λ (p : Place). p.amount) (get_or_read old c.args.k c.at-amount.result within c.at-amount.ensures.read_or no_place) in
    let items : c.set.new.self.items ≡ cleared old c.args.k = ap (λ (r : Entries Place). r.items) c.set.ensures.written ∙ ap (λ amount. set old c.args.k (record { amount = amount; live = false })) amount in
    let long : length c.set.new.self.items ≡ length old = ap length items ∙ length-set old c.args.k _ in
    let room : c.set.new.self.capacity ≡ c.self.inside.places.capacity = ap (λ (r : Entries Place). r.capacity) c.set.ensures.written in
    let R : List Place → Type 0 = λ places. IsRepaired places c.args.k c.self.inside.winners.items 0 in
    record {
      winner_each = kept.winner_each ∙ sym long;
      few = omega (arith, kept.within, kept.few);
      room = kept.same_room ∙ sym room;
      same_places = refl;
      same_height = refl;
      same_left = refl;
      same_sealed = refl;
      repaired = subst R (sym items) (IsRepaired-begin c.args.k (IsPlayed-all played none (omega (arith, kept.within, kept.few))));
      spent = Spends-nothing _;
    }

pub play-requires-clause-block : goal.play-requires-clause-block
play-requires-clause-block g c = record {
  times = c.args.k / (2 * c.block_len-half.result);
  is = ap (λ n. c.args.k / (2 * c.block_len-half.result) * n) (omega (arith, c.block_len-half.ensures, pow_next c.loop-height.height));
}

pub loop-height-preserved-then-start-half : goal.loop-height-preserved-then-start-half
loop-height-preserved-then-start-half g c =
    let kept = c.loop-height.invariant in
    let half = c.block_len-half.ensures in
    let two : 2 * c.block_len-half.result ≡ 2 ^ (c.loop-height.height + 1) = omega (arith, half, pow_next c.loop-height.height) in
    let some = pow_pos (c.loop-height.height + 1) in
    let whole : c.args.k / (2 * c.block_len-half.result) * (2 * c.block_len-half.result) + c.args.k % (2 * c.block_len-half.result) ≡ c.args.k = div-add-mod' c.args.k (2 * c.block_len-half.result) in
    let rest : c.args.k % (2 * c.block_len-half.result) < 2 * c.block_len-half.result = mod-lt c.args.k (omega (arith, two)) in
    let multiple : IsMultiple (c.args.k / (2 * c.block_len-half.result) * (2 * c.block_len-half.result)) (c.loop-height.height + 1) = record { times = c.args.k / (2 * c.block_len-half.result); is = ap (λ n. c.args.k / (2 * c.block_len-half.result) * n) two } in
    record {
      winner_each = kept.winner_each;
      few = kept.few;
      room = kept.room;
      same_places = kept.same_places;
      same_height = kept.same_height;
      same_left = kept.same_left;
      same_sealed = kept.same_sealed;
      repaired = IsRepaired-skip _ kept.repaired multiple (omega arith) (omega (arith, two)) kept.few (omega arith) (omega (arith, c.if-start-half.true, c.len-in-loop-height.ensures.value, half));
      spent = Spends-within kept.spent refl refl (omega arith);
    }

pub loop-height-preserved : goal.loop-height-preserved
loop-height-preserved g c =
    let kept = c.loop-height.invariant in
    let half = c.block_len-half.ensures in
    let two : 2 * c.block_len-half.result ≡ 2 ^ (c.loop-height.height + 1) = omega (arith, half, pow_next c.loop-height.height) in
    let some = pow_pos (c.loop-height.height + 1) in
    let whole : c.args.k / (2 * c.block_len-half.result) * (2 * c.block_len-half.result) + c.args.k % (2 * c.block_len-half.result) ≡ c.args.k = div-add-mod' c.args.k (2 * c.block_len-half.result) in
    let rest : c.args.k % (2 * c.block_len-half.result) < 2 * c.block_len-half.result = mod-lt c.args.k (omega (arith, two)) in
    let multiple : IsMultiple (c.args.k / (2 * c.block_len-half.result) * (2 * c.block_len-half.result)) (c.loop-height.height + 1) = record { times = c.args.k / (2 * c.block_len-half.result); is = ap (λ n. c.args.k / (2 * c.block_len-half.result) * n) two } in
    record {
      winner_each = c.play.ensures.long ∙ kept.winner_each;
      few = kept.few;
      room = c.play.ensures.room ∙ kept.room;
      same_places = kept.same_places;
      same_height = kept.same_height;
      same_left = kept.same_left;
      same_sealed = kept.same_sealed;
      repaired = IsRepaired-play c.play.new.winners.items _ kept.repaired multiple (omega arith) (omega (arith, two)) kept.few (omega arith) c.play.ensures.others c.play.ensures.wins;
      spent = Spends-within (Spends-then kept.spent c.play.ensures.cost) refl refl (omega arith);
    }

pub invariant_of-self : goal.invariant_of-self
invariant_of-self g c =
    let kept = c.loop-height.invariant in
    let old = c.self.invariant in
    let height : c.loop-height.height ≡ c.height_above-height-end.result = omega arith in
    let played = old.played (ap (λ (s : LivePlaces). s.sealed) c.self.view_is ∙ c.requires.built.sealed) in
    let items : length c.loop-height.self-inside.places.items ≡ length c.set.new.self.items = ap (λ (r : Entries Place). length r.items) kept.same_places in
    let room : c.loop-height.self-inside.places.capacity ≡ c.self.inside.places.capacity = ap (λ (r : Entries Place). r.capacity) (kept.same_places ∙ c.set.ensures.written) in
    let long : length c.loop-height.self-inside.places.items ≡ length c.self.inside.places.items = ap (λ (r : Entries Place). length r.items) (kept.same_places ∙ c.set.ensures.written) ∙ length-set c.self.inside.places.items c.args.k _ in
    let P : ℕ → Type 0 = λ l. IsPlayed c.loop-height.self-inside.places.items c.loop-height.self-inside.winners.items l c.loop-height.self-inside.left in
    let Q : ℕ → Type 0 = λ l. IsPlayed c.loop-height.self-inside.places.items c.loop-height.self-inside.winners.items c.self.inside.height l in
    record {
      winner_each = kept.winner_each;
      within = omega (arith, old.within);
      same_room = kept.room;
      few = omega (arith, old.few);
      played = λ _. subst P (sym kept.same_height) (subst Q (sym kept.same_left) (IsPlayed-again played long
          (IsRepaired-all kept.repaired (omega (arith, c.height_above-height-end.ensures.above, c.len.ensures.value, ap (λ i. 2 ^ i) height)) kept.few)));
    }
