use Rattle.std.proofs.Common.{◌≡◌, ℕ, ◌+◌, ◌^◌, length, arith, ap, subst, sym, ◌∙◌, refl, inl, inr}
use Rattle.std.proofs.lemmas.Bool.{cases_lt}
use Rattle.std.proofs.Math.Nat.{le_trans}
use Rattle.query_laws.proofs.Counting.{Spends-nothing, Spends-then, Spends-within}
use Rattle.weak_delete.specs.Places.{LivePlaces}
use Rattle.row_blocks.specs.Blocks.{IsMultiple}
use Rattle.row_blocks.proofs.Blocks.{even_block, odd_block}
use Rattle.weak_delete.proofs.Winners.{first_reaching, none_reaching, missed_from}
use Rattle.weak_delete.proofs.live_max.LiveMax.next_at_least.Goals as goal
use Rattle.weak_delete.proofs.live_max.LiveMax.next_at_least.Goals.{else-height-top-via-then-height-top+else-start-block_len-eq0, else-height-top-via-else-height-top}

pub loop-height-init : goal.loop-height-init
loop-height-init g c = record {
  block = λ _. record { times = c.args.from; is = omega arith };
  after = omega arith;
  below = λ k after before. let no : ⊥ = omega arith in absurd no;
  all = λ h. let no : ⊥ = omega arith in absurd no;
  spent = Spends-nothing _;
}

pub loop-height-preserved-then-start-block_len-eq0 : goal.loop-height-preserved-then-start-block_len-eq0
loop-height-preserved-then-start-block_len-eq0 g c = record {
  block = λ _. even_block _ _ _ (c.loop-height.invariant.block (omega arith)) c.block_len.ensures c.if-start-block_len-eq0.true;
  after = c.loop-height.invariant.after;
  below = c.loop-height.invariant.below;
  all = λ h. let no : ⊥ = omega (arith, c.if-height-top.true) in absurd no;
  spent = Spends-within c.loop-height.invariant.spent refl refl (omega arith);
}

pub returns-then-k-to-clause-first : goal.returns-then-k-to-clause-first
returns-then-k-to-clause-first g c =
    first_reaching c.args.self.now.places c.args.from c.args.to c.args.bound c.requires.order c.requires.within c.first_in-k.result (omega (arith, c.loop-height.invariant.after, c.first_in-k.ensures.after)) c.if-k-to.true
    (λ i after before. elim (cases_lt i c.loop-height.start) [
      | inl low ↦ c.loop-height.invariant.below i after low
      | inr high ↦ c.first_in-k.ensures.below i high before
    ])
    c.first_in-k.ensures.above

pub returns-else-k-to-clause-first : goal.returns-else-k-to-clause-first
returns-else-k-to-clause-first g c =
    none_reaching c.args.self.now.places c.args.from c.args.to c.args.bound c.requires.order c.requires.within
    (λ i after before. elim (cases_lt i c.loop-height.start) [
      | inl low ↦ c.loop-height.invariant.below i after low
      | inr high ↦ c.first_in-k.ensures.below i high (omega (arith, c.if-k-to.false))
    ])

pub loop-height-preserved : goal.loop-height-preserved
loop-height-preserved g c =
    let kept = c.loop-height.invariant in
    let low = missed_from c.reaches.ensures c.if-reaches.false in
    let places : length c.self.inside.places.items ≡ length c.args.self.now.places = ap (λ (s : LivePlaces). length s.places) c.self.view_is in
    record {
      block = λ more. elim c.else-height-top.branch [
        | else-height-top-via-then-height-top+else-start-block_len-eq0 w ↦
            let same : c.block_len-start.result ≡ w.block_len.result = c.block_len-start.ensures ∙ sym w.block_len.ensures in
            let P : ℕ → Type 0 = λ half. IsMultiple (c.loop-height.start + half) (c.loop-height.height + 1) in
            subst P (sym same) (odd_block _ _ _ (kept.block (omega arith)) w.block_len.ensures w.if-start-block_len-eq0.false)
        | else-height-top-via-else-height-top w ↦ let no : ⊥ = omega (arith, w.if-height-top.false) in absurd no
      ];
      after = omega (arith, kept.after);
      below = λ i after before. elim (cases_lt i c.loop-height.start) [
        | inl already ↦ kept.below i after already
        | inr from ↦ le_trans (c.winner.ensures.greatest.bound i from (omega (arith, c.block_len-start.ensures))) low
      ];
      all = λ past.
          let top : c.loop-height.height ≡ c.height_above-top.result = omega arith in
          omega (arith, places, c.height_above-top.ensures.above, c.block_len-start.ensures, ap (λ n. 2 ^ n) top);
      spent = Spends-within (Spends-then kept.spent c.winner.ensures.cost) refl refl (omega arith);
    }

pub returns-after-loop-height-clause-first : goal.returns-after-loop-height-clause-first
returns-after-loop-height-clause-first g c =
    none_reaching c.args.self.now.places c.args.from c.args.to c.args.bound c.requires.order c.requires.within
    (λ i after before. c.loop-height.invariant.below i after (omega (arith, c.loop-height.invariant.all (omega arith))))

pub returns-then-start-to-clause-first : goal.returns-then-start-to-clause-first
returns-then-start-to-clause-first g c =
    none_reaching c.args.self.now.places c.args.from c.args.to c.args.bound c.requires.order c.requires.within
    (λ i after before. c.loop-height.invariant.below i after (omega (arith, c.if-start-to.true)))
