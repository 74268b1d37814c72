use Rattle.std.proofs.Common.{◌≡◌, ◌^◌, ◌≤◌, ◌||◌, ◌∙◌, ◌∷◌, Bool, true, false, length, refl, sym, ap, subst, arith}
use Rattle.std.proofs.Math.Bool.{or-true}
use Rattle.std.proofs.lemmas.List.Elements.{All-head, All-tail}
use Rattle.query_laws.specs.Orders.{AllStampsDiffer}
use Rattle.query_laws.proofs.Counting.{Spends-nothing, Spends-within}
use Rattle.builder_trait.specs.Parts.{OwnsStamp, has_stamp}
use Rattle.binary_stack.specs.Levels.{parts_of, live_in, items_in, live_items, all_items, HaveAtMost, AreMarked}
use Rattle.binary_stack.proofs.Distinct.{AllStampsDiffer-back, none_of}
use Rattle.binary_stack.proofs.Marked.{All-first, All-second, has_stamp-append, AreMarked-above, AreMarked-both}
use Rattle.binary_stack.proofs.Spending.{Spends-marks}
use Rattle.binary_stack.proofs.marking.+mark_in.Goals as goal

or-false : (b : Bool) → (b || false) ≡ b
or-false true = refl
or-false false = refl

pub mark_in-requires : goal.mark_in-requires
mark_in-requires g p c κs lives =
    let contents = g.P.Part.contents in
    let stamp = g.P.Item.Item.stamp in
    let x = c.args.item.now in
    let level = c.in-Some.level.now in
    let above = c.in-Some.above.now in
    let split = c.in-Some.ensures.cases.0 in
    let apart = AllStampsDiffer-back stamp (items_in contents level) (all_items contents above)
    (subst (λ ls. AllStampsDiffer stamp (all_items contents ls)) split c.requires.apart) in
    let owner = All-second (λ y. stamp y ≡ stamp x → y ≡ x) (items_in contents level) (all_items contents above)
    (subst (λ ls. OwnsStamp stamp x (all_items contents ls)) split c.requires.owner) in
    (omega (arith, c.decreases, c.in-Some.ensures.cases.1), (lives.0, (lives.1.0, (lives.1.1, (apart, owner)))))

pub returns-then-mark_in : goal.returns-then-mark_in
returns-then-mark_in g p c =
    let contents = g.P.Part.contents in
    let stamp = g.P.Item.Item.stamp in
    let s = stamp c.args.item.now in
    let level = c.in-Some.level.now in
    let above = c.in-Some.above.now in
    let new = c.mark_in.new.levels in
    let split = c.in-Some.ensures.cases.0 in
    let h = c.mark_in.ensures in
    let on : has_stamp stamp s (live_items contents above) ≡ true = sym h.found ∙ c.if-mark_in.true in
    let apart = subst (λ ls. AllStampsDiffer stamp (all_items contents ls)) split c.requires.apart in
    record {
      found = sym (ap (λ ls. has_stamp stamp s (live_items contents ls)) split
          ∙ has_stamp-append stamp s (live_in contents level) (live_items contents above) ∙ ap (λ b. has_stamp stamp s (live_in contents level) || b) on
          ∙ or-true (has_stamp stamp s (live_in contents level)));
      marked = subst (λ ls. AreMarked contents stamp s ls (level ∷ new)) (sym split) (AreMarked-above contents stamp s level above new apart on h.marked);
      few = omega (arith, h.few, ap parts_of split);
      cost = λ k fits. h.cost k (All-tail (λ l. length (items_in contents l) ≤ 2 ^ k) level above (subst (HaveAtMost contents (2 ^ k)) split fits));
    }

pub mark_level-requires : goal.mark_level-requires
mark_level-requires g p c =
    let contents = g.P.Part.contents in
    let stamp = g.P.Item.Item.stamp in
    let x = c.args.item.now in
    All-first (λ y. stamp y ≡ stamp x → y ≡ x) (items_in contents c.in-Some.level.now) (all_items contents c.in-Some.above.now)
    (subst (λ ls. OwnsStamp stamp x (all_items contents ls)) c.in-Some.ensures.cases.0 c.requires.owner)

pub returns-else-mark_in : goal.returns-else-mark_in
returns-else-mark_in g p c =
    let contents = g.P.Part.contents in
    let stamp = g.P.Item.Item.stamp in
    let s = stamp c.args.item.now in
    let level = c.in-Some.level.now in
    let above = c.in-Some.above.now in
    let level' = c.mark_level.new.level in
    let new = c.mark_in.new.levels in
    let split = c.in-Some.ensures.cases.0 in
    let h = c.mark_in.ensures in
    let n = c.mark_level.ensures in
    let off : has_stamp stamp s (live_items contents above) ≡ false = sym h.found ∙ c.if-mark_in.false in
    record {
      found = n.found ∙ sym (ap (λ ls. has_stamp stamp s (live_items contents ls)) split
          ∙ has_stamp-append stamp s (live_in contents level) (live_items contents above) ∙ ap (λ b. has_stamp stamp s (live_in contents level) || b) off
          ∙ or-false (has_stamp stamp s (live_in contents level)));
      marked = subst (λ ls. AreMarked contents stamp s ls (level' ∷ new)) (sym split) (AreMarked-both contents stamp s level above new level' n.live n.same h.marked);
      few = omega (arith, h.few, n.few, ap parts_of split);
      cost = λ k fits.
          let each = subst (HaveAtMost contents (2 ^ k)) split fits in
          Spends-marks (g.P.Part.mark_touches k)
          (h.cost k (All-tail (λ l. length (items_in contents l) ≤ 2 ^ k) level above each))
          (n.cost k (All-head (λ l. length (items_in contents l) ≤ 2 ^ k) level above each));
    }

pub returns-in-None : goal.returns-in-None
returns-in-None g p c =
    let none = none_of c.args.levels.now (omega (arith, c.in-None.ensures.cases)) in
    let contents = g.P.Part.contents in
    record {
      found = sym (ap (λ ls. has_stamp g.P.Item.Item.stamp (g.P.Item.Item.stamp c.args.item.now) (live_items contents ls)) none);
      marked = subst (λ ls. AreMarked contents g.P.Item.Item.stamp (g.P.Item.Item.stamp c.args.item.now) ls ls) (sym none) (record { live = refl; same = tt });
      few = omega arith;
      cost = λ k fits. Spends-within (Spends-nothing c.args.steps.now) refl (omega arith) (omega arith);
    }
