use Rattle.std.proofs.Common.{◌≡◌, ℕ, ◌+◌, ◌-◌, ◌*◌, ◌/◌, ◌%◌, ◌==◌, ◌^◌, ◌<◌, length, Some, slice_get, refl, sym, ap, ◌∙◌, subst, arith}
use Rattle.std.proofs.lemmas.Nat.{pow_pos}
use Rattle.query_laws.specs.StepLedger.{Entries}
use Rattle.builder_trait.specs.Parts.{Contents}
use Rattle.map_shapes.specs.declared.point.Point.{Point}
use Rattle.rank_rows.specs.Ranked.{Ranked, IsNextRow, next_place}
use Rattle.range_tree.specs.declared.growing.Carried.{Carried}
use Rattle.range_tree.specs.declared.rows.RangeTree.{RangeTree}
use Rattle.range_tree.specs.Heights.{words_for}
use Rattle.range_tree.specs.Tree.{is_second}
use Rattle.range_tree.specs.Growing.{AreGrown, carried_of}
use Rattle.range_tree.proofs.Carrying.{source_long, at_place, IsNextRow-here, carried_is, bit_is, target_inside, AreGrown-filled, AreGrown-carried}
use Rattle.range_tree.proofs.rows.RangeTree.put_place.Goals as goal

module _ (part : Contents Point) (old : RangeTree) (grown : AreGrown part old) where
  -- the row isn't full
  unended_here : old.at < 64 * words_for (length old.source.items) → old.at < 64 * words_for (length part.items)
  unended_here is = subst (λ n. old.at < 64 * words_for n) (source_long part old grown) is

  -- the bit of the point that is carried
  bit_here : old.at < length old.source.items → (carried : Carried) → slice_get old.source.items old.at ≡ Some carried
      → (h half : ℕ) → (IsNextRow old.ranks grown.count → h ≡ old.ranks.height - grown.count) → IsNextRow old.ranks grown.count → half ≡ 2 ^ (h - 1)
      → (carried.place / half % 2 == 1) ≡ is_second (old.height - grown.count) (carried_of part.items carried.place).place
  bit_here inside carried read h half height next is =
      let place = ap (λ (c : Carried). c.place) (carried_is part old grown inside carried read) in
      let lower : h - 1 ≡ old.height - grown.count - 1 = omega (arith, height next, grown.same_height) in
      ap (λ p. p / half % 2 == 1) place ∙ bit_is part old grown inside half (is ∙ ap (λ i. 2 ^ i) lower)
      ∙ ap (is_second (old.height - grown.count)) (sym place)

pub next_height-requires : goal.next_height-requires
next_height-requires g c =
    let part = c.requires.grown.0 in
    let grown = c.requires.grown.1 in
    (grown.count, IsNextRow-here part c.args.self.now grown (unended_here part c.args.self.now grown c.requires.unended))

pub overflow_sub-next_height : goal.overflow_sub-next_height
overflow_sub-next_height g c =
    let part = c.requires.grown.0 in
    let grown = c.requires.grown.1 in
    let next = IsNextRow-here part c.args.self.now grown (unended_here part c.args.self.now grown c.requires.unended) in
    omega (arith, c.next_height.ensures grown.count next, next.high)

pub block_len-half-requires : goal.block_len-half-requires
block_len-half-requires g c =
    let part = c.requires.grown.0 in
    let grown = c.requires.grown.1 in
    let next = IsNextRow-here part c.args.self.now grown (unended_here part c.args.self.now grown c.requires.unended) in
    omega (arith, c.next_height.ensures grown.count next, grown.same_height, c.requires.low)

pub nonzero_div-second : goal.nonzero_div-second
nonzero_div-second g c = omega (arith, c.block_len-half.ensures, pow_pos (c.next_height.result - 1))

pub push-target-requires-clause-row : goal.push-target-requires-clause-row
push-target-requires-clause-row g c =
    let part = c.requires.grown.0 in
    let grown = c.requires.grown.1 in
    (grown.count, IsNextRow-here part c.args.self.now grown (unended_here part c.args.self.now grown c.requires.unended))

pub push-target-requires-clause-fresh : goal.push-target-requires-clause-fresh
push-target-requires-clause-fresh g c = c.requires.grown.1.fresh

pub set-requires : goal.set-requires
set-requires g c =
    let part = c.requires.grown.0 in
    let grown = c.requires.grown.1 in
    let old = c.args.self.now in
    let inside : old.at < length old.source.items = omega (arith, c.if-self-len.true, c.len.ensures.value) in
    let unended = unended_here part old grown c.requires.unended in
    let next = IsNextRow-here part old grown unended in
    let carried = c.at-carried.result in
    let place = ap (λ (x : Carried). x.place) (carried_is part old grown inside carried c.at-carried.ensures.read) in
    let bit = bit_here part old grown inside carried c.at-carried.ensures.read c.next_height.result c.block_len-half.result (c.next_height.ensures grown.count) next c.block_len-half.ensures
    ∙ ap (is_second (old.height - grown.count)) place in
    target_inside part old grown inside (carried.place / c.block_len-half.result % 2 == 1) carried.weight bit c.push-target.result
    (c.push-target.ensures.next grown.count old.at (at_place part old grown) (omega (arith, unended, ap (λ s. 64 * s) grown.stride))
    ∙ ap (λ v. next_place v grown.count old.at) c.push-target.ensures.put)

pub push-requires-clause-row : goal.push-requires-clause-row
push-requires-clause-row g c =
    let part = c.requires.grown.0 in
    let grown = c.requires.grown.1 in
    (grown.count, IsNextRow-here part c.args.self.now grown (unended_here part c.args.self.now grown c.requires.unended))

pub push-requires-clause-fresh : goal.push-requires-clause-fresh
push-requires-clause-fresh g c = c.requires.grown.1.fresh

pub returns-then-self-len-clause-grown : goal.returns-then-self-len-clause-grown
returns-then-self-len-clause-grown g c part grown =
    let old = c.args.self.now in
    let inside : old.at < length old.source.items = omega (arith, c.if-self-len.true, c.len.ensures.value) in
    let unended = unended_here part old grown c.requires.unended in
    let next = IsNextRow-here part old grown unended in
    let carried = c.at-carried.result in
    let is = carried_is part old grown inside carried c.at-carried.ensures.read in
    let bit = bit_here part old grown inside carried c.at-carried.ensures.read c.next_height.result c.block_len-half.result (c.next_height.ensures grown.count) next c.block_len-half.ensures
    ∙ ap (is_second (old.height - grown.count)) (ap (λ (x : Carried). x.place) is) in
    subst (λ (v : Ranked). AreGrown part (record old { ranks = v; target = c.set.new.self; at = old.at + 1; left = old.left - 1 })) (sym c.push-target.ensures.put)
    (AreGrown-carried part old grown inside (carried.place / c.block_len-half.result % 2 == 1) carried.weight bit carried is refl c.push-target.result
    (c.push-target.ensures.next grown.count old.at (at_place part old grown) (omega (arith, unended, ap (λ s. 64 * s) grown.stride))
    ∙ ap (λ v. next_place v grown.count old.at) c.push-target.ensures.put)
    c.set.new.self (ap (λ (r : Entries Carried). r.items) c.set.ensures.written))

pub returns-else-self-len-clause-grown : goal.returns-else-self-len-clause-grown
returns-else-self-len-clause-grown g c part grown =
    let old = c.args.self.now in
    subst (λ (v : Ranked). AreGrown part (record old { ranks = v; at = old.at + 1; left = old.left - 1 })) (sym c.push.ensures.put)
    (AreGrown-filled part old grown (omega (arith, c.if-self-len.false, c.len.ensures.value)) (unended_here part old grown c.requires.unended))
