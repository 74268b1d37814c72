use Rattle.std.proofs.Common.{◌≡◌, ℕ, ◌+◌, ◌-◌, ◌*◌, ◌≤◌, true, List, [], ◌∷◌, ◌++◌, length, refl, sym, ap, ap₂, ◌∙◌, arith, subst, append-nil}
use Rattle.std.specs.List.{flat_map, filter, range_with_len}
use Rattle.std.proofs.lemmas.List.Sums.{sum_by-cons}
use Rattle.query_laws.specs.Permuted.{Permuted, composed}
use Rattle.query_laws.proofs.Counting.{Spends-nothing, Spends-then, Spends-within}
use Rattle.query_laws.proofs.Permutations.{Permuted-map}
use Rattle.builder_trait.specs.Parts.{Contents, live_of}
use Rattle.map_shapes.specs.declared.point.Point.{Point}
use Rattle.map_shapes.specs.Found.{nearer_le}
use Rattle.map_questions.specs.FirstFew.{IsFirstFew, first_few}
use Rattle.map_questions.specs.Questions.{found_at}
use Rattle.kd_tree.specs.declared.block.Block.{Block}
use Rattle.kd_tree.specs.declared.rows.KdRows.{KdRows}
use Rattle.kd_tree.specs.Heights.{span}
use Rattle.kd_tree.specs.Growing.{IsTree}
use Rattle.kd_tree.specs.Walks.{live_in, live_in_block, founds, IsStack, work, work_of, work_of_all}
use Rattle.kd_tree.proofs.Killings.{covered, shallow}
use Rattle.kd_tree.proofs.LivePoints.{live_in-all}
use Rattle.kd_tree.proofs.Takings.{Takes-none, first_few-Permuted}
use Rattle.kd_tree.proofs.Stacks.{IsStack-none, IsStack-opened, IsStack-popped, live-opened, work-opened, work-all, empty_from, left_out}
use Rattle.kd_tree.proofs.rows.KdRows.walk.Goals as goal

-- the block of the whole tree
abbrev root : ℕ → Block
root depth = record { level = depth; place = 0; dist = 0; some = true }

none : (n : ℕ) → 0 * n ≡ 0
none n = omega arith

root_live : (part : Contents Point) (rows : KdRows) → IsTree part rows → Permuted rows.places.items (range_with_len 0 (length rows.places.items))
    → length part.flags ≡ length part.items → Permuted (live_in_block part rows.places.items (root rows.depth)) (live_of part)
root_live part rows tree each flagged =
    let one : (0 + 1) * span rows.depth ≡ span rows.depth = omega arith in
    subst (λ (l : List Point). Permuted l (live_of part)) (sym (ap₂ (live_in part rows.places.items) (none (span rows.depth)) one))
    (live_in-all part rows.places.items (span rows.depth) each tree.long flagged (omega (arith, covered part rows tree, tree.long)))

root_work : (n depth : ℕ) → work_of n (root depth) ≡ work n depth 0
root_work n depth = ap (work n depth) (none (span depth))

pub returns-then-are_left_out-clause-taken : goal.returns-then-are_left_out-clause-taken
returns-then-are_left_out-clause-taken g c =
    let part = c.args.points.now in
    let rows = c.args.self.now in
    let q = c.args.near.now in
    let k = g.T.KeepsNearest.most c.args.tally.now in
    let kept = g.T.KeepsNearest.kept c.args.tally.now in
    let blocks = c.blocks_of-blocks.result in
    left_out part rows.places.items q k kept c.requires.few blocks (λ i d inside. (c.blocks_of-blocks.ensures.children i d inside).far)
    (c.are_left_out.ensures c.if-are_left_out.true)
    ∙ first_few-Permuted k kept
    (Permuted-map (found_at q.x q.y)
    (composed c.blocks_of-blocks.ensures.live (root_live part rows c.requires.tree c.len-places.ensures.each_place c.len.ensures.valid.flagged)))

pub loop-block-init : goal.loop-block-init
loop-block-init g c =
    let part = c.args.points.now in
    let rows = c.args.self.now in
    let q = c.args.near.now in
    let n = length part.items in
    let begun : c.push_some.new.stack.items ≡ [] ++ filter (λ b. b.some) c.blocks_of-blocks.result =
    c.push_some.ensures ∙ ap (λ (xs : List Block). xs ++ filter (λ b. b.some) c.blocks_of-blocks.result) c.new-stack.ensures in
    let some : 1 ≤ rows.depth = omega (arith, c.requires.tree.depth_is) in
    record {
      stack = subst (λ (xs : List Block). IsStack part rows.places.items q rows.depth n xs) (sym begun)
          (IsStack-opened part rows.places.items q rows.depth n (rows.depth - 1) [] c.blocks_of-blocks.result c.blocks_of-blocks.ensures.children
          c.blocks_of-blocks.ensures.four (IsStack-none part rows.places.items q rows.depth n) (omega (arith, some)) (omega (arith, some)));
      few = c.requires.few;
      most = refl;
      taken = refl;
      within = omega arith;
      spent = Spends-within (Spends-nothing c.blocks_of-blocks.new.steps) refl refl (omega arith);
    }

pub visit-requires-clause-block : goal.visit-requires-clause-block
visit-requires-clause-block g c =
    let part = c.args.points.now in
    let rows = c.args.self.now in
    let popped = IsStack-popped part rows.places.items c.args.near.now rows.depth (length part.items) c.pop.new.self.items c.in-Some.block
    (subst (λ (xs : List Block). IsStack part rows.places.items c.args.near.now rows.depth (length part.items) xs) c.in-Some.ensures.items c.loop-block.invariant.stack) in
    popped.1

pub visit-requires-clause-stack : goal.visit-requires-clause-stack
visit-requires-clause-stack g c =
    let part = c.args.points.now in
    let rows = c.args.self.now in
    let popped = IsStack-popped part rows.places.items c.args.near.now rows.depth (length part.items) c.pop.new.self.items c.in-Some.block
    (subst (λ (xs : List Block). IsStack part rows.places.items c.args.near.now rows.depth (length part.items) xs) c.in-Some.ensures.items c.loop-block.invariant.stack) in
    popped.0

pub returns-clause-taken : goal.returns-clause-taken
returns-clause-taken g c =
    let part = c.args.points.now in
    let rows = c.args.self.now in
    let order = rows.places.items in
    let q = c.args.near.now in
    let n = length part.items in
    let live = live_in_block part order in
    let k = g.T.KeepsNearest.most c.args.tally.now in
    let kept = g.T.KeepsNearest.kept c.args.tally.now in
    let new = g.T.KeepsNearest.kept c.loop-block.tally in
    let empty : c.loop-block.stack.items ≡ [] = empty_from c.loop-block.stack.items (sym c.pop.ensures.value ∙ c.in_default.is) in
    let begun : c.push_some.new.stack.items ≡ [] ++ filter (λ b. b.some) c.blocks_of-blocks.result =
    c.push_some.ensures ∙ ap (λ (xs : List Block). xs ++ filter (λ b. b.some) c.blocks_of-blocks.result) c.new-stack.ensures in
    let few : IsFirstFew nearer_le k new = subst (λ m. IsFirstFew nearer_le m new) c.loop-block.invariant.most c.loop-block.invariant.few in
    let opened = live-opened part order q rows.depth n (rows.depth - 1) [] c.blocks_of-blocks.result c.blocks_of-blocks.ensures.children c.blocks_of-blocks.ensures.four
    (root rows.depth) c.blocks_of-blocks.ensures.live in
    let whole : Permuted (flat_map live ([] ++ root rows.depth ∷ [])) (live_of part) =
    subst (λ (l : List Point). Permuted l (live_of part)) (sym (append-nil (live (root rows.depth))))
    (root_live part rows c.requires.tree c.len-places.ensures.each_place c.len.ensures.valid.flagged) in
    Takes-none k new few ∙ ap (λ (xs : List Block). first_few nearer_le k (new ++ founds q (flat_map live xs))) (sym empty)
    ∙ c.loop-block.invariant.taken ∙ ap (λ (xs : List Block). first_few nearer_le k (kept ++ founds q (flat_map live xs))) begun
    ∙ first_few-Permuted k kept (Permuted-map (found_at q.x q.y) (composed opened whole))

pub returns-clause-cost : goal.returns-clause-cost
returns-clause-cost g c =
    let part = c.args.points.now in
    let rows = c.args.self.now in
    let q = c.args.near.now in
    let n = length part.items in
    let begun : c.push_some.new.stack.items ≡ [] ++ filter (λ b. b.some) c.blocks_of-blocks.result =
    c.push_some.ensures ∙ ap (λ (xs : List Block). xs ++ filter (λ b. b.some) c.blocks_of-blocks.result) c.new-stack.ensures in
    let opened = work-opened part rows.places.items q rows.depth n (rows.depth - 1) [] c.blocks_of-blocks.result c.blocks_of-blocks.ensures.children
    c.blocks_of-blocks.ensures.four (root rows.depth) c.blocks_of-blocks.ensures.work in
    let all : work n rows.depth 0 ≤ 16 * (n + 1) =
    work-all n rows.depth (omega (arith, c.if-len-eq0.false, c.len.ensures.value)) (omega (arith, shallow part rows c.requires.tree)) in
    Spends-within (Spends-then c.blocks_of-blocks.ensures.cost c.loop-block.invariant.spent) refl refl
    (omega (arith, ap (work_of_all n) begun, opened, sum_by-cons (work_of n) (root rows.depth) [], root_work n rows.depth, all))

pub returns-then-are_left_out-clause-read : goal.returns-then-are_left_out-clause-read
returns-then-are_left_out-clause-read g c some = c.blocks_of-blocks.ensures.read

pub returns-clause-read : goal.returns-clause-read
returns-clause-read g c some = omega (arith, c.blocks_of-blocks.ensures.read, c.loop-block.invariant.spent.touches_kept)
