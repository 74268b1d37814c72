use Rattle.std.proofs.Common.{inr, ◌≡◌, ℕ, ◌+◌, ◌*◌, List, [], ◌∷◌, ◌++◌, length, refl, sym, ap, ap₂, ◌∙◌, arith, subst, append-nil}
use Rattle.std.specs.List.{flat_map}
use Rattle.std.proofs.lemmas.List.{map-append}
use Rattle.std.proofs.lemmas.List.Concat.{flat_map-append}
use Rattle.std.proofs.lemmas.List.Sums.{sum_by-append, sum_by-cons}
use Rattle.query_laws.proofs.Permutations.{Permuted-map}
use Rattle.builder_trait.specs.Parts.{Contents}
use Rattle.map_shapes.specs.declared.point.Point.{Point}
use Rattle.map_shapes.specs.Found.{nearer_le}
use Rattle.map_questions.specs.declared.near.Near.{Near}
use Rattle.map_questions.specs.FirstFew.{IsFirstFew, first_few}
use Rattle.map_questions.specs.Questions.{found_at}
use Rattle.kd_tree.specs.declared.block.Block.{Block}
use Rattle.kd_tree.specs.Heights.{span}
use Rattle.kd_tree.specs.Walks.{live_in, live_in_block, start_of, founds, Takes, work_of, work_of_all}
use Rattle.kd_tree.proofs.Takings.{Takes-IsFirstFew, visited, first_few-Permuted}
use Rattle.kd_tree.proofs.Stacks.{work-some, live_in-child, left_one}
use Rattle.kd_tree.proofs.rows.KdRows.visit.Goals as goal

-- what a stack finds, the last block apart
found_last : (part : Contents Point) (order : List ℕ) (q : Near) (xs : List Block) (b : Block)
    → founds q (flat_map (live_in_block part order) xs) ++ founds q (live_in_block part order b) ≡ founds q (flat_map (live_in_block part order) (xs ++ b ∷ []))
found_last part order q xs b =
    let live = live_in_block part order in
    sym (map-append (found_at q.x q.y) (flat_map live xs) (live b))
    ∙ ap (founds q) (ap (λ l. flat_map live xs ++ l) (sym (append-nil (live b))) ∙ sym (flat_map-append live xs (b ∷ [])))

work_last : (n : ℕ) (xs : List Block) (b : Block) → work_of_all n (xs ++ b ∷ []) ≡ work_of_all n xs + work_of n b
work_last n xs b = omega (arith, sum_by-append (work_of n) xs (b ∷ []), sum_by-cons (work_of n) b [])

pub returns-then-is_farther-clause-taken : goal.returns-then-is_farther-clause-taken
returns-then-is_farther-clause-taken g c =
    let part = c.args.points.now in
    let order = c.args.self.now.places.items in
    let q = c.args.near.now in
    let b = c.args.block.now in
    let k = g.T.KeepsNearest.most c.args.tally.now in
    let kept = g.T.KeepsNearest.kept c.args.tally.now in
    let farther = c.is_farther.ensures c.if-is_farther.true in
    let same = left_one part order q k kept c.requires.few b c.requires.far (inr (farther.0, farther.1, omega (arith, farther.2))) in
    visited k kept kept (founds q (live_in_block part order b)) (founds q (flat_map (live_in_block part order) c.args.stack.now.items)) same
    ∙ ap (λ l. first_few nearer_le k (kept ++ l)) (found_last part order q c.args.stack.now.items b)

pub returns-then-is_farther-clause-less : goal.returns-then-is_farther-clause-less
returns-then-is_farther-clause-less g c =
    let n = length c.args.points.now.items in
    let b = c.args.block.now in
    omega (arith, work_last n c.args.stack.now.items b, work-some n b.level (start_of b) c.requires.block.within)

-- the live points of a leaf
leaf_live : (part : Contents Point) (order : List ℕ) (b : Block) → b.level ≡ 0
    → live_in part order (8 * b.place) (8 * b.place + 8) ≡ live_in_block part order b
leaf_live part order b low =
    let from : 8 * b.place ≡ b.place * span 0 = omega arith in
    let to : 8 * b.place + 8 ≡ (b.place + 1) * span 0 = omega arith in
    ap₂ (live_in part order) from to ∙ sym (live_in-child part order b 0 b.place low refl)

pub returns-then-block-eq0-clause-taken : goal.returns-then-block-eq0-clause-taken
returns-then-block-eq0-clause-taken g c =
    let part = c.args.points.now in
    let order = c.args.self.now.places.items in
    let q = c.args.near.now in
    let b = c.args.block.now in
    let k = g.T.KeepsNearest.most c.args.tally.now in
    let kept = g.T.KeepsNearest.kept c.args.tally.now in
    let new = g.T.KeepsNearest.kept c.scan.new.tally in
    let taken : Takes k kept (founds q (live_in_block part order b)) new =
    subst (λ (l : List Point). Takes k kept (founds q l) new) (leaf_live part order b c.if-block-eq0.true) c.scan.ensures.taken in
    visited k kept new (founds q (live_in_block part order b)) (founds q (flat_map (live_in_block part order) c.args.stack.now.items)) taken
    ∙ ap (λ l. first_few nearer_le k (kept ++ l)) (found_last part order q c.args.stack.now.items b)

pub returns-then-block-eq0-clause-few : goal.returns-then-block-eq0-clause-few
returns-then-block-eq0-clause-few g c =
    subst (λ k. IsFirstFew nearer_le k (g.T.KeepsNearest.kept c.scan.new.tally)) (sym c.scan.ensures.most)
    (Takes-IsFirstFew (g.T.KeepsNearest.most c.args.tally.now) (g.T.KeepsNearest.kept c.args.tally.now) _ (g.T.KeepsNearest.kept c.scan.new.tally) c.scan.ensures.taken)

pub returns-else-block-eq0-clause-taken : goal.returns-else-block-eq0-clause-taken
returns-else-block-eq0-clause-taken g c =
    let q = c.args.near.now in
    first_few-Permuted (g.T.KeepsNearest.most c.args.tally.now) (g.T.KeepsNearest.kept c.args.tally.now) (Permuted-map (found_at q.x q.y) c.open.ensures.same)
