use Rattle.std.proofs.Common.{◌≡◌, ℕ, ◌+◌, ◌-◌, ◌*◌, ◌^◌, ◌<◌, ◌≤◌, List, [], ◌∷◌, length, true, All, refl, sym, ap, ◌∙◌, arith, subst, Some, slice_get}
use Rattle.std.specs.List.{flat_map}
use Rattle.std.proofs.lemmas.List.Elements.{All-cons, All-nil}
use Rattle.std.proofs.lemmas.List.Sorted.{All-permutation, sum_by-IsPermutation}
use Rattle.query_laws.specs.Permuted.{Permuted}
use Rattle.query_laws.proofs.Permutations.{Permuted-sym, Permuted-flat_map, IsPermutation-from_Permuted}
use Rattle.map_questions.specs.declared.near.Near.{Near}
use Rattle.builder_trait.specs.Parts.{Contents}
use Rattle.map_shapes.specs.declared.point.Point.{Point}
use Rattle.kd_tree.specs.declared.block.Block.{Block}
use Rattle.kd_tree.specs.declared.area.Area.{Area}
use Rattle.kd_tree.specs.declared.rows.KdRows.{KdRows}
use Rattle.kd_tree.specs.declared.spot.Spot.{Spot}
use Rattle.kd_tree.specs.Areas.{Has, apart}
use Rattle.kd_tree.specs.Distances.{least}
use Rattle.kd_tree.specs.Heights.{span, index}
use Rattle.kd_tree.specs.HeightLaws.{four_below, four_small}
use Rattle.kd_tree.specs.Blocks.{IsNode}
use Rattle.kd_tree.specs.Growing.{IsTree}
use Rattle.kd_tree.specs.Walks.{live_in_block, spot_asked, IsBlock, IsChild, work_of}
use Rattle.kd_tree.proofs.NodeLemmas.{node_within, node_is}
use Rattle.kd_tree.proofs.Killings.{shallow}
use Rattle.kd_tree.proofs.Stacks.{child_is, live-four, work-four}
use Rattle.kd_tree.proofs.rows.KdRows.blocks_of.Goals as goal

-- the node of a block stands where it is read, and its blocks' places are few
module _ (part : Contents Point) (rows : KdRows) (b : Block) (tree : IsTree part rows) (block : IsBlock rows.depth (length part.items) b) (high : 0 < b.level) where
  below : b.place < 4 ^ (rows.depth - 1 - (b.level - 1))
  below = subst (λ e. b.place < 4 ^ e) (omega arith) block.place

  inside : b.level - 1 < rows.depth
  inside = omega (arith, block.level)

  few : 4 * b.place + 3 < 4 ^ (rows.depth - (b.level - 1))
  few = omega (arith, below, four_below rows.depth (b.level - 1) inside)

  small : b.place < 2 ^ 30
  small = omega (arith, below, four_small (rows.depth - 1 - (b.level - 1)) (omega (arith, shallow part rows tree)))

  stands : index rows.depth (b.level - 1) b.place < length rows.nodes.items
  stands = node_within part rows.places.items rows.depth rows.depth 0 (b.level - 1) b.place rows.nodes.items tree.nodes inside below inside

  node : (areas : List Area) → slice_get rows.nodes.items (index rows.depth (b.level - 1) b.place) ≡ Some areas
      → IsNode part rows.places.items (b.level - 1) b.place areas
  node areas at = node_is part rows.places.items rows.depth rows.depth 0 (b.level - 1) b.place rows.nodes.items areas tree.nodes inside below inside at

pub overflow_mul-first : goal.overflow_mul-first
overflow_mul-first g c =
    omega (arith, small c.args.points.now c.args.self.now c.args.block.now c.requires.tree c.requires.block c.requires.high)

pub index-requires-clause-small : goal.index-requires-clause-small
index-requires-clause-small g c = omega (arith, shallow c.args.points.now c.args.self.now c.requires.tree)

pub index-requires-clause-few : goal.index-requires-clause-few
index-requires-clause-few g c =
    omega (arith, small c.args.points.now c.args.self.now c.args.block.now c.requires.tree c.requires.block c.requires.high)

pub at-areas-requires : goal.at-areas-requires
at-areas-requires g c =
    omega (arith, c.index.ensures, stands c.args.points.now c.args.self.now c.args.block.now c.requires.tree c.requires.block c.requires.high)

pub child-requires-clause-level : goal.child-requires-clause-level
child-requires-clause-level g c =
    omega (arith, shallow c.args.points.now c.args.self.now c.requires.tree, inside c.args.points.now c.args.self.now c.args.block.now c.requires.tree c.requires.block c.requires.high)

pub child-requires-clause-small : goal.child-requires-clause-small
child-requires-clause-small g c =
    omega (arith, small c.args.points.now c.args.self.now c.args.block.now c.requires.tree c.requires.block c.requires.high)

pub child-requires-2-clause-level : goal.child-requires-2-clause-level
child-requires-2-clause-level g c =
    omega (arith, shallow c.args.points.now c.args.self.now c.requires.tree, inside c.args.points.now c.args.self.now c.args.block.now c.requires.tree c.requires.block c.requires.high)

pub child-requires-2-clause-small : goal.child-requires-2-clause-small
child-requires-2-clause-small g c =
    omega (arith, small c.args.points.now c.args.self.now c.args.block.now c.requires.tree c.requires.block c.requires.high)

pub child-requires-3-clause-level : goal.child-requires-3-clause-level
child-requires-3-clause-level g c =
    omega (arith, shallow c.args.points.now c.args.self.now c.requires.tree, inside c.args.points.now c.args.self.now c.args.block.now c.requires.tree c.requires.block c.requires.high)

pub child-requires-3-clause-small : goal.child-requires-3-clause-small
child-requires-3-clause-small g c =
    omega (arith, small c.args.points.now c.args.self.now c.args.block.now c.requires.tree c.requires.block c.requires.high)

pub child-requires-4-clause-level : goal.child-requires-4-clause-level
child-requires-4-clause-level g c =
    omega (arith, shallow c.args.points.now c.args.self.now c.requires.tree, inside c.args.points.now c.args.self.now c.args.block.now c.requires.tree c.requires.block c.requires.high)

pub child-requires-4-clause-small : goal.child-requires-4-clause-small
child-requires-4-clause-small g c =
    omega (arith, small c.args.points.now c.args.self.now c.args.block.now c.requires.tree c.requires.block c.requires.high)

-- one of the blocks, as it was made
one : (part : Contents Point) (order : List ℕ) (q : Near) (depth n l place j len : ℕ) (from : Spot) (areas : List Area) (b : Block)
    → IsNode part order l place areas → length areas ≡ 4 → j < 4 → len ≡ n → from ≡ spot_asked q → length order ≡ n → 4 * place + 3 < 4 ^ (depth - l)
    → b.level ≡ l → b.place ≡ 4 * place + j → (b.some ≡ true → (4 * place + j) * span l < len)
    → ((area : Area) (spot : Spot) → slice_get areas j ≡ Some area → Has area spot → (4 * place + j) * span l < len → (b.some ≡ true) × (least b.dist ≤ apart from spot))
    → IsChild part order q depth n l b
one part order q depth n l place j len from areas b node four low is asked long few level there reached far =
    child_is part order q depth n l place j areas b node four low level there (λ some. omega (arith, is, reached some))
    (λ area spot at has within.
    subst (λ s. (b.some ≡ true) × (least b.dist ≤ apart s spot)) asked (far area spot at has (omega (arith, is, within))))
    long few

pub returns-clause-children : goal.returns-clause-children
returns-clause-children g c =
    let part = c.args.points.now in
    let rows = c.args.self.now in
    let order = rows.places.items in
    let q = c.args.near.now in
    let b = c.args.block.now in
    let tree = c.requires.tree in
    let block = c.requires.block in
    let high = c.requires.high in
    let l = b.level - 1 in
    let n = length part.items in
    let areas = c.at-areas.result in
    let at : slice_get rows.nodes.items (index rows.depth l b.place) ≡ Some areas = ap (slice_get rows.nodes.items) (sym c.index.ensures) ∙ c.at-areas.ensures.read in
    let is = node part rows b tree block high areas at in
    let lower = few part rows b tree block high in
    let len = c.len-len.result in
    let from = c.spot_asked-from.result in
    let value = c.len-len.ensures.value in
    let asked = c.spot_asked-from.ensures in
    let child = IsChild part order q rows.depth n l in
    let first = one part order q rows.depth n l b.place 0 len from areas c.child.result is c.child.ensures.four (omega arith) value asked tree.long lower
    c.child.ensures.level c.child.ensures.place c.child.ensures.reached c.child.ensures.far in
    let second = one part order q rows.depth n l b.place 1 len from areas c.child-2.result is c.child.ensures.four (omega arith) value asked tree.long lower
    c.child-2.ensures.level c.child-2.ensures.place c.child-2.ensures.reached c.child-2.ensures.far in
    let third = one part order q rows.depth n l b.place 2 len from areas c.child-3.result is c.child.ensures.four (omega arith) value asked tree.long lower
    c.child-3.ensures.level c.child-3.ensures.place c.child-3.ensures.reached c.child-3.ensures.far in
    let fourth = one part order q rows.depth n l b.place 3 len from areas c.child-4.result is c.child.ensures.four (omega arith) value asked tree.long lower
    c.child-4.ensures.level c.child-4.ensures.place c.child-4.ensures.reached c.child-4.ensures.far in
    let made : List Block = c.child.result ∷ c.child-2.result ∷ c.child-3.result ∷ c.child-4.result ∷ [] in
    let all : All child made =
    All-cons child c.child.result (c.child-2.result ∷ c.child-3.result ∷ c.child-4.result ∷ []) first
    (All-cons child c.child-2.result (c.child-3.result ∷ c.child-4.result ∷ []) second
    (All-cons child c.child-3.result (c.child-4.result ∷ []) third (All-cons child c.child-4.result [] fourth (All-nil child)))) in
    All-permutation child made c.farther_first.new.blocks (IsPermutation-from_Permuted (Permuted-sym c.farther_first.ensures)) all

pub returns-clause-live : goal.returns-clause-live
returns-clause-live g c =
    let part = c.args.points.now in
    let order = c.args.self.now.places.items in
    let b = c.args.block.now in
    let l = b.level - 1 in
    subst (λ (m : List Point). Permuted (flat_map (live_in_block part order) c.farther_first.new.blocks) m)
    (live-four part order (length part.items) l b.place c.child.result c.child-2.result c.child-3.result c.child-4.result b
    (omega (arith, c.requires.high)) refl c.child.ensures.level c.child-2.ensures.level c.child-3.ensures.level c.child-4.ensures.level
    (omega (arith, c.child.ensures.place)) c.child-2.ensures.place c.child-3.ensures.place c.child-4.ensures.place)
    (Permuted-flat_map (live_in_block part order) c.farther_first.ensures)

pub returns-clause-work : goal.returns-clause-work
returns-clause-work g c =
    let part = c.args.points.now in
    let b = c.args.block.now in
    let l = b.level - 1 in
    let n = length part.items in
    let made : List Block = c.child.result ∷ c.child-2.result ∷ c.child-3.result ∷ c.child-4.result ∷ [] in
    omega (
      arith,
      sum_by-IsPermutation (work_of n) c.farther_first.new.blocks made (IsPermutation-from_Permuted c.farther_first.ensures),
      work-four part c.args.self.now.places.items n l b.place c.child.result c.child-2.result c.child-3.result c.child-4.result b
          (omega (arith, c.requires.high)) refl c.child.ensures.level c.child-2.ensures.level c.child-3.ensures.level c.child-4.ensures.level
          (omega (arith, c.child.ensures.place)) c.child-2.ensures.place c.child-3.ensures.place c.child-4.ensures.place c.requires.block.within,
    )
