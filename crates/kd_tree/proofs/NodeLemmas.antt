-- Nodes, read and put.
use Rattle.std.proofs.Common.{◌≡◌, ℕ, zero, suc, ◌+◌, ◌-◌, ◌*◌, ◌^◌, ◌<◌, ◌≤◌, List, [], ◌∷◌, ◌++◌, length, Some, slice_get, refl, sym, ap, ◌∙◌, arith, subst, ⊎_elim, ◌⊎◌, inl, inr}
use Rattle.std.proofs.Math.Nat.{mul-le-mul_right}
use Rattle.std.proofs.lemmas.Bool.{cases_lt}
use Rattle.std.proofs.lemmas.Option.{same_Some, slice_get_within, slice_get_cases}
use Rattle.builder_trait.specs.Parts.{Contents}
use Rattle.map_shapes.specs.declared.point.Point.{Point}
use Rattle.kd_tree.specs.declared.spot.Spot.{Spot}
use Rattle.kd_tree.specs.declared.area.Area.{Area}
use Rattle.kd_tree.specs.Areas.{Has, IsInside, spot_of}
use Rattle.kd_tree.specs.Heights.{span, index}
use Rattle.kd_tree.specs.Blocks.{Holds, IsLeastBox, IsNode, AreNodes}
use Rattle.kd_tree.proofs.Placings.{pushed_before, pushed_last}
use Rattle.kd_tree.specs.HeightLaws.{span_more}

-- the quarter of a block that has a position
pub quarter : (place size position : ℕ) → place * (4 * size) ≤ position → position < (place + 1) * (4 * size)
    → (c : ℕ) × (c < 4) × ((4 * place + c) * size ≤ position) × (position < (4 * place + c + 1) * size)
quarter place size position low high =
    ⊎_elim (λ a. (0, omega arith, omega arith, omega arith))
    (λ a.
    ⊎_elim (λ b. (1, omega arith, omega arith, omega arith))
    (λ b.
    ⊎_elim (λ e. (2, omega arith, omega arith, omega arith)) (λ e. (3, omega arith, omega arith, omega arith))
    (cases_lt position ((4 * place + 3) * size)))
    (cases_lt position ((4 * place + 2) * size)))
    (cases_lt position ((4 * place + 1) * size))

-- and each quarter lies in its block
pub quarter_within : (place size c : ℕ) → c < 4 → (place * (4 * size) ≤ (4 * place + c) * size) × ((4 * place + c + 1) * size ≤ (place + 1) * (4 * size))
quarter_within place size c small =
    let fewer : 4 * place ≤ 4 * place + c = omega arith in
    let more : 4 * place + c + 1 ≤ 4 * place + 4 = omega arith in
    let low : 4 * place * size ≤ (4 * place + c) * size = mul-le-mul_right size fewer in
    let high : (4 * place + c + 1) * size ≤ (4 * place + 4) * size = mul-le-mul_right size more in
    (omega arith, omega arith)

module _ (part : Contents Point) (order : List ℕ) where
  -- what has the points of some positions has those of fewer
  pub Holds-within : (area : Area) (from low high to : ℕ) → from ≤ low → high ≤ to → Holds part order area from to → Holds part order area low high
  Holds-within area from low high to before after holds = record {
    each = λ position k p above below stands item flag. holds.each position k p (omega arith) (omega arith) stands item flag;
  }

  -- the box over the four of a node is the least one of its block
  module _ (l place : ℕ) (areas : List Area) (area : Area) (node : IsNode part order l place areas)
      (all_in : (c : ℕ) (one : Area) (spot : Spot) → slice_get areas c ≡ Some one → Has one spot → Has area spot)
      (in_all : (all : Area) → ((c : ℕ) (one : Area) → slice_get areas c ≡ Some one → IsInside one all) → IsInside area all) where
    from : place * span (l + 1) ≡ place * (4 * span l)
    from = ap (λ s. place * s) (span_more l)

    to : (place + 1) * span (l + 1) ≡ (place + 1) * (4 * span l)
    to = ap (λ s. (place + 1) * s) (span_more l)

    Holds-whole : Holds part order area (place * span (l + 1)) ((place + 1) * span (l + 1))
    Holds-whole = record {
      each = λ position k p low high stands item flag.
          let found = quarter place (span l) position (subst (λ n. n ≤ position) from low) (subst (λ n. position < n) to high) in
          ⊎_elim
          (λ (one, inside, at, read). all_in found.0 one (spot_of p) at ((node.each found.0 one at).holds.each position k p found.2 found.3 stands item flag))
          (λ (past, none). absurd (let small : found.0 < 4 = found.1 in omega (arith, node.four)))
          (slice_get_cases areas found.0).1;
    }

    pub IsLeastBox-whole : IsLeastBox part order area (place * span (l + 1)) ((place + 1) * span (l + 1))
    IsLeastBox-whole = record {
      holds = Holds-whole;
      least = λ all box holds.
          in_all all
          (λ c one at.
          let within = quarter_within place (span l) c (omega (arith, node.four, slice_get_within areas c one at)) in
          (node.each c one at).least all box
          (Holds-within all (place * span (l + 1)) ((4 * place + c) * span l) ((4 * place + c + 1) * span l) ((place + 1) * span (l + 1))
          (omega (arith, within.0, from)) (omega (arith, within.1, to)) holds));
    }

  -- before the first node there is none
  pub AreNodes-none : (depth : ℕ) (nodes : List (List Area)) → AreNodes part order depth 0 0 nodes
  AreNodes-none depth nodes = record { each = λ l j within below before. absurd (⊎_elim (λ less. omega arith) (λ h. omega (arith, h.1)) before) }

  -- one more node
  pub AreNodes-put : (depth level place : ℕ) (nodes : List (List Area)) (areas : List Area) → AreNodes part order depth level place nodes
      → index depth level place ≡ length nodes → IsNode part order level place areas → AreNodes part order depth level (place + 1) (nodes ++ areas ∷ [])
  AreNodes-put depth level place nodes areas are next node = record { each = each }
    where
      earlier : (l j : ℕ) → (there : (old : List Area) × (slice_get nodes (index depth l j) ≡ Some old) × IsNode part order l j old)
          → (now : List Area) × (slice_get (nodes ++ areas ∷ []) (index depth l j) ≡ Some now) × IsNode part order l j now
      earlier l j (old, at, is) = (old, pushed_before nodes areas (index depth l j) old at, is)

      here : (l j : ℕ) → l ≡ level → j ≡ place
          → (now : List Area) × (slice_get (nodes ++ areas ∷ []) (index depth l j) ≡ Some now) × IsNode part order l j now
      here l j same is =
          let at : index depth l j ≡ length nodes = ap (λ m. index depth m j) same ∙ ap (index depth level) is ∙ next in (
            areas,
            ap (slice_get (nodes ++ areas ∷ [])) at ∙ pushed_last nodes areas,
            subst (λ m. IsNode part order m j areas) (sym same) (subst (λ k. IsNode part order level k areas) (sym is) node),
          )

      each : (l j : ℕ) → l < depth → j < 4 ^ (depth - 1 - l) → (l < level) ⊎ ((l ≡ level) × (j < place + 1))
          → (now : List Area) × (slice_get (nodes ++ areas ∷ []) (index depth l j) ≡ Some now) × IsNode part order l j now
      each l j within below before =
          ⊎_elim (λ less. earlier l j (are.each l j within below (inl less)))
          (λ h.
          ⊎_elim (λ less. earlier l j (are.each l j within below (inr (h.0, less)))) (λ from. here l j h.0 (omega (arith, h.1))) (cases_lt j place))
          before

  -- all nodes over blocks of a level
  pub AreNodes-next : (depth level place : ℕ) (nodes : List (List Area)) → AreNodes part order depth level place nodes
      → place ≡ 4 ^ (depth - 1 - level) → AreNodes part order depth (level + 1) 0 nodes
  AreNodes-next depth level place nodes are ends = record {
    each = λ l j within below before.
        ⊎_elim
        (λ less.
        ⊎_elim (λ lower. are.each l j within below (inl lower))
        (λ from. let same : l ≡ level = omega arith in are.each l j within below (inr (same, omega (arith, ap (λ m. 4 ^ (depth - 1 - m)) same))))
        (cases_lt l level))
        (λ h. absurd (omega (arith, h.1)))
        before;
  }

-- a node that was made stands in its place
pub node_within : (part : Contents Point) (order : List ℕ) (depth level place l j : ℕ) (nodes : List (List Area)) → AreNodes part order depth level place nodes
    → l < depth → j < 4 ^ (depth - 1 - l) → l < level → index depth l j < length nodes
node_within part order depth level place l j nodes are within below less =
    let found = are.each l j within below (inl less) in slice_get_within nodes (index depth l j) found.0 found.1

pub node_is : (part : Contents Point) (order : List ℕ) (depth level place l j : ℕ) (nodes : List (List Area)) (areas : List Area) → AreNodes part order depth level place nodes
    → l < depth → j < 4 ^ (depth - 1 - l) → l < level → slice_get nodes (index depth l j) ≡ Some areas → IsNode part order l j areas
node_is part order depth level place l j nodes areas are within below less at =
    let found = are.each l j within below (inl less) in
    subst (IsNode part order l j) (same_Some found.0 areas (sym found.1 ∙ at)) found.2

-- four boxes make a node
pub IsNode-made : (part : Contents Point) (order : List ℕ) (l place : ℕ) (a b e f : Area)
    → IsLeastBox part order a (4 * place * span l) ((4 * place + 1) * span l)
    → IsLeastBox part order b ((4 * place + 1) * span l) ((4 * place + 1 + 1) * span l)
    → IsLeastBox part order e ((4 * place + 2) * span l) ((4 * place + 2 + 1) * span l)
    → IsLeastBox part order f ((4 * place + 3) * span l) ((4 * place + 3 + 1) * span l) → IsNode part order l place (a ∷ b ∷ e ∷ f ∷ [])
IsNode-made part order l place a b e f first second third fourth = record { four = refl; each = each }
  where
    each : (c : ℕ) (area : Area) → slice_get (a ∷ b ∷ e ∷ f ∷ []) c ≡ Some area
        → IsLeastBox part order area ((4 * place + c) * span l) ((4 * place + c + 1) * span l)
    each zero area at =
        let none : 4 * place ≡ 4 * place + 0 = omega arith in
        subst (λ x. IsLeastBox part order x ((4 * place + 0) * span l) ((4 * place + 0 + 1) * span l)) (same_Some a area at)
        (subst (λ n. IsLeastBox part order a (n * span l) ((n + 1) * span l)) none first)
    each (suc zero) area at = subst (λ x. IsLeastBox part order x ((4 * place + 1) * span l) ((4 * place + 1 + 1) * span l)) (same_Some b area at) second
    each (suc (suc zero)) area at = subst (λ x. IsLeastBox part order x ((4 * place + 2) * span l) ((4 * place + 2 + 1) * span l)) (same_Some e area at) third
    each (suc (suc (suc zero))) area at = subst (λ x. IsLeastBox part order x ((4 * place + 3) * span l) ((4 * place + 3 + 1) * span l)) (same_Some f area at) fourth
    each (suc (suc (suc (suc c)))) area at = cc
