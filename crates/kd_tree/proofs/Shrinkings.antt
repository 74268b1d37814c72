-- Boxes after a point has died.
use Rattle.std.proofs.Common.{◌≡◌, ℕ, ◌+◌, ◌-◌, ◌*◌, ◌/◌, ◌%◌, ◌^◌, ◌<◌, ◌≤◌, true, false, List, length, Some, slice_get, get_or, set, sym, ap, ◌∙◌, arith, subst, ⊎_elim, inl}
use Rattle.std.proofs.Math.Nat.{mul-le-mul_right, lt_of_mul-lt-mul_right}
use Rattle.std.proofs.lemmas.Nat.{pow-add}
use Rattle.std.proofs.lemmas.Bool.{cases_lt, cases_eq}
use Rattle.std.proofs.lemmas.Option.{same_Some, slice_get_within, slice_get-get_or}
use Rattle.std.proofs.lemmas.List.{length-set}
use Rattle.row_blocks.proofs.Lists.{slice_get-set_same, slice_get-set_other}
use Rattle.builder_trait.specs.Parts.{Contents}
use Rattle.map_shapes.specs.declared.point.Point.{Point}
use Rattle.kd_tree.specs.declared.spot.Spot.{Spot}
use Rattle.kd_tree.specs.declared.area.Area.{Area}
use Rattle.kd_tree.specs.Areas.{Has, IsInside, IsBox, spot_of}
use Rattle.kd_tree.specs.Heights.{span, index}
use Rattle.kd_tree.specs.HeightLaws.{span_more, index_apart}
use Rattle.kd_tree.specs.Blocks.{Holds, IsLeastBox, IsNode, AreNodes}
use Rattle.kd_tree.specs.Shrinking.{Death, AreNodesAbove, IsShrinking, died, rest}
use Rattle.kd_tree.proofs.NodeLemmas.{quarter_within, Holds-within, AreNodes-none}

Has-inside : (area all : Area) (spot : Spot) → IsInside area all → Has area spot → Has all spot
Has-inside area all spot inside has = record {
  left = omega (arith, inside.left, has.left);
  right = omega (arith, inside.right, has.right);
  lower = omega (arith, inside.lower, has.lower);
  upper = omega (arith, inside.upper, has.upper);
}

-- of the blocks of a level one has a position
one_block : (size a b position : ℕ) → a * size ≤ position → position < (a + 1) * size → b * size ≤ position → position < (b + 1) * size → a ≡ b
one_block size a b position from to low high =
    let first : a < b + 1 = lt_of_mul-lt-mul_right size (omega arith) in
    let second : b < a + 1 = lt_of_mul-lt-mul_right size (omega arith) in
    omega arith

-- and that of a higher level lies around it
around : (size k a b position : ℕ) → a * (k * size) ≤ position → position < (a + 1) * (k * size) → b * size ≤ position → position < (b + 1) * size
    → (a * (k * size) ≤ b * size) × ((b + 1) * size ≤ (a + 1) * (k * size))
around size k a b position from to low high =
    let first : a * k < b + 1 = lt_of_mul-lt-mul_right size (omega arith) in
    let second : b < (a + 1) * k = lt_of_mul-lt-mul_right size (omega arith) in
    let fewer : a * k ≤ b = omega arith in
    let more : b + 1 ≤ (a + 1) * k = omega arith in
    let below : a * k * size ≤ b * size = mul-le-mul_right size fewer in
    let above : (b + 1) * size ≤ (a + 1) * k * size = mul-le-mul_right size more in
    (omega arith, omega arith)

span_above : (level l : ℕ) → level ≤ l → span l ≡ 4 ^ (l - level) * span level
span_above level l le =
    let sum : l ≡ l - level + level = omega arith in
    let four : 4 ^ l ≡ 4 ^ (l - level) * 4 ^ level = ap (λ i. 4 ^ i) sum ∙ pow-add 4 (l - level) level in
    omega (arith, four)

module _ (part : Contents Point) (order : List ℕ) (place position : ℕ) (only : (other : ℕ) → slice_get order other ≡ Some place → other ≡ position) where
  still : (k : ℕ) → slice_get (set part.flags place false) k ≡ Some true → slice_get part.flags k ≡ Some true
  still k flag =
      ⊎_elim
      (λ same.
      let within : k < length part.flags =
      subst (λ n. k < n) (length-set part.flags place false) (slice_get_within (set part.flags place false) k true flag) in
      let dead : false ≡ true =
      same_Some false true (sym (slice_get-set_same part.flags place false (omega arith)) ∙ sym (ap (slice_get (set part.flags place false)) same) ∙ flag) in
      absurd cc)
      (λ other. sym (slice_get-set_other part.flags place k false other) ∙ flag)
      (cases_eq k place)

  -- a least box still is one, where each box of what is live now has the point that died
  IsLeastBox-died : (area : Area) (from to : ℕ) → IsLeastBox part order area from to
      → ((all : Area) (p : Point) → IsBox all → Holds (died part place) order all from to → from ≤ position → position < to
      → slice_get order position ≡ Some place → slice_get part.items place ≡ Some p → slice_get part.flags place ≡ Some true → Has all (spot_of p))
      → IsLeastBox (died part place) order area from to
  IsLeastBox-died area from to was has = record {
    holds = record { each = λ other k p low high stands item flag. was.holds.each other k p low high stands item (still k flag) };
    least = λ all box holds.
        was.least all box
        (record {
          each = λ other k p low high stands item flag.
              ⊎_elim
              (λ same.
              let there : slice_get order other ≡ Some place = stands ∙ ap Some same in
              let is : other ≡ position = only other there in
              has all p box holds (omega arith) (omega arith) (sym (ap (slice_get order) is) ∙ there) (sym (ap (slice_get part.items) same) ∙ item)
              (sym (ap (slice_get part.flags) same) ∙ flag))
              (λ differs. holds.each other k p low high stands item (slice_get-set_other part.flags place k false differs ∙ flag))
              (cases_eq k place);
        });
  }

  -- so it is where the point didn't stand
  IsLeastBox-apart : (area : Area) (from to : ℕ) → (from ≤ position → position < to → ⊥) → IsLeastBox part order area from to
      → IsLeastBox (died part place) order area from to
  IsLeastBox-apart area from to apart was = IsLeastBox-died area from to was (λ all p box holds low high stands item flag. absurd (apart low high))

module _ (death : Death) (depth level block : ℕ) (area : Area) (nodes : List (List Area)) (areas : List Area)
    (shrinking : IsShrinking death depth level block area nodes) (inside : level < depth) (few : block / 4 < 4 ^ (depth - 1 - level))
    (at : slice_get nodes (index depth level (block / 4)) ≡ Some areas) where
  whole_block : 4 * (block / 4) + block % 4 ≡ block
  whole_block = omega arith

  was : IsNode death.part death.order level (block / 4) areas
  was =
      let found = shrinking.above.each level (block / 4) (omega arith) inside few in
      subst (IsNode death.part death.order level (block / 4)) (same_Some found.0 areas (sym found.1 ∙ at)) found.2

  -- a box of the level in which the point didn't stand
  box_apart : (other : ℕ) (one : Area) → (other ≡ block → ⊥) → IsLeastBox death.part death.order one (other * span level) ((other + 1) * span level)
      → IsLeastBox (rest death) death.order one (other * span level) ((other + 1) * span level)
  box_apart other one differs =
      IsLeastBox-apart death.part death.order death.place death.position shrinking.only one (other * span level) ((other + 1) * span level)
      (λ low high. differs (one_block (span level) other block death.position low high shrinking.from shrinking.to))

  -- the node with the block's own box
  abbrev pub areas' : List Area
  areas' = set areas (block % 4) area

  pub node_written : IsNode (rest death) death.order level (block / 4) areas'
  node_written = record {
    four = length-set areas (block % 4) area ∙ was.four;
    each = λ c one here.
        let within : c < length areas = subst (λ n. c < n) (length-set areas (block % 4) area) (slice_get_within areas' c one here) in
        ⊎_elim
        (λ same.
        let is : area ≡ one = same_Some area one (sym (slice_get-set_same areas (block % 4) area (omega arith)) ∙ sym (ap (slice_get areas') same) ∙ here) in
        let whole : block ≡ 4 * (block / 4) + c = omega arith in
        subst (λ a. IsLeastBox (rest death) death.order a ((4 * (block / 4) + c) * span level) ((4 * (block / 4) + c + 1) * span level)) is
        (subst (λ b. IsLeastBox (rest death) death.order area (b * span level) ((b + 1) * span level)) whole shrinking.next))
        (λ other.
        box_apart (4 * (block / 4) + c) one (λ is. other (omega (arith, is, was.four, within)))
        (was.each c one (sym (slice_get-set_other areas (block % 4) c area other) ∙ here)))
        (cases_eq c (block % 4));
  }

  -- the nodes with it
  abbrev pub nodes' : List (List Area)
  nodes' = set nodes (index depth level (block / 4)) areas'

  unchanged : (l j : ℕ) → (index depth l j ≡ index depth level (block / 4) → ⊥) → slice_get nodes' (index depth l j) ≡ slice_get nodes (index depth l j)
  unchanged l j other = slice_get-set_other nodes (index depth level (block / 4)) (index depth l j) areas' other

  node_apart : (j : ℕ) (others : List Area) → (j ≡ block / 4 → ⊥) → IsNode death.part death.order level j others
      → IsNode (rest death) death.order level j others
  node_apart j others differs node = record {
    four = node.four;
    each = λ c one here.
        let small : c < 4 = omega (arith, node.four, slice_get_within others c one here) in
        box_apart (4 * j + c) one (λ is. differs (omega arith)) (node.each c one here);
  }

  node_of_level : (l j : ℕ) → l ≡ level → l < depth → j < 4 ^ (depth - 1 - l) → (index depth l j ≡ index depth level (block / 4) → ⊥)
      → (now : List Area) × (slice_get nodes' (index depth l j) ≡ Some now) × IsNode (rest death) death.order l j now
  node_of_level l j same within small other =
      let old = shrinking.above.each l j (omega arith) within small in (
        old.0,
        unchanged l j other ∙ old.1,
        subst (λ m. IsNode (rest death) death.order m j old.0) (sym same)
            (node_apart j old.0 (λ is. other (ap (λ m. index depth m j) same ∙ ap (index depth level) is))
            (subst (λ m. IsNode death.part death.order m j old.0) same old.2)),
      )

  below' : AreNodes (rest death) death.order depth (level + 1) 0 nodes'
  below' = record {
    each = λ l j within small before.
        let low : l < level + 1 = ⊎_elim (λ less. less) (λ h. absurd (omega (arith, h.1))) before in
        ⊎_elim
        (λ same.
        let is = index_apart depth l j level (block / 4) within inside small few same in (
          areas',
          ap (slice_get nodes') same
              ∙ slice_get-set_same nodes (index depth level (block / 4)) areas' (slice_get_within nodes (index depth level (block / 4)) areas at),
          subst (λ m. IsNode (rest death) death.order m j areas') (sym is.0)
              (subst (λ k. IsNode (rest death) death.order level k areas') (sym is.1) node_written),
        ))
        (λ other.
        ⊎_elim (λ lower. let old = shrinking.below.each l j within small (inl lower) in (old.0, unchanged l j other ∙ old.1, old.2))
        (λ from. node_of_level l j (omega arith) within small other) (cases_lt l level))
        (cases_eq (index depth l j) (index depth level (block / 4)));
  }

  above' : AreNodesAbove death.part death.order depth (level + 1) nodes'
  above' = record {
    each = λ l j from within small.
        let old = shrinking.above.each l j (omega arith) within small in (
          old.0,
          unchanged l j (λ same. let is = index_apart depth l j level (block / 4) within inside small few same in omega (arith, is.0)) ∙ old.1,
          old.2,
        );
  }

  pub IsShrinking-up : (whole : Area) → IsLeastBox (rest death) death.order whole (block / 4 * span (level + 1)) ((block / 4 + 1) * span (level + 1))
      → IsShrinking death depth (level + 1) (block / 4) whole nodes'
  IsShrinking-up whole least =
      let bounds = quarter_within (block / 4) (span level) (block % 4) (omega arith) in
      let begins : (4 * (block / 4) + block % 4) * span level ≡ block * span level = ap (λ b. b * span level) whole_block in
      let ends : (4 * (block / 4) + block % 4 + 1) * span level ≡ (block + 1) * span level = ap (λ b. (b + 1) * span level) whole_block in
      let from : block / 4 * span (level + 1) ≡ block / 4 * (4 * span level) = ap (λ s. block / 4 * s) (span_more level) in
      let to : (block / 4 + 1) * span (level + 1) ≡ (block / 4 + 1) * (4 * span level) = ap (λ s. (block / 4 + 1) * s) (span_more level) in
      record {
        only = shrinking.only;
        from = omega (arith, bounds.0, begins, from, shrinking.from);
        to = omega (arith, bounds.1, ends, to, shrinking.to);
        next = least;
        below = below';
        above = above';
      }

  -- where the block's box was the same before, all boxes above it are
  module _ (same : get_or areas (block % 4) area ≡ area) where
    there : slice_get areas (block % 4) ≡ Some area
    there = slice_get-get_or areas (block % 4) area (omega (arith, was.four)) ∙ ap Some same

    had : Holds death.part death.order area (block * span level) ((block + 1) * span level)
    had = subst (λ b. Holds death.part death.order area (b * span level) ((b + 1) * span level)) whole_block (was.each (block % 4) area there).holds

    box_around : (l other : ℕ) (one : Area) → level ≤ l → IsLeastBox death.part death.order one (other * span l) ((other + 1) * span l)
        → IsLeastBox (rest death) death.order one (other * span l) ((other + 1) * span l)
    box_around l other one up before =
        IsLeastBox-died death.part death.order death.place death.position shrinking.only one (other * span l) ((other + 1) * span l) before
        (λ all p box holds low high stands item flag.
        let size : span l ≡ 4 ^ (l - level) * span level = span_above level l up in
        let from : other * span l ≡ other * (4 ^ (l - level) * span level) = ap (λ s. other * s) size in
        let to : (other + 1) * span l ≡ (other + 1) * (4 ^ (l - level) * span level) = ap (λ s. (other + 1) * s) size in
        let bounds = around (span level) (4 ^ (l - level)) other block death.position (subst (λ n. n ≤ death.position) from low)
        (subst (λ n. death.position < n) to high) shrinking.from shrinking.to in
        Has-inside area all (spot_of p)
        (shrinking.next.least all box
        (Holds-within (rest death) death.order all (other * span l) (block * span level) ((block + 1) * span level) ((other + 1) * span l)
        (subst (λ n. n ≤ block * span level) (sym from) bounds.0) (subst (λ n. (block + 1) * span level ≤ n) (sym to) bounds.1) holds))
        (had.each death.position death.place p shrinking.from shrinking.to stands item flag))

    pub AreNodes-stay : AreNodes (rest death) death.order depth depth 0 nodes
    AreNodes-stay = record {
      each = λ l j within small before.
          ⊎_elim (λ lower. shrinking.below.each l j within small (inl lower))
          (λ up.
          let old = shrinking.above.each l j up within small in
          (old.0, old.1, record { four = old.2.four; each = λ c one here. box_around l (4 * j + c) one up (old.2.each c one here) }))
          (cases_lt l level);
    }

-- it begins at the leaf
pub IsShrinking-begun : (death : Death) (depth leaf : ℕ) (area : Area) (nodes : List (List Area))
    → ((other : ℕ) → slice_get death.order other ≡ Some death.place → other ≡ death.position) → death.position / 8 ≡ leaf
    → IsLeastBox (rest death) death.order area (leaf * span 0) ((leaf + 1) * span 0) → AreNodes death.part death.order depth depth 0 nodes
    → IsShrinking death depth 0 leaf area nodes
IsShrinking-begun death depth leaf area nodes only is least are = record {
  only = only;
  from = omega arith;
  to = omega arith;
  next = least;
  below = AreNodes-none (rest death) death.order depth nodes;
  above = record { each = λ l j up within small. are.each l j within small (inl within) };
}
