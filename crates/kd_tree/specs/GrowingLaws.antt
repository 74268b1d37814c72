-- A tree without turns that are left is that of a part.
use Rattle.std.proofs.Common.{◌≡◌, ℕ, ◌<◌, Bool, true, List, length, replicate, Some, slice_get, arith, ap, ◌∙◌, subst, sym, ⊎_elim}
use Rattle.std.proofs.lemmas.Option.{slice_get_within, get_or_from_slice_get}
use Rattle.std.proofs.lemmas.List.{get_or-replicate, length-replicate}
use Rattle.builder_trait.specs.Parts.{Contents}
use Rattle.builder_trait.specs.Builders.{Progress, all_live}
use Rattle.map_shapes.specs.declared.point.Point.{Point}
use Rattle.kd_tree.specs.declared.rows.KdRows.{KdRows}
use Rattle.kd_tree.specs.Blocks.{AreSpots, AreLive, AllLive, AreNodes}
use Rattle.kd_tree.specs.Leaves.{HasLeaves}
use Rattle.kd_tree.specs.Growing.{IsGrowing, IsTree}
use Rattle.kd_tree.specs.HeightLaws.{index_within}

-- flags that are all set are those of live leaves
all_set : (n k : ℕ) (flag : Bool) → slice_get (replicate n true) k ≡ Some flag → flag ≡ true
all_set n k flag at =
    let within : k < n = subst (λ m. k < m) (length-replicate n true) (slice_get_within (replicate n true) k flag at) in
    sym (get_or_from_slice_get (replicate n true) k flag flag at) ∙ get_or-replicate n k true flag within

pub AreLive-all : (flags : List Bool) (n : ℕ) (order : List ℕ) (live : List (List Bool)) → flags ≡ replicate n true → AllLive live → AreLive flags order live
AreLive-all flags n order live all set = record {
  each = λ j slot place flag leaf small stands at leaf_at.
      let is : flag ≡ true = all_set n place flag (sym (ap (λ l. slice_get l place) all) ∙ at) in
      set.each j slot leaf small leaf_at ∙ ap Some (sym is);
}

pub IsTree-grown : (b : Progress Point) (rows : KdRows) → IsGrowing (all_live b) rows → rows.left ≡ 0 → IsTree (all_live b) rows
IsTree-grown b rows (shaping, left) none =
    let part : Contents Point = all_live b in
    let filled : rows.filled ≡ length b.items = omega (arith, left, none, shaping.filled_few) in
    let ended : (rows.level ≡ rows.depth) × (rows.place ≡ 0) =
    ⊎_elim (λ next. absurd (omega (arith, left, none, shaping.next, index_within rows.depth rows.level next.0 rows.place next.1))) (λ h. h) shaping.is_next in
    record {
      room = shaping.room;
      few = shaping.few;
      flagged = ap length shaping.flags ∙ length-replicate (length b.items) true;
      long = shaping.long;
      depth_is = shaping.depth_is;
      leaves = subst (λ n. HasLeaves n rows.leaves) filled shaping.leaves;
      spots = subst (λ n. AreSpots b.items rows.places.items n rows.leaves.spots.items) filled shaping.spots;
      live = AreLive-all part.flags (length b.items) rows.places.items rows.leaves.live.items shaping.flags shaping.live;
      nodes = subst (λ l. AreNodes part rows.places.items rows.depth l 0 rows.nodes.items) ended.0
          (subst (λ p. AreNodes part rows.places.items rows.depth rows.level p rows.nodes.items) ended.1 shaping.nodes);
    }
