-- Boxes of some, one by one.
use Rattle.std.proofs.Common.{◌≡◌, ℕ, zero, suc, ◌+◌, ◌-◌, ◌*◌, ◌<◌, Bool, true, List, [], ◌∷◌, length, get_or, Some, slice_get, sym, ap, ◌∙◌, arith, subst, ⊎_elim}
use Rattle.std.proofs.lemmas.Bool.{cases_lt}
use Rattle.std.proofs.lemmas.Option.{same_Some, slice_get_within, slice_get_cases}
use Rattle.builder_trait.specs.Parts.{Contents}
use Rattle.map_shapes.specs.declared.point.Point.{Point}
use Rattle.kd_tree.specs.declared.spot.Spot.{Spot}
use Rattle.kd_tree.specs.declared.area.Area.{Area}
use Rattle.kd_tree.specs.Areas.{Has, IsInside, IsBox, spot_of}
use Rattle.kd_tree.specs.Heights.{span}
use Rattle.kd_tree.specs.Blocks.{AreLeavesOf, Holds, IsLeastBox}
use Rattle.kd_tree.specs.Leaves.{HasLive}
use Rattle.kd_tree.proofs.Placings.{place_within}

-- what holds of four entries holds of each
pub of_four : {A : Type 0} (P : A → Type 0) (xs : List A) (d : A) → length xs ≡ 4 → P (get_or xs 0 d) → P (get_or xs 1 d) → P (get_or xs 2 d)
    → P (get_or xs 3 d) → (k : ℕ) (x : A) → slice_get xs k ≡ Some x → P x
of_four P [] d long p q r s k x at = absurd (omega arith)
of_four P (a ∷ []) d long p q r s k x at = absurd (omega arith)
of_four P (a ∷ b ∷ []) d long p q r s k x at = absurd (omega arith)
of_four P (a ∷ b ∷ c ∷ []) d long p q r s k x at = absurd (omega arith)
of_four P (a ∷ b ∷ c ∷ e ∷ f ∷ l) d long p q r s k x at = absurd (omega arith)
of_four P (a ∷ b ∷ c ∷ e ∷ []) d long p q r s zero x at = subst P (same_Some a x at) p
of_four P (a ∷ b ∷ c ∷ e ∷ []) d long p q r s (suc zero) x at = subst P (same_Some b x at) q
of_four P (a ∷ b ∷ c ∷ e ∷ []) d long p q r s (suc (suc zero)) x at = subst P (same_Some c x at) r
of_four P (a ∷ b ∷ c ∷ e ∷ []) d long p q r s (suc (suc (suc zero))) x at = subst P (same_Some e x at) s
of_four P (a ∷ b ∷ c ∷ e ∷ []) d long p q r s (suc (suc (suc (suc k)))) x at = cc

pub HasLive-more : (spots : List Spot) (live : List Bool) (n : ℕ) (area grown : Area) → HasLive spots live n area
    → ((spot : Spot) → Has area spot → Has grown spot)
    → ((spot : Spot) → slice_get live n ≡ Some true → slice_get spots n ≡ Some spot → Has grown spot) → HasLive spots live (n + 1) grown
HasLive-more spots live n area grown has kept more slot spot below flag at =
    ⊎_elim (λ less. kept spot (has slot spot less flag at))
    (λ from.
    let same : slot ≡ n = omega arith in
    more spot (sym (ap (slice_get live) same) ∙ flag) (sym (ap (slice_get spots) same) ∙ at))
    (cases_lt slot n)

-- a leaf, of which so many slots are filled
module _ (part : Contents Point) (order : List ℕ) (n j count : ℕ) (leaves : List (List Spot)) (lives : List (List Bool)) (spots : List Spot)
    (live : List Bool) (leaves_of : AreLeavesOf part order n leaves lives) (at : slice_get leaves j ≡ Some spots) (there : slice_get lives j ≡ Some live)
    (enough : (slot : ℕ) → slot < 8 → 8 * j + slot < n → slot < count) (few : (slot : ℕ) → slot < count → (slot < 8) × (8 * j + slot < n)) where
  -- a box of its live slots has its live points
  Holds-leaf : (area : Area) → HasLive spots live count area → Holds part order area (j * span 0) ((j + 1) * span 0)
  Holds-leaf area has = record {
    each = λ position place p low high stands item flag.
        let slot = position - 8 * j in
        let is : 8 * j + slot ≡ position = omega arith in
        let small : slot < 8 = omega arith in
        let here : slice_get order (8 * j + slot) ≡ Some place = ap (slice_get order) is ∙ stands in
        let inside : 8 * j + slot < n = omega (arith, slice_get_within order (8 * j + slot) place here, leaves_of.long) in
        has slot (spot_of p) (enough slot small inside) (leaves_of.live.each j slot place true live small here flag there)
        (leaves_of.spots.each j slot place p spots small inside here item at);
  }

  -- and the other way round
  HasLive-leaf : (area : Area) → Holds part order area (j * span 0) ((j + 1) * span 0) → HasLive spots live count area
  HasLive-leaf area holds slot spot below flag here =
      let small : slot < 8 = (few slot below).0 in
      let inside : 8 * j + slot < n = (few slot below).1 in
      ⊎_elim
      (λ (place, within, stands, read).
      let known : place < length order = place_within order (8 * j + slot) place leaves_of.each_place stands in
      ⊎_elim
      (λ (p, in_items, item, first).
      ⊎_elim
      (λ (set, in_flags, flagged, second).
      let lives_there : slice_get live slot ≡ Some set = leaves_of.live.each j slot place set live small stands flagged there in
      let is : set ≡ true = same_Some set true (sym lives_there ∙ flag) in
      let lies : spot_of p ≡ spot = same_Some (spot_of p) spot (sym (leaves_of.spots.each j slot place p spots small inside stands item at) ∙ here) in
      subst (Has area) lies (holds.each (8 * j + slot) place p (omega arith) (omega arith) stands item (flagged ∙ ap Some is)))
      (λ (past, none). absurd (omega (arith, leaves_of.flagged, leaves_of.long)))
      (slice_get_cases part.flags place).1)
      (λ (past, none). absurd (omega (arith, leaves_of.as_many, leaves_of.long)))
      (slice_get_cases part.items place).1)
      (λ (past, none). absurd (omega (arith, leaves_of.long)))
      (slice_get_cases order (8 * j + slot)).1

  -- so the least one of the slots is that of the points
  pub IsLeastBox-leaf : (area : Area) → HasLive spots live count area
      → ((all : Area) → IsBox all → HasLive spots live count all → IsInside area all) → IsLeastBox part order area (j * span 0) ((j + 1) * span 0)
  IsLeastBox-leaf area has least = record {
    holds = Holds-leaf area has;
    least = λ all box holds. least all box (HasLive-leaf all holds);
  }
