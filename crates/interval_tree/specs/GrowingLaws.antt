-- Rows without work that is left are those of a part.
use Rattle.std.specs.Prelude.{◌≡◌, ℕ, ◌+◌, ◌-◌, ◌^◌, ◌<◌, ◌≤◌, Bool, true, false, List, [], ◌∷◌, length, map, replicate, zip}
use Rattle.std.proofs.Common.{zero, suc, cond, refl, sym, ap, ◌∙◌, arith, pow_mono}
use Rattle.std.proofs.lemmas.List.{take_all, length-map, length-replicate}
use Rattle.weak_delete.specs.declared.place.Place.{Place}
use Rattle.weak_delete.specs.Places.{LivePlaces, IsBuilt, live_place}
use Rattle.builder_trait.specs.Builders.{Progress, all_live}
use Rattle.map_shapes.specs.declared.segment.Segment.{Segment}
use Rattle.interval_tree.specs.declared.rows.StabRows.{StabRows}
use Rattle.interval_tree.specs.Rows.{end_place, count_place, HasRoom, AreKept}
use Rattle.interval_tree.specs.Growing.{AreEmpty, IsFilling, IsGrowing, all_ends, all_counted, turns_to}

-- segments that a level below 32 has room for
pub few_segments : (n level : ℕ) → level < 32 → n ≤ 2 ^ level → n ≤ 2 ^ 31
few_segments n level small few =
    let low : level ≤ 31 = omega arith in
    let bound : 2 ^ level ≤ 2 ^ 31 = pow_mono low in
    omega arith

-- without turns it is built over all places
ended : {all : List Place} {s : LivePlaces} (later n : ℕ) → IsFilling all s → length all ≡ n → turns_to later n s ≡ 0
    → IsBuilt s × (s.places ≡ all)
ended {all} {s} later n filling many none = by s.sealed refl
  where
    by : (b : Bool) → s.sealed ≡ b → IsBuilt s × (s.places ≡ all)
    by true is =
        let whole : length s.places ≡ length all = filling.all_put is in (
          record { sealed = is; turned = omega (arith, ap (λ x. cond x s.left (n - length s.places + later)) is) },
          filling.put ∙ take_all (length s.places) all (omega arith),
        )
    by false is =
        absurd (omega (arith, ap (λ x. cond x s.left (n - length s.places + later)) is, filling.open_yet is))

-- the places of segments that are all live
ends-live : (xs : List Segment) → all_ends xs ≡ map end_place (zip xs (replicate (length xs) true))
ends-live [] = refl
ends-live (x ∷ xs) = ap (λ l. live_place x.hi ∷ l) (ends-live xs)

counts-live : (n : ℕ) → all_counted n ≡ map count_place (replicate n true)
counts-live zero = refl
counts-live (suc n) = ap (λ l. live_place 0 ∷ l) (counts-live n)

-- trees into which nothing is put have their room
pub HasRoom-empty : {level : ℕ} {rows : StabRows} → level < 32 → AreEmpty (2 ^ level) rows.trees → HasRoom level rows
HasRoom-empty small empty = record {
  small = small;
  trees = record {
    ends = ap (λ (s : LivePlaces). s.capacity) empty.ends;
    by_lower = ap (λ (s : LivePlaces). s.capacity) empty.by_lower;
    by_upper = ap (λ (s : LivePlaces). s.capacity) empty.by_upper;
  };
}

pub AreKept-grown : (b : Progress Segment) (rows : StabRows) → IsGrowing (all_live b) rows → rows.left ≡ 0 → AreKept (all_live b) rows
AreKept-grown b rows growing none =
    let n = length b.items in
    let ends = ended (n - 1) n growing.filling.ends (length-map b.items (λ (s : Segment). live_place s.hi)) (omega (arith, growing.left)) in
    let by_lower = ended n n growing.filling.by_lower (length-replicate n (live_place 0)) (omega (arith, growing.left)) in
    let by_upper = ended n n growing.filling.by_upper (length-replicate n (live_place 0)) (omega (arith, growing.left)) in
    record {
      small = growing.small;
      room = growing.room;
      over = record {
        few = few_segments n b.at_level growing.small growing.few;
        flagged = length-replicate n true;
        ends_built = ends.0;
        ends = ends.1 ∙ ends-live b.items;
        by_lower_built = by_lower.0;
        by_lower = by_lower.1 ∙ counts-live n;
        by_upper_built = by_upper.0;
        by_upper = by_upper.1 ∙ counts-live n ∙ ap (map count_place) (sym growing.live);
      };
    }
