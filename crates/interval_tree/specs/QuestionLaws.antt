-- The questions that the structure answers touch no more than the map allows.
use Rattle.std.proofs.Common.{◌≡◌, ℕ, ◌+◌, ◌*◌, ◌^◌, ◌<◌, ◌≤◌, ◌∙◌, false, List, [], ◌∷◌, length, map, filter, refl, ap, arith, pow_mono}
use Rattle.std.specs.Prelude.{nat_le}
use Rattle.builder_trait.specs.Parts.{Contents, live_of}
use Rattle.map_shapes.specs.declared.segment.Segment.{Segment}
use Rattle.std.proofs.Math.Nat.{mul-le-mul_right}
use Rattle.std.proofs.lemmas.Grind.{common_steps}
use Rattle.std.proofs.lemmas.List.{length-map}
use Rattle.row_blocks.specs.Heights.{height_of, IsLeastHeight-height_of}
use Rattle.map_model.specs.Found.{insert_by, sorted_by}
use Rattle.map_model.specs.State.{Item}
use Rattle.map_model.specs.Shape.{is_stabbed}
use Rattle.map_shapes.specs.Segment.{item_of_segment}
use Rattle.map_questions.specs.Questions.{stab}
use Rattle.interval_tree.specs.Queries.{is_over, hits}
use Rattle.interval_tree.specs.Costs.{walk_touches, count_touches, stab_touches}

-- ---- what one part is touched, which has at most 2 ^ g segments

few_items : (g : ℕ) (p : Contents Segment) → g < 64 → length p.items ≤ 2 ^ g → length p.items < 2 ^ 64
few_items g p small few = let low : g ≤ 63 = omega (arith, small) in let most : 2 ^ g ≤ 2 ^ 63 = pow_mono low in omega (arith, few, most)

heights : (g : ℕ) (p : Contents Segment) → g < 64 → length p.items ≤ 2 ^ g → height_of (length p.items) ≤ g
heights g p small few = (IsLeastHeight-height_of (length p.items) (few_items g p small few)).least g few

pub count-touches : (g : ℕ) (p : Contents Segment) → g < 64 → length p.items ≤ 2 ^ g
    → count_touches p.items ≤ walk_touches g + walk_touches g * length (filter (λ s. false) (live_of p)) + 0 * length p.items
count-touches g p small few = omega (arith, heights g p small few)

pub stab-touches : (x g : ℕ) (p : Contents Segment) → g < 64 → length p.items ≤ 2 ^ g
    → stab_touches x p ≤ walk_touches g + walk_touches g * length (filter (is_over x) (live_of p)) + 0 * length p.items
stab-touches x g p small few =
    let k = length (hits x p) in
    let low : walk_touches (height_of (length p.items)) ≤ walk_touches g = omega (arith, heights g p small few) in
    omega (arith, mul-le-mul_right (k + 1) low)

-- ---- what all parts are touched together, where so many segments are listed

abbrev pub most_touches : (g parts hits : ℕ) → ℕ
most_touches g parts hits = walk_touches g * (hits + parts)

none : (ss : List Segment) → length (filter (λ s. false) ss) ≡ 0
none [] = refl
none (s ∷ ss) = none ss

pub counting : (g parts : ℕ) (ss : List Segment)
    → parts * walk_touches g + walk_touches g * length (filter (λ s. false) ss) + 0 * (2 * length ss + 9) ≤ most_touches g parts 0
counting g parts ss = omega (arith, ap (λ n. walk_touches g * n) (none ss))

length-insert_by : (x : ℕ) (ys : List ℕ) → length (insert_by nat_le x ys) ≡ length ys + 1
length-insert_by x [] = refl
length-insert_by x (y ∷ ys) = grind (arith, common_steps, length-insert_by x ys)

length-sorted_by : (xs : List ℕ) → length (sorted_by nat_le xs) ≡ length xs
length-sorted_by [] = refl
length-sorted_by (x ∷ xs) = omega (arith, length-insert_by x (sorted_by nat_le xs), length-sorted_by xs)

-- the segments of the scan are those that lie over the place
pub stabbed : (x : ℕ) (ss : List Segment) → length (filter (λ (item : Item). is_stabbed x item.shape) (map item_of_segment ss)) ≡ length (filter (is_over x) ss)
stabbed x [] = refl
stabbed x (s ∷ ss) = grind (arith, common_steps, stabbed x ss)

length-stab : (x : ℕ) (ss : List Segment) → length (stab x ss) ≡ length (filter (is_over x) ss)
length-stab x ss =
    let items : List Item = filter (λ (item : Item). is_stabbed x item.shape) (map item_of_segment ss) in
    length-sorted_by (map (λ (item : Item). item.id) items) ∙ length-map items (λ (item : Item). item.id) ∙ stabbed x ss

pub listing : (g parts x : ℕ) (ss : List Segment)
    → parts * walk_touches g + walk_touches g * length (filter (is_over x) ss) + 0 * (2 * length ss + 9) ≤ most_touches g parts (length (stab x ss))
listing g parts x ss = omega (arith, ap (λ n. walk_touches g * n) (length-stab x ss))
