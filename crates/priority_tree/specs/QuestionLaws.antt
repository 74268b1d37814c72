-- What the questions touch that the structure answers: in one part, and in all parts together.
use Rattle.std.proofs.Common.{◌≡◌, ℕ, ◌+◌, ◌*◌, ◌^◌, ◌<◌, ◌≤◌, false, List, [], ◌∷◌, length, map, filter, refl, arith, pow_mono}
use Rattle.std.specs.Prelude.{nat_le}
use Rattle.std.proofs.lemmas.Grind.{common_steps}
use Rattle.std.proofs.lemmas.List.{length-map}
use Rattle.builder_trait.specs.Parts.{Contents, live_of}
use Rattle.row_blocks.specs.Heights.{height_of, IsLeastHeight-height_of}
use Rattle.map_model.specs.Shape.{is_above}
use Rattle.map_model.specs.Found.{insert_by, sorted_by}
use Rattle.map_model.specs.State.{Item}
use Rattle.map_shapes.specs.declared.point.Point.{Point}
use Rattle.map_shapes.specs.Point.{item_of, shape_of}
use Rattle.map_questions.specs.Questions.{above}
use Rattle.priority_tree.specs.Costs.{top_touches, above_touches}

few_items : (g : ℕ) (p : Contents Point) → g < 64 → length p.items ≤ 2 ^ g → length p.items < 2 ^ 64
few_items g p small few = let low : g ≤ 63 = omega (arith, small) in let most : 2 ^ g ≤ 2 ^ 63 = pow_mono low in omega (arith, few, most)

rows : (g : ℕ) (p : Contents Point) → g < 64 → length p.items ≤ 2 ^ g → height_of (length p.items) ≤ g
rows g p small few = (IsLeastHeight-height_of (length p.items) (few_items g p small few)).least g few

pub top-touches : (g : ℕ) (p : Contents Point) → g < 64 → length p.items ≤ 2 ^ g
    → top_touches p.items ≤ 16 * (g + 2) + 16 * length (filter (λ p. false) (live_of p)) + 0 * length p.items
top-touches g p small few = omega (arith, rows g p small few)

pub above-touches : (x1 x2 y g : ℕ) (p : Contents Point) → g < 64 → length p.items ≤ 2 ^ g
    → above_touches x1 x2 y p ≤ 16 * (g + 2) + 16 * length (filter (λ p. is_above x1 x2 y (shape_of p)) (live_of p)) + 0 * length p.items
above-touches x1 x2 y g p small few = omega (arith, rows g p small few)

-- by all parts together, where so many points are listed
abbrev pub most_touches : (g parts hits : ℕ) → ℕ
most_touches g parts hits = 16 * (parts * (g + 2) + hits)

none : (ps : List Point) → length (filter (λ p. false) ps) ≡ 0
none [] = refl
none (p ∷ ps) = none ps

pub highest : (g parts : ℕ) (ps : List Point)
    → parts * (16 * (g + 2)) + 16 * length (filter (λ p. false) ps) + 0 * (2 * length ps + 9) ≤ most_touches g parts 0
highest g parts ps = omega (arith, none ps)

length-insert_by : (x : ℕ) (ys : List ℕ) → length (insert_by nat_le x ys) ≡ length ys + 1
length-insert_by x [] = refl
length-insert_by x (y ∷ ys) = grind (arith, common_steps, length-insert_by x ys)

length-sorted_by : (xs : List ℕ) → length (sorted_by nat_le xs) ≡ length xs
length-sorted_by [] = refl
length-sorted_by (x ∷ xs) = omega (arith, length-insert_by x (sorted_by nat_le xs), length-sorted_by xs)

hits : (x1 x2 y : ℕ) (ps : List Point) → length (filter (λ item. is_above x1 x2 y item.shape) (map item_of ps)) ≡ length (filter (λ p. is_above x1 x2 y (shape_of p)) ps)
hits x1 x2 y [] = refl
hits x1 x2 y (p ∷ ps) = grind (arith, common_steps, hits x1 x2 y ps)

pub listing : (g parts x1 x2 y : ℕ) (ps : List Point)
    → parts * (16 * (g + 2)) + 16 * length (filter (λ p. is_above x1 x2 y (shape_of p)) ps) + 0 * (2 * length ps + 9)
    ≤ most_touches g parts (length (above x1 x2 y ps))
listing g parts x1 x2 y ps =
    let found : List Item = filter (λ item. is_above x1 x2 y item.shape) (map item_of ps) in
    omega (arith, length-sorted_by (map (λ item. item.id) found), length-map found (λ item. item.id), hits x1 x2 y ps)
