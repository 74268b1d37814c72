-- The questions that the structure answers are those of the definitions, which scan all items; and what they touch.
use Rattle.std.proofs.Common.{◌≡◌, ℕ, ◌+◌, ◌*◌, ◌^◌, ◌<◌, ◌≤◌, ◌∙◌, Bool, false, List, [], ◌∷◌, length, map, filter, refl, ap, arith, pow_mono}
use Rattle.std.specs.Prelude.{count_by, sum_by, nat_le}
use Rattle.std.proofs.lemmas.Grind.{common_steps}
use Rattle.std.proofs.lemmas.List.{length-map}
use Rattle.builder_trait.specs.Parts.{Contents, live_of}
use Rattle.row_blocks.specs.Heights.{height_of, IsLeastHeight-height_of}
use Rattle.map_structures.specs.Touches.{touches_at}
use Rattle.map_model.specs.Shape as model
use Rattle.map_model.specs.Found.{sorted_by}
use Rattle.map_model.specs.State.{Item}
use Rattle.map_model.specs.Answer.{ids_with}
use Rattle.map_shapes.specs.declared.point.Point.{Point}
use Rattle.map_shapes.specs.declared.rect.Rect.{Rect}
use Rattle.map_shapes.specs.Point.{item_of}
use Rattle.map_shapes.specs.Ascending.{insert_sorted, sorted_ids}
use Rattle.map_shapes.specs.AscendingLaws.{sorted_ids-sorted_by}
use Rattle.map_shapes.specs.Questions.{is_in, count_in, weight_in, ids_in}
use Rattle.map_shapes.specs.Rect.{rect_of}
use Rattle.range_tree.specs.declared.measure.Measure.{Measure}
use Rattle.range_tree.specs.declared.measure.Measure.TheVariants.{Count, Weight}
use Rattle.range_tree.specs.Costs.{touches_to_measure, measure_touches, list_touches, mark_touches-rise}

abbrev items_of : List Point → List Item
items_of points = map item_of points

abbrev inside : Rect → Item → Bool
inside rect item = model.is_inside (rect_of rect) item.shape

module _ (rect : Rect) where
  counted : (ps : List Point) → count_by (is_in rect) ps ≡ count_by (inside rect) (items_of ps)
  counted [] = refl
  counted (p ∷ ps) = grind (arith, common_steps, counted ps)

  few_counted : (ps : List Point) → count_by (is_in rect) ps ≤ length ps
  few_counted [] = omega arith
  few_counted (p ∷ ps) = grind (arith, common_steps, few_counted ps)

  pub count_in-scan : (ps : List Point) → length ps ≤ 2 ^ 24 → count_in rect ps ≡ count_by (inside rect) (items_of ps)
  count_in-scan ps few = omega (arith, few, few_counted ps, counted ps)

  weighed : (ps : List Point) → sum_by (λ p. p.w) (filter (is_in rect) ps) ≡ sum_by (λ item. model.weight_of item.shape) (filter (inside rect) (items_of ps))
  weighed [] = refl
  weighed (p ∷ ps) = grind (arith, common_steps, weighed ps)

  few_weighed : (ps : List Point) → sum_by (λ p. p.w) (filter (is_in rect) ps) ≤ length ps * 2 ^ 31
  few_weighed [] = omega arith
  few_weighed (p ∷ ps) = grind (arith, common_steps, few_weighed ps, p.w_in_range)

  pub weight_in-scan : (ps : List Point) → length ps ≤ 2 ^ 24
      → weight_in rect ps ≡ sum_by (λ item. model.weight_of item.shape) (filter (inside rect) (items_of ps))
  weight_in-scan ps few = omega (arith, few, few_weighed ps, weighed ps)

  listed : (ps : List Point) → map (λ p. p.id) (filter (is_in rect) ps) ≡ map (λ item. item.id) (filter (inside rect) (items_of ps))
  listed [] = refl
  listed (p ∷ ps) = grind (arith, common_steps, listed ps)

pub ids_in-scan : (rect : Rect) (ps : List Point) → ids_in rect ps ≡ ids_with (model.is_inside (rect_of rect)) (items_of ps)
ids_in-scan rect ps = sorted_ids-sorted_by (map (λ p. p.id) (filter (is_in rect) ps)) ∙ ap (sorted_by nat_le) (listed rect ps)

-- ---- what one part is touched, which has at most 2 ^ g points

few_items : (g : ℕ) (p : Contents Point) → g < 64 → length p.items ≤ 2 ^ g → length p.items < 2 ^ 64
few_items g p small few = let low : g ≤ 63 = omega (arith, small) in let most : 2 ^ g ≤ 2 ^ 63 = pow_mono low in omega (arith, few, most)

rows : (g : ℕ) (p : Contents Point) → g < 64 → length p.items ≤ 2 ^ g → height_of (length p.items) ≤ g
rows g p small few = (IsLeastHeight-height_of (length p.items) (few_items g p small few)).least g few

measured : (measure : Measure) (g : ℕ) → touches_to_measure measure g ≤ touches_at g
measured Count g = omega arith
measured Weight g = omega arith

pub measure-touches : (measure : Measure) (hits : Point → Bool) (g : ℕ) (p : Contents Point) → g < 64 → length p.items ≤ 2 ^ g
    → measure_touches measure p.items ≤ touches_at g + 8 * (g + 2) * length (filter hits (live_of p)) + 0 * length p.items
measure-touches measure hits g p small few =
    let h = height_of (length p.items) in omega (arith, measured measure h, mark_touches-rise h g (rows g p small few))

scaled : (h g n : ℕ) → h ≤ g → 8 * (h + 2) * n ≤ 8 * (g + 2) * n
scaled h g n low = grind (arith, low)

pub list-touches : (rect : Rect) (g : ℕ) (p : Contents Point) → g < 64 → length p.items ≤ 2 ^ g
    → list_touches rect p ≤ touches_at g + 8 * (g + 2) * length (filter (is_in rect) (live_of p)) + 0 * length p.items
list-touches rect g p small few =
    let low = rows g p small few in
    omega (arith, mark_touches-rise (height_of (length p.items)) g low, scaled (height_of (length p.items)) g (length (filter (is_in rect) (live_of p))) low)

-- ---- what all parts are touched together, where so many points are hit

abbrev pub most_touches : (g parts hits : ℕ) → ℕ
most_touches g parts hits = parts * touches_at g + 8 * (g + 2) * hits

none : (ps : List Point) → length (filter (λ p. false) ps) ≡ 0
none [] = refl
none (p ∷ ps) = none ps

pub counting : (g parts : ℕ) (ps : List Point)
    → parts * touches_at g + 8 * (g + 2) * length (filter (λ p. false) ps) + 0 * (2 * length ps + 9) ≤ most_touches g parts 0
counting g parts ps = omega (arith, ap (λ n. 8 * (g + 2) * n) (none ps))

length-insert_sorted : (x : ℕ) (ys : List ℕ) → length (insert_sorted x ys) ≡ length ys + 1
length-insert_sorted x [] = refl
length-insert_sorted x (y ∷ ys) = grind (arith, common_steps, length-insert_sorted x ys)

length-sorted_ids : (xs : List ℕ) → length (sorted_ids xs) ≡ length xs
length-sorted_ids [] = refl
length-sorted_ids (x ∷ xs) = omega (arith, length-insert_sorted x (sorted_ids xs), length-sorted_ids xs)

pub listing : (g parts : ℕ) (rect : Rect) (ps : List Point)
    → parts * touches_at g + 8 * (g + 2) * length (filter (is_in rect) ps) + 0 * (2 * length ps + 9) ≤ most_touches g parts (length (ids_in rect ps))
listing g parts rect ps =
    let ids = map (λ p. p.id) (filter (is_in rect) ps) in
    omega (arith, ap (λ n. 8 * (g + 2) * n) (length-sorted_ids ids ∙ length-map (filter (is_in rect) ps) (λ p. p.id)))
