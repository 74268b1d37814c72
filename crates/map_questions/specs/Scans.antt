-- The answers are those of the definitions' scan of all items.
use Rattle.std.proofs.Common.{◌≡◌, ℕ, ◌^◌, ◌≤◌, ◌<◌, Bool, List, [], ◌∷◌, length, map, take, refl, ap, arith, slice_get, Option, Some, None}
use Rattle.std.specs.Option.{option_map}
use Rattle.std.specs.Prelude.{count_by}
use Rattle.std.proofs.lemmas.Grind.{common_steps}
use Rattle.std.proofs.lemmas.List.{length-map}
use Rattle.map_model.specs.Shape.{is_stabbed, is_met}
use Rattle.map_model.specs.State.{Item}
use Rattle.map_model.specs.Answer.{answer_over, by_distance, by_height, Near, Nearest, Above, Top, Stab, StabCount, CrossIn, CrossCount, NearestOne, NearestOnes, ListedAbove, Highest, Stabbed, StabCounted, Crossed, CrossCounted}
use Rattle.map_shapes.specs.declared.point.Point.{Point}
use Rattle.map_shapes.specs.declared.segment.Segment.{Segment}
use Rattle.map_shapes.specs.Found.{found_of, found_from, peak_of, peak_from}
use Rattle.map_shapes.specs.Point.{item_of}
use Rattle.map_shapes.specs.Segment.{item_of_segment}
use Rattle.map_questions.specs.Questions.{near, near_k, above, top, stab, stab_count, crossed, cross_count}

-- an entry of the definitions is the same one after a way there and back
module _ {A B : Type 0} (to : A → B) (from : B → A) (same : (a : A) → from (to a) ≡ a) where
  option_back : (o : Option A) → option_map from (option_map to o) ≡ o
  option_back None = refl
  option_back (Some a) = ap (λ x. Some x) (same a)

  list_back : (xs : List A) → map from (map to xs) ≡ xs
  list_back [] = refl
  list_back (x ∷ xs) = grind (arith, common_steps, same x, list_back xs)

pub near-scan : (x y : ℕ) (points : List Point) → NearestOne (option_map found_of (near x y points)) ≡ answer_over (map item_of points) (Near x y)
near-scan x y points = ap (λ o. NearestOne o) (option_back found_from found_of (λ f. refl) (slice_get (by_distance x y (map item_of points)) 0))

pub near_k-scan : (k x y : ℕ) (points : List Point) → NearestOnes (map found_of (near_k k x y points)) ≡ answer_over (map item_of points) (Nearest k x y)
near_k-scan k x y points = ap (λ l. NearestOnes l) (list_back found_from found_of (λ f. refl) (take k (by_distance x y (map item_of points))))

pub above-scan : (x1 x2 y : ℕ) (points : List Point) → ListedAbove (above x1 x2 y points) ≡ answer_over (map item_of points) (Above x1 x2 y)
above-scan x1 x2 y points = refl

pub top-scan : (x1 x2 : ℕ) (points : List Point) → Highest (option_map peak_of (top x1 x2 points)) ≡ answer_over (map item_of points) (Top x1 x2)
top-scan x1 x2 points = ap (λ o. Highest o) (option_back peak_from peak_of (λ p. refl) (slice_get (by_height x1 x2 (map item_of points)) 0))

pub stab-scan : (x : ℕ) (segments : List Segment) → Stabbed (stab x segments) ≡ answer_over (map item_of_segment segments) (Stab x)
stab-scan x segments = refl

few_counted : (test : Item → Bool) (items : List Item) → count_by test items ≤ length items
few_counted test [] = omega arith
few_counted test (item ∷ items) = grind (arith, common_steps, few_counted test items)

-- this one where they are fewer than 2^64
pub stab_count-scan : (x : ℕ) (segments : List Segment) → length segments < 2 ^ 64
    → StabCounted (stab_count x segments) ≡ answer_over (map item_of_segment segments) (StabCount x)
stab_count-scan x segments few =
    let items = map item_of_segment segments in
    ap (λ n. StabCounted n) (omega (arith, few_counted (λ item. is_stabbed x item.shape) items, length-map segments item_of_segment))

pub crossed-scan : (x y1 y2 : ℕ) (segments : List Segment) → Crossed (crossed x y1 y2 segments) ≡ answer_over (map item_of_segment segments) (CrossIn x y1 y2)
crossed-scan x y1 y2 segments = refl

-- this one where they are fewer than 2^64
pub cross_count-scan : (x y1 y2 : ℕ) (segments : List Segment) → length segments < 2 ^ 64
    → CrossCounted (cross_count x y1 y2 segments) ≡ answer_over (map item_of_segment segments) (CrossCount x y1 y2)
cross_count-scan x y1 y2 segments few =
    let items = map item_of_segment segments in
    ap (λ n. CrossCounted n) (omega (arith, few_counted (λ item. is_met x y1 y2 item.shape) items, length-map segments item_of_segment))
