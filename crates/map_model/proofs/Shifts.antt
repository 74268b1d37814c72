-- What items and questions that are moved alike are answered.
use Rattle.std.proofs.Common.{◌≡◌, ℕ, ◌+◌, ◌==◌, Bool, true, false, cond, ◌&&◌, ◌||◌, List, [], ◌∷◌, Option, Some, nat_le, nat_lt, map, take, sum_by, count_by, arith, refl, sym, ap, ◌∙◌, ◌*◌}
use Rattle.std.specs.Prelude.{slice_get}
use Rattle.std.proofs.lemmas.Bool.Decides.{nat_tests}
use Rattle.std.proofs.lemmas.List.Sums.{sum_by-cons}
use Rattle.map_model.specs.Shape.{Rect, Shape, Point, Segment, is_inside, is_between, is_above, is_stabbed, is_met, weight_of, height_of, difference, squared_distance}
use Rattle.map_model.specs.State.{Item, shape_of}
use Rattle.map_model.specs.Found.{Found, Peak, found_le, peak_le, insert_by, sorted_by}
use Rattle.map_model.specs.Answer.{Question, CountIn, SumIn, ListIn, Near, Nearest, Above, Top, Stab, StabCount, CrossIn, CrossCount, Highest, answer_over, items_with, ids_with, by_distance, by_height}
use Rattle.map_model.specs.Answer as questions
use Rattle.map_model.specs.Shift.{shifted_shape, shifted_item, shifted_items, shifted_rect, shifted_question, shifted_peak, shifted_answer, shifted_found}

-- ---- numbers

le_shifted : (a b d : ℕ) → nat_le (a + d) (b + d) ≡ nat_le a b
le_shifted a b d = grind (arith, nat_tests)

lt_shifted : (a b d : ℕ) → nat_lt (a + d) (b + d) ≡ nat_lt a b
lt_shifted a b d = grind (arith, nat_tests)

eq_shifted : (a b d : ℕ) → ((a + d) == (b + d)) ≡ (a == b)
eq_shifted a b d = grind (arith, nat_tests)

difference_shifted : (a b d : ℕ) → difference (a + d) (b + d) ≡ difference a b
difference_shifted a b d = omega arith

-- ---- shapes

inside_shifted : (dx dy : ℕ) (r : Rect) (shape : Shape) → is_inside (shifted_rect dx dy r) (shifted_shape dx dy shape) ≡ is_inside r shape
inside_shifted dx dy r (Point x y w) =
    (λ i. le_shifted r.x1 x dx i && le_shifted x r.x2 dx i && le_shifted r.y1 y dy i && le_shifted y r.y2 dy i)
inside_shifted dx dy r (Segment lo hi y) = refl

between_shifted : (dx dy x1 x2 : ℕ) (shape : Shape) → is_between (x1 + dx) (x2 + dx) (shifted_shape dx dy shape) ≡ is_between x1 x2 shape
between_shifted dx dy x1 x2 (Point x y w) = (λ i. le_shifted x1 x dx i && le_shifted x x2 dx i)
between_shifted dx dy x1 x2 (Segment lo hi y) = refl

above_shifted : (dx dy x1 x2 least : ℕ) (shape : Shape) → is_above (x1 + dx) (x2 + dx) (least + dy) (shifted_shape dx dy shape) ≡ is_above x1 x2 least shape
above_shifted dx dy x1 x2 least (Point x y w) = (λ i. le_shifted x1 x dx i && le_shifted x x2 dx i && le_shifted least y dy i)
above_shifted dx dy x1 x2 least (Segment lo hi y) = refl

stabbed_shifted : (dx dy x : ℕ) (shape : Shape) → is_stabbed (x + dx) (shifted_shape dx dy shape) ≡ is_stabbed x shape
stabbed_shifted dx dy x (Point px y w) = refl
stabbed_shifted dx dy x (Segment lo hi y) = (λ i. le_shifted lo x dx i && le_shifted x hi dx i)

met_shifted : (dx dy x y1 y2 : ℕ) (shape : Shape) → is_met (x + dx) (y1 + dy) (y2 + dy) (shifted_shape dx dy shape) ≡ is_met x y1 y2 shape
met_shifted dx dy x y1 y2 (Point px y w) = refl
met_shifted dx dy x y1 y2 (Segment lo hi y) =
    (λ i. le_shifted lo x dx i && le_shifted x hi dx i && le_shifted y1 y dy i && le_shifted y y2 dy i)

weight_shifted : (dx dy : ℕ) (shape : Shape) → weight_of (shifted_shape dx dy shape) ≡ weight_of shape
weight_shifted dx dy (Point x y w) = refl
weight_shifted dx dy (Segment lo hi y) = refl

height_shifted : (dx dy : ℕ) (shape : Shape) → height_of (shifted_shape dx dy shape) ≡ height_of shape + dy
height_shifted dx dy (Point x y w) = refl
height_shifted dx dy (Segment lo hi y) = refl

distance_shifted : (dx dy x y : ℕ) (shape : Shape) → squared_distance (x + dx) (y + dy) (shifted_shape dx dy shape) ≡ squared_distance x y shape
distance_shifted dx dy x y (Point px py w) =
    ap (λ d. d * d + difference (y + dy) (py + dy) * difference (y + dy) (py + dy)) (difference_shifted x px dx)
    ∙ ap (λ d. difference x px * difference x px + d * d) (difference_shifted y py dy)
distance_shifted dx dy x y (Segment lo hi py) = refl

-- ---- lists of items

-- a test that passes for the moved where the other passes
abbrev IsAlike : ℕ → ℕ → (Shape → Bool) → (Shape → Bool) → Type 0
IsAlike dx dy test moved = (shape : Shape) → moved (shifted_shape dx dy shape) ≡ test shape

with_shifted : (dx dy : ℕ) (test moved : Shape → Bool) → IsAlike dx dy test moved → (items : List Item) → items_with moved (shifted_items dx dy items) ≡ shifted_items dx dy (items_with test items)
with_shifted dx dy test moved alike [] = refl
with_shifted dx dy test moved alike (item ∷ items) =
    (λ i. cond (alike item.shape i) (shifted_item dx dy item ∷ with_shifted dx dy test moved alike items i) (with_shifted dx dy test moved alike items i))
    ∙ out (test item.shape)
  where
    out : (b : Bool) → cond b (shifted_item dx dy item ∷ shifted_items dx dy (items_with test items)) (shifted_items dx dy (items_with test items))
        ≡ shifted_items dx dy (cond b (item ∷ items_with test items) (items_with test items))
    out true = refl
    out false = refl

ids_shifted : (dx dy : ℕ) (items : List Item) → map (λ (item : Item). item.id) (shifted_items dx dy items) ≡ map (λ (item : Item). item.id) items
ids_shifted dx dy [] = refl
ids_shifted dx dy (item ∷ items) = ap (λ (ids : List ℕ). item.id ∷ ids) (ids_shifted dx dy items)

ids_with_shifted : (dx dy : ℕ) (test moved : Shape → Bool) → IsAlike dx dy test moved → (items : List Item) → ids_with moved (shifted_items dx dy items) ≡ ids_with test items
ids_with_shifted dx dy test moved alike items =
    ap (λ (kept : List Item). sorted_by nat_le (map (λ (item : Item). item.id) kept)) (with_shifted dx dy test moved alike items)
    ∙ ap (sorted_by nat_le) (ids_shifted dx dy (items_with test items))

count_shifted : (dx dy : ℕ) (test moved : Shape → Bool) → IsAlike dx dy test moved → (items : List Item)
    → count_by (λ (item : Item). moved item.shape) (shifted_items dx dy items) ≡ count_by (λ (item : Item). test item.shape) items
count_shifted dx dy test moved alike [] = refl
count_shifted dx dy test moved alike (item ∷ items) =
    sum_by-cons (λ (i : Item). cond (moved i.shape) 1 0) (shifted_item dx dy item) (shifted_items dx dy items)
    ∙ (λ i. cond (alike item.shape i) 1 0 + count_shifted dx dy test moved alike items i)
    ∙ sym (sum_by-cons (λ (i : Item). cond (test i.shape) 1 0) item items)

sum_shifted : (dx dy : ℕ) (items : List Item) → sum_by (λ (item : Item). weight_of item.shape) (shifted_items dx dy items) ≡ sum_by (λ (item : Item). weight_of item.shape) items
sum_shifted dx dy [] = refl
sum_shifted dx dy (item ∷ items) =
    sum_by-cons (λ (i : Item). weight_of i.shape) (shifted_item dx dy item) (shifted_items dx dy items)
    ∙ (λ i. weight_shifted dx dy item.shape i + sum_shifted dx dy items i)
    ∙ sym (sum_by-cons (λ (i : Item). weight_of i.shape) item items)

-- an item as it is found from (x, y)
abbrev found_from : ℕ → ℕ → Item → Found
found_from x y item = record { dist = squared_distance x y item.shape; id = item.id }

distances_shifted : (dx dy x y : ℕ) (items : List Item) → by_distance (x + dx) (y + dy) (shifted_items dx dy items) ≡ by_distance x y items
distances_shifted dx dy x y items = ap (sorted_by found_le) (each items)
  where
    each : (items : List Item)
        → map (found_from (x + dx) (y + dy)) (shifted_items dx dy items)
        ≡ map (found_from x y) items
    each [] = refl
    each (item ∷ items) = (λ i. record { dist = distance_shifted dx dy x y item.shape i; id = item.id } ∷ each items i)

-- ---- heights

-- an item as a peak
abbrev peak_of : Item → Peak
peak_of item = record { y = height_of item.shape; id = item.id }

abbrev moved_peak : ℕ → Peak → Peak
moved_peak dy peak = record { y = peak.y + dy; id = peak.id }

peak_le_shifted : (dy : ℕ) (a b : Peak) → peak_le (moved_peak dy a) (moved_peak dy b) ≡ peak_le a b
peak_le_shifted dy a b = (λ i. lt_shifted b.y a.y dy i || (eq_shifted a.y b.y dy i && nat_le a.id b.id))

insert_shifted : (dy : ℕ) (peak : Peak) (peaks : List Peak) → insert_by peak_le (moved_peak dy peak) (map (moved_peak dy) peaks) ≡ map (moved_peak dy) (insert_by peak_le peak peaks)
insert_shifted dy peak [] = refl
insert_shifted dy peak (first ∷ peaks) =
    (λ i. cond (peak_le_shifted dy peak first i) (moved_peak dy peak ∷ moved_peak dy first ∷ map (moved_peak dy) peaks) (moved_peak dy first ∷ insert_shifted dy peak peaks i))
    ∙ out (peak_le peak first)
  where
    out : (b : Bool) → cond b (moved_peak dy peak ∷ moved_peak dy first ∷ map (moved_peak dy) peaks) (moved_peak dy first ∷ map (moved_peak dy) (insert_by peak_le peak peaks))
        ≡ map (moved_peak dy) (cond b (peak ∷ first ∷ peaks) (first ∷ insert_by peak_le peak peaks))
    out true = refl
    out false = refl

sorted_shifted : (dy : ℕ) (peaks : List Peak) → sorted_by peak_le (map (moved_peak dy) peaks) ≡ map (moved_peak dy) (sorted_by peak_le peaks)
sorted_shifted dy [] = refl
sorted_shifted dy (peak ∷ peaks) =
    ap (insert_by peak_le (moved_peak dy peak)) (sorted_shifted dy peaks) ∙ insert_shifted dy peak (sorted_by peak_le peaks)

peaks_shifted : (dx dy : ℕ) (items : List Item)
    → map peak_of (shifted_items dx dy items)
    ≡ map (moved_peak dy) (map peak_of items)
peaks_shifted dx dy [] = refl
peaks_shifted dx dy (item ∷ items) = (λ i. record { y = height_shifted dx dy item.shape i; id = item.id } ∷ peaks_shifted dx dy items i)

heights_shifted : (dx dy x1 x2 : ℕ) (items : List Item) → by_height (x1 + dx) (x2 + dx) (shifted_items dx dy items) ≡ map (moved_peak dy) (by_height x1 x2 items)
heights_shifted dx dy x1 x2 items =
    ap (λ (kept : List Item). sorted_by peak_le (map peak_of kept))
    (with_shifted dx dy (is_between x1 x2) (is_between (x1 + dx) (x2 + dx)) (between_shifted dx dy x1 x2) items)
    ∙ ap (sorted_by peak_le) (peaks_shifted dx dy (items_with (is_between x1 x2) items))
    ∙ sorted_shifted dy (map peak_of (items_with (is_between x1 x2) items))

highest_shifted : (dy : ℕ) (peaks : List Peak) → slice_get (map (moved_peak dy) peaks) 0 ≡ shifted_peak dy (slice_get peaks 0)
highest_shifted dy [] = refl
highest_shifted dy (peak ∷ peaks) = refl

-- ---- answers

pub answer_shifted : (dx dy : ℕ) (items : List Item) (question : Question) → answer_over (shifted_items dx dy items) (shifted_question dx dy question) ≡ shifted_answer dy (answer_over items question)
answer_shifted dx dy items (CountIn rect) = ap questions.Counted (count_shifted dx dy (is_inside rect) (is_inside (shifted_rect dx dy rect)) (inside_shifted dx dy rect) items)
answer_shifted dx dy items (SumIn rect) =
    ap questions.Summed (ap (sum_by (λ (item : Item). weight_of item.shape)) (with_shifted dx dy (is_inside rect) (is_inside (shifted_rect dx dy rect)) (inside_shifted dx dy rect) items)
    ∙ sum_shifted dx dy (items_with (is_inside rect) items))
answer_shifted dx dy items (ListIn rect) = ap questions.Listed (ids_with_shifted dx dy (is_inside rect) (is_inside (shifted_rect dx dy rect)) (inside_shifted dx dy rect) items)
answer_shifted dx dy items (Near x y) = ap (λ (found : List Found). questions.NearestOne (slice_get found 0)) (distances_shifted dx dy x y items)
answer_shifted dx dy items (Nearest k x y) = ap (λ (found : List Found). questions.NearestOnes (take k found)) (distances_shifted dx dy x y items)
answer_shifted dx dy items (Above x1 x2 y) = ap questions.ListedAbove (ids_with_shifted dx dy (is_above x1 x2 y) (is_above (x1 + dx) (x2 + dx) (y + dy)) (above_shifted dx dy x1 x2 y) items)
answer_shifted dx dy items (Top x1 x2) =
    ap (λ (peaks : List Peak). Highest (slice_get peaks 0)) (heights_shifted dx dy x1 x2 items)
    ∙ ap Highest (highest_shifted dy (by_height x1 x2 items))
answer_shifted dx dy items (Stab x) = ap questions.Stabbed (ids_with_shifted dx dy (is_stabbed x) (is_stabbed (x + dx)) (stabbed_shifted dx dy x) items)
answer_shifted dx dy items (StabCount x) = ap questions.StabCounted (count_shifted dx dy (is_stabbed x) (is_stabbed (x + dx)) (stabbed_shifted dx dy x) items)
answer_shifted dx dy items (CrossIn x y1 y2) =
    ap questions.Crossed (ids_with_shifted dx dy (is_met x y1 y2) (is_met (x + dx) (y1 + dy) (y2 + dy)) (met_shifted dx dy x y1 y2) items)
answer_shifted dx dy items (CrossCount x y1 y2) =
    ap questions.CrossCounted (count_shifted dx dy (is_met x y1 y2) (is_met (x + dx) (y1 + dy) (y2 + dy)) (met_shifted dx dy x y1 y2) items)

pub shape_shifted : (dx dy : ℕ) (items : List Item) (id : ℕ) → shape_of id (shifted_items dx dy items) ≡ shifted_found dx dy (shape_of id items)
shape_shifted dx dy [] id = refl
shape_shifted dx dy (item ∷ items) id =
    ap (λ (found : Option Shape). cond (item.id == id) (Some (shifted_shape dx dy item.shape)) found) (shape_shifted dx dy items id) ∙ out (item.id == id)
  where
    out : (b : Bool) → cond b (Some (shifted_shape dx dy item.shape)) (shifted_found dx dy (shape_of id items)) ≡ shifted_found dx dy (cond b (Some item.shape) (shape_of id items))
    out true = refl
    out false = refl
