-- The questions that an index answers, and their answers over a scan of all items of a layer.
use Rattle.std.specs.Prelude.{ℕ, Bool, List, Option, sum_by, count_by, map, filter, reverse, take, slice_get, nat_le}
use Rattle.map_model.specs.Shape.{Rect}
use Rattle.map_model.specs.Shape.{Shape, Kind, Points, Segments, is_inside, is_between, is_above, is_stabbed, is_met, weight_of, height_of, squared_distance}
use Rattle.map_model.specs.Index as indexes
use Rattle.map_model.specs.State.{Item}
use Rattle.map_model.specs.Found.{Found, Peak, found_le, peak_le, sorted_by}

-- a question about the items of one layer
pub data Question : Type 0 where
  -- how many points are inside the rectangle
  CountIn : (rect : Rect) → Question
  -- what these weigh together
  SumIn : (rect : Rect) → Question
  -- their identifiers, ascending
  ListIn : (rect : Rect) → Question
  -- the point that is nearest to (x, y): the first by squared distance and then identifier
  Near : (x y : ℕ) → Question
  -- the first k of these
  Nearest : (k x y : ℕ) → Question
  -- the identifiers of the points from x1 to x2 that are at least as high as y, ascending
  Above : (x1 x2 y : ℕ) → Question
  -- the highest point from x1 to x2, of several at one height that of the least identifier
  Top : (x1 x2 : ℕ) → Question
  -- the identifiers of the segments over x, ascending
  Stab : (x : ℕ) → Question
  -- how many segments are over x
  StabCount : (x : ℕ) → Question
  -- the identifiers of the segments that one from (x, y1) to (x, y2) meets, ascending
  CrossIn : (x y1 y2 : ℕ) → Question
  -- how many it meets
  CrossCount : (x y1 y2 : ℕ) → Question

-- what a question is answered: a variant a question, in their order
pub data Answer : Type 0 where
  Counted : (n : ℕ) → Answer
  Summed : (n : ℕ) → Answer
  Listed : (ids : List ℕ) → Answer
  NearestOne : (found : Option Found) → Answer
  NearestOnes : (found : List Found) → Answer
  ListedAbove : (ids : List ℕ) → Answer
  Highest : (peak : Option Peak) → Answer
  Stabbed : (ids : List ℕ) → Answer
  StabCounted : (n : ℕ) → Answer
  Crossed : (ids : List ℕ) → Answer
  CrossCounted : (n : ℕ) → Answer

-- the index that answers a question
abbrev pub index_of : Question → indexes.Index
index_of (CountIn rect) = indexes.Range
index_of (SumIn rect) = indexes.Range
index_of (ListIn rect) = indexes.Range
index_of (Near x y) = indexes.Near
index_of (Nearest k x y) = indexes.Near
index_of (Above x1 x2 y) = indexes.Top
index_of (Top x1 x2) = indexes.Top
index_of (Stab x) = indexes.Stab
index_of (StabCount x) = indexes.Stab
index_of (CrossIn x y1 y2) = indexes.Cross
index_of (CrossCount x y1 y2) = indexes.Cross

-- the kind of layer that a question asks
abbrev pub kind_asked : Question → Kind
kind_asked (CountIn rect) = Points
kind_asked (SumIn rect) = Points
kind_asked (ListIn rect) = Points
kind_asked (Near x y) = Points
kind_asked (Nearest k x y) = Points
kind_asked (Above x1 x2 y) = Points
kind_asked (Top x1 x2) = Points
kind_asked (Stab x) = Segments
kind_asked (StabCount x) = Segments
kind_asked (CrossIn x y1 y2) = Segments
kind_asked (CrossCount x y1 y2) = Segments

-- the items whose shape passes a test
abbrev pub items_with : (Shape → Bool) → List Item → List Item
items_with test items = filter (λ item. test item.shape) items

-- the identifiers of the items whose shape passes a test, ascending
abbrev pub ids_with : (Shape → Bool) → List Item → List ℕ
ids_with test items = sorted_by nat_le (map (λ item. item.id) (items_with test items))

-- all items by their squared distance from (x, y), and then by identifier
abbrev pub by_distance : ℕ → ℕ → List Item → List Found
by_distance x y items = sorted_by found_le (map (λ item. record { dist = squared_distance x y item.shape; id = item.id }) items)

-- the items from x1 to x2 from the highest down, and then by identifier
abbrev pub by_height : ℕ → ℕ → List Item → List Peak
by_height x1 x2 items = sorted_by peak_le (map (λ item. record { y = height_of item.shape; id = item.id }) (items_with (is_between x1 x2) items))

-- the answer to a question over all items of a layer, by a scan of them
abbrev pub answer_over : List Item → Question → Answer
answer_over items (CountIn rect) = Counted (count_by (λ item. is_inside rect item.shape) items)
answer_over items (SumIn rect) = Summed (sum_by (λ item. weight_of item.shape) (items_with (is_inside rect) items))
answer_over items (ListIn rect) = Listed (ids_with (is_inside rect) items)
answer_over items (Near x y) = NearestOne (slice_get (by_distance x y items) 0)
answer_over items (Nearest k x y) = NearestOnes (take k (by_distance x y items))
answer_over items (Above x1 x2 y) = ListedAbove (ids_with (is_above x1 x2 y) items)
answer_over items (Top x1 x2) = Highest (slice_get (by_height x1 x2 items) 0)
answer_over items (Stab x) = Stabbed (ids_with (is_stabbed x) items)
answer_over items (StabCount x) = StabCounted (count_by (λ item. is_stabbed x item.shape) items)
answer_over items (CrossIn x y1 y2) = Crossed (ids_with (is_met x y1 y2) items)
answer_over items (CrossCount x y1 y2) = CrossCounted (count_by (λ item. is_met x y1 y2 item.shape) items)

-- the identifiers of the last k items, the last one first, all where fewer
abbrev pub latest : ℕ → List Item → List ℕ
latest k items = take k (reverse (map (λ item. item.id) items))
