-- Items and questions moved alike: by dx to the right and dy up.
use Rattle.std.specs.Prelude.{ℕ, ◌+◌, List, Option, Some, None, map}
use Rattle.map_model.specs.Shape.{Rect, Shape, Point, Segment}
use Rattle.map_model.specs.State.{Item}
use Rattle.map_model.specs.Found.{Peak}
use Rattle.map_model.specs.Answer as questions

-- a shape moved; a weight stays
abbrev pub shifted_shape : ℕ → ℕ → Shape → Shape
shifted_shape dx dy (Point x y w) = Point (x + dx) (y + dy) w
shifted_shape dx dy (Segment lo hi y) = Segment (lo + dx) (hi + dx) (y + dy)

-- an item with its shape moved
abbrev pub shifted_item : ℕ → ℕ → Item → Item
shifted_item dx dy item = record { id = item.id; shape = shifted_shape dx dy item.shape }

-- all items moved
abbrev pub shifted_items : ℕ → ℕ → List Item → List Item
shifted_items dx dy items = map (shifted_item dx dy) items

-- a rectangle moved
abbrev pub shifted_rect : ℕ → ℕ → Rect → Rect
shifted_rect dx dy r = record { x1 = r.x1 + dx; y1 = r.y1 + dy; x2 = r.x2 + dx; y2 = r.y2 + dy }

-- a question about the moved place
abbrev pub shifted_question : ℕ → ℕ → questions.Question → questions.Question
shifted_question dx dy (questions.CountIn rect) = questions.CountIn (shifted_rect dx dy rect)
shifted_question dx dy (questions.SumIn rect) = questions.SumIn (shifted_rect dx dy rect)
shifted_question dx dy (questions.ListIn rect) = questions.ListIn (shifted_rect dx dy rect)
shifted_question dx dy (questions.Near x y) = questions.Near (x + dx) (y + dy)
shifted_question dx dy (questions.Nearest k x y) = questions.Nearest k (x + dx) (y + dy)
shifted_question dx dy (questions.Above x1 x2 y) = questions.Above (x1 + dx) (x2 + dx) (y + dy)
shifted_question dx dy (questions.Top x1 x2) = questions.Top (x1 + dx) (x2 + dx)
shifted_question dx dy (questions.Stab x) = questions.Stab (x + dx)
shifted_question dx dy (questions.StabCount x) = questions.StabCount (x + dx)
shifted_question dx dy (questions.CrossIn x y1 y2) = questions.CrossIn (x + dx) (y1 + dy) (y2 + dy)
shifted_question dx dy (questions.CrossCount x y1 y2) = questions.CrossCount (x + dx) (y1 + dy) (y2 + dy)

-- a height moved, if there is one
abbrev pub shifted_peak : ℕ → Option Peak → Option Peak
shifted_peak dy None = None
shifted_peak dy (Some peak) = Some (record { y = peak.y + dy; id = peak.id })

-- an answer in which the height of the highest point is moved; counts, weights, identifiers and distances stay
abbrev pub shifted_answer : ℕ → questions.Answer → questions.Answer
shifted_answer dy (questions.Counted n) = questions.Counted n
shifted_answer dy (questions.Summed n) = questions.Summed n
shifted_answer dy (questions.Listed ids) = questions.Listed ids
shifted_answer dy (questions.NearestOne found) = questions.NearestOne found
shifted_answer dy (questions.NearestOnes found) = questions.NearestOnes found
shifted_answer dy (questions.ListedAbove ids) = questions.ListedAbove ids
shifted_answer dy (questions.Highest peak) = questions.Highest (shifted_peak dy peak)
shifted_answer dy (questions.Stabbed ids) = questions.Stabbed ids
shifted_answer dy (questions.StabCounted n) = questions.StabCounted n
shifted_answer dy (questions.Crossed ids) = questions.Crossed ids
shifted_answer dy (questions.CrossCounted n) = questions.CrossCounted n

-- a shape moved, if there is one
abbrev pub shifted_found : ℕ → ℕ → Option Shape → Option Shape
shifted_found dx dy None = None
shifted_found dx dy (Some shape) = Some (shifted_shape dx dy shape)
