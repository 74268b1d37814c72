-- What a question for a number adds up.
use Rattle.std.specs.Prelude.{ℕ, List}
use Rattle.map_shapes.specs.declared.point.Point.{Point}
use Rattle.map_shapes.specs.declared.rect.Rect.{Rect}
use Rattle.map_shapes.specs.Questions.{count_in, weight_in}
use Rattle.range_tree.specs.declared.measure.Measure.{Measure}
use Rattle.range_tree.specs.declared.measure.Measure.TheVariants.{Count, Weight}

-- what one point counts for
abbrev pub measure_of : Measure → Point → ℕ
measure_of Count p = 1
measure_of Weight p = p.w

-- what the points in a rectangle count for, as the questions have it
abbrev pub measure_in : Measure → Rect → List Point → ℕ
measure_in Count rect points = count_in rect points
measure_in Weight rect points = weight_in rect points

-- the most places that are scanned for it rather than counted by rows
abbrev pub most_scanned : Measure → ℕ
most_scanned Count = 1024
most_scanned Weight = 2048

-- how often the points themselves are touched, at so many places of leaves: to count them their y are enough
abbrev pub leaf_touches : Measure → ℕ → ℕ
leaf_touches Count n = 0
leaf_touches Weight n = n

-- what a span takes beyond two touches for each height of its block: the weights in the word at each of its ends
abbrev pub word_touches : Measure → ℕ
word_touches Count = 0
word_touches Weight = 128
