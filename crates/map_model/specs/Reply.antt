-- What a command is answered, and the line that says so in a version of the script.
use Rattle.std.specs.Prelude.{ℕ, List, [], ◌∷◌, ◌++◌, Bool, true, false, Option, Some, None, codes, decimal, flat_map, if◌then◌else◌}
use Rattle.map_model.specs.Version.{Version, coordinate_text}
use Rattle.map_model.specs.Shape.{Shape, Point, Segment}
use Rattle.map_model.specs.Found.{Found, Peak}
use Rattle.map_model.specs.Answer.{Answer, Counted, Summed, Listed, NearestOne, NearestOnes, ListedAbove, Highest, Stabbed, StabCounted, Crossed, CrossCounted}
use Rattle.map_model.specs.Refusal.{Refusal, refusal_text}
use Rattle.map_model.specs.Cost.{Cost, cost_text}

-- what a command is answered
pub data Reply : Type 0 where
  -- a layer or an index was made, or a version chosen
  Made : Reply
  -- an item was added, moved or dropped
  Updated : Reply
  -- the answer to a question
  Answered : (answer : Answer) → Reply
  -- the shape of an identifier
  Got : (shape : Shape) → Reply
  -- how many live items a layer has
  Sized : (n : ℕ) → Reply
  -- the identifiers of the last items, the last one first
  Latest : (ids : List ℕ) → Reply
  -- the command is refused
  Refused : (cause : Refusal) → Reply

-- the command is refused
abbrev pub is_refusal : Reply → Bool
is_refusal Made = false
is_refusal Updated = false
is_refusal (Answered answer) = false
is_refusal (Got shape) = false
is_refusal (Sized n) = false
is_refusal (Latest ids) = false
is_refusal (Refused cause) = true

-- a space and a number
abbrev pub spaced : ℕ → List ℕ
spaced n = 32 ∷ decimal n

-- a space and a kept coordinate
abbrev pub spaced_coordinate : Version → ℕ → List ℕ
spaced_coordinate version n = 32 ∷ coordinate_text version n

-- the numbers, each after a space, or ` none` where there is none
abbrev pub numbers_or_none : List ℕ → List ℕ
numbers_or_none [] = codes " none"
numbers_or_none (n ∷ ns) = flat_map spaced (n ∷ ns)

-- a found point's identifier and squared distance
abbrev pub found_numbers : Found → List ℕ
found_numbers found = found.id ∷ found.dist ∷ []

-- a found point, or ` none`
abbrev pub found_or_none : Option Found → List ℕ
found_or_none None = codes " none"
found_or_none (Some found) = flat_map spaced (found_numbers found)

-- a high point's identifier and height, or ` none`
abbrev pub peak_or_none : Version → Option Peak → List ℕ
peak_or_none version None = codes " none"
peak_or_none version (Some peak) = spaced peak.id ++ spaced_coordinate version peak.y

-- the numbers of a shape, each after a space
abbrev pub shape_text : Version → Shape → List ℕ
shape_text version (Point x y w) = spaced_coordinate version x ++ spaced_coordinate version y ++ spaced w
shape_text version (Segment lo hi y) = spaced_coordinate version lo ++ spaced_coordinate version hi ++ spaced_coordinate version y

-- a question's word and the numbers of its answer
abbrev pub answer_text : Version → Answer → List ℕ
answer_text version (Counted n) = codes "count" ++ spaced n
answer_text version (Summed n) = codes "sum" ++ spaced n
answer_text version (Listed ids) = codes "list" ++ numbers_or_none ids
answer_text version (NearestOne found) = codes "near" ++ found_or_none found
answer_text version (NearestOnes found) = codes "nearest" ++ numbers_or_none (flat_map found_numbers found)
answer_text version (ListedAbove ids) = codes "above" ++ numbers_or_none ids
answer_text version (Highest peak) = codes "top" ++ peak_or_none version peak
answer_text version (Stabbed ids) = codes "stab" ++ numbers_or_none ids
answer_text version (StabCounted n) = codes "stabcount" ++ spaced n
answer_text version (Crossed ids) = codes "cross" ++ numbers_or_none ids
answer_text version (CrossCounted n) = codes "crosscount" ++ spaced n

-- a reply as words: a word or two and the numbers after it, or `none` for an empty list
abbrev pub reply_text : Version → Reply → List ℕ
reply_text version Made = codes "ok"
reply_text version Updated = codes "ok"
reply_text version (Answered answer) = answer_text version answer
reply_text version (Got shape) = codes "get" ++ shape_text version shape
reply_text version (Sized n) = codes "size" ++ spaced n
reply_text version (Latest ids) = codes "recent" ++ numbers_or_none ids
reply_text version (Refused cause) = refusal_text cause

-- the line of a reply: its text, with the ledger what it cost, and a line feed
abbrev pub reply_line : Version → Bool → Reply → Cost → List ℕ
reply_line version ledger reply cost = reply_text version reply ++ (if ledger then cost_text cost else []) ++ 10 ∷ []
