-- The line that a command is written as in a version of the script.
use Rattle.std.specs.Prelude.{◌≡◌, ℕ, ◌≤◌, Bool, true, ◌||◌, ⊤, List, [], ◌∷◌, ◌++◌, codes, decimal, if◌then◌else◌}
use Rattle.map_model.specs.Version.{Version, One, Two, kept, greatest_coordinate, coordinate_text}
use Rattle.map_model.specs.Shape.{Rect}
use Rattle.map_model.specs.Words.{is_name, greatest_id, greatest_weight}
use Rattle.map_model.specs.Shape.{Kind, Points, Segments, Shape, Point, Segment}
use Rattle.map_model.specs.Index.{IndexSet, Index, Range, Near, Top, Stab, Cross, fits, may_be_late}
use Rattle.map_model.specs.Answer as questions
use Rattle.map_model.specs.Command.{Command, Livemap, MakeLayer, MakeIndex, Add, Move, Drop, Ask, Get, Size, Recent, name_of, is_nameless}
use Rattle.map_model.specs.Form.{greatest_amount}

-- a word, where something holds
abbrev pub word_if : Bool → List ℕ → List (List ℕ)
word_if b word = if b then word ∷ [] else []

-- the word of a kind
abbrev pub kind_word : Kind → List ℕ
kind_word Points = codes "points"
kind_word Segments = codes "segments"

-- the words of indexes, in the order `range near top stab cross batch`
abbrev pub index_words : IndexSet → List (List ℕ)
index_words s =
    word_if s.range (codes "range") ++ word_if s.near (codes "near") ++ word_if s.top (codes "top") ++ word_if s.stab (codes "stab")
    ++ word_if s.cross (codes "cross") ++ word_if s.batch (codes "batch")

-- the word of an index
abbrev pub index_word : Index → List ℕ
index_word Range = codes "range"
index_word Near = codes "near"
index_word Top = codes "top"
index_word Stab = codes "stab"
index_word Cross = codes "cross"

-- the word of a version
abbrev pub version_word : Version → List ℕ
version_word One = codes "1"
version_word Two = codes "2"

-- the words of an identifier, a place and a weight
abbrev pub point_words : Version → ℕ → ℕ → ℕ → ℕ → List (List ℕ)
point_words version id x y w = decimal id ∷ coordinate_text version x ∷ coordinate_text version y ∷ decimal w ∷ []

-- the corners of a rectangle
abbrev pub rect_words : Version → Rect → List (List ℕ)
rect_words version r = coordinate_text version r.x1 ∷ coordinate_text version r.y1 ∷ coordinate_text version r.x2 ∷ coordinate_text version r.y2 ∷ []

-- the words of the line that asks a question
abbrev pub question_words : Version → List ℕ → questions.Question → List (List ℕ)
question_words version name (questions.CountIn rect) = codes "count" ∷ name ∷ rect_words version rect
question_words version name (questions.SumIn rect) = codes "sum" ∷ name ∷ rect_words version rect
question_words version name (questions.ListIn rect) = codes "list" ∷ name ∷ rect_words version rect
question_words version name (questions.Near x y) = codes "near" ∷ name ∷ coordinate_text version x ∷ coordinate_text version y ∷ []
question_words version name (questions.Nearest k x y) = codes "nearest" ∷ name ∷ decimal k ∷ coordinate_text version x ∷ coordinate_text version y ∷ []
question_words version name (questions.Above x1 x2 y) =
    codes "above" ∷ name ∷ coordinate_text version x1 ∷ coordinate_text version x2 ∷ coordinate_text version y ∷ []
question_words version name (questions.Top x1 x2) = codes "top" ∷ name ∷ coordinate_text version x1 ∷ coordinate_text version x2 ∷ []
question_words version name (questions.Stab x) = codes "stab" ∷ name ∷ coordinate_text version x ∷ []
question_words version name (questions.StabCount x) = codes "stabcount" ∷ name ∷ coordinate_text version x ∷ []
question_words version name (questions.CrossIn x y1 y2) =
    codes "cross" ∷ name ∷ coordinate_text version x ∷ coordinate_text version y1 ∷ coordinate_text version y2 ∷ []
question_words version name (questions.CrossCount x y1 y2) =
    codes "crosscount" ∷ name ∷ coordinate_text version x ∷ coordinate_text version y1 ∷ coordinate_text version y2 ∷ []

-- the words of a command's line
abbrev pub command_words : Version → Command → List (List ℕ)
command_words version (Livemap chosen) = codes "livemap" ∷ version_word chosen ∷ []
command_words version (MakeLayer name kind indexes) = codes "layer" ∷ name ∷ kind_word kind ∷ index_words indexes
command_words version (MakeIndex name index) = codes "index" ∷ name ∷ index_word index ∷ []
command_words version (Add name id (Point x y w)) = codes "add" ∷ name ∷ point_words version id x y w
command_words version (Add name id (Segment lo hi y)) =
    codes "seg" ∷ name ∷ decimal id ∷ coordinate_text version lo ∷ coordinate_text version hi ∷ coordinate_text version y ∷ []
command_words version (Move name id x y w) = codes "move" ∷ name ∷ point_words version id x y w
command_words version (Drop name id) = codes "drop" ∷ name ∷ decimal id ∷ []
command_words version (Ask name question) = question_words version name question
command_words version (Get name id) = codes "get" ∷ name ∷ decimal id ∷ []
command_words version (Size name) = codes "size" ∷ name ∷ []
command_words version (Recent name k) = codes "recent" ∷ name ∷ decimal k ∷ []

-- words with a space between each two
abbrev pub spaced_words : List (List ℕ) → List ℕ
spaced_words [] = []
spaced_words (word ∷ []) = word
spaced_words (word ∷ next ∷ words) = word ++ 32 ∷ spaced_words (next ∷ words)

-- the line that a command is written as: one space between words, numbers without leading zeros, indexes in the order `range near top stab cross batch`
abbrev pub command_line : Version → Command → List ℕ
command_line version command = spaced_words (command_words version command)

-- ---- which commands a line can say

-- a number that a coordinate may be kept as
abbrev pub IsCoordinate : Version → ℕ → Type 0
IsCoordinate version n = n ≤ kept version greatest_coordinate

-- a number that a weight may be
abbrev pub IsWeight : ℕ → Type 0
IsWeight n = n ≤ greatest_weight

-- a number that one may ask for
abbrev pub IsAmount : ℕ → Type 0
IsAmount k = (1 ≤ k) × (k ≤ greatest_amount)

-- a rectangle's numbers are within their limits, and its corners in order
abbrev pub IsRect : Version → Rect → Type 0
IsRect version r = (r.x1 ≤ r.x2) × (r.y1 ≤ r.y2) × IsCoordinate version r.x2 × IsCoordinate version r.y2

-- a shape's numbers are within their limits, and the ends of a segment in order
abbrev pub IsShape : Version → Shape → Type 0
IsShape version (Point x y w) = IsCoordinate version x × IsCoordinate version y × IsWeight w
IsShape version (Segment lo hi y) = (lo ≤ hi) × IsCoordinate version hi × IsCoordinate version y

-- a question's numbers are within their limits, and its coordinates in order
abbrev pub IsQuestion : Version → questions.Question → Type 0
IsQuestion version (questions.CountIn rect) = IsRect version rect
IsQuestion version (questions.SumIn rect) = IsRect version rect
IsQuestion version (questions.ListIn rect) = IsRect version rect
IsQuestion version (questions.Near x y) = IsCoordinate version x × IsCoordinate version y
IsQuestion version (questions.Nearest k x y) = IsAmount k × IsCoordinate version x × IsCoordinate version y
IsQuestion version (questions.Above x1 x2 y) = (x1 ≤ x2) × IsCoordinate version x2 × IsCoordinate version y
IsQuestion version (questions.Top x1 x2) = (x1 ≤ x2) × IsCoordinate version x2
IsQuestion version (questions.Stab x) = IsCoordinate version x
IsQuestion version (questions.StabCount x) = IsCoordinate version x
IsQuestion version (questions.CrossIn x y1 y2) = IsCoordinate version x × (y1 ≤ y2) × IsCoordinate version y2
IsQuestion version (questions.CrossCount x y1 y2) = IsCoordinate version x × (y1 ≤ y2) × IsCoordinate version y2

-- a command's numbers are within their limits and in order, the indexes of a new layer fit its kind, and a further one is of points
abbrev pub InLimits : Version → Command → Type 0
InLimits version (Livemap chosen) = ⊤
InLimits version (MakeLayer name kind indexes) = fits kind indexes ≡ true
InLimits version (MakeIndex name index) = may_be_late index ≡ true
InLimits version (Add name id shape) = (id ≤ greatest_id) × IsShape version shape
InLimits version (Move name id x y w) = (id ≤ greatest_id) × IsShape version (Point x y w)
InLimits version (Drop name id) = id ≤ greatest_id
InLimits version (Ask name question) = IsQuestion version question
InLimits version (Get name id) = id ≤ greatest_id
InLimits version (Size name) = ⊤
InLimits version (Recent name k) = IsAmount k

-- a command that a line of a version can say: the name of its layer, if it has one, is a name, its numbers are within their limits and in
-- order, and its indexes fit the kind
pub record IsCommand (version : Version) (command : Command) : Type 0 where
  pub named : (is_nameless command || is_name (name_of command)) ≡ true
  pub in_limits : InLimits version command
