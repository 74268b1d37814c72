-- What a line may ask for.
use Rattle.std.specs.Prelude.{ℕ, List, [], Bool, true, false}
use Rattle.map_model.specs.Version.{Version}
use Rattle.map_model.specs.Shape.{Shape, Kind}
use Rattle.map_model.specs.Index.{IndexSet, Index}
use Rattle.map_model.specs.Answer as questions

-- a command about the layer of a name, or about the map
pub data Command : Type 0 where
  -- the version of the lines that follow
  Livemap : (version : Version) → Command
  -- a new layer, which has no items
  MakeLayer : (name : List ℕ) (kind : Kind) (indexes : IndexSet) → Command
  -- a further index for a layer, which is ready once it was handed all items
  MakeIndex : (name : List ℕ) (index : Index) → Command
  -- `add` of a point and `seg` of a segment
  Add : (name : List ℕ) (id : ℕ) (shape : Shape) → Command
  -- the point of an identifier has this place and weight from now on, as if it were dropped and added again
  Move : (name : List ℕ) (id x y w : ℕ) → Command
  -- the item of an identifier goes
  Drop : (name : List ℕ) (id : ℕ) → Command
  -- a question about the items
  Ask : (name : List ℕ) (question : questions.Question) → Command
  -- the shape of an identifier
  Get : (name : List ℕ) (id : ℕ) → Command
  -- how many live items there are
  Size : (name : List ℕ) → Command
  -- the identifiers of the last k items, the last one first
  Recent : (name : List ℕ) (k : ℕ) → Command

-- the layer that a command names; none is named by an empty list
abbrev pub name_of : Command → List ℕ
name_of (Livemap version) = []
name_of (MakeLayer name kind indexes) = name
name_of (MakeIndex name index) = name
name_of (Add name id shape) = name
name_of (Move name id x y w) = name
name_of (Drop name id) = name
name_of (Ask name question) = name
name_of (Get name id) = name
name_of (Size name) = name
name_of (Recent name k) = name

-- the command is about no layer
abbrev pub is_nameless : Command → Bool
is_nameless (Livemap version) = true
is_nameless (MakeLayer name kind indexes) = false
is_nameless (MakeIndex name index) = false
is_nameless (Add name id shape) = false
is_nameless (Move name id x y w) = false
is_nameless (Drop name id) = false
is_nameless (Ask name question) = false
is_nameless (Get name id) = false
is_nameless (Size name) = false
is_nameless (Recent name k) = false

-- a question that memory may refuse is one for a list of any length
abbrev pub lists_ids : questions.Question → Bool
lists_ids (questions.CountIn rect) = false
lists_ids (questions.SumIn rect) = false
lists_ids (questions.ListIn rect) = true
lists_ids (questions.Near x y) = false
lists_ids (questions.Nearest k x y) = false
lists_ids (questions.Above x1 x2 y) = true
lists_ids (questions.Top x1 x2) = false
lists_ids (questions.Stab x) = true
lists_ids (questions.StabCount x) = false
lists_ids (questions.CrossIn x y1 y2) = true
lists_ids (questions.CrossCount x y1 y2) = false

-- the commands that memory may refuse
abbrev pub takes_memory : Command → Bool
takes_memory (Livemap version) = false
takes_memory (MakeLayer name kind indexes) = false
takes_memory (MakeIndex name index) = false
takes_memory (Add name id shape) = true
takes_memory (Move name id x y w) = true
takes_memory (Drop name id) = true
takes_memory (Ask name question) = lists_ids question
takes_memory (Get name id) = false
takes_memory (Size name) = false
takes_memory (Recent name k) = false
