-- The forms of a line, as a table: a command word, the numbers after it and the name of a layer, and which of them are
-- in order.
use Rattle.std.specs.Prelude.{ℕ, Bool, true, false, ◌&&◌, List, [], ◌∷◌, Option, codes, bytes_eq, nat_le, slice_index}
use Rattle.std.specs.List.{find}
use Rattle.map_model.specs.Words.{greatest_id, greatest_weight}
use Rattle.map_model.specs.Version.{greatest_coordinate}

-- what number stands in a word
pub data Field : Type 0 where
  -- an identifier
  Id : Field
  -- a coordinate, which may be below zero in version 2
  Coordinate : Field
  -- a weight
  Weight : Field
  -- how many are asked for
  Amount : Field
  -- a version of the script
  VersionNumber : Field

-- the least and the greatest number of a field, where it has no `-`
pub record Limits : Type 0 where
  pub least : ℕ
  pub greatest : ℕ

-- as many as may be asked for
abbrev pub greatest_amount : ℕ
greatest_amount = 64

-- an identifier has 64 bits, a coordinate without its sign and a weight 31, an amount is from 1 to 64, and a version 1 or 2
abbrev pub limits_of : Field → Limits
limits_of Id = record { least = 0; greatest = greatest_id }
limits_of Coordinate = record { least = 0; greatest = greatest_coordinate }
limits_of Weight = record { least = 0; greatest = greatest_weight }
limits_of Amount = record { least = 1; greatest = greatest_amount }
limits_of VersionNumber = record { least = 1; greatest = 2 }

-- which coordinates are in order
pub data Order : Type 0 where
  -- no order is asked for
  Free : Order
  -- the first is at most the second
  Ends : Order
  -- the second is at most the third
  Heights : Order
  -- the first is at most the third, and the second at most the fourth
  Corners : Order

-- the coordinates are in order
abbrev pub is_ordered : Order → List ℕ → Bool
is_ordered Free places = true
is_ordered Ends places = nat_le (slice_index places 0) (slice_index places 1)
is_ordered Heights places = nat_le (slice_index places 1) (slice_index places 2)
is_ordered Corners places = nat_le (slice_index places 0) (slice_index places 2) && nat_le (slice_index places 1) (slice_index places 3)

-- what follows the numbers of a line
pub data Tail : Type 0 where
  -- nothing
  Bare : Tail
  -- a kind and one or more indexes
  Indexes : Tail
  -- one index
  OneIndex : Tail

-- a line's form: a command word, mostly the name of a layer, numbers, and for a new layer its kind and indexes
pub record Form : Type 0 where
  pub word : List ℕ
  -- whether the name of a layer follows
  pub has_name : Bool
  -- the numbers after the name
  pub fields : List Field
  pub tail : Tail
  pub order : Order

-- the command words, one a form
pub data Verb : Type 0 where
  Livemap : Verb
  Layer : Verb
  Index : Verb
  Add : Verb
  Seg : Verb
  Move : Verb
  Drop : Verb
  Count : Verb
  Sum : Verb
  ListIds : Verb
  Near : Verb
  Nearest : Verb
  Above : Verb
  Top : Verb
  Stab : Verb
  StabCount : Verb
  Cross : Verb
  CrossCount : Verb
  Get : Verb
  Size : Verb
  Recent : Verb

-- a form of a name and numbers
abbrev pub row : List ℕ → List Field → Order → Form
row word fields order = record { word = word; has_name = true; fields = fields; tail = Bare; order = order }

-- the corners of a rectangle
abbrev pub corner_fields : List Field
corner_fields = Coordinate ∷ Coordinate ∷ Coordinate ∷ Coordinate ∷ []

-- an identifier, a place and a weight
abbrev pub point_fields : List Field
point_fields = Id ∷ Coordinate ∷ Coordinate ∷ Weight ∷ []

-- the table: each command word with the fields of the numbers after the name, and which of them are in order
unfoldable pub form : Verb → Form
form Livemap = record { word = codes "livemap"; has_name = false; fields = VersionNumber ∷ []; tail = Bare; order = Free }
form Layer = record { word = codes "layer"; has_name = true; fields = []; tail = Indexes; order = Free }
form Index = record { word = codes "index"; has_name = true; fields = []; tail = OneIndex; order = Free }
form Add = row (codes "add") point_fields Free
form Seg = row (codes "seg") (Id ∷ Coordinate ∷ Coordinate ∷ Coordinate ∷ []) Ends
form Move = row (codes "move") point_fields Free
form Drop = row (codes "drop") (Id ∷ []) Free
form Count = row (codes "count") corner_fields Corners
form Sum = row (codes "sum") corner_fields Corners
form ListIds = row (codes "list") corner_fields Corners
form Near = row (codes "near") (Coordinate ∷ Coordinate ∷ []) Free
form Nearest = row (codes "nearest") (Amount ∷ Coordinate ∷ Coordinate ∷ []) Free
form Above = row (codes "above") (Coordinate ∷ Coordinate ∷ Coordinate ∷ []) Ends
form Top = row (codes "top") (Coordinate ∷ Coordinate ∷ []) Ends
form Stab = row (codes "stab") (Coordinate ∷ []) Free
form StabCount = row (codes "stabcount") (Coordinate ∷ []) Free
form Cross = row (codes "cross") (Coordinate ∷ Coordinate ∷ Coordinate ∷ []) Heights
form CrossCount = row (codes "crosscount") (Coordinate ∷ Coordinate ∷ Coordinate ∷ []) Heights
form Get = row (codes "get") (Id ∷ []) Free
form Size = row (codes "size") [] Free
form Recent = row (codes "recent") (Amount ∷ []) Free

-- all command words
unfoldable pub verbs : List Verb
verbs = Livemap ∷ Layer ∷ Index ∷ Add ∷ Seg ∷ Move ∷ Drop ∷ Count ∷ Sum ∷ ListIds ∷ Near ∷ Nearest ∷ Above ∷ Top ∷ Stab ∷ StabCount ∷ Cross ∷ CrossCount ∷ Get ∷ Size ∷ Recent ∷ []

-- the verb of a command word
abbrev pub verb_of : List ℕ → Option Verb
verb_of word = find (λ verb. bytes_eq (form verb).word word) verbs
