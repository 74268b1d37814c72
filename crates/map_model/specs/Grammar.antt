-- What a line of bytes without its line feed says in a version of the script: nothing, a command, or the first fault that holds, step by step.
use Rattle.std.specs.Prelude.{◌==◌, ℕ, ◌+◌, ◌-◌, Bool, true, false, ◌&&◌, ◌||◌, not, List, [], ◌∷◌, ◌++◌, length, take, drop, Option, Some, None, Result, Ok, Err, nat_le, nat_lt, slice_index, bytes_eq, nat_eq, codes, if◌then◌else◌}
use Rattle.std.specs.List.{list_all, list_any, starts_with}
use Rattle.std.specs.Str.{all_ascii_digits}
use Rattle.std.specs.Str.Parse.{digits_value}
use Rattle.map_model.specs.Version.{Version, One, Two, negatives, kept}
use Rattle.map_model.specs.Shape.{Rect}
use Rattle.map_model.specs.Words.{words, is_filled, is_name, longest_line}
use Rattle.map_model.specs.Shape.{Kind, Points, Segments, Point, Segment}
use Rattle.map_model.specs.Index.{IndexSet, Index, Range, Near, Top, no_indexes, fits}
use Rattle.map_model.specs.Answer as questions
use Rattle.map_model.specs.Command.{Command, Livemap, MakeLayer, MakeIndex, Add, Move, Drop, Ask, Get, Size, Recent}
use Rattle.map_model.specs.LineFault.{LineFault}
use Rattle.map_model.specs.LineFault as faults
use Rattle.map_model.specs.Form.{Field, Id, Coordinate, Weight, Amount, VersionNumber, limits_of, Tail, Bare, Indexes, OneIndex, Form, form, is_ordered, verb_of}
use Rattle.map_model.specs.Form as verbs

-- ---- bytes

-- the line without one CR at its end
abbrev pub without_return : List ℕ → List ℕ
without_return line = if slice_index line (length line - 1) == 13 then take (length line - 1) line else line

-- a tab, or a byte from the space to the tilde
abbrev pub is_printable : ℕ → Bool
is_printable byte = (byte == 9) || (nat_le 32 byte && nat_le byte 126)

-- ---- fields

-- the word begins with a `-`, and the field is one that may have it: a coordinate of version 2
abbrev pub has_minus : Version → Field → List ℕ → Bool
has_minus One field word = false
has_minus Two Id word = false
has_minus Two Coordinate word = starts_with nat_eq word (45 ∷ [])
has_minus Two Weight word = false
has_minus Two Amount word = false
has_minus Two VersionNumber word = false

-- the word without that `-`
abbrev pub unsigned : Version → Field → List ℕ → List ℕ
unsigned version field word = if has_minus version field word then drop 1 word else word

-- one or more ASCII digits, after a `-` where one may stand
abbrev pub is_digits : Version → Field → List ℕ → Bool
is_digits version field word = is_filled (unsigned version field word) && all_ascii_digits (unsigned version field word)

-- a number within the limits of its field
abbrev pub is_within : Field → ℕ → Bool
is_within field n = nat_le (limits_of field).least n && nat_le n (limits_of field).greatest

-- the number that a word says is within the limits of its field, or at most 2 ^ 31 below zero
abbrev pub is_in_range : Version → Field → List ℕ → Bool
is_in_range version field word =
    if has_minus version field word then nat_le (digits_value 10 (drop 1 word)) negatives
    else is_within field (digits_value 10 word)

-- what a number without `-` is kept as
abbrev pub kept_in : Version → Field → ℕ → ℕ
kept_in version Coordinate n = kept version n
kept_in version Id n = n
kept_in version Weight n = n
kept_in version Amount n = n
kept_in version VersionNumber n = n

-- what the number that a word says is kept as
abbrev pub number_of : Version → Field → List ℕ → ℕ
number_of version field word =
    if has_minus version field word then negatives - digits_value 10 (drop 1 word)
    else kept_in version field (digits_value 10 word)

-- a test passes for each field and the word that stands in it
abbrev pub all_fields : (Field → List ℕ → Bool) → List Field → List (List ℕ) → Bool
all_fields test [] words = true
all_fields test (field ∷ fields) [] = true
all_fields test (field ∷ fields) (word ∷ words) = test field word && all_fields test fields words

-- so many words are one a field and a tail
abbrev pub is_tailed : Tail → ℕ → ℕ → Bool
is_tailed Bare fields words = words == fields
is_tailed Indexes fields words = nat_le (fields + 2) words
is_tailed OneIndex fields words = words == (fields + 1)

-- one word a field, and then a tail
abbrev pub has_words : Form → List (List ℕ) → Bool
has_words f words = is_tailed f.tail (length f.fields) (length words)

-- ---- what the fields say

-- what the words after the command word say
pub record Values : Type 0 where
  pub version : Version
  pub name : List ℕ
  pub id : ℕ
  -- coordinates and weights, in the order of the line
  pub places : List ℕ
  pub amount : ℕ
  pub kind : Kind
  pub indexes : IndexSet
  -- the index of a line with one
  pub index : Index

-- a name and nothing else
abbrev pub named : List ℕ → Values
named name = record { version = One; name = name; id = 0; places = []; amount = 0; kind = Points; indexes = no_indexes; index = Range }

-- the version of a number
abbrev pub version_of : ℕ → Version
version_of n = if n == 2 then Two else One

-- the values, and a number in its field
abbrev pub with_value : Field → ℕ → Values → Values
with_value Id n v = record v { id = n }
with_value Coordinate n v = record v { places = v.places ++ n ∷ [] }
with_value Weight n v = record v { places = v.places ++ n ∷ [] }
with_value Amount n v = record v { amount = n }
with_value VersionNumber n v = record v { version = version_of n }

-- the values, and those of the words in these fields
abbrev pub with_values : Version → List Field → List (List ℕ) → Values → Values
with_values version [] words v = v
with_values version (field ∷ fields) [] v = v
with_values version (field ∷ fields) (word ∷ words) v = with_values version fields words (with_value field (number_of version field word) v)

-- the place of a number in the order of the line
abbrev pub place : Values → ℕ → ℕ
place v k = slice_index v.places k

-- the rectangle of the first four coordinates
abbrev pub rect_of : Values → Rect
rect_of v = record { x1 = place v 0; y1 = place v 1; x2 = place v 2; y2 = place v 3 }

-- the command of a verb with these values
unfoldable pub command_of : verbs.Verb → Values → Command
command_of verbs.Livemap v = Livemap v.version
command_of verbs.Layer v = MakeLayer v.name v.kind v.indexes
command_of verbs.Index v = MakeIndex v.name v.index
command_of verbs.Add v = Add v.name v.id (Point (place v 0) (place v 1) (place v 2))
command_of verbs.Seg v = Add v.name v.id (Segment (place v 0) (place v 1) (place v 2))
command_of verbs.Move v = Move v.name v.id (place v 0) (place v 1) (place v 2)
command_of verbs.Drop v = Drop v.name v.id
command_of verbs.Count v = Ask v.name (questions.CountIn (rect_of v))
command_of verbs.Sum v = Ask v.name (questions.SumIn (rect_of v))
command_of verbs.ListIds v = Ask v.name (questions.ListIn (rect_of v))
command_of verbs.Near v = Ask v.name (questions.Near (place v 0) (place v 1))
command_of verbs.Nearest v = Ask v.name (questions.Nearest v.amount (place v 0) (place v 1))
command_of verbs.Above v = Ask v.name (questions.Above (place v 0) (place v 1) (place v 2))
command_of verbs.Top v = Ask v.name (questions.Top (place v 0) (place v 1))
command_of verbs.Stab v = Ask v.name (questions.Stab (place v 0))
command_of verbs.StabCount v = Ask v.name (questions.StabCount (place v 0))
command_of verbs.Cross v = Ask v.name (questions.CrossIn (place v 0) (place v 1) (place v 2))
command_of verbs.CrossCount v = Ask v.name (questions.CrossCount (place v 0) (place v 1) (place v 2))
command_of verbs.Get v = Get v.name v.id
command_of verbs.Size v = Size v.name
command_of verbs.Recent v = Recent v.name v.amount

-- ---- kinds and indexes

-- a word of an index, or that of parts that are joined at once
abbrev pub is_index_word : List ℕ → Bool
is_index_word word =
    bytes_eq word (codes "range") || bytes_eq word (codes "near") || bytes_eq word (codes "top") || bytes_eq word (codes "stab")
    || bytes_eq word (codes "cross") || bytes_eq word (codes "batch")

-- no word stands twice
abbrev pub is_distinct : List (List ℕ) → Bool
is_distinct [] = true
is_distinct (word ∷ words) = not (list_any (bytes_eq word) words) && is_distinct words

-- the set of the indexes that words name
abbrev pub index_set : List (List ℕ) → IndexSet
index_set words = record {
  range = list_any (λ word. bytes_eq word (codes "range")) words;
  near = list_any (λ word. bytes_eq word (codes "near")) words;
  top = list_any (λ word. bytes_eq word (codes "top")) words;
  stab = list_any (λ word. bytes_eq word (codes "stab")) words;
  cross = list_any (λ word. bytes_eq word (codes "cross")) words;
  batch = list_any (λ word. bytes_eq word (codes "batch")) words;
}

-- the index of points that a word names
abbrev pub point_index : List ℕ → Option Index
point_index word =
    if bytes_eq word (codes "range") then Some Range
    else (if bytes_eq word (codes "near") then Some Near
    else (if bytes_eq word (codes "top") then Some Top else None))

-- what a line says: a command, or nothing, or what is wrong with it
abbrev pub Parsed : Type 0
Parsed = Result (Option Command) LineFault

-- the words name indexes that fit the kind, and none stands twice
abbrev pub parse_indexes : verbs.Verb → Values → Kind → List (List ℕ) → Parsed
parse_indexes verb v kind words =
    if list_all is_index_word words && is_distinct words && fits kind (index_set words) then Ok (Some (command_of verb (record v { kind = kind; indexes = index_set words })))
    else Err faults.Index

-- the kind and the indexes at the end of a line that makes a layer: Kind where it is neither `points` nor `segments`
abbrev pub parse_kind : verbs.Verb → Values → List (List ℕ) → Parsed
parse_kind verb v [] = Err faults.Fields
parse_kind verb v (word ∷ words) =
    if bytes_eq word (codes "points") then parse_indexes verb v Points words
    else (if bytes_eq word (codes "segments") then parse_indexes verb v Segments words else Err faults.Kind)

-- the index that a layer in use is given
abbrev pub parse_index : verbs.Verb → Values → Option Index → Parsed
parse_index verb v None = Err faults.Index
parse_index verb v (Some index) = Ok (Some (command_of verb (record v { index = index })))

-- the words behind the numbers
abbrev pub parse_tail : verbs.Verb → Tail → Values → List (List ℕ) → Parsed
parse_tail verb Bare v words = Ok (Some (command_of verb v))
parse_tail verb Indexes v words = parse_kind verb v words
parse_tail verb OneIndex v [] = Err faults.Fields
parse_tail verb OneIndex v (word ∷ words) = parse_index verb v (point_index word)

-- ---- lines

-- the name and the words after it, in the form of a verb: the first fault that holds
abbrev pub parse_fields : Version → verbs.Verb → Form → List ℕ → List (List ℕ) → Parsed
parse_fields version verb f name words =
    if not (has_words f words) then Err faults.Fields
    else (if f.has_name && not (is_name name) then Err faults.Name
    else (if not (all_fields (is_digits version) f.fields words) then Err faults.Number
    else (if not (all_fields (is_in_range version) f.fields words) then Err faults.Range
    else (if not (is_ordered f.order (with_values version f.fields words (named name)).places) then Err faults.Order
    else parse_tail verb f.tail (with_values version f.fields words (named name)) (drop (length f.fields) words)))))

-- the words after the command word, in a form with a name: the first one is the name
abbrev pub parse_named : Version → verbs.Verb → Form → List (List ℕ) → Parsed
parse_named version verb f [] = Err faults.Fields
parse_named version verb f (name ∷ words) = parse_fields version verb f name words

-- the words after the command word
abbrev pub parse_form : Version → verbs.Verb → Form → List (List ℕ) → Parsed
parse_form version verb f words = if f.has_name then parse_named version verb f words else parse_fields version verb f [] words

-- the words after a command word that was looked up: Command where there is none
abbrev pub parse_verb : Version → Option verbs.Verb → List (List ℕ) → Parsed
parse_verb version None words = Err faults.Command
parse_verb version (Some verb) words = parse_form version verb (form verb) words

-- a line with no word, or whose first word begins with `#`, says nothing, whatever other bytes it has
abbrev pub parse_words : Version → List ℕ → List (List ℕ) → Parsed
parse_words version line [] = Ok None
parse_words version line (word ∷ words) =
    if starts_with (λ a b. a == b) word (35 ∷ []) then Ok None
    else (if not (list_all is_printable line) then Err faults.Line
    else parse_verb version (verb_of word) words)

-- a line whose carriage return is dropped: Line where it has more than 256 bytes
abbrev pub parse_text : Version → List ℕ → Parsed
parse_text version line = if nat_lt longest_line (length line) then Err faults.Line else parse_words version line (words line)

-- What a line says in a version of the script. The first fault that holds is the answer, in this order: more than 256 bytes, one carriage return at the end not counted
-- (Line); a line without a word or of a comment says nothing; a byte that isn't printable (Line); no command word (Command); another number of
-- words than the form's (Fields); no name (Name); a number that isn't digits, after a `-` for a coordinate of version 2 (Number), or past its limits (Range); coordinates out of order
-- (Order); no kind (Kind); indexes that don't fit the kind, or one that comes twice; one for a layer in use that isn't of points (Index).
abbrev pub parse : Version → List ℕ → Parsed
parse version line = parse_text version (without_return line)
