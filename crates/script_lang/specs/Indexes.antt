-- The kind and the indexes that words say.
use Rattle.std.specs.Prelude.{ℕ, ◌+◌, nat_lt, ◌||◌, not, true, false, List, [], ◌∷◌, Option, Some, None, Result, Ok, Err, bytes_eq, codes, if◌then◌else◌}
use Rattle.map_model.specs.Index as model
use Rattle.map_model.specs.Shape as shapes
use Rattle.map_model.specs.LineFault as faults
use Rattle.map_model.specs.Form as forms
use Rattle.map_model.specs.Grammar.{point_index}
use Rattle.map_shapes.specs.declared.kind.Kind.{Kind}
use Rattle.map_shapes.specs.declared.kind.Kind.TheVariants.{Points, Segments}
use Rattle.map_shapes.specs.declared.index_set.IndexSet.{IndexSet}
use Rattle.map_shapes.specs.Kind.{kind_of}
use Rattle.map_shapes.specs.IndexSet.{index_set_of, index_of}
use Rattle.script_lang.specs.declared.indexes.Ending.{Ending}
use Rattle.script_lang.specs.declared.line_fault.LineFault.{LineFault}
use Rattle.script_lang.specs.LineFault.{fault_of}

-- the kind that a word names
abbrev pub kind_in : List ℕ → Option Kind
kind_in word =
    if bytes_eq word (codes "points") then Some Points
    else (if bytes_eq word (codes "segments") then Some Segments else None)

-- no index at all
abbrev pub no_index : IndexSet
no_index = record { range = false; near = false; top = false; stab = false; cross = false; batch = false }

-- the index of a word beside the others
abbrev pub with_index : IndexSet → List ℕ → IndexSet
with_index s word =
    if bytes_eq word (codes "range") then record s { range = true }
    else (if bytes_eq word (codes "near") then record s { near = true }
    else (if bytes_eq word (codes "top") then record s { top = true }
    else (if bytes_eq word (codes "stab") then record s { stab = true }
    else (if bytes_eq word (codes "cross") then record s { cross = true }
    else (if bytes_eq word (codes "batch") then record s { batch = true } else s)))))

-- the indexes of words beside the others
abbrev pub with_index_words : List (List ℕ) → IndexSet → IndexSet
with_index_words [] s = s
with_index_words (word ∷ words) s = with_index_words words (with_index s word)

-- how many words a set has: one an index, and that of parts that are joined at once
abbrev pub word_count : model.IndexSet → ℕ
word_count s = model.index_count s + model.one_if s.batch

-- a kind and a set of indexes, or what is wrong with them
abbrev pub Layer : Type 0
Layer = Result (shapes.Kind × model.IndexSet) faults.LineFault

-- the kind of a word with the indexes among the words behind it; Kind where there is none
abbrev pub kind_layer : Option Kind → List (List ℕ) → Layer
kind_layer None words = Err faults.Kind
kind_layer (Some kind) words = Ok (kind_of kind, index_set_of (with_index_words words no_index))

-- the kind of the first word with the indexes among those behind it, and points with none where there is no word
abbrev pub layer_in : List (List ℕ) → Layer
layer_in [] = Ok (shapes.Points, model.no_indexes)
layer_in (word ∷ words) = kind_layer (kind_in word) words

-- the kind and the indexes that were read, as the definitions have them
abbrev pub layer_of : Result (Kind × IndexSet) LineFault → Layer
layer_of (Ok found) = Ok (kind_of found.0, index_set_of found.1)
layer_of (Err fault) = Err (fault_of fault)

-- a kind, indexes and one index, or what is wrong with them
abbrev pub Ended : Type 0
Ended = Result (shapes.Kind × model.IndexSet × model.Index) faults.LineFault

-- With fewer indexes than words behind the kind one of these isn't an index, or stands twice; and the indexes fit the kind.
abbrev pub ended_layer : ℕ → Layer → Ended
ended_layer left (Ok layer) =
    if nat_lt (word_count layer.1 + 1) left || not (model.fits layer.0 layer.1) then Err faults.Index else Ok (layer.0, layer.1, model.Range)
ended_layer left (Err fault) = Err fault

-- one index that was found
abbrev pub ended_index : Option model.Index → Ended
ended_index None = Err faults.Index
ended_index (Some index) = Ok (shapes.Points, model.no_indexes, index)

-- the index of points that the first of some words names
abbrev pub index_among : List (List ℕ) → Option model.Index
index_among [] = None
index_among (word ∷ words) = point_index word

-- what the words behind the numbers say, so many as follow them
abbrev pub ending_in : forms.Tail → ℕ → List (List ℕ) → Ended
ending_in forms.Bare left words = Ok (shapes.Points, model.no_indexes, model.Range)
ending_in forms.Indexes left words = ended_layer left (layer_in words)
ending_in forms.OneIndex left words = ended_index (index_among words)

-- what was read of them, as the definitions have it
abbrev pub ending_of : Result Ending LineFault → Ended
ending_of (Ok found) = Ok (kind_of found.kind, index_set_of found.indexes, index_of found.index)
ending_of (Err fault) = Err (fault_of fault)
