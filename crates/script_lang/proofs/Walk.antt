-- One walk over the words of a form meets the first fault of its steps.
use Rattle.std.proofs.Common.{◌≡◌, ◌⊎◌, ℕ, ◌+◌, ◌-◌, ◌^◌, ◌<◌, ◌≤◌, Bool, true, false, cond, not, ◌&&◌, ◌||◌, nat_le, nat_lt, nat_eq, List, [], ◌∷◌, codes, length, drop, Option, Some, None, Result, Ok, Err, bytes_eq, count_by, arith, refl, sym, ap, ◌∙◌, subst, inl, inr, length-drop, length-append, get_or}
use Rattle.std.proofs.Math.Bool.{and-false, and-true}
use Rattle.std.proofs.lemmas.List.{length-map}
use Rattle.std.proofs.lemmas.List.Sums.{count_by-le-length, sum_by-drop_more}
use Rattle.std.specs.List.{list_all, starts_with}
use Rattle.std.specs.Prelude.{ok_or}
use Rattle.std.specs.Str.{all_ascii_digits}
use Rattle.std.specs.Str.Parse.{digits_value}
use Rattle.std.proofs.lemmas.Bool.{cases_Bool, cases_lt, false≢true, true≢false, and_parts}
use Rattle.std.proofs.lemmas.Bool.Decides.{nat_tests}
use Rattle.map_model.specs.Words.{is_name, is_filled, name_field}
use Rattle.map_model.specs.Version.{Version, One, Two, negatives, greatest_coordinate, kept}
use Rattle.map_model.specs.Words as grammar
use Rattle.map_model.specs.Shape as shapes
use Rattle.map_model.specs.Index.{IndexSet, Index, Range, fits}
use Rattle.map_model.specs.LineFault as faults
use Rattle.map_model.specs.Form as model
use Rattle.map_model.specs.Grammar.{Values, Parsed, named, is_digits, is_within, is_in_range, number_of, all_fields, is_tailed, has_words, with_value, with_values, command_of, is_index_word, is_distinct, index_set, point_index, parse_indexes, parse_kind, parse_index, parse_tail, parse_fields, parse_named, parse_form, parse_verb}
use Rattle.map_shapes.specs.declared.kind.Kind.{Kind}
use Rattle.map_shapes.specs.declared.kind.Kind.TheVariants.{Points, Segments}
use Rattle.map_shapes.specs.Kind.{kind_of}
use Rattle.map_shapes.specs.IndexSet.{index_set_of}
use Rattle.map_shapes.specs.Version.{version_of, kept_above, kept_below}
use Rattle.map_shapes.specs.declared.version.Version.TheVariants as versions
use Rattle.script_lang.specs.declared.form.Field.{Field}
use Rattle.script_lang.specs.declared.form.Field.TheVariants.{Id, Coordinate, Weight, Amount, VersionNumber}
use Rattle.script_lang.specs.declared.form.Form.{Form}
use Rattle.script_lang.specs.declared.numbers.Numbers.{Numbers}
use Rattle.script_lang.specs.declared.line_fault.LineFault.{LineFault}
use Rattle.script_lang.specs.declared.line_fault.LineFault.TheVariants as errors
use Rattle.script_lang.specs.Form.{field_of, fields_of, tail_of, form_of, is_place, verb_of}
use Rattle.script_lang.specs.Numbers.{no_numbers, with_number, kept_number, signed_in, field_in, with_read, with_word, with_words}
use Rattle.script_lang.specs.Read.{has_end, values_in, tailed, ended, finished, walked, parse_printable, no_name, split_name}
use Rattle.script_lang.specs.Indexes.{kind_in, no_index, with_index_words, word_count, kind_layer, ended_layer, ended_index, ending_in}
use Rattle.script_lang.proofs.IndexWords.{set_if, indexes_by_count}

-- ---- numbers

abbrev digits : Version → List Field → List (List ℕ) → Bool
digits version fields words = all_fields (is_digits version) (fields_of fields) words

abbrev ranges : Version → List Field → List (List ℕ) → Bool
ranges version fields words = all_fields (is_in_range version) (fields_of fields) words

-- what a word says in a field
abbrev said_in : Version → Field → List ℕ → ℕ
said_in version field word = number_of version (field_of field) word

-- the numbers of the words, whatever their limits
abbrev with_all : Version → List Field → List (List ℕ) → Numbers → Numbers
with_all version [] words v = v
with_all version (field ∷ fields) [] v = v
with_all version (field ∷ fields) (word ∷ words) v = with_all version fields words (with_number field (said_in version field word) v)

-- what is read of the words
abbrev read_all : Version → List Field → List (List ℕ) → Numbers → Numbers
read_all version [] words v = v
read_all version (field ∷ fields) [] v = v
read_all version (field ∷ fields) (word ∷ words) v = read_all version fields words (with_word version v field word)

abbrev behind : List Field → List (List ℕ) → List (List ℕ)
behind fields words = drop (length fields) words

walk-enough : (version : Version) (fields : List Field) (words : List (List ℕ)) (v : Numbers) → length fields ≤ length words → with_words version fields words v ≡ Some (read_all version fields words v, behind fields words)
walk-enough version [] words v enough = refl
walk-enough version (field ∷ fields) [] v enough = absurd (omega arith)
walk-enough version (field ∷ fields) (word ∷ words) v enough = walk-enough version fields words (with_word version v field word) (omega arith)

walk-few : (version : Version) (fields : List Field) (words : List (List ℕ)) (v : Numbers) → length words < length fields → with_words version fields words v ≡ None
walk-few version [] words v few = absurd (omega arith)
walk-few version (field ∷ fields) [] v few = refl
walk-few version (field ∷ fields) (word ∷ words) v few = walk-few version fields words (with_word version v field word) (omega arith)

-- ---- a number in its field

abbrev number_or_fault : Bool → Bool → ℕ → Result ℕ LineFault
number_or_fault digits' range n = cond digits' (cond range (Ok n) (Err errors.Range)) (Err errors.Number)

-- of a number of digits it is told where it is kept, and Range where it isn't
kept_agrees : (keep : ℕ → Option ℕ) (n k : ℕ) (digits' wide inside : Bool) → (inside ≡ true → (wide ≡ true) × (keep n ≡ Some k)) → (inside ≡ false → keep n ≡ None)
    → kept_number keep (number_or_fault digits' wide n) ≡ number_or_fault digits' inside k
kept_agrees keep n k false wide inside some none = refl
kept_agrees keep n k true wide true some none =
    ap (λ b. kept_number keep (cond b (Ok n) (Err errors.Range))) (some refl).0 ∙ ap (λ (o : Option ℕ). ok_or o errors.Range) (some refl).1
kept_agrees keep n k true true false some none = ap (λ (o : Option ℕ). ok_or o errors.Range) (none refl)
kept_agrees keep n k true false false some none = refl

above_agrees : (version : Version) (digits' : Bool) (n : ℕ) → kept_number (kept_above version) (number_or_fault digits' (nat_le 0 n && nat_le n (2 ^ 64 - 1)) n) ≡ number_or_fault digits' (is_within model.Coordinate n) (kept version n)
above_agrees version digits' n =
    kept_agrees (kept_above version) n (kept version n) digits' (nat_le 0 n && nat_le n (2 ^ 64 - 1)) (is_within model.Coordinate n)
    (λ h. (grind (arith, nat_tests, h), ap (λ b. cond b (Some (kept version n)) None) (and_parts (nat_le 0 n) (nat_le n greatest_coordinate) h).1))
    (λ h. ap (λ b. cond b (Some (kept version n)) None) (let past : nat_le n greatest_coordinate ≡ false = grind (arith, nat_tests, h) in past))

below_agrees : (digits' : Bool) (n : ℕ) → kept_number (kept_below Two) (number_or_fault digits' (nat_le 0 n && nat_le n (2 ^ 64 - 1)) n) ≡ number_or_fault digits' (nat_le n negatives) (negatives - n)
below_agrees digits' n =
    kept_agrees (kept_below Two) n (negatives - n) digits' (nat_le 0 n && nat_le n (2 ^ 64 - 1)) (nat_le n negatives)
    (λ h. (grind (arith, nat_tests, h), ap (λ b. cond b (Some (negatives - n)) None) h))
    (λ h. ap (λ b. cond b (Some (negatives - n)) None) h)

-- what a coordinate of version 2 is, by whether a `-` is before its digits
abbrev two_digits : Bool → List ℕ → List ℕ
two_digits b word = cond b (drop 1 word) word

abbrev two_agrees : Bool → List ℕ → Type 0
two_agrees b word =
    signed_in Two word (cond b (Some (drop 1 word)) None)
    ≡ number_or_fault (is_filled (two_digits b word) && all_ascii_digits (two_digits b word)) (cond b (nat_le (digits_value 10 (drop 1 word)) negatives) (is_within model.Coordinate (digits_value 10 word)))
    (cond b (negatives - digits_value 10 (drop 1 word)) (kept Two (digits_value 10 word)))

signed_agrees : (b : Bool) (word : List ℕ) → two_agrees b word
signed_agrees true word = below_agrees (is_filled (drop 1 word) && all_ascii_digits (drop 1 word)) (digits_value 10 (drop 1 word))
signed_agrees false word = above_agrees Two (is_filled word && all_ascii_digits word) (digits_value 10 word)

-- what is read in a field is what the definitions say of its word
field_agrees : (version : Version) (field : Field) (word : List ℕ) → field_in version field word ≡ number_or_fault (is_digits version (field_of field) word) (is_in_range version (field_of field) word) (said_in version field word)
field_agrees One Id word = refl
field_agrees One Coordinate word = above_agrees One (is_filled word && all_ascii_digits word) (digits_value 10 word)
field_agrees One Weight word = refl
field_agrees One Amount word = refl
field_agrees One VersionNumber word = refl
field_agrees Two Id word = refl
field_agrees Two Coordinate word = signed_agrees (starts_with nat_eq word (45 ∷ [])) word
field_agrees Two Weight word = refl
field_agrees Two Amount word = refl
field_agrees Two VersionNumber word = refl

-- ---- values

one_value : (name : List ℕ) (field : Field) (n : ℕ) (v : Numbers) → with_value (field_of field) n (values_in name v) ≡ values_in name (with_number field n v)
one_value name Id n v = refl
one_value name Coordinate n v = refl
one_value name Weight n v = refl
one_value name Amount n v = refl
one_value name VersionNumber n v = ap (λ (version : Version). record (values_in name v) { version = version }) (same_version (nat_eq n 2))
  where
    same_version : (b : Bool) → cond b Two One ≡ version_of (cond b versions.Two versions.One)
    same_version true = refl
    same_version false = refl

all_values : (version : Version) (name : List ℕ) (fields : List Field) (words : List (List ℕ)) (v : Numbers) → with_values version (fields_of fields) words (values_in name v) ≡ values_in name (with_all version fields words v)
all_values version name [] words v = refl
all_values version name (field ∷ fields) [] v = refl
all_values version name (field ∷ fields) (word ∷ words) v =
    ap (with_values version (fields_of fields) words) (one_value name field (said_in version field word) v)
    ∙ all_values version name fields words (with_number field (said_in version field word) v)

-- the steps on numbers, and those behind them
abbrev steps : Bool → Bool → Parsed → Parsed
steps are_digits are_in_range p = cond (not are_digits) (Err faults.Number) (cond (not are_in_range) (Err faults.Range) p)

digits_kept : (field : Field) (n : ℕ) (v : Numbers) → (with_number field n v).are_digits ≡ v.are_digits
digits_kept Id n v = refl
digits_kept Coordinate n v = refl
digits_kept Weight n v = refl
digits_kept Amount n v = refl
digits_kept VersionNumber n v = refl

range_kept : (field : Field) (n : ℕ) (v : Numbers) → (with_number field n v).are_in_range ≡ v.are_in_range
range_kept Id n v = refl
range_kept Coordinate n v = refl
range_kept Weight n v = refl
range_kept Amount n v = refl
range_kept VersionNumber n v = refl

-- what is read stops at the same step as all words do, and where none stops has the same values
abbrev StopsAlike : Version → (Values → Parsed) → List ℕ → List Field → List (List ℕ) → Numbers → Type 0
StopsAlike version end name fields words v =
    steps (read_all version fields words v).are_digits (read_all version fields words v).are_in_range (end (values_in name (read_all version fields words v)))
    ≡ steps (v.are_digits && digits version fields words) (v.are_in_range && ranges version fields words) (end (values_in name (with_all version fields words v)))

-- the same behind a word that is read so
abbrev StopsBehind : Version → (Values → Parsed) → List ℕ → List Field → List (List ℕ) → Numbers → Field → Bool → Bool → ℕ → Result ℕ LineFault → Type 0
StopsBehind version end name fields words v field d r n read =
    let u = with_read field read v in
    steps (read_all version fields words u).are_digits (read_all version fields words u).are_in_range (end (values_in name (read_all version fields words u)))
    ≡ steps (v.are_digits && (d && digits version fields words)) (v.are_in_range && (r && ranges version fields words)) (end (values_in name (with_all version fields words (with_number field n v))))

read_step : (version : Version) (end : Values → Parsed) (name : List ℕ) (fields : List Field) (words : List (List ℕ)) (v : Numbers) (field : Field) → ((u : Numbers) → StopsAlike version end name fields words u)
    → (d r : Bool) (n : ℕ) → StopsBehind version end name fields words v field d r n (number_or_fault d r n)
read_step version end name fields words v field more true true n =
    more (with_number field n v)
    ∙ (λ i. steps (digits_kept field n v i && digits version fields words) (range_kept field n v i && ranges version fields words) (end (values_in name (with_all version fields words (with_number field n v)))))
read_step version end name fields words v field more true false n =
    more (record v { are_in_range = false })
    ∙ sym (ap (λ b. steps (v.are_digits && digits version fields words) b (end (values_in name (with_all version fields words (with_number field n v))))) (and-false v.are_in_range))
read_step version end name fields words v field more false r n =
    more (record v { are_digits = false })
    ∙ sym (ap (λ b. steps b (v.are_in_range && (r && ranges version fields words)) (end (values_in name (with_all version fields words (with_number field n v))))) (and-false v.are_digits))

read_steps : (version : Version) (end : Values → Parsed) (name : List ℕ) (fields : List Field) (words : List (List ℕ)) (v : Numbers) → StopsAlike version end name fields words v
read_steps version end name [] words v = λ i. steps (sym (and-true v.are_digits) i) (sym (and-true v.are_in_range) i) (end (values_in name v))
read_steps version end name (field ∷ fields) [] v = λ i. steps (sym (and-true v.are_digits) i) (sym (and-true v.are_in_range) i) (end (values_in name v))
read_steps version end name (field ∷ fields) (word ∷ words) v =
    let d = is_digits version (field_of field) word in
    let r = is_in_range version (field_of field) word in
    let n = said_in version field word in
    subst (StopsBehind version end name fields words v field d r n) (sym (field_agrees version field word))
    (read_step version end name fields words v field (λ u. read_steps version end name fields words u) d r n)

-- ---- the end of the line

abbrev layer_values : Values → shapes.Kind → IndexSet → Values
layer_values v kind indexes = record v { kind = kind; indexes = indexes }

-- the command with indexes that fit the kind
abbrev chosen : model.Verb → Values → shapes.Kind → Option IndexSet → Parsed
chosen verb v kind None = Err faults.Index
chosen verb v kind (Some s) = cond (fits kind s) (Ok (Some (command_of verb (layer_values v kind s)))) (Err faults.Index)

chosen_set : (verb : model.Verb) (v : Values) (kind : shapes.Kind) (b : Bool) (s : IndexSet)
    → cond (b && fits kind s) (Ok (Some (command_of verb (layer_values v kind s)))) (Err faults.Index) ≡ chosen verb v kind (set_if b s)
chosen_set verb v kind true s = refl
chosen_set verb v kind false s = refl

chosen_count : (verb : model.Verb) (name : List ℕ) (v : Numbers) (kind : shapes.Kind) (b : Bool) (s : IndexSet)
    → chosen verb (values_in name v) kind (cond b None (Some s)) ≡ tailed verb (values_in name v) (cond (b || not (fits kind s)) (Err faults.Index) (Ok (kind, s, Range)))
chosen_count verb name v kind true s = refl
chosen_count verb name v kind false s = by_fit (fits kind s)
  where
    by_fit : (f : Bool) → cond f (Ok (Some (command_of verb (layer_values (values_in name v) kind s)))) (Err faults.Index)
        ≡ tailed verb (values_in name v) (cond (not f) (Err faults.Index) (Ok (kind, s, Range)))
    by_fit true = refl
    by_fit false = refl

indexes_tailed : (verb : model.Verb) (name : List ℕ) (v : Numbers) (kind : Kind) (words : List (List ℕ))
    → parse_indexes verb (values_in name v) (kind_of kind) words ≡ tailed verb (values_in name v) (ended_layer (length words + 1) (kind_layer (Some kind) words))
indexes_tailed verb name v kind words =
    let s = index_set_of (with_index_words words no_index) in
    chosen_set verb (values_in name v) (kind_of kind) (list_all is_index_word words && is_distinct words) (index_set words)
    ∙ ap (chosen verb (values_in name v) (kind_of kind)) (indexes_by_count words)
    ∙ chosen_count verb name v (kind_of kind) (nat_lt (word_count s + 1) (length words + 1)) s

kind_tailed : (verb : model.Verb) (name : List ℕ) (v : Numbers) (word : List ℕ) (words : List (List ℕ))
    → parse_kind verb (values_in name v) (word ∷ words) ≡ tailed verb (values_in name v) (ended_layer (length words + 1) (kind_layer (kind_in word) words))
kind_tailed verb name v word words = elim (cases_Bool (bytes_eq word (codes "points"))) [
  | inl points ↦ rw points (indexes_tailed verb name v Points words)
  | inr not_points ↦ elim (cases_Bool (bytes_eq word (codes "segments"))) [
    | inl segments ↦ rw (not_points, segments) (indexes_tailed verb name v Segments words)
    | inr neither ↦ rw (not_points, neither) refl
  ]
]

one_tailed : (verb : model.Verb) (name : List ℕ) (v : Numbers) (found : Option Index) → parse_index verb (values_in name v) found ≡ tailed verb (values_in name v) (ended_index found)
one_tailed verb name v None = refl
one_tailed verb name v (Some index) = refl

end_tailed : (verb : model.Verb) (name : List ℕ) (v : Numbers) (tail : model.Tail) (rest : List (List ℕ)) → has_end tail (length rest) ≡ true
    → parse_tail verb tail (values_in name v) rest ≡ tailed verb (values_in name v) (ending_in tail (length rest) rest)
end_tailed verb name v model.Bare rest h = refl
end_tailed verb name v model.Indexes [] h = absurd (false≢true h)
end_tailed verb name v model.Indexes (word ∷ words) h =
    kind_tailed verb name v word words
    ∙ ap (λ n. tailed verb (values_in name v) (ended_layer n (kind_layer (kind_in word) words))) (let one : length words + 1 ≡ length (word ∷ words) = omega arith in one)
end_tailed verb name v model.OneIndex [] h = absurd (false≢true h)
end_tailed verb name v model.OneIndex (word ∷ words) h = one_tailed verb name v (point_index word)

has_words-enough : (f : model.Form) (words : List (List ℕ)) → length f.fields ≤ length words → has_words f words ≡ has_end f.tail (length (drop (length f.fields) words))
has_words-enough f words enough = by_end f.tail (length f.fields) (length words) (length (drop (length f.fields) words)) enough (length-drop (length f.fields) words)
  where
    by_end : (tail : model.Tail) (n total left : ℕ) → n ≤ total → left ≡ total - n → is_tailed tail n total ≡ has_end tail left
    by_end model.Bare n total left enough is = grind (arith, nat_tests)
    by_end model.Indexes n total left enough is = grind (arith, nat_tests)
    by_end model.OneIndex n total left enough is = grind (arith, nat_tests)

has_words-few : (f : model.Form) (words : List (List ℕ)) → length words < length f.fields → has_words f words ≡ false
has_words-few f words few = by_end f.tail (length f.fields) (length words) few
  where
    by_end : (tail : model.Tail) (n total : ℕ) → total < n → is_tailed tail n total ≡ false
    by_end model.Bare n total few = grind (arith, nat_tests)
    by_end model.Indexes n total few = grind (arith, nat_tests)
    by_end model.OneIndex n total few = grind (arith, nat_tests)

-- ---- the whole form

-- the name and the numbers that are read, and the words behind them
abbrev ReadWords : Type 0
ReadWords = Option (Numbers × List (List ℕ))

abbrev pub walked_words : model.Verb → model.Form → List ℕ → ReadWords → Parsed
walked_words verb f word None = Err faults.Fields
walked_words verb f word (Some found) = walked verb f word found.0 found.1

finished_name : (verb : model.Verb) (f : model.Form) (rest : List (List ℕ)) (v : Numbers) (word : List ℕ) → cond (not (is_name word)) (Err faults.Name) (finished verb f rest v (Some word)) ≡ finished verb f rest v (name_field word)
finished_name verb f rest v word = elim (cases_Bool (is_name word)) [
  | inl yes' ↦ rw yes' refl
  | inr no' ↦ rw no' refl
]

-- the steps of the definition behind the name
abbrev numbered : model.Verb → model.Form → List (List ℕ) → Bool → Bool → Values → Parsed
numbered verb f rest d r v = steps d r (cond (not (model.is_ordered f.order v.places)) (Err faults.Order) (parse_tail verb f.tail v rest))

numbered_finished : (version : Version) (verb : model.Verb) (f : model.Form) (name : List ℕ) (fields : List Field) (words rest : List (List ℕ)) → has_end f.tail (length rest) ≡ true
    → numbered verb f rest (digits version fields words) (ranges version fields words) (values_in name (with_all version fields words no_numbers)) ≡ finished verb f rest (read_all version fields words no_numbers) (Some name)
numbered_finished version verb f name fields words rest e =
    let v = with_all version fields words no_numbers in
    ap (λ p. steps (digits version fields words) (ranges version fields words) (cond (not (model.is_ordered f.order v.places)) (Err faults.Order) p)) (end_tailed verb name v f.tail rest e)
    ∙ sym (read_steps version (ended verb f rest) name fields words no_numbers)

-- a form has a name, or what stands in its place is one
abbrev Names : Bool → List ℕ → Type 0
Names has_name name = (has_name ≡ true) ⊎ (is_name name ≡ true)

name_asked : (has_name : Bool) (name : List ℕ) → Names has_name name → (has_name && not (is_name name)) ≡ not (is_name name)
name_asked true name h = refl
name_asked false name (inl has') = absurd (false≢true has')
name_asked false name (inr is) = sym (ap not is)

parse_fields-walked : (version : Version) (verb : model.Verb) (f : Form) (name : List ℕ) (words : List (List ℕ)) → Names f.has_name name
    → parse_fields version verb (form_of f) name words ≡ walked_words verb (form_of f) name (with_words version f.fields.now words no_numbers)
parse_fields-walked version verb f name words names =
    let fields = f.fields.now in
    let size : length (fields_of fields) ≡ length fields = length-map fields field_of in
    let rest = drop (length (fields_of fields)) words in
    let v = with_values version (fields_of fields) words (named name) in
    let read = read_all version fields words no_numbers in
    let front : Bool → Parsed → Parsed = λ b p. cond (not b) (Err faults.Fields) p in
    let asked : Bool → Bool → Values → Parsed = λ n b w. front b (cond n (Err faults.Name) (numbered verb (form_of f) rest (digits version fields words) (ranges version fields words) w)) in
    let past : Bool → Values → Parsed = asked (not (is_name name)) in
    let ends = has_end (tail_of f.tail) (length rest) in
    ap (λ n. asked n (has_words (form_of f) words) v) (name_asked f.has_name name names)
    ∙ elim (cases_lt (length words) (length fields)) [
      | inl few ↦
          ap (λ b. past b v) (has_words-few (form_of f) words (omega arith))
          ∙ sym (ap (walked_words verb (form_of f) name) (walk-few version fields words no_numbers few))
      | inr enough ↦
          ap (λ b. past b v) (has_words-enough (form_of f) words (omega arith))
          ∙ ap (past ends) (all_values version name fields words no_numbers)
          ∙ elim (cases_Bool ends) [
            | inl yes' ↦ ap (front ends) (ap (cond (not (is_name name)) (Err faults.Name)) (numbered_finished version verb (form_of f) name fields words rest yes') ∙ finished_name verb (form_of f) rest read name)
            | inr no' ↦
                ap (λ b. front b (cond (not (is_name name)) (Err faults.Name) (numbered verb (form_of f) rest (digits version fields words) (ranges version fields words) (values_in name (with_all version fields words no_numbers))))) no'
                ∙ sym (ap (λ b. front b (finished verb (form_of f) rest read (name_field name))) no')
          ]
          ∙ ap (λ (ws : List (List ℕ)). walked verb (form_of f) name read ws) (ap (λ n. drop n words) size)
          ∙ sym (ap (walked_words verb (form_of f) name) (walk-enough version fields words no_numbers enough))
    ]

-- ---- a row of the table

few_fields : (verb : model.Verb) → length (model.form verb).fields ≤ 4
unfolding model.form
few_fields model.Layer = omega arith
few_fields _ = omega arith

-- only one form has no name
nameless_verb : (verb : model.Verb) → (model.form verb).has_name ≡ false → verb ≡ model.Livemap
unfolding model.form
nameless_verb model.Livemap h = refl
nameless_verb _ h = absurd (true≢false h)

-- and whatever stands in its place isn't looked at
any_name : (version : Version) (words : List (List ℕ)) → parse_fields version model.Livemap (model.form model.Livemap) [] words ≡ parse_fields version model.Livemap (model.form model.Livemap) no_name words
unfolding model.form command_of
any_name version [] = refl
any_name version (word ∷ words) = refl

any_nameless : (version : Version) (verb : model.Verb) (words : List (List ℕ)) → (model.form verb).has_name ≡ false
    → parse_fields version verb (model.form verb) [] words ≡ parse_fields version verb (model.form verb) no_name words
any_nameless version verb words h =
    subst (λ (v : model.Verb). parse_fields version v (model.form v) [] words ≡ parse_fields version v (model.form v) no_name words) (sym (nameless_verb verb h)) (any_name version words)

places_grow : (field : Field) (read : Result ℕ LineFault) (v : Numbers) → length (with_read field read v).places ≤ length v.places + cond (is_place field) 1 0
places_grow Id (Ok n) v = omega arith
places_grow Coordinate (Ok n) v = omega (arith, length-append v.places (n ∷ []))
places_grow Weight (Ok n) v = omega (arith, length-append v.places (n ∷ []))
places_grow Amount (Ok n) v = omega arith
places_grow VersionNumber (Ok n) v = omega arith
places_grow Id (Err errors.Number) v = omega arith
places_grow Coordinate (Err errors.Number) v = omega arith
places_grow Weight (Err errors.Number) v = omega arith
places_grow Amount (Err errors.Number) v = omega arith
places_grow VersionNumber (Err errors.Number) v = omega arith
places_grow Id (Err _) v = omega arith
places_grow Coordinate (Err _) v = omega arith
places_grow Weight (Err _) v = omega arith
places_grow Amount (Err _) v = omega arith
places_grow VersionNumber (Err _) v = omega arith

-- a coordinate or a weight fewer is left where one more has its place
pub room_kept : (version : Version) (fields : List Field) (i : ℕ) (word : List ℕ) (v : Numbers) → i < length fields → length v.places + count_by is_place (drop i fields) ≤ 4
    → length (with_word version v (get_or fields i Id) word).places + count_by is_place (drop (i + 1) fields) ≤ 4
room_kept version fields i word v inside h =
    let field = get_or fields i Id in
    let more : count_by is_place (drop i fields) ≡ cond (is_place field) 1 0 + count_by is_place (drop (i + 1) fields) = sum_by-drop_more (λ f. cond (is_place f) 1 0) fields i Id inside in
    omega (arith, h, more, places_grow field (field_in version field word) v)

pub few_coordinates : (f : Form) → form_of f ≡ model.form (verb_of f.verb) → count_by is_place f.fields.now ≤ 4
few_coordinates f row =
    let size : length (fields_of f.fields.now) ≡ length (model.form (verb_of f.verb)).fields = ap (λ (r : model.Form). length r.fields) row in
    omega (arith, size, few_fields (verb_of f.verb), length-map f.fields.now field_of, count_by-le-length is_place f.fields.now)

-- ---- a line

-- what is known of a line once its form is found
pub record Begins (line word : List ℕ) (all : List (List ℕ)) (f : Form) : Type 0 where
  pub front : grammar.words line ≡ word ∷ all
  pub told : starts_with nat_eq word (35 ∷ []) ≡ false
  pub verb : Some (verb_of f.verb) ≡ model.verb_of word
  pub row : form_of f ≡ model.form (verb_of f.verb)

-- the name that is read, and the words behind it
abbrev NamedWords : Type 0
NamedWords = Option (List ℕ × List (List ℕ))

abbrev pub walked_named : Version → Form → NamedWords → Parsed
walked_named version f None = Err faults.Fields
walked_named version f (Some found) = walked_words (verb_of f.verb) (form_of f) found.0 (with_words version f.fields.now found.1 no_numbers)

-- the words behind a command word say what the walk over them meets
form_walked : (version : Version) (f : Form) (words : List (List ℕ)) → form_of f ≡ model.form (verb_of f.verb) → (b : Bool) → f.has_name ≡ b
    → walked_named version f (split_name b words) ≡ cond b (parse_named version (verb_of f.verb) (form_of f) words) (parse_fields version (verb_of f.verb) (form_of f) [] words)
form_walked version f [] row true has' = refl
form_walked version f (name ∷ words) row true has' = sym (parse_fields-walked version (verb_of f.verb) f name words (inl has'))
form_walked version f words row false has' =
    let verb = verb_of f.verb in
    let nameless : (model.form verb).has_name ≡ false = sym (ap (λ (r : model.Form). r.has_name) row) ∙ has' in
    sym (parse_fields-walked version verb f no_name words (inr refl))
    ∙ ap (λ (r : model.Form). parse_fields version verb r no_name words) row
    ∙ sym (any_nameless version verb words nameless)
    ∙ sym (ap (λ (r : model.Form). parse_fields version verb r [] words) row)

-- the line says what the walk over its words meets
pub walk_line : (version : Version) (line word : List ℕ) (all : List (List ℕ)) (f : Form) (found : NamedWords) → Begins line word all f → found ≡ split_name f.has_name all
    → walked_named version f found ≡ parse_printable version (grammar.words line)
walk_line version line word all f found b is =
    let verb = verb_of f.verb in
    ap (walked_named version f) is
    ∙ form_walked version f all b.row f.has_name refl
    ∙ ap (λ (r : model.Form). parse_form version verb r all) b.row
    ∙ ap (λ v. parse_verb version v all) b.verb
    ∙ sym (ap (λ p. cond p (Ok None) (parse_verb version (model.verb_of word) all)) b.told)
    ∙ sym (ap (parse_printable version) b.front)
