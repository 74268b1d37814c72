-- What a line says is within the limits of its form.
use Rattle.std.proofs.Common.{◌≡◌, ℕ, zero, suc, ◌-◌, ◌≤◌, Bool, true, false, cond, not, ◌&&◌, nat_le, nat_lt, nat_eq, List, [], ◌∷◌, ◌++◌, codes, length, drop, get_or, Option, Some, None, Ok, Err, bytes_eq, arith, refl, sym, ap, ◌∙◌, subst, inl, inr}
use Rattle.std.specs.List.{list_all, starts_with}
use Rattle.std.specs.Str.Parse.{digits_value}
use Rattle.std.proofs.lemmas.Bool.{and_parts, false≢true, true≢false, cases_Bool, leb-true, eqb-true}
use Rattle.map_model.specs.Words.{words, is_name, longest_line, greatest_id, greatest_weight}
use Rattle.map_model.specs.Version.{Version, One, Two, negatives, greatest_coordinate, kept}
use Rattle.map_model.specs.Shape.{Kind, Points, Segments}
use Rattle.map_model.specs.Index.{Index, Range, Near, Top, fits, may_be_late}
use Rattle.map_model.specs.LineFault.{LineFault}
use Rattle.map_model.specs.LineFault as faults
use Rattle.map_model.specs.Command.{Command}
use Rattle.map_model.specs.Form.{Field, Id, Coordinate, Weight, Amount, VersionNumber, limits_of, Tail, Bare, Indexes, OneIndex, Form, form, is_ordered, verb_of, greatest_amount}
use Rattle.map_model.specs.Form as verbs
use Rattle.map_model.specs.Grammar.{without_return, is_printable, is_digits, is_within, is_in_range, number_of, all_fields, has_words, Values, named, place, rect_of, with_value, with_values, command_of, is_index_word, is_distinct, index_set, point_index, Parsed, parse_indexes, parse_kind, parse_index, parse_tail, parse_fields, parse_named, parse_form, parse_verb, parse_words, parse}
use Rattle.map_model.specs.Line.{IsCommand, IsRect}

-- behind a step that finds no fault
past : (b : Bool) (fault : LineFault) (rest : Parsed) (command : Command) → cond b (Err fault) rest ≡ Ok (Some command) → (b ≡ false) × (rest ≡ Ok (Some command))
past true fault rest command e = absurd (let never : Err fault ≡ Ok (Some command) = e in cc)
past false fault rest command e = (refl, e)

holds : (b : Bool) → not b ≡ false → b ≡ true
holds true e = refl
holds false e = absurd (true≢false e)

-- ---- values

-- numbers within the limits of the language
record AreLimited (version : Version) (v : Values) : Type 0 where
  places : (k : ℕ) → place v k ≤ kept version greatest_coordinate
  id : v.id ≤ greatest_id
  amount : v.amount ≤ greatest_amount

within : (field : Field) (n : ℕ) → is_within field n ≡ true → ((limits_of field).least ≤ n) × (n ≤ (limits_of field).greatest)
within field n h =
    let parts = and_parts (nat_le (limits_of field).least n) (nat_le n (limits_of field).greatest) h in
    (leb-true (limits_of field).least n parts.0, leb-true n (limits_of field).greatest parts.1)

places-push : (places : List ℕ) (n bound : ℕ) → n ≤ bound → ((k : ℕ) → get_or places k 0 ≤ bound) → (k : ℕ) → get_or (places ++ n ∷ []) k 0 ≤ bound
places-push [] n bound h all zero = h
places-push [] n bound h all (suc k) = omega arith
places-push (p ∷ places) n bound h all zero = all zero
places-push (p ∷ places) n bound h all (suc k) = places-push places n bound h (λ j. all (suc j)) k

-- what a number of a field is kept as is at most this
abbrev most_of : Version → Field → ℕ
most_of version Id = greatest_id
most_of version Coordinate = kept version greatest_coordinate
most_of version Weight = greatest_weight
most_of version Amount = greatest_amount
most_of version VersionNumber = 2

signed-within : (word : List ℕ) → is_in_range Two Coordinate word ≡ true → number_of Two Coordinate word ≤ kept Two greatest_coordinate
signed-within word h = elim (cases_Bool (starts_with nat_eq word (45 ∷ []))) [
  | inl minus ↦ subst (λ b. cond b (negatives - digits_value 10 (drop 1 word)) (kept Two (digits_value 10 word)) ≤ kept Two greatest_coordinate) (sym minus) (omega arith)
  | inr digits ↦
      let ranged : is_within Coordinate (digits_value 10 word) ≡ true =
      sym (ap (λ b. cond b (nat_le (digits_value 10 (drop 1 word)) negatives) (is_within Coordinate (digits_value 10 word))) digits) ∙ h in
      subst (λ b. cond b (negatives - digits_value 10 (drop 1 word)) (kept Two (digits_value 10 word)) ≤ kept Two greatest_coordinate) (sym digits)
      (omega (arith, (within Coordinate (digits_value 10 word) ranged).1))
]

number-within : (version : Version) (field : Field) (word : List ℕ) → is_in_range version field word ≡ true → number_of version field word ≤ most_of version field
number-within One Id word h = (within Id (digits_value 10 word) h).1
number-within One Coordinate word h = (within Coordinate (digits_value 10 word) h).1
number-within One Weight word h = (within Weight (digits_value 10 word) h).1
number-within One Amount word h = (within Amount (digits_value 10 word) h).1
number-within One VersionNumber word h = (within VersionNumber (digits_value 10 word) h).1
number-within Two Id word h = (within Id (digits_value 10 word) h).1
number-within Two Coordinate word h = signed-within word h
number-within Two Weight word h = (within Weight (digits_value 10 word) h).1
number-within Two Amount word h = (within Amount (digits_value 10 word) h).1
number-within Two VersionNumber word h = (within VersionNumber (digits_value 10 word) h).1

weight_kept : (version : Version) → greatest_weight ≤ kept version greatest_coordinate
weight_kept One = omega arith
weight_kept Two = omega arith

limited-value : (version : Version) (field : Field) (n : ℕ) (v : Values) → n ≤ most_of version field → AreLimited version v → AreLimited version (with_value field n v)
limited-value version Id n v h all = record { places = all.places; id = h; amount = all.amount }
limited-value version Coordinate n v h all = record { places = places-push v.places n (kept version greatest_coordinate) h all.places; id = all.id; amount = all.amount }
limited-value version Weight n v h all = record {
  places = places-push v.places n (kept version greatest_coordinate) (omega (arith, h, weight_kept version)) all.places;
  id = all.id;
  amount = all.amount;
}
limited-value version Amount n v h all = record { places = all.places; id = all.id; amount = h }
limited-value version VersionNumber n v h all = record { places = all.places; id = all.id; amount = all.amount }

limited : (version : Version) (fields : List Field) (words : List (List ℕ)) (v : Values) → all_fields (is_in_range version) fields words ≡ true → AreLimited version v
    → AreLimited version (with_values version fields words v)
limited version [] words v h all = all
limited version (field ∷ fields) [] v h all = all
limited version (field ∷ fields) (word ∷ words) v h all =
    let parts = and_parts (is_in_range version field word) (all_fields (is_in_range version) fields words) h in
    limited version fields words (with_value field (number_of version field word) v) parts.1
    (limited-value version field (number_of version field word) v (number-within version field word parts.0) all)

limited-named : (version : Version) (name : List ℕ) → AreLimited version (named name)
limited-named version name = record { places = λ k. omega arith; id = omega arith; amount = omega arith }

-- the weight of a point
limited-weight : (version : Version) (name : List ℕ) (words : List (List ℕ)) → nat_eq (length words) 4 ≡ true → all_fields (is_in_range version) verbs.point_fields words ≡ true
    → place (with_values version verbs.point_fields words (named name)) 2 ≤ greatest_weight
limited-weight version name [] many h = absurd (false≢true many)
limited-weight version name (a ∷ []) many h = absurd (false≢true many)
limited-weight version name (a ∷ b ∷ []) many h = absurd (false≢true many)
limited-weight version name (a ∷ b ∷ c ∷ []) many h = absurd (false≢true many)
limited-weight version name (a ∷ b ∷ c ∷ w ∷ words) many h =
    let behind_id = (and_parts (is_in_range version Id a) _ h).1 in
    let behind_x = (and_parts (is_in_range version Coordinate b) _ behind_id).1 in
    let behind_y = (and_parts (is_in_range version Coordinate c) _ behind_x).1 in
    number-within version Weight w (and_parts (is_in_range version Weight w) true behind_y).0

name-kept : (version : Version) (fields : List Field) (words : List (List ℕ)) (v : Values) → (with_values version fields words v).name ≡ v.name
name-kept version [] words v = refl
name-kept version (field ∷ fields) [] v = refl
name-kept version (field ∷ fields) (word ∷ words) v =
    name-kept version fields words (with_value field (number_of version field word) v) ∙ one field (number_of version field word)
  where
    one : (field : Field) (n : ℕ) → (with_value field n v).name ≡ v.name
    one Id n = refl
    one Coordinate n = refl
    one Weight n = refl
    one Amount n = refl
    one VersionNumber n = refl

some-amount : (version : Version) (word : List ℕ) → is_in_range version Amount word ≡ true → 1 ≤ number_of version Amount word
some-amount One word h = (within Amount (digits_value 10 word) h).0
some-amount Two word h = (within Amount (digits_value 10 word) h).0

some_amount : (version : Version) (fields : List Field) (words : List (List ℕ)) (v : Values) → all_fields (is_in_range version) fields words ≡ true → 1 ≤ v.amount
    → 1 ≤ (with_values version fields words v).amount
some_amount version [] words v h some = some
some_amount version (field ∷ fields) [] v h some = some
some_amount version (field ∷ fields) (word ∷ words) v h some =
    let parts = and_parts (is_in_range version field word) (all_fields (is_in_range version) fields words) h in
    some_amount version fields words (with_value field (number_of version field word) v) parts.1 (one field parts.0)
  where
    one : (field : Field) → is_in_range version field word ≡ true → 1 ≤ (with_value field (number_of version field word) v).amount
    one Id h = some
    one Coordinate h = some
    one Weight h = some
    one Amount h = some-amount version word h
    one VersionNumber h = some

-- a form that begins with an amount
first_amount : (version : Version) (fields : List Field) (words : List (List ℕ)) (v : Values) → 1 ≤ length words → all_fields (is_in_range version) (Amount ∷ fields) words ≡ true
    → 1 ≤ (with_values version (Amount ∷ fields) words v).amount
first_amount version fields [] v some h = absurd (omega arith)
first_amount version fields (word ∷ words) v some h =
    let parts = and_parts (is_in_range version Amount word) (all_fields (is_in_range version) fields words) h in
    some_amount version fields words (with_value Amount (number_of version Amount word) v) parts.1 (some-amount version word parts.0)

-- ---- one form after the other

-- what the steps before the end say
record HasPassed (version : Version) (f : Form) (name : List ℕ) (words : List (List ℕ)) : Type 0 where
  many : has_words f words ≡ true
  called : (f.has_name && not (is_name name)) ≡ false
  ranged : all_fields (is_in_range version) f.fields words ≡ true
  ordered : is_ordered f.order (with_values version f.fields words (named name)).places ≡ true

-- in a form with a name, the name that stands is one
is_named : (name : List ℕ) → not (is_name name) ≡ false → is_name name ≡ true
is_named name h = holds (is_name name) h

called : (version : Version) (verb : verbs.Verb) (name : List ℕ) (words : List (List ℕ)) → HasPassed version (form verb) name words → (form verb).has_name ≡ true
    → is_name (with_values version (form verb).fields words (named name)).name ≡ true
called version verb name words h has' =
    ap is_name (name-kept version (form verb).fields words (named name))
    ∙ is_named name (sym (ap (λ b. b && not (is_name name)) has') ∙ h.called)

all_limited : (version : Version) (verb : verbs.Verb) (name : List ℕ) (words : List (List ℕ)) → HasPassed version (form verb) name words
    → AreLimited version (with_values version (form verb).fields words (named name))
all_limited version verb name words h = limited version (form verb).fields words (named name) h.ranged (limited-named version name)

some_word : (words : List (List ℕ)) (n : ℕ) → 1 ≤ n → nat_eq (length words) n ≡ true → 1 ≤ length words
some_word words n some h = omega (arith, eqb-true (length words) n h)

-- the four coordinates of a rectangle
corners : (version : Version) (verb : verbs.Verb) (name : List ℕ) (words : List (List ℕ)) → HasPassed version (form verb) name words → (form verb).order ≡ verbs.Corners
    → IsRect version (rect_of (with_values version (form verb).fields words (named name)))
corners version verb name words h order =
    let v = with_values version (form verb).fields words (named name) in
    let all = all_limited version verb name words h in
    let ordered : is_ordered verbs.Corners v.places ≡ true = ap (λ o. is_ordered o v.places) (sym order) ∙ h.ordered in
    let parts = and_parts (nat_le (place v 0) (place v 2)) (nat_le (place v 1) (place v 3)) ordered in
    (leb-true (place v 0) (place v 2) parts.0, leb-true (place v 1) (place v 3) parts.1, all.places 2, all.places 3)

abbrev is_bare : Tail → Bool
is_bare Bare = true
is_bare Indexes = false
is_bare OneIndex = false

lawful : (version : Version) (verb : verbs.Verb) (name : List ℕ) (words : List (List ℕ)) → HasPassed version (form verb) name words → (form verb).tail ≡ Bare
    → IsCommand version (command_of verb (with_values version (form verb).fields words (named name)))
unfolding form command_of
lawful version verbs.Livemap name words h free = record { named = refl; in_limits = tt }
lawful version verbs.Layer name words h free = absurd (false≢true (ap is_bare free))
lawful version verbs.Index name words h free = absurd (false≢true (ap is_bare free))
lawful version verbs.Add name words h free =
    let all = all_limited version verbs.Add name words h in
    record { named = called version verbs.Add name words h refl; in_limits = (all.id, (all.places 0, all.places 1, limited-weight version name words h.many h.ranged)) }
lawful version verbs.Seg name words h free =
    let all = all_limited version verbs.Seg name words h in
    record { named = called version verbs.Seg name words h refl; in_limits = (all.id, (leb-true _ _ h.ordered, all.places 1, all.places 2)) }
lawful version verbs.Move name words h free =
    let all = all_limited version verbs.Move name words h in
    record { named = called version verbs.Move name words h refl; in_limits = (all.id, (all.places 0, all.places 1, limited-weight version name words h.many h.ranged)) }
lawful version verbs.Drop name words h free = record { named = called version verbs.Drop name words h refl; in_limits = (all_limited version verbs.Drop name words h).id }
lawful version verbs.Count name words h free = record { named = called version verbs.Count name words h refl; in_limits = corners version verbs.Count name words h refl }
lawful version verbs.Sum name words h free = record { named = called version verbs.Sum name words h refl; in_limits = corners version verbs.Sum name words h refl }
lawful version verbs.ListIds name words h free = record { named = called version verbs.ListIds name words h refl; in_limits = corners version verbs.ListIds name words h refl }
lawful version verbs.Near name words h free =
    let all = all_limited version verbs.Near name words h in
    record { named = called version verbs.Near name words h refl; in_limits = (all.places 0, all.places 1) }
lawful version verbs.Nearest name words h free =
    let all = all_limited version verbs.Nearest name words h in
    let some = first_amount version (Coordinate ∷ Coordinate ∷ []) words (named name) (some_word words 3 (omega arith) h.many) h.ranged in
    record { named = called version verbs.Nearest name words h refl; in_limits = ((some, all.amount), all.places 0, all.places 1) }
lawful version verbs.Above name words h free =
    let all = all_limited version verbs.Above name words h in
    record { named = called version verbs.Above name words h refl; in_limits = (leb-true _ _ h.ordered, all.places 1, all.places 2) }
lawful version verbs.Top name words h free =
    let all = all_limited version verbs.Top name words h in
    record { named = called version verbs.Top name words h refl; in_limits = (leb-true _ _ h.ordered, all.places 1) }
lawful version verbs.Stab name words h free = record { named = called version verbs.Stab name words h refl; in_limits = (all_limited version verbs.Stab name words h).places 0 }
lawful version verbs.StabCount name words h free = record { named = called version verbs.StabCount name words h refl; in_limits = (all_limited version verbs.StabCount name words h).places 0 }
lawful version verbs.Cross name words h free =
    let all = all_limited version verbs.Cross name words h in
    record { named = called version verbs.Cross name words h refl; in_limits = (all.places 0, leb-true _ _ h.ordered, all.places 2) }
lawful version verbs.CrossCount name words h free =
    let all = all_limited version verbs.CrossCount name words h in
    record { named = called version verbs.CrossCount name words h refl; in_limits = (all.places 0, leb-true _ _ h.ordered, all.places 2) }
lawful version verbs.Get name words h free = record { named = called version verbs.Get name words h refl; in_limits = (all_limited version verbs.Get name words h).id }
lawful version verbs.Size name words h free = record { named = called version verbs.Size name words h refl; in_limits = tt }
lawful version verbs.Recent name words h free =
    let some = first_amount version [] words (named name) (some_word words 1 (omega arith) h.many) h.ranged in
    record { named = called version verbs.Recent name words h refl; in_limits = (some, (all_limited version verbs.Recent name words h).amount) }

-- a layer with a kind and indexes
lawful_layer : (version : Version) (kind : Kind) (words : List (List ℕ)) (v : Values) → is_name v.name ≡ true → fits kind (index_set words) ≡ true
    → IsCommand version (command_of verbs.Layer (record v { kind = kind; indexes = index_set words }))
unfolding command_of
lawful_layer version kind words v named fitting = record { named = named; in_limits = fitting }

-- the end of a line of a layer
from_indexes : (verb : verbs.Verb) (v : Values) (kind : Kind) (words : List (List ℕ)) (command : Command) → parse_indexes verb v kind words ≡ Ok (Some command)
    → (fits kind (index_set words) ≡ true) × (command_of verb (record v { kind = kind; indexes = index_set words }) ≡ command)
from_indexes verb v kind words command e = elim (cases_Bool (list_all is_index_word words && is_distinct words && fits kind (index_set words))) [
  | inl passed ↦
      let made : Ok (Some (command_of verb (record v { kind = kind; indexes = index_set words }))) ≡ Ok (Some command) = sym (rw passed refl) ∙ e in
      ((and_parts (list_all is_index_word words && is_distinct words) (fits kind (index_set words)) passed).1, cc)
  | inr failed ↦ absurd (let never : Err faults.Index ≡ Ok (Some command) = sym (rw failed refl) ∙ e in cc)
]

from_kind : (version : Version) (v : Values) (words : List (List ℕ)) (command : Command) → is_name v.name ≡ true → parse_kind verbs.Layer v words ≡ Ok (Some command) → IsCommand version command
from_kind version v [] command named e = absurd (let never : Err faults.Fields ≡ Ok (Some command) = e in cc)
from_kind version v (word ∷ words) command named e = elim (cases_Bool (bytes_eq word (codes "points"))) [
  | inl points ↦ indexed Points (sym (ap (λ b. cond b (parse_indexes verbs.Layer v Points words) (cond (bytes_eq word (codes "segments")) (parse_indexes verbs.Layer v Segments words) (Err faults.Kind))) points) ∙ e)
  | inr not_points ↦ elim (cases_Bool (bytes_eq word (codes "segments"))) [
    | inl segments ↦ indexed Segments (sym (λ i. cond (not_points i) (parse_indexes verbs.Layer v Points words) (cond (segments i) (parse_indexes verbs.Layer v Segments words) (Err faults.Kind))) ∙ e)
    | inr neither ↦ absurd (let never : Err faults.Kind ≡ Ok (Some command) = sym (λ i. cond (not_points i) (parse_indexes verbs.Layer v Points words) (cond (neither i) (parse_indexes verbs.Layer v Segments words) (Err faults.Kind))) ∙ e in cc)
  ]
]
  where
    indexed : (kind : Kind) → parse_indexes verbs.Layer v kind words ≡ Ok (Some command) → IsCommand version command
    indexed kind read =
        let found = from_indexes verbs.Layer v kind words command read in
        subst (λ c. IsCommand version c) found.1 (lawful_layer version kind words v named found.0)

-- a layer in use and one index
lawful_index : (version : Version) (v : Values) (index : Index) → is_name v.name ≡ true → may_be_late index ≡ true → IsCommand version (command_of verbs.Index (record v { index = index }))
unfolding command_of
lawful_index version v index named late = record { named = named; in_limits = late }

abbrev IsLateIfSome : Option Index → Type 0
IsLateIfSome None = Unit {0}
IsLateIfSome (Some index) = may_be_late index ≡ true

late : (a b c : Bool) → IsLateIfSome (cond a (Some Range) (cond b (Some Near) (cond c (Some Top) None)))
late true b c = refl
late false true c = refl
late false false true = refl
late false false false = tt

from_index : (version : Version) (v : Values) (found : Option Index) (command : Command) → is_name v.name ≡ true → IsLateIfSome found → parse_index verbs.Index v found ≡ Ok (Some command)
    → IsCommand version command
from_index version v None command named late e = absurd (let never : Err faults.Index ≡ Ok (Some command) = e in cc)
from_index version v (Some index) command named late e =
    let same : command_of verbs.Index (record v { index = index }) ≡ command = cc in
    subst (λ c. IsCommand version c) same (lawful_index version v index named late)

-- the end of a line that gives a layer in use an index
from_one : (version : Version) (v : Values) (words : List (List ℕ)) (command : Command) → is_name v.name ≡ true → parse_tail verbs.Index OneIndex v words ≡ Ok (Some command) → IsCommand version command
from_one version v [] command named e = absurd (let never : Err faults.Fields ≡ Ok (Some command) = e in cc)
from_one version v (word ∷ words) command named e =
    from_index version v (point_index word) command named (late (bytes_eq word (codes "range")) (bytes_eq word (codes "near")) (bytes_eq word (codes "top"))) e

abbrev tail_number : Tail → ℕ
tail_number Bare = 0
tail_number Indexes = 1
tail_number OneIndex = 2

only_layer : (verb : verbs.Verb) → (form verb).tail ≡ Indexes → verb ≡ verbs.Layer
unfolding form
only_layer verbs.Layer h = refl
only_layer verbs.Index h = absurd (let none : ⊥ = omega (arith, ap tail_number h) in none)
only_layer _ h = absurd (let none : ⊥ = omega (arith, ap tail_number h) in none)

only_index : (verb : verbs.Verb) → (form verb).tail ≡ OneIndex → verb ≡ verbs.Index
unfolding form
only_index verbs.Index h = refl
only_index verbs.Layer h = absurd (let none : ⊥ = omega (arith, ap tail_number h) in none)
only_index _ h = absurd (let none : ⊥ = omega (arith, ap tail_number h) in none)

names : (verb : verbs.Verb) → is_bare (form verb).tail ≡ false → (form verb).has_name ≡ true
unfolding form
names verbs.Layer h = refl
names verbs.Index h = refl
names _ h = absurd (true≢false h)

from_tail : (version : Version) (verb : verbs.Verb) (name : List ℕ) (words : List (List ℕ)) (command : Command) → HasPassed version (form verb) name words → (tail : Tail)
    → (form verb).tail ≡ tail → parse_tail verb tail (with_values version (form verb).fields words (named name)) (drop (length (form verb).fields) words) ≡ Ok (Some command) → IsCommand version command
from_tail version verb name words command passed Bare is e =
    let v = with_values version (form verb).fields words (named name) in
    let same : command_of verb v ≡ command = cc in
    subst (λ c. IsCommand version c) same (lawful version verb name words passed is)
from_tail version verb name words command passed Indexes is e =
    let v = with_values version (form verb).fields words (named name) in
    let rest = drop (length (form verb).fields) words in
    from_kind version v rest command (called version verb name words passed (names verb (ap is_bare is)))
    (subst (λ w. parse_kind w v rest ≡ Ok (Some command)) (only_layer verb is) e)
from_tail version verb name words command passed OneIndex is e =
    let v = with_values version (form verb).fields words (named name) in
    let rest = drop (length (form verb).fields) words in
    from_one version v rest command (called version verb name words passed (names verb (ap is_bare is)))
    (subst (λ w. parse_tail w OneIndex v rest ≡ Ok (Some command)) (only_index verb is) e)

from_fields : (version : Version) (verb : verbs.Verb) (name : List ℕ) (words : List (List ℕ)) (command : Command) → parse_fields version verb (form verb) name words ≡ Ok (Some command)
    → IsCommand version command
from_fields version verb name words command e =
    let f = form verb in
    let v = with_values version f.fields words (named name) in
    let p1 = past (not (has_words f words)) faults.Fields _ command e in
    let p2 = past (f.has_name && not (is_name name)) faults.Name _ command p1.1 in
    let p3 = past (not (all_fields (is_digits version) f.fields words)) faults.Number _ command p2.1 in
    let p4 = past (not (all_fields (is_in_range version) f.fields words)) faults.Range _ command p3.1 in
    let p5 = past (not (is_ordered f.order v.places)) faults.Order (parse_tail verb f.tail v (drop (length f.fields) words)) command p4.1 in
    from_tail version verb name words command (record { many = holds _ p1.0; called = p2.0; ranged = holds _ p4.0; ordered = holds _ p5.0 }) f.tail refl p5.1

from_form : (version : Version) (verb : verbs.Verb) (words : List (List ℕ)) (command : Command) → parse_form version verb (form verb) words ≡ Ok (Some command) → IsCommand version command
from_form version verb words command e = elim (cases_Bool (form verb).has_name) [
  | inl has' ↦ from_named words (sym (ap (λ b. cond b (parse_named version verb (form verb) words) (parse_fields version verb (form verb) [] words)) has') ∙ e)
  | inr nameless ↦ from_fields version verb [] words command (sym (ap (λ b. cond b (parse_named version verb (form verb) words) (parse_fields version verb (form verb) [] words)) nameless) ∙ e)
]
  where
    from_named : (words : List (List ℕ)) → parse_named version verb (form verb) words ≡ Ok (Some command) → IsCommand version command
    from_named [] e = absurd (let never : Err faults.Fields ≡ Ok (Some command) = e in cc)
    from_named (name ∷ words) e = from_fields version verb name words command e

from_verb : (version : Version) (verb : Option verbs.Verb) (words : List (List ℕ)) (command : Command) → parse_verb version verb words ≡ Ok (Some command) → IsCommand version command
from_verb version None words command e = absurd (let never : Err faults.Command ≡ Ok (Some command) = e in cc)
from_verb version (Some verb) words command e = from_form version verb words command e

from_words : (version : Version) (line : List ℕ) (words : List (List ℕ)) (command : Command) → parse_words version line words ≡ Ok (Some command) → IsCommand version command
from_words version line [] command e = absurd (let never : Ok None ≡ Ok (Some command) = e in cc)
from_words version line (word ∷ words) command e = elim (cases_Bool (starts_with nat_eq word (35 ∷ []))) [
  | inl comment ↦ absurd (let never : Ok None ≡ Ok (Some command) = sym (ap (λ b. cond b (Ok None) (cond (not (list_all is_printable line)) (Err faults.Line) (parse_verb version (verb_of word) words))) comment) ∙ e in cc)
  | inr other ↦
      let behind : cond (not (list_all is_printable line)) (Err faults.Line) (parse_verb version (verb_of word) words) ≡ Ok (Some command) = sym (ap (λ b. cond b (Ok None) (cond (not (list_all is_printable line)) (Err faults.Line) (parse_verb version (verb_of word) words))) other) ∙ e in
      from_verb version (verb_of word) words command (past (not (list_all is_printable line)) faults.Line (parse_verb version (verb_of word) words) command behind).1
]

pub IsCommand-parsed : (version : Version) (line : List ℕ) (command : Command) → parse version line ≡ Ok (Some command) → IsCommand version command
IsCommand-parsed version line command e =
    let text = without_return line in
    from_words version text (words text) command (past (nat_lt longest_line (length text)) faults.Line (parse_words version text (words text)) command e).1
