-- A line that says a command has printable bytes alone.
use Rattle.std.proofs.Common.{◌≡◌, ℕ, suc, ◌+◌, ◌-◌, Bool, true, false, cond, not, ◌&&◌, ◌||◌, nat_eq, length-drop, List, [], ◌∷◌, codes, length, take, drop, filter, Option, Some, None, Result, Ok, Err, bytes_eq, arith, refl, sym, ap, ◌∙◌, ◌⊎◌, inl, inr}
use Rattle.std.specs.Prelude.{slice_index}
use Rattle.std.specs.Result.{is_err}
use Rattle.std.specs.List.{list_all, starts_with, slice_split, onto_first, find}
use Rattle.std.specs.Str.{all_ascii_digits}
use Rattle.std.specs.Char.{is_ascii_digit}
use Rattle.std.proofs.lemmas.Bool.{and_parts, and_from, cases_Bool, eqb-true, true≢false}
use Rattle.std.proofs.lemmas.Bool.Decides.{nat_tests}
use Rattle.std.proofs.lemmas.Slice.Eq.{bytes_eq-Decides}
use Rattle.map_model.specs.Words.{words, is_blank, is_filled, is_name, is_name_byte}
use Rattle.map_model.specs.Shape.{Kind, Points, Segments}
use Rattle.map_model.specs.Index.{Range, Near, Top, fits}
use Rattle.map_model.specs.LineFault.{LineFault}
use Rattle.map_model.specs.LineFault as faults
use Rattle.map_model.specs.Command.{Command}
use Rattle.map_model.specs.Version.{Version, One, Two}
use Rattle.map_model.specs.Form.{Field, Id, Coordinate, Weight, Amount, VersionNumber, Tail, Bare, Indexes, OneIndex, Form, form, is_ordered, verb_of, verbs}
use Rattle.map_model.specs.Form as model
use Rattle.map_model.specs.Grammar.{is_printable, has_minus, unsigned, is_digits, is_in_range, all_fields, is_tailed, has_words, Values, named, with_values, is_index_word, is_distinct, index_set, point_index, Parsed, parse_indexes, parse_kind, parse_index, parse_tail, parse_fields, parse_named, parse_verb, parse_words, without_return}
use Rattle.script_lang.specs.declared.command.Command as script
use Rattle.script_lang.specs.declared.line_fault.LineFault as errors
use Rattle.script_lang.specs.LineFault.{fault_of}
use Rattle.script_lang.specs.Command.{parsed}
use Rattle.script_lang.specs.Read.{parse_printable}

abbrev prints : List ℕ → Bool
prints = list_all is_printable

-- ---- a text is printable where its words are

blank_prints : (byte : ℕ) → is_blank byte ≡ true → is_printable byte ≡ true
blank_prints byte blank = grind (arith, nat_tests, blank)

both-shift : (a b c : Bool) → ((a && b) && c) ≡ (a && (b && c))
both-shift true b c = refl
both-shift false b c = refl

first_prints : (byte : ℕ) (parts : List (List ℕ)) → list_all prints (onto_first byte parts) ≡ (is_printable byte && list_all prints parts)
first_prints byte [] = both-shift (is_printable byte) true true
first_prints byte (part ∷ parts) = both-shift (is_printable byte) (prints part) (list_all prints parts)

parts_print : (text : List ℕ) → list_all prints (slice_split is_blank text) ≡ prints text
parts_print [] = refl
parts_print (byte ∷ text) = elim (cases_Bool (is_blank byte)) [
  | inl blank ↦
      ap (λ b. list_all prints (cond b ([] ∷ slice_split is_blank text) (onto_first byte (slice_split is_blank text)))) blank
      ∙ parts_print text
      ∙ sym (ap (λ b. b && prints text) (blank_prints byte blank))
  | inr filled ↦
      ap (λ b. list_all prints (cond b ([] ∷ slice_split is_blank text) (onto_first byte (slice_split is_blank text)))) filled
      ∙ first_prints byte (slice_split is_blank text)
      ∙ ap (λ b. is_printable byte && b) (parts_print text)
]

filled_print : (parts : List (List ℕ)) → list_all prints (filter is_filled parts) ≡ list_all prints parts
filled_print [] = refl
filled_print ([] ∷ parts) = filled_print parts
filled_print ((byte ∷ part) ∷ parts) = ap (λ b. prints (byte ∷ part) && b) (filled_print parts)

words_print : (text : List ℕ) → list_all prints (words text) ≡ prints text
words_print text = filled_print (slice_split is_blank text) ∙ parts_print text

-- ---- words that stand where they belong are printable

digits_print : (word : List ℕ) → all_ascii_digits word ≡ true → prints word ≡ true
digits_print [] h = refl
digits_print (byte ∷ word) h =
    let parts = and_parts (is_ascii_digit byte) (all_ascii_digits word) h in
    and_from (is_printable byte) (prints word) (grind (arith, nat_tests, parts.0)) (digits_print word parts.1)

name_bytes_print : (word : List ℕ) → list_all is_name_byte word ≡ true → prints word ≡ true
name_bytes_print [] h = refl
name_bytes_print (byte ∷ word) h =
    let parts = and_parts (is_name_byte byte) (list_all is_name_byte word) h in
    and_from (is_printable byte) (prints word) (grind (arith, nat_tests, parts.0)) (name_bytes_print word parts.1)

name_prints : (word : List ℕ) → is_name word ≡ true → prints word ≡ true
name_prints word h = name_bytes_print word (and_parts _ (list_all is_name_byte word) h).1

same_prints : (word known : List ℕ) → bytes_eq word known ≡ true → prints known ≡ true → prints word ≡ true
same_prints word known same h = ap prints ((bytes_eq-Decides word known).0 same) ∙ h

verb_prints : (verb : model.Verb) → prints (form verb).word ≡ true
unfolding form
verb_prints model.Livemap = refl
verb_prints model.Layer = refl
verb_prints model.Index = refl
verb_prints model.Add = refl
verb_prints model.Seg = refl
verb_prints model.Move = refl
verb_prints model.Drop = refl
verb_prints model.Count = refl
verb_prints model.Sum = refl
verb_prints model.ListIds = refl
verb_prints model.Near = refl
verb_prints model.Nearest = refl
verb_prints model.Above = refl
verb_prints model.Top = refl
verb_prints model.Stab = refl
verb_prints model.StabCount = refl
verb_prints model.Cross = refl
verb_prints model.CrossCount = refl
verb_prints model.Get = refl
verb_prints model.Size = refl
verb_prints model.Recent = refl

found_prints : (rows : List model.Verb) (word : List ℕ) (verb : model.Verb) → find (λ v. bytes_eq (form v).word word) rows ≡ Some verb → prints word ≡ true
found_prints [] word verb e = cc
found_prints (row ∷ rows) word verb e = elim (cases_Bool (bytes_eq (form row).word word)) [
  | inl same ↦ sym (ap prints ((bytes_eq-Decides (form row).word word).0 same)) ∙ verb_prints row
  | inr other ↦ found_prints rows word verb (sym (ap (λ b. cond b (Some row) (find (λ v. bytes_eq (form v).word word) rows)) other) ∙ e)
]

index_prints : (word : List ℕ) → is_index_word word ≡ true → prints word ≡ true
index_prints word is = elim (cases_Bool (bytes_eq word (codes "range"))) [
  | inl same ↦ same_prints word (codes "range") same refl
  | inr not_range ↦ elim (cases_Bool (bytes_eq word (codes "near"))) [
    | inl same ↦ same_prints word (codes "near") same refl
    | inr not_near ↦ elim (cases_Bool (bytes_eq word (codes "top"))) [
      | inl same ↦ same_prints word (codes "top") same refl
      | inr not_top ↦ elim (cases_Bool (bytes_eq word (codes "stab"))) [
        | inl same ↦ same_prints word (codes "stab") same refl
        | inr not_stab ↦ elim (cases_Bool (bytes_eq word (codes "cross"))) [
          | inl same ↦ same_prints word (codes "cross") same refl
          | inr not_cross ↦ same_prints word (codes "batch") (sym (λ i. not_range i || not_near i || not_top i || not_stab i || not_cross i || bytes_eq word (codes "batch")) ∙ is) refl
        ]
      ]
    ]
  ]
]

all_indexes_print : (words : List (List ℕ)) → list_all is_index_word words ≡ true → list_all prints words ≡ true
all_indexes_print [] h = refl
all_indexes_print (word ∷ words) h =
    let parts = and_parts (is_index_word word) (list_all is_index_word words) h in
    and_from (prints word) (list_all prints words) (index_prints word parts.0) (all_indexes_print words parts.1)

-- a coordinate below zero
minus_prints : (version : Version) (field : Field) (word : List ℕ) → has_minus version field word ≡ true → prints (drop 1 word) ≡ true → prints word ≡ true
minus_prints One field word h behind = absurd (true≢false (sym h))
minus_prints Two Id word h behind = absurd (true≢false (sym h))
minus_prints Two Coordinate [] h behind = refl
minus_prints Two Coordinate (byte ∷ word) h behind = and_from (is_printable byte) (prints word) (minus byte h) behind
  where
    minus : (byte : ℕ) → (nat_eq 45 byte && true) ≡ true → is_printable byte ≡ true
    minus byte h = grind (arith, nat_tests)
minus_prints Two Weight word h behind = absurd (true≢false (sym h))
minus_prints Two Amount word h behind = absurd (true≢false (sym h))
minus_prints Two VersionNumber word h behind = absurd (true≢false (sym h))

number_prints : (version : Version) (field : Field) (word : List ℕ) → is_digits version field word ≡ true → prints word ≡ true
number_prints version field word h =
    let digits : all_ascii_digits (unsigned version field word) ≡ true = (and_parts (is_filled (unsigned version field word)) (all_ascii_digits (unsigned version field word)) h).1 in
    elim (cases_Bool (has_minus version field word)) [
      | inl minus ↦ minus_prints version field word minus (digits_print (drop 1 word) (sym (ap (λ b. all_ascii_digits (cond b (drop 1 word) word)) minus) ∙ digits))
      | inr plain ↦ digits_print word (sym (ap (λ b. all_ascii_digits (cond b (drop 1 word) word)) plain) ∙ digits)
    ]

-- words in their fields, and those behind them
fields_print : (version : Version) (fields : List Field) (words : List (List ℕ)) → all_fields (is_digits version) fields words ≡ true → list_all prints (drop (length fields) words) ≡ true → list_all prints words ≡ true
fields_print version [] words digits behind = behind
fields_print version (field ∷ fields) [] digits behind = refl
fields_print version (field ∷ fields) (word ∷ words) digits behind =
    let parts = and_parts (is_digits version field word) (all_fields (is_digits version) fields words) digits in
    and_from (prints word) (list_all prints words) (number_prints version field word parts.0) (fields_print version fields words parts.1 behind)

-- ---- a command

-- behind a step that finds no fault
past : (b : Bool) (fault : LineFault) (rest : Parsed) (said : Option Command) → cond b (Err fault) rest ≡ Ok said → (b ≡ false) × (rest ≡ Ok said)
past true fault rest said e = absurd (let never : Err fault ≡ Ok said = e in cc)
past false fault rest said e = (refl, e)

holds : (b : Bool) → not b ≡ false → b ≡ true
holds true e = refl
holds false e = absurd (true≢false e)

indexes_print : (verb : model.Verb) (v : Values) (kind : Kind) (words : List (List ℕ)) (said : Option Command) → parse_indexes verb v kind words ≡ Ok said → list_all prints words ≡ true
indexes_print verb v kind words said e = elim (cases_Bool (list_all is_index_word words && is_distinct words && fits kind (index_set words))) [
  | inl passed ↦
      all_indexes_print words
      (and_parts (list_all is_index_word words) (is_distinct words) (and_parts (list_all is_index_word words && is_distinct words) (fits kind (index_set words)) passed).0).0
  | inr failed ↦ absurd (let never : Err faults.Index ≡ Ok said = sym (rw failed refl) ∙ e in cc)
]

kind_prints : (verb : model.Verb) (v : Values) (words : List (List ℕ)) (said : Option Command) → parse_kind verb v words ≡ Ok said → list_all prints words ≡ true
kind_prints verb v [] said e = refl
kind_prints verb v (word ∷ words) said e = elim (cases_Bool (bytes_eq word (codes "points"))) [
  | inl points ↦
      let read : parse_indexes verb v Points words ≡ Ok said = sym (ap (λ b. cond b (parse_indexes verb v Points words) (cond (bytes_eq word (codes "segments")) (parse_indexes verb v Segments words) (Err faults.Kind))) points) ∙ e in
      and_from (prints word) (list_all prints words) (same_prints word (codes "points") points refl) (indexes_print verb v Points words said read)
  | inr not_points ↦ elim (cases_Bool (bytes_eq word (codes "segments"))) [
    | inl segments ↦
        let read : parse_indexes verb v Segments words ≡ Ok said = sym (λ i. cond (not_points i) (parse_indexes verb v Points words) (cond (segments i) (parse_indexes verb v Segments words) (Err faults.Kind))) ∙ e in
        and_from (prints word) (list_all prints words) (same_prints word (codes "segments") segments refl) (indexes_print verb v Segments words said read)
    | inr neither ↦ absurd (let never : Err faults.Kind ≡ Ok said = sym (λ i. cond (not_points i) (parse_indexes verb v Points words) (cond (neither i) (parse_indexes verb v Segments words) (Err faults.Kind))) ∙ e in cc)
  ]
]

none_behind : (n : ℕ) (words : List (List ℕ)) → nat_eq (length words) n ≡ true → list_all prints (drop n words) ≡ true
none_behind n words all = ap (list_all prints) (drop_whole n words (eqb-true (length words) n all))
  where
    drop_whole : (n : ℕ) (words : List (List ℕ)) → length words ≡ n → drop n words ≡ []
    drop_whole n words same = ap (λ k. drop k words) (sym same) ∙ ends words
      where
        ends : (ws : List (List ℕ)) → drop (length ws) ws ≡ []
        ends [] = refl
        ends (w ∷ ws) = ends ws

-- the one index that is named
named_prints : (verb : model.Verb) (v : Values) (word : List ℕ) (said : Option Command) → parse_index verb v (point_index word) ≡ Ok said → prints word ≡ true
named_prints verb v word said e = elim (cases_Bool (bytes_eq word (codes "range"))) [
  | inl same ↦ same_prints word (codes "range") same refl
  | inr not_range ↦ elim (cases_Bool (bytes_eq word (codes "near"))) [
    | inl same ↦ same_prints word (codes "near") same refl
    | inr not_near ↦ elim (cases_Bool (bytes_eq word (codes "top"))) [
      | inl same ↦ same_prints word (codes "top") same refl
      | inr not_top ↦ absurd (let never : Err faults.Index ≡ Ok said =
          sym (λ i. parse_index verb v (cond (not_range i) (Some Range) (cond (not_near i) (Some Near) (cond (not_top i) (Some Top) None)))) ∙ e in cc)
    ]
  ]
]

one_prints : (verb : model.Verb) (v : Values) (words : List (List ℕ)) (said : Option Command) → length words ≡ 1 → parse_tail verb OneIndex v words ≡ Ok said → list_all prints words ≡ true
one_prints verb v [] said one e = refl
one_prints verb v (word ∷ []) said one e = and_from (prints word) true (named_prints verb v word said e) refl
one_prints verb v (word ∷ next ∷ words) said one e = absurd (let none : ⊥ = omega (arith, one) in none)

tail_prints : (verb : model.Verb) (v : Values) (tail : Tail) (n : ℕ) (words : List (List ℕ)) (said : Option Command) → is_tailed tail n (length words) ≡ true → parse_tail verb tail v (drop n words) ≡ Ok said
    → list_all prints (drop n words) ≡ true
tail_prints verb v Bare n words said many e = none_behind n words many
tail_prints verb v Indexes n words said many e = kind_prints verb v (drop n words) said e
tail_prints verb v OneIndex n words said many e =
    one_prints verb v (drop n words) said (omega (arith, eqb-true (length words) (n + 1) many, length-drop n words)) e

-- the words of a form, and its name, where it has one
fields_said : (version : Version) (verb : model.Verb) (f : Form) (name : List ℕ) (words : List (List ℕ)) (said : Option Command) → parse_fields version verb f name words ≡ Ok said
    → ((f.has_name && not (is_name name)) ≡ false) × (list_all prints words ≡ true)
fields_said version verb f name words said e =
    let many = past (not (has_words f words)) faults.Fields _ said e in
    let called = past (f.has_name && not (is_name name)) faults.Name _ said many.1 in
    let digits = past (not (all_fields (is_digits version) f.fields words)) faults.Number _ said called.1 in
    let ranged = past (not (all_fields (is_in_range version) f.fields words)) faults.Range _ said digits.1 in
    let ordered = past (not (is_ordered f.order (with_values version f.fields words (named name)).places)) faults.Order _ said ranged.1 in
    let behind = tail_prints verb (with_values version f.fields words (named name)) f.tail (length f.fields) words said (holds (has_words f words) many.0) ordered.1 in
    (called.0, fields_print version f.fields words (holds (all_fields (is_digits version) f.fields words) digits.0) behind)

form_said : (version : Version) (verb : model.Verb) (f : Form) (b : Bool) → f.has_name ≡ b → (words : List (List ℕ)) (said : Option Command) → cond b (parse_named version verb f words) (parse_fields version verb f [] words) ≡ Ok said
    → list_all prints words ≡ true
form_said version verb f true has' [] said e = refl
form_said version verb f true has' (name ∷ words) said e =
    let parts = fields_said version verb f name words said e in
    and_from (prints name) (list_all prints words) (name_prints name (holds (is_name name) (sym (ap (λ b. b && not (is_name name)) has') ∙ parts.0))) parts.1
form_said version verb f false has' words said e = (fields_said version verb f [] words said e).1

verb_said : (version : Version) (found : Option model.Verb) (words : List (List ℕ)) (said : Option Command) → parse_verb version found words ≡ Ok said → list_all prints words ≡ true
verb_said version None words said e = absurd (let never : Err faults.Command ≡ Ok said = e in cc)
verb_said version (Some verb) words said e = form_said version verb (form verb) (form verb).has_name refl words said e

verb_known : (version : Version) (found : Option model.Verb) (word : List ℕ) (words : List (List ℕ)) (said : Option Command) → found ≡ verb_of word → parse_verb version found words ≡ Ok said → prints word ≡ true
verb_known version None word words said is e = absurd (let never : Err faults.Command ≡ Ok said = e in cc)
verb_known version (Some verb) word words said is e = found_prints verbs word verb (sym is)

-- ---- the whole line

-- what is said where the bytes are looked at last
abbrev pub looked_at_last : List ℕ → Parsed → Parsed
looked_at_last line (Ok said) = Ok said
looked_at_last line (Err fault) = cond (not (prints line)) (Err faults.Line) (Err fault)

verb_last : (line : List ℕ) (p : Parsed) → ((said : Option Command) → p ≡ Ok said → prints line ≡ true) → looked_at_last line p ≡ cond (not (prints line)) (Err faults.Line) p
verb_last line (Ok said) h = sym (ap (λ b. cond (not b) (Err faults.Line) (Ok said)) (h said refl))
verb_last line (Err fault) h = refl

-- It is enough to look at the bytes of a line where its words say a fault.
pub line_last : (version : Version) (line : List ℕ) (found : List (List ℕ)) → words line ≡ found → looked_at_last line (parse_printable version found) ≡ parse_words version line found
line_last version line [] is = refl
line_last version line (word ∷ found) is =
    let verb = verb_of word in
    let told : Bool → Parsed = λ b. looked_at_last line (cond b (Ok None) (parse_verb version verb found)) in
    let said : Bool → Parsed = λ b. cond b (Ok None) (cond (not (prints line)) (Err faults.Line) (parse_verb version verb found)) in
    elim (cases_Bool (starts_with (λ a b. nat_eq a b) word (35 ∷ []))) [
      | inl comment ↦ ap told comment ∙ sym (ap said comment)
      | inr other ↦
          ap told other
          ∙ verb_last line (parse_verb version verb found) (λ says e. sym (words_print line) ∙ ap (list_all prints) is ∙ and_from (prints word) (list_all prints found) (verb_known version verb word found says refl e) (verb_said version verb found says e))
          ∙ sym (ap said other)
    ]

-- A line that says a command is printable, so no carriage return is at its end.
pub command_prints : (version : Version) (line : List ℕ) (command : Command) → parse_printable version (words line) ≡ Ok (Some command) → prints line ≡ true
command_prints version line command = of (words line) refl
  where
    of : (found : List (List ℕ)) → words line ≡ found → parse_printable version found ≡ Ok (Some command) → prints line ≡ true
    of [] is e = absurd (let never : Ok None ≡ Ok (Some command) = e in cc)
    of (word ∷ found) is e = elim (cases_Bool (starts_with (λ a b. nat_eq a b) word (35 ∷ []))) [
      | inl told ↦ absurd (let never : Ok None ≡ Ok (Some command) = sym (ap (λ b. cond b (Ok None) (parse_verb version (verb_of word) found)) told) ∙ e in cc)
      | inr untold ↦
          let behind : parse_verb version (verb_of word) found ≡ Ok (Some command) = sym (ap (λ b. cond b (Ok None) (parse_verb version (verb_of word) found)) untold) ∙ e in
          sym (words_print line) ∙ ap (list_all prints) is ∙ and_from (prints word) (list_all prints found) (verb_known version (verb_of word) word found (Some command) refl behind) (verb_said version (verb_of word) found (Some command) behind)
    ]

last_prints : (line : List ℕ) → prints line ≡ true → nat_eq (slice_index line (length line - 1)) 13 ≡ false
last_prints [] h = refl
last_prints (byte ∷ []) h = grind (arith, nat_tests, and_parts (is_printable byte) true h)
last_prints (byte ∷ next ∷ line) h =
    let at : length (byte ∷ next ∷ line) - 1 ≡ suc (length (next ∷ line) - 1) = omega arith in
    ap (λ k. nat_eq (slice_index (byte ∷ next ∷ line) k) 13) at ∙ last_prints (next ∷ line) (and_parts (is_printable byte) (prints (next ∷ line)) h).1

pub whole_line : (line : List ℕ) → prints line ≡ true → without_return line ≡ line
whole_line line h = ap (λ b. cond b (take (length line - 1) line) line) (last_prints line h)

-- what needs no second look, and what passes it
pub said_stays : (line : List ℕ) (said : Result (Option script.Command) errors.LineFault) → (is_err said ≡ false) ⊎ (prints line ≡ true) → looked_at_last line (parsed said) ≡ parsed said
said_stays line (Ok said) why = refl
said_stays line (Err fault) (inl none) = absurd (true≢false none)
said_stays line (Err fault) (inr printed) = ap (λ b. cond (not b) (Err faults.Line) (Err (fault_of fault))) printed
