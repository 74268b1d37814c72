-- A command's line is read as that command.
use Rattle.std.proofs.Common.{◌≡◌, ℕ, suc, ◌-◌, ◌^◌, ◌≤◌, ◌<◌, Bool, true, false, cond, not, ◌&&◌, ltb, List, [], ◌∷◌, ◌++◌, codes, decimal, length, take, drop, Some, None, Ok, Err, arith, refl, sym, ap, ◌∙◌, subst, get_or, length-append, nat_le, nat_lt, nat_eq, inl, inr, ◌+◌}
use Rattle.std.specs.List.{list_all, starts_with}
use Rattle.std.specs.Str.{all_ascii_digits}
use Rattle.std.specs.Str.Parse.{digits_value}
use Rattle.std.proofs.lemmas.Bool.{and_parts, and_from, false≢true, le-leb, le-ltb, leb-true, ltb-true, ltb-false, cases_Bool}
use Rattle.std.proofs.lemmas.Bool.Decides.{nat_tests}
use Rattle.std.proofs.lemmas.Fmt.{digits_decimal, digits_value-decimal, length-decimal-le, decimal_nonempty}
use Rattle.std.proofs.lemmas.Str.Parse.{IsNumeralModel, numerals_by_value, tells_all_ascii_digits}
use Rattle.map_model.specs.Words.{is_filled, words, is_name, is_name_byte, greatest_id, greatest_weight, longest_line}
use Rattle.map_model.specs.Version.{Version, One, Two, negatives, greatest_coordinate, kept, coordinate_text}
use Rattle.map_model.specs.Shape.{Rect}
use Rattle.map_model.specs.Shape.{Kind, Points, Segments, Point, Segment}
use Rattle.map_model.specs.Index.{IndexSet, Index, Range, Near, Top, Stab, Cross, fits, may_be_late}
use Rattle.map_model.specs.Answer as questions
use Rattle.map_model.specs.Command.{Command, Livemap, MakeLayer, MakeIndex, Add, Move, Drop, Ask, Get, Size, Recent}
use Rattle.map_model.specs.Form.{Field, Id, Coordinate, Weight, Amount, VersionNumber, limits_of, Form, form, is_ordered, verbs, verb_of, greatest_amount}
use Rattle.map_model.specs.Form as forms
use Rattle.map_model.specs.LineFault as faults
use Rattle.map_model.specs.Grammar.{without_return, is_printable, has_minus, is_digits, is_within, is_in_range, kept_in, number_of, all_fields, has_words, Values, named, with_value, with_values, command_of, parse_indexes, parse_fields, parse_verb, parse_words, parse_text, parse}
use Rattle.map_model.specs.Line.{kind_word, index_words, index_word, word_if, point_words, rect_words, spaced_words, command_line, IsCoordinate, IsWeight, IsAmount, IsRect, IsQuestion, IsCommand}
use Rattle.map_model.proofs.WordLists.{is_plain, name_plain, digit_plain, list_all-weaker, IsPlainWord, ArePlainWords, words-spaced, spaced_printable, length-spaced, last_of_spaced}

pub own : IsNumeralModel (λ ds. all_ascii_digits ds ≡ true) (digits_value 10)
own = numerals_by_value (λ ds. all_ascii_digits ds ≡ true) tells_all_ascii_digits

-- ---- numbers and names as words

abbrev pub Is64 : ℕ → Type 0
Is64 n = n < 2 ^ 64

value : (n : ℕ) → Is64 n → digits_value 10 (decimal n) ≡ n
value n h = digits_value-decimal own n h

filled_word : (word : List ℕ) → 0 < length word → is_filled word ≡ true
filled_word [] h = absurd (omega arith)
filled_word (byte ∷ word) h = refl

digits_plain : (word : List ℕ) → all_ascii_digits word ≡ true → list_all is_plain word ≡ true
digits_plain [] h = refl
digits_plain (byte ∷ word) h =
    let parts = and_parts (nat_le 48 byte && nat_le byte 57) (all_ascii_digits word) h in
    and_from (is_plain byte) (list_all is_plain word) (digit_plain byte parts.0) (digits_plain word parts.1)

number_word : (n : ℕ) → Is64 n → IsPlainWord (decimal n)
number_word n h = record {
  filled = filled_word (decimal n) (decimal_nonempty n h);
  plain = digits_plain (decimal n) (digits_decimal own n h);
  short = length-decimal-le 20 n (omega arith) (omega arith) h;
}

name_word : (name : List ℕ) → is_name name ≡ true → IsPlainWord name
name_word name h =
    let parts = and_parts (nat_le 1 (length name) && nat_le (length name) 16) (list_all is_name_byte name) h in
    let lengths = and_parts (nat_le 1 (length name)) (nat_le (length name) 16) parts.0 in
    record {
      filled = filled_word name (leb-true 1 (length name) lengths.0);
      plain = list_all-weaker is_name_byte is_plain name_plain name parts.1;
      short = omega (arith, leb-true (length name) 16 lengths.1);
    }

known_word : (word : List ℕ) → is_filled word ≡ true → list_all is_plain word ≡ true → length word ≤ 20 → IsPlainWord word
known_word word filled plain short = record { filled = filled; plain = plain; short = short }

-- ---- fields that are written

-- digits have no `-` before them
minus_free : (version : Version) (field : Field) (word : List ℕ) → all_ascii_digits word ≡ true → has_minus version field word ≡ false
minus_free One field word h = refl
minus_free Two Id word h = refl
minus_free Two Coordinate [] h = refl
minus_free Two Coordinate (byte ∷ word) h = digit_first byte (and_parts (nat_le 48 byte && nat_le byte 57) (all_ascii_digits word) h).0
  where
    digit_first : (byte : ℕ) → (nat_le 48 byte && nat_le byte 57) ≡ true → (nat_eq 45 byte && true) ≡ false
    digit_first byte h = grind (arith, nat_tests)
minus_free Two Weight word h = refl
minus_free Two Amount word h = refl
minus_free Two VersionNumber word h = refl

-- a plain word that says what its field takes: a number that is kept as this one
record Writes (version : Version) (field : Field) (n : ℕ) (word : List ℕ) : Type 0 where
  plain : IsPlainWord word
  written : is_digits version field word ≡ true
  within : is_in_range version field word ≡ true
  said : number_of version field word ≡ n

abbrev AllWrite : Version → List Field → List ℕ → List (List ℕ) → Type 0
AllWrite version [] [] [] = Unit {0}
AllWrite version [] [] (word ∷ words) = ⊥
AllWrite version [] (n ∷ ns) words = ⊥
AllWrite version (field ∷ fields) [] words = ⊥
AllWrite version (field ∷ fields) (n ∷ ns) [] = ⊥
AllWrite version (field ∷ fields) (n ∷ ns) (word ∷ words) = Writes version field n word × AllWrite version fields ns words

fits_amount : (n : ℕ) → IsAmount n → Is64 n
fits_amount n h = omega (arith, h.1)

fits_id : (n : ℕ) → n ≤ greatest_id → Is64 n
fits_id n h = omega arith

-- a number that is written without a sign
writes_number : (version : Version) (field : Field) (n : ℕ) → Is64 n → is_within field n ≡ true → Writes version field (kept_in version field n) (decimal n)
writes_number version field n fits within =
    let digits : all_ascii_digits (decimal n) ≡ true = digits_decimal own n fits in
    let free = minus_free version field (decimal n) digits in
    record {
      plain = number_word n fits;
      written = ap (λ b. is_filled (cond b (drop 1 (decimal n)) (decimal n)) && all_ascii_digits (cond b (drop 1 (decimal n)) (decimal n))) free
          ∙ and_from (is_filled (decimal n)) (all_ascii_digits (decimal n)) (filled_word (decimal n) (decimal_nonempty n fits)) digits;
      within = ap (λ b. cond b (nat_le (digits_value 10 (drop 1 (decimal n))) negatives) (is_within field (digits_value 10 (decimal n)))) free
          ∙ ap (is_within field) (value n fits) ∙ within;
      said = ap (λ b. cond b (negatives - digits_value 10 (drop 1 (decimal n))) (kept_in version field (digits_value 10 (decimal n)))) free
          ∙ ap (kept_in version field) (value n fits);
    }

-- a coordinate of version 2 that is so far below zero
writes_negative : (n : ℕ) → n ≤ negatives → Writes Two Coordinate (negatives - n) (45 ∷ decimal n)
writes_negative n h =
    let fits : Is64 n = omega arith in
    let digits : all_ascii_digits (decimal n) ≡ true = digits_decimal own n fits in
    record {
      plain = record {
        filled = refl;
        plain = digits_plain (decimal n) digits;
        short = omega (arith, length-decimal-le 10 n (omega arith) (omega arith) fits);
      };
      written = and_from (is_filled (decimal n)) (all_ascii_digits (decimal n)) (filled_word (decimal n) (decimal_nonempty n fits)) digits;
      within = ap (λ m. nat_le m negatives) (value n fits) ∙ le-leb n negatives h;
      said = ap (λ m. negatives - m) (value n fits);
    }

an_id : (version : Version) (n : ℕ) → n ≤ greatest_id → Writes version Id n (decimal n)
an_id version n h = writes_number version Id n (fits_id n h) (and_from (nat_le 0 n) (nat_le n greatest_id) (le-leb 0 n (omega arith)) (le-leb n greatest_id h))

a_weight : (version : Version) (n : ℕ) → IsWeight n → Writes version Weight n (decimal n)
a_weight version n h = writes_number version Weight n (omega arith) (and_from (nat_le 0 n) (nat_le n greatest_weight) (le-leb 0 n (omega arith)) (le-leb n greatest_weight h))

an_amount : (version : Version) (n : ℕ) → IsAmount n → Writes version Amount n (decimal n)
an_amount version n h = writes_number version Amount n (fits_amount n h) (and_from (nat_le 1 n) (nat_le n greatest_amount) (le-leb 1 n h.0) (le-leb n greatest_amount h.1))

unsigned_coordinate : (version : Version) (n : ℕ) → n ≤ greatest_coordinate → Writes version Coordinate (kept version n) (decimal n)
unsigned_coordinate version n h = writes_number version Coordinate n (omega arith) (and_from (nat_le 0 n) (nat_le n greatest_coordinate) (le-leb 0 n (omega arith)) (le-leb n greatest_coordinate h))

a_coordinate : (version : Version) (n : ℕ) → IsCoordinate version n → Writes version Coordinate n (coordinate_text version n)
a_coordinate One n h = unsigned_coordinate One n h
a_coordinate Two n h = elim (cases_Bool (nat_lt n negatives)) [
  | inl below ↦
      let low : n < negatives = ltb-true n negatives below in
      let back : negatives - (negatives - n) ≡ n = omega (arith, low) in
      subst (λ b. Writes Two Coordinate n (cond b (45 ∷ decimal (negatives - n)) (decimal (n - negatives)))) (sym below)
      (subst (λ m. Writes Two Coordinate m (45 ∷ decimal (negatives - n))) back (writes_negative (negatives - n) (omega arith)))
  | inr above ↦
      let high : negatives ≤ n = ltb-false n negatives above in
      let back : negatives + (n - negatives) ≡ n = omega (arith, high) in
      subst (λ b. Writes Two Coordinate n (cond b (45 ∷ decimal (negatives - n)) (decimal (n - negatives)))) (sym above)
      (subst (λ m. Writes Two Coordinate m (decimal (n - negatives))) back (unsigned_coordinate Two (n - negatives) (omega (arith, h))))
]

all_plain : (version : Version) (fields : List Field) (ns : List ℕ) (words : List (List ℕ)) → AllWrite version fields ns words → ArePlainWords words
all_plain version [] [] [] h = tt
all_plain version [] [] (word ∷ words) h = absurd h
all_plain version [] (n ∷ ns) words h = absurd h
all_plain version (field ∷ fields) [] words h = absurd h
all_plain version (field ∷ fields) (n ∷ ns) [] h = absurd h
all_plain version (field ∷ fields) (n ∷ ns) (word ∷ words) h = (h.0.plain, all_plain version fields ns words h.1)

-- a test that passes for each field passes for all of them
all_pass : (version : Version) (test : Field → List ℕ → Bool) → ((field : Field) (n : ℕ) (word : List ℕ) → Writes version field n word → test field word ≡ true)
    → (fields : List Field) (ns : List ℕ) (words : List (List ℕ)) → AllWrite version fields ns words → all_fields test fields words ≡ true
all_pass version test each [] [] [] h = refl
all_pass version test each [] [] (word ∷ words) h = absurd h
all_pass version test each [] (n ∷ ns) words h = absurd h
all_pass version test each (field ∷ fields) [] words h = absurd h
all_pass version test each (field ∷ fields) (n ∷ ns) [] h = absurd h
all_pass version test each (field ∷ fields) (n ∷ ns) (word ∷ words) h =
    and_from (test field word) (all_fields test fields words) (each field n word h.0) (all_pass version test each fields ns words h.1)

-- numbers in their fields
abbrev with_numbers : List Field → List ℕ → Values → Values
with_numbers [] ns v = v
with_numbers (field ∷ fields) [] v = v
with_numbers (field ∷ fields) (n ∷ ns) v = with_numbers fields ns (with_value field n v)

-- what words say is the numbers that they write
with_values-written : (version : Version) (fields : List Field) (ns : List ℕ) (words : List (List ℕ)) (v : Values) → AllWrite version fields ns words
    → with_values version fields words v ≡ with_numbers fields ns v
with_values-written version [] [] [] v h = refl
with_values-written version [] [] (word ∷ words) v h = absurd h
with_values-written version [] (n ∷ ns) words v h = absurd h
with_values-written version (field ∷ fields) [] words v h = absurd h
with_values-written version (field ∷ fields) (n ∷ ns) [] v h = absurd h
with_values-written version (field ∷ fields) (n ∷ ns) (word ∷ words) v h =
    ap (λ m. with_values version fields words (with_value field m v)) h.0.said ∙ with_values-written version fields ns words (with_value field n v) h.1

-- ---- lines

-- a line of plain words is parsed by its words
parse-spaced : (version : Version) (word : List ℕ) (more : List (List ℕ)) → ArePlainWords (word ∷ more) → length more ≤ 10 → starts_with nat_eq word (35 ∷ []) ≡ false
    → parse version (spaced_words (word ∷ more)) ≡ parse_verb version (verb_of word) more
parse-spaced version word more plain few begins =
    let line = spaced_words (word ∷ more) in
    let last : nat_eq (get_or line (length line - 1) 0) 13 ≡ false = not_return _ (last_of_spaced word more plain) in
    let kept : without_return line ≡ line = ap (λ b. cond b (take (length line - 1) line) line) last in
    let short : ltb longest_line (length line) ≡ false = le-ltb longest_line (length line) (omega (arith, length-spaced (word ∷ more) plain)) in
    ap (parse_text version) kept
    ∙ ap (λ b. cond b (Err faults.Line) (parse_words version line (words line))) short
    ∙ ap (parse_words version line) (words-spaced word more plain)
    ∙ ap (λ b. cond b (Ok None) (cond (not (list_all is_printable line)) (Err faults.Line) (parse_verb version (verb_of word) more))) begins
    ∙ ap (λ b. cond (not b) (Err faults.Line) (parse_verb version (verb_of word) more)) (spaced_printable (word ∷ more) plain)
  where
    not_return : (byte : ℕ) → is_plain byte ≡ true → nat_eq byte 13 ≡ false
    not_return byte h = grind (arith, nat_tests)

-- a command word of the table
record IsCommandWord (verb : forms.Verb) (word : List ℕ) : Type 0 where
  plain : IsPlainWord word
  no_comment : starts_with nat_eq word (35 ∷ []) ≡ false
  known : verb_of word ≡ Some verb

begins : (verb : forms.Verb) (word : List ℕ) → is_filled word ≡ true → list_all is_plain word ≡ true → length word ≤ 20 → starts_with nat_eq word (35 ∷ []) ≡ false → verb_of word ≡ Some verb → IsCommandWord verb word
begins verb word filled plain short no_comment known = record { plain = record { filled = filled; plain = plain; short = short }; no_comment = no_comment; known = known }

-- The words of a form without indexes are read as its command.
says : (version : Version) (verb : forms.Verb) (word name : List ℕ) (ns : List ℕ) (more : List (List ℕ)) (command : Command) → IsCommandWord verb word → is_name name ≡ true
    → AllWrite version (form verb).fields ns more → length more ≤ 9
    → has_words (form verb) more ≡ true → is_ordered (form verb).order (with_numbers (form verb).fields ns (named name)).places ≡ true
    → (form verb).has_name ≡ true → (form verb).tail ≡ forms.Bare
    → command_of verb (with_numbers (form verb).fields ns (named name)) ≡ command
    → parse version (spaced_words (word ∷ name ∷ more)) ≡ Ok (Some command)
says version verb word name ns more command front h write few many ordered called free is =
    let f = form verb in
    let same = with_values-written version f.fields ns more (named name) write in
    let digits = all_pass version (is_digits version) (λ _ _ _ w. w.written) f.fields ns more write in
    let ranged = all_pass version (is_in_range version) (λ _ _ _ w. w.within) f.fields ns more write in
    let inorder : is_ordered f.order (with_values version f.fields more (named name)).places ≡ true = ap (λ (v : Values). is_ordered f.order v.places) same ∙ ordered in
    let read : parse_fields version verb f name more ≡ Ok (Some (command_of verb (with_values version f.fields more (named name)))) =
    rw (many, called, h, digits, ranged, inorder, free) refl in
    parse-spaced version word (name ∷ more) (front.plain, (name_word name h, all_plain version f.fields ns more write)) (omega arith) front.no_comment
    ∙ ap (λ v. parse_verb version v (name ∷ more)) front.known
    ∙ ap (λ b. cond b (parse_fields version verb f name more) (parse_fields version verb f [] (name ∷ more))) called
    ∙ read
    ∙ ap (λ (v : Values). Ok (Some (command_of verb v))) same
    ∙ ap (λ c. Ok (Some c)) is

-- ---- one form after the other

abbrev Says : Version → Command → Type 0
Says version command = parse version (command_line version command) ≡ Ok (Some command)

-- the end of a lower one, where the upper one is within the limits
lower : (version : Version) (lo hi : ℕ) → lo ≤ hi → IsCoordinate version hi → IsCoordinate version lo
lower version lo hi ordered h = omega (arith, h)

says_livemap : (version chosen : Version) → Says version (Livemap chosen)
unfolding form verbs command_of
says_livemap One One = refl
says_livemap One Two = refl
says_livemap Two One = refl
says_livemap Two Two = refl

says_point : (version : Version) (name : List ℕ) (id x y w : ℕ) → is_name name ≡ true → id ≤ greatest_id → IsCoordinate version x → IsCoordinate version y → IsWeight w → Says version (Add name id (Point x y w))
unfolding form verbs command_of
says_point version name id x y w named hid hx hy hw =
    says version forms.Add (codes "add") name (id ∷ x ∷ y ∷ w ∷ []) (point_words version id x y w) (Add name id (Point x y w)) (begins forms.Add (codes "add") refl refl (omega arith) refl refl)
    named (an_id version id hid, (a_coordinate version x hx, (a_coordinate version y hy, (a_weight version w hw, tt)))) (omega arith) refl refl refl refl refl

says_move : (version : Version) (name : List ℕ) (id x y w : ℕ) → is_name name ≡ true → id ≤ greatest_id → IsCoordinate version x → IsCoordinate version y → IsWeight w → Says version (Move name id x y w)
unfolding form verbs command_of
says_move version name id x y w named hid hx hy hw =
    says version forms.Move (codes "move") name (id ∷ x ∷ y ∷ w ∷ []) (point_words version id x y w) (Move name id x y w) (begins forms.Move (codes "move") refl refl (omega arith) refl refl)
    named (an_id version id hid, (a_coordinate version x hx, (a_coordinate version y hy, (a_weight version w hw, tt)))) (omega arith) refl refl refl refl refl

says_segment : (version : Version) (name : List ℕ) (id lo hi y : ℕ) → is_name name ≡ true → lo ≤ hi → id ≤ greatest_id → IsCoordinate version hi → IsCoordinate version y → Says version (Add name id (Segment lo hi y))
unfolding form verbs command_of
says_segment version name id lo hi y named ordered hid hhi hy =
    says version forms.Seg (codes "seg") name (id ∷ lo ∷ hi ∷ y ∷ []) (decimal id ∷ coordinate_text version lo ∷ coordinate_text version hi ∷ coordinate_text version y ∷ []) (Add name id (Segment lo hi y)) (begins forms.Seg (codes "seg") refl refl (omega arith) refl refl)
    named (an_id version id hid, (a_coordinate version lo (lower version lo hi ordered hhi), (a_coordinate version hi hhi, (a_coordinate version y hy, tt)))) (omega arith) refl (le-leb lo hi ordered) refl refl refl

says_drop : (version : Version) (name : List ℕ) (id : ℕ) → is_name name ≡ true → id ≤ greatest_id → Says version (Drop name id)
unfolding form verbs command_of
says_drop version name id named hid =
    says version forms.Drop (codes "drop") name (id ∷ []) (decimal id ∷ []) (Drop name id) (begins forms.Drop (codes "drop") refl refl (omega arith) refl refl)
    named (an_id version id hid, tt) (omega arith) refl refl refl refl refl

says_near : (version : Version) (name : List ℕ) (x y : ℕ) → is_name name ≡ true → IsCoordinate version x → IsCoordinate version y → Says version (Ask name (questions.Near x y))
unfolding form verbs command_of
says_near version name x y named hx hy =
    says version forms.Near (codes "near") name (x ∷ y ∷ []) (coordinate_text version x ∷ coordinate_text version y ∷ []) (Ask name (questions.Near x y)) (begins forms.Near (codes "near") refl refl (omega arith) refl refl)
    named (a_coordinate version x hx, (a_coordinate version y hy, tt)) (omega arith) refl refl refl refl refl

says_nearest : (version : Version) (name : List ℕ) (k x y : ℕ) → is_name name ≡ true → IsAmount k → IsCoordinate version x → IsCoordinate version y → Says version (Ask name (questions.Nearest k x y))
unfolding form verbs command_of
says_nearest version name k x y named hk hx hy =
    says version forms.Nearest (codes "nearest") name (k ∷ x ∷ y ∷ []) (decimal k ∷ coordinate_text version x ∷ coordinate_text version y ∷ []) (Ask name (questions.Nearest k x y)) (begins forms.Nearest (codes "nearest") refl refl (omega arith) refl refl)
    named (an_amount version k hk, (a_coordinate version x hx, (a_coordinate version y hy, tt))) (omega arith) refl refl refl refl refl

says_above : (version : Version) (name : List ℕ) (x1 x2 y : ℕ) → is_name name ≡ true → x1 ≤ x2 → IsCoordinate version x2 → IsCoordinate version y → Says version (Ask name (questions.Above x1 x2 y))
unfolding form verbs command_of
says_above version name x1 x2 y named ordered hx2 hy =
    says version forms.Above (codes "above") name (x1 ∷ x2 ∷ y ∷ []) (coordinate_text version x1 ∷ coordinate_text version x2 ∷ coordinate_text version y ∷ []) (Ask name (questions.Above x1 x2 y)) (begins forms.Above (codes "above") refl refl (omega arith) refl refl)
    named (a_coordinate version x1 (lower version x1 x2 ordered hx2), (a_coordinate version x2 hx2, (a_coordinate version y hy, tt))) (omega arith) refl (le-leb x1 x2 ordered) refl refl refl

says_top : (version : Version) (name : List ℕ) (x1 x2 : ℕ) → is_name name ≡ true → x1 ≤ x2 → IsCoordinate version x2 → Says version (Ask name (questions.Top x1 x2))
unfolding form verbs command_of
says_top version name x1 x2 named ordered hx2 =
    says version forms.Top (codes "top") name (x1 ∷ x2 ∷ []) (coordinate_text version x1 ∷ coordinate_text version x2 ∷ []) (Ask name (questions.Top x1 x2)) (begins forms.Top (codes "top") refl refl (omega arith) refl refl)
    named (a_coordinate version x1 (lower version x1 x2 ordered hx2), (a_coordinate version x2 hx2, tt)) (omega arith) refl (le-leb x1 x2 ordered) refl refl refl

says_stab : (version : Version) (name : List ℕ) (x : ℕ) → is_name name ≡ true → IsCoordinate version x → Says version (Ask name (questions.Stab x))
unfolding form verbs command_of
says_stab version name x named hx =
    says version forms.Stab (codes "stab") name (x ∷ []) (coordinate_text version x ∷ []) (Ask name (questions.Stab x)) (begins forms.Stab (codes "stab") refl refl (omega arith) refl refl)
    named (a_coordinate version x hx, tt) (omega arith) refl refl refl refl refl

says_stabcount : (version : Version) (name : List ℕ) (x : ℕ) → is_name name ≡ true → IsCoordinate version x → Says version (Ask name (questions.StabCount x))
unfolding form verbs command_of
says_stabcount version name x named hx =
    says version forms.StabCount (codes "stabcount") name (x ∷ []) (coordinate_text version x ∷ []) (Ask name (questions.StabCount x)) (begins forms.StabCount (codes "stabcount") refl refl (omega arith) refl refl)
    named (a_coordinate version x hx, tt) (omega arith) refl refl refl refl refl

-- the two forms with a place and a span of heights
says_span : (version : Version) (verb : forms.Verb) (word name : List ℕ) (x y1 y2 : ℕ) (command : Command) → IsCommandWord verb word → is_name name ≡ true
    → IsCoordinate version x → y1 ≤ y2 → IsCoordinate version y2
    → form verb ≡ forms.row word (Coordinate ∷ Coordinate ∷ Coordinate ∷ []) forms.Heights
    → command_of verb (record (named name) { places = x ∷ y1 ∷ y2 ∷ [] }) ≡ command
    → parse version (spaced_words (word ∷ name ∷ coordinate_text version x ∷ coordinate_text version y1 ∷ coordinate_text version y2 ∷ [])) ≡ Ok (Some command)
says_span version verb word name x y1 y2 command front h hx ordered hy2 row is =
    let more = coordinate_text version x ∷ coordinate_text version y1 ∷ coordinate_text version y2 ∷ [] in
    let ns = x ∷ y1 ∷ y2 ∷ [] in
    let write : AllWrite version (Coordinate ∷ Coordinate ∷ Coordinate ∷ []) ns more =
    (a_coordinate version x hx, (a_coordinate version y1 (lower version y1 y2 ordered hy2), (a_coordinate version y2 hy2, tt))) in
    says version verb word name ns more command front h
    (subst (λ (f : Form). AllWrite version f.fields ns more) (sym row) write) (omega arith)
    (ap (λ (f : Form). has_words f more) row)
    (ap (λ (f : Form). is_ordered f.order (with_numbers f.fields ns (named name)).places) row ∙ le-leb y1 y2 ordered)
    (ap (λ (f : Form). f.has_name) row)
    (ap (λ (f : Form). f.tail) row)
    (ap (λ (f : Form). command_of verb (with_numbers f.fields ns (named name))) row ∙ is)

says_cross : (version : Version) (name : List ℕ) (x y1 y2 : ℕ) → is_name name ≡ true → IsCoordinate version x → y1 ≤ y2 → IsCoordinate version y2 → Says version (Ask name (questions.CrossIn x y1 y2))
unfolding form verbs command_of
says_cross version name x y1 y2 named hx ordered hy2 =
    says_span version forms.Cross (codes "cross") name x y1 y2 (Ask name (questions.CrossIn x y1 y2)) (begins forms.Cross (codes "cross") refl refl (omega arith) refl refl) named hx ordered hy2 refl refl

says_crosscount : (version : Version) (name : List ℕ) (x y1 y2 : ℕ) → is_name name ≡ true → IsCoordinate version x → y1 ≤ y2 → IsCoordinate version y2 → Says version (Ask name (questions.CrossCount x y1 y2))
unfolding form verbs command_of
says_crosscount version name x y1 y2 named hx ordered hy2 =
    says_span version forms.CrossCount (codes "crosscount") name x y1 y2 (Ask name (questions.CrossCount x y1 y2)) (begins forms.CrossCount (codes "crosscount") refl refl (omega arith) refl refl) named hx ordered hy2 refl refl

says_get : (version : Version) (name : List ℕ) (id : ℕ) → is_name name ≡ true → id ≤ greatest_id → Says version (Get name id)
unfolding form verbs command_of
says_get version name id named hid =
    says version forms.Get (codes "get") name (id ∷ []) (decimal id ∷ []) (Get name id) (begins forms.Get (codes "get") refl refl (omega arith) refl refl)
    named (an_id version id hid, tt) (omega arith) refl refl refl refl refl

says_size : (version : Version) (name : List ℕ) → is_name name ≡ true → Says version (Size name)
unfolding form verbs command_of
says_size version name named =
    says version forms.Size (codes "size") name ([]) ([]) (Size name) (begins forms.Size (codes "size") refl refl (omega arith) refl refl)
    named tt (omega arith) refl refl refl refl refl

says_recent : (version : Version) (name : List ℕ) (k : ℕ) → is_name name ≡ true → IsAmount k → Says version (Recent name k)
unfolding form verbs command_of
says_recent version name k named hk =
    says version forms.Recent (codes "recent") name (k ∷ []) (decimal k ∷ []) (Recent name k) (begins forms.Recent (codes "recent") refl refl (omega arith) refl refl)
    named (an_amount version k hk, tt) (omega arith) refl refl refl refl refl

-- the three forms with a rectangle
says_rect : (version : Version) (verb : forms.Verb) (word name : List ℕ) (rect : Rect) (command : Command) → IsCommandWord verb word → is_name name ≡ true → IsRect version rect
    → form verb ≡ forms.row word forms.corner_fields forms.Corners
    → command_of verb (record (named name) { places = rect.x1 ∷ rect.y1 ∷ rect.x2 ∷ rect.y2 ∷ [] }) ≡ command
    → parse version (spaced_words (word ∷ name ∷ rect_words version rect)) ≡ Ok (Some command)
says_rect version verb word name rect command front h inside row is =
    let more = rect_words version rect in
    let ns = rect.x1 ∷ rect.y1 ∷ rect.x2 ∷ rect.y2 ∷ [] in
    let write : AllWrite version forms.corner_fields ns more = (
      a_coordinate version rect.x1 (lower version rect.x1 rect.x2 inside.0 inside.2),
      (a_coordinate version rect.y1 (lower version rect.y1 rect.y2 inside.1 inside.3), (a_coordinate version rect.x2 inside.2, (a_coordinate version rect.y2 inside.3, tt))),
    ) in
    let corners : is_ordered forms.Corners ns ≡ true = and_from _ _ (le-leb rect.x1 rect.x2 inside.0) (le-leb rect.y1 rect.y2 inside.1) in
    says version verb word name ns more command front h
    (subst (λ (f : Form). AllWrite version f.fields ns more) (sym row) write) (omega arith)
    (ap (λ (f : Form). has_words f more) row)
    (ap (λ (f : Form). is_ordered f.order (with_numbers f.fields ns (named name)).places) row ∙ corners)
    (ap (λ (f : Form). f.has_name) row)
    (ap (λ (f : Form). f.tail) row)
    (ap (λ (f : Form). command_of verb (with_numbers f.fields ns (named name))) row ∙ is)

says_count : (version : Version) (name : List ℕ) (rect : Rect) → is_name name ≡ true → IsRect version rect → Says version (Ask name (questions.CountIn rect))
unfolding form verbs command_of
says_count version name rect named inside =
    says_rect version forms.Count (codes "count") name rect (Ask name (questions.CountIn rect)) (begins forms.Count (codes "count") refl refl (omega arith) refl refl) named inside refl refl

says_sum : (version : Version) (name : List ℕ) (rect : Rect) → is_name name ≡ true → IsRect version rect → Says version (Ask name (questions.SumIn rect))
unfolding form verbs command_of
says_sum version name rect named inside =
    says_rect version forms.Sum (codes "sum") name rect (Ask name (questions.SumIn rect)) (begins forms.Sum (codes "sum") refl refl (omega arith) refl refl) named inside refl refl

says_list : (version : Version) (name : List ℕ) (rect : Rect) → is_name name ≡ true → IsRect version rect → Says version (Ask name (questions.ListIn rect))
unfolding form verbs command_of
says_list version name rect named inside =
    says_rect version forms.ListIds (codes "list") name rect (Ask name (questions.ListIn rect)) (begins forms.ListIds (codes "list") refl refl (omega arith) refl refl) named inside refl refl

-- ---- layers

-- the words of a set of indexes are some, and are read as that set
record IsRead (kind : Kind) (s : IndexSet) (v : Values) : Type 0 where
  some : 1 ≤ length (index_words s)
  read : parse_indexes forms.Layer v kind (index_words s) ≡ Ok (Some (MakeLayer v.name kind s))

abbrev set_of : Bool → Bool → Bool → Bool → Bool → Bool → IndexSet
set_of range near top stab cross batch = record { range = range; near = near; top = top; stab = stab; cross = cross; batch = batch }

points_read : (range near top stab cross batch : Bool) (v : Values) → fits Points (set_of range near top stab cross batch) ≡ true → IsRead Points (set_of range near top stab cross batch) v
unfolding command_of
points_read true true true false false false v h = record { some = omega arith; read = refl }
points_read true true false false false false v h = record { some = omega arith; read = refl }
points_read true false true false false false v h = record { some = omega arith; read = refl }
points_read true false false false false false v h = record { some = omega arith; read = refl }
points_read false true true false false false v h = record { some = omega arith; read = refl }
points_read false true false false false false v h = record { some = omega arith; read = refl }
points_read false false true false false false v h = record { some = omega arith; read = refl }
points_read _ _ _ _ _ _ v h = absurd (false≢true h)

segments_read : (range near top cross batch stab : Bool) (v : Values) → fits Segments (set_of range near top stab cross batch) ≡ true → IsRead Segments (set_of range near top stab cross batch) v
unfolding command_of
segments_read false false false false false true v h = record { some = omega arith; read = refl }
segments_read _ _ _ _ _ _ v h = absurd (false≢true h)

indexes_read : (kind : Kind) (s : IndexSet) (v : Values) → fits kind s ≡ true → IsRead kind s v
indexes_read Points s v h = points_read s.range s.near s.top s.stab s.cross s.batch v h
indexes_read Segments s v h = segments_read s.range s.near s.top s.cross s.batch s.stab v h

-- the words of a set are plain, and at most six
one_word_plain : (b : Bool) (word : List ℕ) → IsPlainWord word → ArePlainWords (word_if b word)
one_word_plain true word p = (p, tt)
one_word_plain false word p = tt

both_plain : (words more : List (List ℕ)) → ArePlainWords words → ArePlainWords more → ArePlainWords (words ++ more)
both_plain [] more p q = q
both_plain (word ∷ words) more p q = (p.0, both_plain words more p.1 q)

few_words : (b : Bool) (word : List ℕ) → length (word_if b word) ≤ 1
few_words true word = omega arith
few_words false word = omega arith

set_words_plain : (s : IndexSet) → ArePlainWords (index_words s)
set_words_plain s =
    both_plain _ (word_if s.batch (codes "batch"))
    (both_plain _ (word_if s.cross (codes "cross"))
    (both_plain _ (word_if s.stab (codes "stab"))
    (both_plain _ (word_if s.top (codes "top"))
    (both_plain (word_if s.range (codes "range")) (word_if s.near (codes "near"))
    (one_word_plain s.range (codes "range") (known_word (codes "range") refl refl (omega arith)))
    (one_word_plain s.near (codes "near") (known_word (codes "near") refl refl (omega arith))))
    (one_word_plain s.top (codes "top") (known_word (codes "top") refl refl (omega arith))))
    (one_word_plain s.stab (codes "stab") (known_word (codes "stab") refl refl (omega arith))))
    (one_word_plain s.cross (codes "cross") (known_word (codes "cross") refl refl (omega arith))))
    (one_word_plain s.batch (codes "batch") (known_word (codes "batch") refl refl (omega arith)))

layer_words_plain : (kind : Kind) (s : IndexSet) → ArePlainWords (kind_word kind ∷ index_words s)
layer_words_plain kind s = (kind_plain kind, set_words_plain s)
  where
    kind_plain : (kind : Kind) → IsPlainWord (kind_word kind)
    kind_plain Points = known_word (codes "points") refl refl (omega arith)
    kind_plain Segments = known_word (codes "segments") refl refl (omega arith)

few_indexes : (s : IndexSet) → length (index_words s) ≤ 6
few_indexes s =
    let a = word_if s.range (codes "range") in
    let b = word_if s.near (codes "near") in
    let c = word_if s.top (codes "top") in
    let d = word_if s.stab (codes "stab") in
    let e = word_if s.cross (codes "cross") in
    let f = word_if s.batch (codes "batch") in
    omega (
      arith,
      few_words s.range (codes "range"),
      few_words s.near (codes "near"),
      few_words s.top (codes "top"),
      few_words s.stab (codes "stab"),
      few_words s.cross (codes "cross"),
      few_words s.batch (codes "batch"),
      length-append ((((a ++ b) ++ c) ++ d) ++ e) f,
      length-append (((a ++ b) ++ c) ++ d) e,
      length-append ((a ++ b) ++ c) d,
      length-append (a ++ b) c,
      length-append a b,
    )

-- a kind and some words behind the name of a layer
layer_fields : (version : Version) (name : List ℕ) (kind : Kind) (words : List (List ℕ)) → is_name name ≡ true → 1 ≤ length words
    → parse_fields version forms.Layer (form forms.Layer) name (kind_word kind ∷ words) ≡ parse_indexes forms.Layer (named name) kind words
unfolding form
layer_fields version name Points words h some = rw (le-leb 2 (suc (length words)) (omega arith), h) refl
layer_fields version name Segments words h some = rw (le-leb 2 (suc (length words)) (omega arith), h) refl

says_layer : (version : Version) (name : List ℕ) (kind : Kind) (s : IndexSet) → is_name name ≡ true → fits kind s ≡ true → Says version (MakeLayer name kind s)
unfolding form verbs
says_layer version name kind s h fitting =
    let read = indexes_read kind s (named name) fitting in
    parse-spaced version (codes "layer") (name ∷ kind_word kind ∷ index_words s)
    (known_word (codes "layer") refl refl (omega arith), (name_word name h, layer_words_plain kind s))
    (omega (arith, few_indexes s)) refl
    ∙ layer_fields version name kind (index_words s) h read.some
    ∙ read.read

-- ---- an index of a layer in use

index_plain : (index : Index) → IsPlainWord (index_word index)
index_plain Range = known_word (codes "range") refl refl (omega arith)
index_plain Near = known_word (codes "near") refl refl (omega arith)
index_plain Top = known_word (codes "top") refl refl (omega arith)
index_plain Stab = known_word (codes "stab") refl refl (omega arith)
index_plain Cross = known_word (codes "cross") refl refl (omega arith)

index_fields : (version : Version) (name : List ℕ) (index : Index) → is_name name ≡ true → may_be_late index ≡ true
    → parse_fields version forms.Index (form forms.Index) name (index_word index ∷ []) ≡ Ok (Some (MakeIndex name index))
unfolding form command_of
index_fields version name Range h late = rw h refl
index_fields version name Near h late = rw h refl
index_fields version name Top h late = rw h refl
index_fields version name Stab h late = absurd (false≢true late)
index_fields version name Cross h late = absurd (false≢true late)

says_index : (version : Version) (name : List ℕ) (index : Index) → is_name name ≡ true → may_be_late index ≡ true → Says version (MakeIndex name index)
unfolding form verbs
says_index version name index h late =
    parse-spaced version (codes "index") (name ∷ index_word index ∷ [])
    (known_word (codes "index") refl refl (omega arith), (name_word name h, (index_plain index, tt)))
    (omega arith) refl
    ∙ index_fields version name index h late

-- ---- every command

says_question : (version : Version) (name : List ℕ) (question : questions.Question) → is_name name ≡ true → IsQuestion version question → Says version (Ask name question)
says_question version name (questions.CountIn rect) named h = says_count version name rect named h
says_question version name (questions.SumIn rect) named h = says_sum version name rect named h
says_question version name (questions.ListIn rect) named h = says_list version name rect named h
says_question version name (questions.Near x y) named h = says_near version name x y named h.0 h.1
says_question version name (questions.Nearest k x y) named h = says_nearest version name k x y named h.0 h.1 h.2
says_question version name (questions.Above x1 x2 y) named h = says_above version name x1 x2 y named h.0 h.1 h.2
says_question version name (questions.Top x1 x2) named h = says_top version name x1 x2 named h.0 h.1
says_question version name (questions.Stab x) named h = says_stab version name x named h
says_question version name (questions.StabCount x) named h = says_stabcount version name x named h
says_question version name (questions.CrossIn x y1 y2) named h = says_cross version name x y1 y2 named h.0 h.1 h.2
says_question version name (questions.CrossCount x y1 y2) named h = says_crosscount version name x y1 y2 named h.0 h.1 h.2

pub parse-command_line : (version : Version) (command : Command) → IsCommand version command → Says version command
parse-command_line version (Livemap chosen) h = says_livemap version chosen
parse-command_line version (MakeLayer name kind indexes) h = says_layer version name kind indexes h.named h.in_limits
parse-command_line version (MakeIndex name index) h = says_index version name index h.named h.in_limits
parse-command_line version (Add name id (Point x y w)) h = says_point version name id x y w h.named h.in_limits.0 h.in_limits.1.0 h.in_limits.1.1 h.in_limits.1.2
parse-command_line version (Add name id (Segment lo hi y)) h = says_segment version name id lo hi y h.named h.in_limits.1.0 h.in_limits.0 h.in_limits.1.1 h.in_limits.1.2
parse-command_line version (Move name id x y w) h = says_move version name id x y w h.named h.in_limits.0 h.in_limits.1.0 h.in_limits.1.1 h.in_limits.1.2
parse-command_line version (Drop name id) h = says_drop version name id h.named h.in_limits
parse-command_line version (Ask name question) h = says_question version name question h.named h.in_limits
parse-command_line version (Get name id) h = says_get version name id h.named h.in_limits
parse-command_line version (Size name) h = says_size version name h.named
parse-command_line version (Recent name k) h = says_recent version name k h.named h.in_limits
