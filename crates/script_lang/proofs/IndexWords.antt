-- Where as many indexes are read as there are words, they are the indexes of all of them.
use Rattle.std.proofs.Common.{◌≡◌, ℕ, Bool, true, false, cond, not, ◌&&◌, ◌||◌, List, [], ◌∷◌, codes, Option, Some, None, bytes_eq, option_map, refl, sym, ap, ◌∙◌, subst, inl, inr, ◌⊎◌, ◌+◌, ◌≤◌, length, ltb, nat_lt, arith, option_and_then}
use Rattle.std.specs.List.{list_all, list_any}
use Rattle.std.proofs.Math.Bool.{or-false, or-true, and-false, and-true}
use Rattle.std.proofs.lemmas.Bool.{cases_Bool, le-ltb, lt-ltb}
use Rattle.std.proofs.lemmas.Bool.Decides.{nat_tests}
use Rattle.std.proofs.lemmas.Bool.Decides.{same_from_decides}
use Rattle.std.proofs.lemmas.Slice.Eq.{bytes_eq-Decides}
use Rattle.map_model.specs.Index as model
use Rattle.map_model.specs.Grammar.{is_index_word, is_distinct, index_set}
use Rattle.map_shapes.specs.declared.index_set.IndexSet.{IndexSet}
use Rattle.map_shapes.specs.IndexSet.{index_set_of}
use Rattle.script_lang.specs.Indexes.{no_index, with_index, with_index_words, word_count}

-- one more index, where it isn't there yet
abbrev new_index : IndexSet → List ℕ → Option IndexSet
new_index s word =
    cond (bytes_eq word (codes "range") && not s.range) (Some (record s { range = true }))
    (cond (bytes_eq word (codes "near") && not s.near) (Some (record s { near = true }))
    (cond (bytes_eq word (codes "top") && not s.top) (Some (record s { top = true }))
    (cond (bytes_eq word (codes "stab") && not s.stab) (Some (record s { stab = true }))
    (cond (bytes_eq word (codes "cross") && not s.cross) (Some (record s { cross = true }))
    (cond (bytes_eq word (codes "batch") && not s.batch) (Some (record s { batch = true })) None)))))

-- the indexes of words, behind those that were read
abbrev new_index_words : List (List ℕ) → Option IndexSet → Option IndexSet
new_index_words [] read = read
new_index_words (word ∷ words) read = new_index_words words (option_and_then (λ s. new_index s word) read)

none_stays : (words : List (List ℕ)) → new_index_words words None ≡ None
none_stays [] = refl
none_stays (word ∷ words) = none_stays words

-- ---- one word

-- the words of a set
data Index : Type 0 where
  Range : Index
  Near : Index
  Top : Index
  Stab : Index
  Cross : Index
  Batch : Index

abbrev word_of : Index → List ℕ
word_of Range = codes "range"
word_of Near = codes "near"
word_of Top = codes "top"
word_of Stab = codes "stab"
word_of Cross = codes "cross"
word_of Batch = codes "batch"

abbrev holds : IndexSet → Index → Bool
holds s Range = s.range
holds s Near = s.near
holds s Top = s.top
holds s Stab = s.stab
holds s Cross = s.cross
holds s Batch = s.batch

abbrev put : Index → IndexSet → IndexSet
put Range s = record s { range = true }
put Near s = record s { near = true }
put Top s = record s { top = true }
put Stab s = record s { stab = true }
put Cross s = record s { cross = true }
put Batch s = record s { batch = true }

-- whether the set has the index of a word
abbrev seen : IndexSet → List ℕ → Bool
seen s word =
    cond (bytes_eq word (codes "range")) s.range
    (cond (bytes_eq word (codes "near")) s.near
    (cond (bytes_eq word (codes "top")) s.top
    (cond (bytes_eq word (codes "stab")) s.stab
    (cond (bytes_eq word (codes "cross")) s.cross
    (cond (bytes_eq word (codes "batch")) s.batch false)))))

-- a word that is no index
record IsOther (word : List ℕ) : Type 0 where
  not_range : bytes_eq word (codes "range") ≡ false
  not_near : bytes_eq word (codes "near") ≡ false
  not_top : bytes_eq word (codes "top") ≡ false
  not_stab : bytes_eq word (codes "stab") ≡ false
  not_cross : bytes_eq word (codes "cross") ≡ false
  not_batch : bytes_eq word (codes "batch") ≡ false

same_word : (word other : List ℕ) → bytes_eq word other ≡ true → word ≡ other
same_word word other e = (bytes_eq-Decides word other).0 e

index_or_other : (word : List ℕ) → ((i : Index) × (word ≡ word_of i)) ⊎ IsOther word
index_or_other word = elim (cases_Bool (bytes_eq word (codes "range"))) [
  | inl is ↦ inl (Range, same_word word (codes "range") is)
  | inr not_r0 ↦ elim (cases_Bool (bytes_eq word (codes "near"))) [
    | inl is ↦ inl (Near, same_word word (codes "near") is)
    | inr not_n1 ↦ elim (cases_Bool (bytes_eq word (codes "top"))) [
      | inl is ↦ inl (Top, same_word word (codes "top") is)
      | inr not_t2 ↦ elim (cases_Bool (bytes_eq word (codes "stab"))) [
        | inl is ↦ inl (Stab, same_word word (codes "stab") is)
        | inr not_s3 ↦ elim (cases_Bool (bytes_eq word (codes "cross"))) [
          | inl is ↦ inl (Cross, same_word word (codes "cross") is)
          | inr not_c4 ↦ elim (cases_Bool (bytes_eq word (codes "batch"))) [
            | inl is ↦ inl (Batch, same_word word (codes "batch") is)
            | inr not_b5 ↦ inr (record { not_range = not_r0; not_near = not_n1; not_top = not_t2; not_stab = not_s3; not_cross = not_c4; not_batch = not_b5 })
          ]
        ]
      ]
    ]
  ]
]

new_index-index : (s : IndexSet) (i : Index) → new_index s (word_of i) ≡ cond (not (holds s i)) (Some (put i s)) None
new_index-index s Range = refl
new_index-index s Near = refl
new_index-index s Top = refl
new_index-index s Stab = refl
new_index-index s Cross = refl
new_index-index s Batch = refl

new_index-other : (s : IndexSet) (word : List ℕ) → IsOther word → new_index s word ≡ None
new_index-other s word h = rw (h.not_range, h.not_near, h.not_top, h.not_stab, h.not_cross, h.not_batch) refl

is_index : (i : Index) → is_index_word (word_of i) ≡ true
is_index Range = refl
is_index Near = refl
is_index Top = refl
is_index Stab = refl
is_index Cross = refl
is_index Batch = refl

is_no_index : (word : List ℕ) → IsOther word → is_index_word word ≡ false
is_no_index word h = rw (h.not_range, h.not_near, h.not_top, h.not_stab, h.not_cross, h.not_batch) refl

seen-index : (s : IndexSet) (i : Index) → seen s (word_of i) ≡ holds s i
seen-index s Range = refl
seen-index s Near = refl
seen-index s Top = refl
seen-index s Stab = refl
seen-index s Cross = refl
seen-index s Batch = refl

seen-other : (s : IndexSet) (word : List ℕ) → IsOther word → seen s word ≡ false
seen-other s word h = rw (h.not_range, h.not_near, h.not_top, h.not_stab, h.not_cross, h.not_batch) refl

-- ---- one index more

bytes_eq-sym : (a b : List ℕ) → bytes_eq a b ≡ bytes_eq b a
bytes_eq-sym a b = same_from_decides (bytes_eq a b) (bytes_eq b a) (bytes_eq-Decides a b) ((λ e. sym ((bytes_eq-Decides b a).0 e)), λ e. (bytes_eq-Decides b a).1 (sym e))

other_apart : (i : Index) (word : List ℕ) → IsOther word → bytes_eq (word_of i) word ≡ false
other_apart Range word h = bytes_eq-sym (codes "range") word ∙ h.not_range
other_apart Near word h = bytes_eq-sym (codes "near") word ∙ h.not_near
other_apart Top word h = bytes_eq-sym (codes "top") word ∙ h.not_top
other_apart Stab word h = bytes_eq-sym (codes "stab") word ∙ h.not_stab
other_apart Cross word h = bytes_eq-sym (codes "cross") word ∙ h.not_cross
other_apart Batch word h = bytes_eq-sym (codes "batch") word ∙ h.not_batch

holds-put : (i j : Index) (s : IndexSet) → holds (put i s) j ≡ (holds s j || bytes_eq (word_of i) (word_of j))
holds-put Range Range s = sym (or-true s.range)
holds-put Near Near s = sym (or-true s.near)
holds-put Top Top s = sym (or-true s.top)
holds-put Stab Stab s = sym (or-true s.stab)
holds-put Cross Cross s = sym (or-true s.cross)
holds-put Batch Batch s = sym (or-true s.batch)
holds-put _ Range s = sym (or-false s.range)
holds-put _ Near s = sym (or-false s.near)
holds-put _ Top s = sym (or-false s.top)
holds-put _ Stab s = sym (or-false s.stab)
holds-put _ Cross s = sym (or-false s.cross)
holds-put _ Batch s = sym (or-false s.batch)

seen-put : (i : Index) (s : IndexSet) (word : List ℕ) → seen (put i s) word ≡ (seen s word || bytes_eq (word_of i) word)
seen-put i s word = elim (index_or_other word) [
  | inl found ↦
      ap (seen (put i s)) found.1 ∙ seen-index (put i s) found.0 ∙ holds-put i found.0 s
      ∙ ap (λ b. b || bytes_eq (word_of i) (word_of found.0)) (sym (seen-index s found.0))
      ∙ ap (λ w. seen s w || bytes_eq (word_of i) w) (sym found.1)
  | inr other ↦ seen-other (put i s) word other ∙ sym (ap (λ b. b || bytes_eq (word_of i) word) (seen-other s word other) ∙ other_apart i word other)
]

-- no word is one of the set
abbrev fresh : IndexSet → List (List ℕ) → Bool
fresh s words = list_all (λ word. not (seen s word)) words

apart_step : (a b f c : Bool) → (not (a || b) && (f && not c)) ≡ ((not a && f) && not (b || c))
apart_step true b f c = refl
apart_step false true f c = sym (and-false f)
apart_step false false f c = refl

fresh-put : (i : Index) (s : IndexSet) (words : List (List ℕ)) → fresh (put i s) words ≡ (fresh s words && not (list_any (bytes_eq (word_of i)) words))
fresh-put i s [] = refl
fresh-put i s (word ∷ words) =
    ap (λ b. not b && fresh (put i s) words) (seen-put i s word)
    ∙ ap (λ b. not (seen s word || bytes_eq (word_of i) word) && b) (fresh-put i s words)
    ∙ apart_step (seen s word) (bytes_eq (word_of i) word) (fresh s words) (list_any (bytes_eq (word_of i)) words)

abbrev both : model.IndexSet → model.IndexSet → model.IndexSet
both s t = record { range = s.range || t.range; near = s.near || t.near; top = s.top || t.top; stab = s.stab || t.stab; cross = s.cross || t.cross; batch = s.batch || t.batch }

both-put : (i : Index) (s : IndexSet) (words : List (List ℕ)) → both (index_set_of (put i s)) (index_set words) ≡ both (index_set_of s) (index_set (word_of i ∷ words))
both-put Range s words = λ k. record (both (index_set_of s) (index_set words)) { range = sym (or-true s.range) k }
both-put Near s words = λ k. record (both (index_set_of s) (index_set words)) { near = sym (or-true s.near) k }
both-put Top s words = λ k. record (both (index_set_of s) (index_set words)) { top = sym (or-true s.top) k }
both-put Stab s words = λ k. record (both (index_set_of s) (index_set words)) { stab = sym (or-true s.stab) k }
both-put Cross s words = λ k. record (both (index_set_of s) (index_set words)) { cross = sym (or-true s.cross) k }
both-put Batch s words = λ k. record (both (index_set_of s) (index_set words)) { batch = sym (or-true s.batch) k }

-- ---- all words

-- each word is an index, none stands twice, and none is in the set
abbrev are_new : IndexSet → List (List ℕ) → Bool
are_new s words = list_all is_index_word words && is_distinct words && fresh s words

abbrev pub set_if : Bool → model.IndexSet → Option model.IndexSet
set_if b s = cond b (Some s) None

no_index_there : (all distinct new is : Bool) → is ≡ false → ((is && all) && distinct && new) ≡ false
no_index_there all distinct new is e = rw e refl

twice : (all distinct new held : Bool) → held ≡ true → (all && distinct && (not held && new)) ≡ false
twice all distinct new held e = rw e (and-false (all && distinct))

once : (all any distinct new : Bool) → (all && distinct && (new && not any)) ≡ (all && (not any && distinct) && new)
once all true distinct new = ap (λ b. all && distinct && b) (and-false new) ∙ and-false (all && distinct) ∙ sym (ap (λ b. b && new) (and-false all))
once all false distinct new = ap (λ b. all && distinct && b) (and-true new)

read-index : (s : IndexSet) (i : Index) (words : List (List ℕ))
    → ((t : IndexSet) → option_map index_set_of (new_index_words words (Some t)) ≡ set_if (are_new t words) (both (index_set_of t) (index_set words)))
    → option_map index_set_of (new_index_words words (new_index s (word_of i))) ≡ set_if (are_new s (word_of i ∷ words)) (both (index_set_of s) (index_set (word_of i ∷ words)))
read-index s i words more =
    let all = list_all is_index_word words in
    let any = list_any (bytes_eq (word_of i)) words in
    let end : Bool → Option model.IndexSet = λ b. set_if b (both (index_set_of s) (index_set (word_of i ∷ words))) in
    let read : Bool → Option model.IndexSet = λ b. option_map index_set_of (new_index_words words (cond (not b) (Some (put i s)) None)) in
    ap (λ o. option_map index_set_of (new_index_words words o)) (new_index-index s i)
    ∙ elim (cases_Bool (holds s i)) [
      | inl there ↦
          ap read there
          ∙ ap (option_map index_set_of) (none_stays words)
          ∙ sym (ap end (twice (is_index_word (word_of i) && all) (not any && is_distinct words) (fresh s words) (seen s (word_of i)) (seen-index s i ∙ there)))
      | inr new' ↦
          ap read new'
          ∙ more (put i s)
          ∙ ap (λ b. set_if (all && is_distinct words && b) (both (index_set_of (put i s)) (index_set words))) (fresh-put i s words)
          ∙ ap (λ b. set_if b (both (index_set_of (put i s)) (index_set words))) (once all any (is_distinct words) (fresh s words))
          ∙ ap (set_if (all && (not any && is_distinct words) && fresh s words)) (both-put i s words)
          ∙ sym (ap end (λ k. (is_index i k && all) && (not any && is_distinct words) && (not ((seen-index s i ∙ new') k) && fresh s words)))
    ]

new_index_words-is : (s : IndexSet) (words : List (List ℕ)) → option_map index_set_of (new_index_words words (Some s)) ≡ set_if (are_new s words) (both (index_set_of s) (index_set words))
new_index_words-is s [] = λ k. Some (record { range = sym (or-false s.range) k; near = sym (or-false s.near) k; top = sym (or-false s.top) k; stab = sym (or-false s.stab) k; cross = sym (or-false s.cross) k; batch = sym (or-false s.batch) k })
new_index_words-is s (word ∷ words) = elim (index_or_other word) [
  | inl found ↦
      subst (λ (w : List ℕ). option_map index_set_of (new_index_words words (new_index s w)) ≡ set_if (are_new s (w ∷ words)) (both (index_set_of s) (index_set (w ∷ words)))) (sym found.1)
      (read-index s found.0 words (λ t. new_index_words-is t words))
  | inr other ↦
      ap (λ o. option_map index_set_of (new_index_words words o)) (new_index-other s word other)
      ∙ ap (option_map index_set_of) (none_stays words)
      ∙ sym (ap (λ b. set_if b (both (index_set_of s) (index_set (word ∷ words))))
      (no_index_there (list_all is_index_word words) (is_distinct (word ∷ words)) (fresh s (word ∷ words)) (is_index_word word) (is_no_index word other)))
]

-- begun with no index
fresh-none : (s : IndexSet) (words : List (List ℕ)) → index_set_of s ≡ model.no_indexes → fresh s words ≡ true
fresh-none s [] h = refl
fresh-none s (word ∷ words) h = ap (λ b. not b && fresh s words) (elim (index_or_other word) [
  | inl found ↦ ap (seen s) found.1 ∙ seen-index s found.0 ∙ none_held found.0
  | inr other ↦ seen-other s word other
]) ∙ fresh-none s words h
  where
    none_held : (i : Index) → holds s i ≡ false
    none_held Range = ap (λ (t : model.IndexSet). t.range) h
    none_held Near = ap (λ (t : model.IndexSet). t.near) h
    none_held Top = ap (λ (t : model.IndexSet). t.top) h
    none_held Stab = ap (λ (t : model.IndexSet). t.stab) h
    none_held Cross = ap (λ (t : model.IndexSet). t.cross) h
    none_held Batch = ap (λ (t : model.IndexSet). t.batch) h

indexes_of_words : (s : IndexSet) (words : List (List ℕ)) → index_set_of s ≡ model.no_indexes
    → option_map index_set_of (new_index_words words (Some s)) ≡ set_if (list_all is_index_word words && is_distinct words) (index_set words)
indexes_of_words s words none =
    new_index_words-is s words
    ∙ ap (λ b. set_if (list_all is_index_word words && is_distinct words && b) (both (index_set_of s) (index_set words))) (fresh-none s words none)
    ∙ ap (λ b. set_if b (both (index_set_of s) (index_set words))) (and-true (list_all is_index_word words && is_distinct words))
    ∙ ap (λ t. set_if (list_all is_index_word words && is_distinct words) (both t (index_set words))) none

-- ---- how many there are

abbrev count : IndexSet → ℕ
count s = word_count (index_set_of s)

-- a word is a new index, and then there is one more, or the indexes stay as many
record IsNew (s : IndexSet) (word : List ℕ) : Type 0 where
  new' : new_index s word ≡ Some (with_index s word)
  more : count (with_index s word) ≡ count s + 1

record IsOld (s : IndexSet) (word : List ℕ) : Type 0 where
  none : new_index s word ≡ None
  same : count (with_index s word) ≡ count s

abbrev NewOrOld : IndexSet → List ℕ → Type 0
NewOrOld s word = IsNew s word ⊎ IsOld s word

abbrev set_of : Bool → Bool → Bool → Bool → Bool → Bool → IndexSet
set_of range near top stab cross batch = record { range = range; near = near; top = top; stab = stab; cross = cross; batch = batch }

new_or_old-range : (range near top stab cross batch : Bool) → NewOrOld (set_of range near top stab cross batch) (codes "range")
new_or_old-range false near top stab cross batch = inl (record { new' = refl; more = omega arith })
new_or_old-range true near top stab cross batch = inr (record { none = refl; same = refl })

new_or_old-near : (range near top stab cross batch : Bool) → NewOrOld (set_of range near top stab cross batch) (codes "near")
new_or_old-near range false top stab cross batch = inl (record { new' = refl; more = omega arith })
new_or_old-near range true top stab cross batch = inr (record { none = refl; same = refl })

new_or_old-top : (range near top stab cross batch : Bool) → NewOrOld (set_of range near top stab cross batch) (codes "top")
new_or_old-top range near false stab cross batch = inl (record { new' = refl; more = omega arith })
new_or_old-top range near true stab cross batch = inr (record { none = refl; same = refl })

new_or_old-stab : (range near top stab cross batch : Bool) → NewOrOld (set_of range near top stab cross batch) (codes "stab")
new_or_old-stab range near top false cross batch = inl (record { new' = refl; more = omega arith })
new_or_old-stab range near top true cross batch = inr (record { none = refl; same = refl })

new_or_old-cross : (range near top stab cross batch : Bool) → NewOrOld (set_of range near top stab cross batch) (codes "cross")
new_or_old-cross range near top stab false batch = inl (record { new' = refl; more = omega arith })
new_or_old-cross range near top stab true batch = inr (record { none = refl; same = refl })

new_or_old-batch : (range near top stab cross batch : Bool) → NewOrOld (set_of range near top stab cross batch) (codes "batch")
new_or_old-batch range near top stab cross false = inl (record { new' = refl; more = omega arith })
new_or_old-batch range near top stab cross true = inr (record { none = refl; same = refl })

new_or_old-index : (s : IndexSet) (i : Index) → NewOrOld s (word_of i)
new_or_old-index s Range = new_or_old-range s.range s.near s.top s.stab s.cross s.batch
new_or_old-index s Near = new_or_old-near s.range s.near s.top s.stab s.cross s.batch
new_or_old-index s Top = new_or_old-top s.range s.near s.top s.stab s.cross s.batch
new_or_old-index s Stab = new_or_old-stab s.range s.near s.top s.stab s.cross s.batch
new_or_old-index s Cross = new_or_old-cross s.range s.near s.top s.stab s.cross s.batch
new_or_old-index s Batch = new_or_old-batch s.range s.near s.top s.stab s.cross s.batch

same-other : (s : IndexSet) (word : List ℕ) → IsOther word → with_index s word ≡ s
same-other s word h = rw (h.not_range, h.not_near, h.not_top, h.not_stab, h.not_cross, h.not_batch) refl

new_or_old : (s : IndexSet) (word : List ℕ) → NewOrOld s word
new_or_old s word = elim (index_or_other word) [
  | inl found ↦ subst (NewOrOld s) (sym found.1) (new_or_old-index s found.0)
  | inr other ↦ inr (record { none = new_index-other s word other; same = ap count (same-other s word other) })
]

few_more : (words : List (List ℕ)) (s : IndexSet) → count (with_index_words words s) ≤ count s + length words
few_more [] s = omega arith
few_more (word ∷ words) s = elim (new_or_old s word) [
  | inl n ↦ omega (arith, few_more words (with_index s word), n.more)
  | inr o ↦ omega (arith, few_more words (with_index s word), o.same)
]

abbrev by_count : List (List ℕ) → IndexSet → ℕ → Option IndexSet
by_count words s n = cond (ltb (count (with_index_words words s)) n) None (Some (with_index_words words s))

-- all words are new where the indexes are so many more
new_by_count : (words : List (List ℕ)) (s : IndexSet) → new_index_words words (Some s) ≡ by_count words s (count s + length words)
new_by_count [] s = sym (ap (λ b. cond b None (Some s)) (le-ltb (count s) (count s + 0) (omega arith)))
new_by_count (word ∷ words) s = elim (new_or_old s word) [
  | inl n ↦
      ap (new_index_words words) n.new'
      ∙ new_by_count words (with_index s word)
      ∙ ap (by_count words (with_index s word)) (let same : count (with_index s word) + length words ≡ count s + length (word ∷ words) = omega (arith, n.more) in same)
  | inr o ↦
      ap (new_index_words words) o.none
      ∙ none_stays words
      ∙ sym (ap (λ b. cond b None (Some (with_index_words (word ∷ words) s))) (lt-ltb (count (with_index_words (word ∷ words) s)) (count s + length (word ∷ words)) (omega (arith, few_more words (with_index s word), o.same))))
]

map_count : (b : Bool) (s : IndexSet) → option_map index_set_of (cond b None (Some s)) ≡ cond b None (Some (index_set_of s))
map_count true s = refl
map_count false s = refl

pub indexes_by_count : (words : List (List ℕ)) → let s = with_index_words words no_index in
    set_if (list_all is_index_word words && is_distinct words) (index_set words) ≡ cond (nat_lt (count s + 1) (length words + 1)) None (Some (index_set_of s))
indexes_by_count words =
    let s = with_index_words words no_index in
    sym (indexes_of_words no_index words refl)
    ∙ ap (option_map index_set_of) (new_by_count words no_index)
    ∙ map_count (ltb (count s) (count no_index + length words)) s
    ∙ ap (λ b. cond b None (Some (index_set_of s))) (let same : ltb (count s) (count no_index + length words) ≡ nat_lt (count s + 1) (length words + 1) = grind (arith, nat_tests) in same)
