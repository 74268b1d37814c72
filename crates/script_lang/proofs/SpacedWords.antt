-- Words with a space between each two, one more at a time.
use Rattle.std.proofs.Common.{◌≡◌, ℕ, ◌+◌, ◌<◌, Bool, true, false, cond, List, [], ◌∷◌, ◌++◌, codes, length, map, take, get_or, refl, sym, ap, ◌∙◌, append_assoc, append-nil}
use Rattle.std.proofs.lemmas.List.{take_more, map-append}
use Rattle.map_model.specs.Index.{IndexSet}
use Rattle.map_model.specs.Line.{spaced_words, word_if, index_words}
use Rattle.script_lang.specs.declared.line.Number.{Number}
use Rattle.script_lang.specs.Written.{number_text}

pub spaced_more : (word : List ℕ) (words : List (List ℕ)) (next : List ℕ) → spaced_words (word ∷ (words ++ next ∷ [])) ≡ spaced_words (word ∷ words) ++ 32 ∷ next
spaced_more word [] next = refl
spaced_more word (w ∷ ws) next = ap (λ (z : List ℕ). word ++ 32 ∷ z) (spaced_more w ws next) ∙ sym (append_assoc word (32 ∷ spaced_words (w ∷ ws)) (32 ∷ next))

-- one more number
pub more_numbers : (word name : List ℕ) (numbers : List Number) (i : ℕ) (d : Number) → i < length numbers
    → spaced_words (word ∷ name ∷ map number_text (take (i + 1) numbers)) ≡ spaced_words (word ∷ name ∷ map number_text (take i numbers)) ++ 32 ∷ number_text (get_or numbers i d)
more_numbers word name numbers i d inside =
    ap (λ (ns : List Number). spaced_words (word ∷ name ∷ map number_text ns)) (take_more numbers i d inside)
    ∙ ap (λ ws. spaced_words (word ∷ name ∷ ws)) (map-append number_text (take i numbers) (get_or numbers i d ∷ []))
    ∙ spaced_more word (name ∷ map number_text (take i numbers)) (number_text (get_or numbers i d))

-- a word that may be left out
abbrev pub said_if : Bool → List ℕ → List ℕ
said_if b word = cond b (32 ∷ word) []

said_more : (word : List ℕ) (words : List (List ℕ)) (b : Bool) (next : List ℕ) → spaced_words (word ∷ (words ++ word_if b next)) ≡ spaced_words (word ∷ words) ++ said_if b next
said_more word words true next = spaced_more word words next
said_more word words false next = ap (λ ws. spaced_words (word ∷ ws)) (append-nil words) ∙ sym (append-nil (spaced_words (word ∷ words)))

-- the line of a layer
pub layer_line : (word name kind : List ℕ) (s : IndexSet) → spaced_words (word ∷ name ∷ kind ∷ index_words s)
    ≡ ((((((spaced_words (word ∷ name ∷ []) ++ 32 ∷ kind) ++ said_if s.range (codes "range")) ++ said_if s.near (codes "near")) ++ said_if s.top (codes "top")) ++ said_if s.stab (codes "stab"))
    ++ said_if s.cross (codes "cross")) ++ said_if s.batch (codes "batch")
layer_line word name kind s =
    let a = word_if s.range (codes "range") in
    let b = word_if s.near (codes "near") in
    let c = word_if s.top (codes "top") in
    let d = word_if s.stab (codes "stab") in
    let e = word_if s.cross (codes "cross") in
    said_more word (name ∷ kind ∷ ((((a ++ b) ++ c) ++ d) ++ e)) s.batch (codes "batch")
    ∙ ap (λ (z : List ℕ). z ++ said_if s.batch (codes "batch")) (said_more word (name ∷ kind ∷ (((a ++ b) ++ c) ++ d)) s.cross (codes "cross")
    ∙ ap (λ (z : List ℕ). z ++ said_if s.cross (codes "cross")) (said_more word (name ∷ kind ∷ ((a ++ b) ++ c)) s.stab (codes "stab")
    ∙ ap (λ (z : List ℕ). z ++ said_if s.stab (codes "stab")) (said_more word (name ∷ kind ∷ (a ++ b)) s.top (codes "top")
    ∙ ap (λ (z : List ℕ). z ++ said_if s.top (codes "top")) (said_more word (name ∷ kind ∷ a) s.near (codes "near")
    ∙ ap (λ (z : List ℕ). z ++ said_if s.near (codes "near")) (said_more word (name ∷ kind ∷ []) s.range (codes "range")
    ∙ ap (λ (z : List ℕ). z ++ said_if s.range (codes "range")) (spaced_more word (name ∷ []) kind))))))
