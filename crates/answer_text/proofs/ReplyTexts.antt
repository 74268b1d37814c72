-- A reply's line is its parts.
use Rattle.std.proofs.Common.{◌≡◌, ℕ, Bool, false, cond, nat_eq, List, [], ◌∷◌, ◌++◌, codes, length, Some, None, map, arith, refl, sym, ap, ◌∙◌, append-nil, append_assoc, subst}
use Rattle.std.specs.List.{flat_map}
use Rattle.map_io.specs.SinkTold.{SinkTold}
use Rattle.map_model.specs.Version.{Version}
use Rattle.map_model.specs.Shape as model
use Rattle.map_model.specs.Reply.{spaced, spaced_coordinate, numbers_or_none, shape_text, found_numbers, answer_text, reply_text, reply_line}
use Rattle.map_model.specs.Refusal.{refusal_text}
use Rattle.std.proofs.lemmas.List.Concat.{flat_map-append}
use Rattle.map_model.specs.Found as shapes
use Rattle.std.proofs.lemmas.Bool.Decides.{nat_tests}
use Rattle.map_shapes.specs.Found.{found_of}
use Rattle.map_shapes.specs.Shape.{model_shape}
use Rattle.map_questions.specs.Any.{answer_of}
use Rattle.map_questions.specs.declared.any_answer.AnyAnswer.{AnyAnswer}
use Rattle.map_questions.specs.declared.any_answer.AnyAnswer.TheVariants as answers
use Rattle.answer_text.specs.declared.refusal.Refusal.{Refusal}
use Rattle.answer_text.specs.declared.refusal.Refusal.TheVariants as causes
use Rattle.answer_text.specs.declared.reply.Reply.{Reply}
use Rattle.answer_text.specs.declared.reply.Reply.TheVariants as variants
use Rattle.answer_text.specs.Reply.{refusal_of, reply_of, cost_of}
use Rattle.answer_text.specs.Pieces.{DeliversLines, CutOffInPieces}
use Rattle.answer_text.specs.Texts.{refusal_word, answer_word, reply_word, spaced_all, found_text, refusal_numbers, answer_numbers, shape_numbers, reply_numbers, answer_ids, listed_ids, answers_none, none_text, tail_text}

-- one number
one : (word : List ℕ) (n : ℕ) → word ++ spaced_all (n ∷ []) ≡ word ++ spaced n
one word n = ap (λ (z : List ℕ). word ++ z) (append-nil (spaced n))

two : (a b : List ℕ) → a ++ (b ++ []) ≡ a ++ b
two a b = ap (λ (z : List ℕ). a ++ z) (append-nil b)

three : (a b c : List ℕ) → a ++ (b ++ (c ++ [])) ≡ (a ++ b) ++ c
three a b c = ap (λ (z : List ℕ). a ++ z) (two b c) ∙ sym (append_assoc a b c)

shape_told : (version : Version) (shape : model.Shape) → shape_numbers version shape ≡ shape_text version shape
shape_told version (model.Point x y w) = three (spaced_coordinate version x) (spaced_coordinate version y) (spaced w)
shape_told version (model.Segment lo hi y) = three (spaced_coordinate version lo) (spaced_coordinate version hi) (spaced_coordinate version y)

cause_text : (cause : Refusal) → refusal_word cause ++ refusal_numbers cause ≡ refusal_text (refusal_of cause)
cause_text causes.Line = refl
cause_text causes.Command = refl
cause_text causes.Fields = refl
cause_text causes.Name = refl
cause_text causes.Number = refl
cause_text causes.Range = refl
cause_text causes.Order = refl
cause_text causes.NoLayer = refl
cause_text causes.Kind = refl
cause_text causes.Index = refl
cause_text (causes.Building items) = one (codes "no building") items
cause_text causes.Taken = refl
cause_text causes.NoRoom = refl
cause_text (causes.Duplicate id) = one (codes "no duplicate") id
cause_text (causes.Unknown id) = one (codes "no unknown") id
cause_text causes.Full = refl
cause_text causes.Version = refl
cause_text causes.NoMemory = refl

all_founds : (fs : List shapes.Found) → flat_map found_text fs ≡ spaced_all (flat_map found_numbers (map found_of fs))
all_founds [] = refl
all_founds (f ∷ fs) =
    ap (λ (z : List ℕ). found_text f ++ z) (all_founds fs)
    ∙ sym (flat_map-append spaced (f.id ∷ f.dist ∷ []) (flat_map found_numbers (map found_of fs)))

-- numbers, or ` none`
abbrev none_of : {A : Type 0} → List A → List ℕ
none_of xs = cond (nat_eq (length xs) 0) (codes " none") []

some : {A : Type 0} (x : A) (xs : List A) → none_of (x ∷ xs) ≡ []
some x xs = ap (λ b. cond b (codes " none") []) (let filled : nat_eq (length (x ∷ xs)) 0 ≡ false = grind (arith, nat_tests) in filled)

ids_or_none : (ids : List ℕ) → spaced_all ids ++ none_of ids ≡ numbers_or_none ids
ids_or_none [] = refl
ids_or_none (id ∷ ids) = ap (λ (z : List ℕ). spaced_all (id ∷ ids) ++ z) (some id ids) ∙ append-nil (spaced_all (id ∷ ids))

founds_or_none : (fs : List shapes.Found) → flat_map found_text fs ++ none_of fs ≡ numbers_or_none (flat_map found_numbers (map found_of fs))
founds_or_none [] = refl
founds_or_none (f ∷ fs) = ap (λ (z : List ℕ). flat_map found_text (f ∷ fs) ++ z) (some f fs) ∙ append-nil (flat_map found_text (f ∷ fs)) ∙ all_founds (f ∷ fs)

-- the parts behind the word
abbrev behind : Version → Reply → List ℕ
behind version reply = (reply_numbers version reply ++ spaced_all (listed_ids reply)) ++ none_text reply

no_list : (word numbers text : List ℕ) → word ++ numbers ≡ text → word ++ ((numbers ++ []) ++ []) ≡ text
no_list word numbers text is = ap (λ (z : List ℕ). word ++ z) (append-nil (numbers ++ []) ∙ append-nil numbers) ∙ is

answer_behind : (version : Version) (answer : AnyAnswer) → answer_word answer ++ ((answer_numbers version answer ++ spaced_all (answer_ids answer)) ++ cond (answers_none answer) (codes " none") []) ≡ answer_text version (answer_of answer)
answer_behind version (answers.Counted n) = no_list (codes "count") (spaced_all (n ∷ [])) _ (one (codes "count") n)
answer_behind version (answers.Summed n) = no_list (codes "sum") (spaced_all (n ∷ [])) _ (one (codes "sum") n)
answer_behind version (answers.Listed ids) = ap (λ (z : List ℕ). codes "list" ++ z) (ids_or_none ids)
answer_behind version (answers.NearestOne None) = refl
answer_behind version (answers.NearestOne (Some found)) = no_list (codes "near") (found_text found) _ refl
answer_behind version (answers.NearestOnes found) =
    ap (λ (z : List ℕ). codes "nearest" ++ (z ++ none_of found)) (append-nil (flat_map found_text found))
    ∙ ap (λ (z : List ℕ). codes "nearest" ++ z) (founds_or_none found)
answer_behind version (answers.ListedAbove ids) = ap (λ (z : List ℕ). codes "above" ++ z) (ids_or_none ids)
answer_behind version (answers.Highest None) = refl
answer_behind version (answers.Highest (Some peak)) = no_list (codes "top") (spaced peak.id ++ (spaced_coordinate version peak.y ++ [])) _ (ap (λ (z : List ℕ). codes "top" ++ z) (two (spaced peak.id) (spaced_coordinate version peak.y)))
answer_behind version (answers.Stabbed ids) = ap (λ (z : List ℕ). codes "stab" ++ z) (ids_or_none ids)
answer_behind version (answers.StabCounted n) = no_list (codes "stabcount") (spaced_all (n ∷ [])) _ (one (codes "stabcount") n)
answer_behind version (answers.Crossed ids) = ap (λ (z : List ℕ). codes "cross" ++ z) (ids_or_none ids)
answer_behind version (answers.CrossCounted n) = no_list (codes "crosscount") (spaced_all (n ∷ [])) _ (one (codes "crosscount") n)

text_behind : (version : Version) (reply : Reply) → reply_word reply ++ behind version reply ≡ reply_text version (reply_of reply)
text_behind version variants.Made = refl
text_behind version (variants.Updated spent) = refl
text_behind version (variants.Answered answer asked) = answer_behind version answer
text_behind version (variants.Got shape) = no_list (codes "get") (shape_numbers version (model_shape shape)) _ (ap (λ (z : List ℕ). codes "get" ++ z) (shape_told version (model_shape shape)))
text_behind version (variants.Size n) = no_list (codes "size") (spaced_all (n ∷ [])) _ (one (codes "size") n)
text_behind version (variants.Recent ids) = ap (λ (z : List ℕ). codes "recent" ++ z) (ids_or_none ids)
text_behind version (variants.Refused cause) = no_list (refusal_word cause) (refusal_numbers cause) _ (cause_text cause)

-- ---- the line behind an empty piece

abbrev parts_text : Version → Reply → List ℕ → List ℕ → List ℕ → List ℕ → List ℕ
parts_text version reply word ids none tail = ((((word ++ reply_numbers version reply) ++ spaced_all ids) ++ none) ++ tail) ++ 10 ∷ []

-- what the parts of a line are
record AreParts (ledger : Bool) (reply : Reply) (piece word ids none tail : List ℕ) : Type 0 where
  begun : piece ≡ []
  word_is : word ≡ reply_word reply
  ids_are : ids ≡ listed_ids reply
  none_is : none ≡ none_text reply
  tail_is : tail ≡ tail_text ledger reply

line_of_reply : (version : Version) (ledger : Bool) (reply : Reply) (piece word ids none tail : List ℕ) → AreParts ledger reply piece word ids none tail → piece ++ parts_text version reply word ids none tail ≡ reply_line version ledger (reply_of reply) (cost_of reply)
line_of_reply version ledger reply piece word ids none tail h =
    let numbers = reply_numbers version reply in
    (λ i. h.begun i ++ parts_text version reply (h.word_is i) (h.ids_are i) (h.none_is i) (h.tail_is i))
    ∙ ap (λ (z : List ℕ). ((z ++ none_text reply) ++ tail_text ledger reply) ++ 10 ∷ []) (append_assoc (reply_word reply) numbers (spaced_all (listed_ids reply)))
    ∙ ap (λ (z : List ℕ). (z ++ tail_text ledger reply) ++ 10 ∷ []) (append_assoc (reply_word reply) (numbers ++ spaced_all (listed_ids reply)) (none_text reply) ∙ text_behind version reply)

-- parts that were written are the line, and a proper prefix of them is one of it
pub line_appended : (version : Version) (ledger : Bool) (reply : Reply) (o n : SinkTold) (piece word ids none tail : List ℕ) → DeliversLines o n (piece ++ parts_text version reply word ids none tail) 1
    → piece ≡ [] → word ≡ reply_word reply → ids ≡ listed_ids reply → none ≡ none_text reply → tail ≡ tail_text ledger reply
    → DeliversLines o n (reply_line version ledger (reply_of reply) (cost_of reply)) 1
line_appended version ledger reply o n piece word ids none tail h begun word_is ids_are none_is tail_is =
    subst (λ (z : List ℕ). DeliversLines o n z 1) (line_of_reply version ledger reply piece word ids none tail (record { begun = begun; word_is = word_is; ids_are = ids_are; none_is = none_is; tail_is = tail_is })) h

pub line_cut : (version : Version) (ledger : Bool) (reply : Reply) (o n : SinkTold) (piece word ids none tail : List ℕ) → CutOffInPieces o n (piece ++ parts_text version reply word ids none tail)
    → piece ≡ [] → word ≡ reply_word reply → ids ≡ listed_ids reply → none ≡ none_text reply → tail ≡ tail_text ledger reply
    → CutOffInPieces o n (reply_line version ledger (reply_of reply) (cost_of reply))
line_cut version ledger reply o n piece word ids none tail h begun word_is ids_are none_is tail_is =
    subst (CutOffInPieces o n) (line_of_reply version ledger reply piece word ids none tail (record { begun = begun; word_is = word_is; ids_are = ids_are; none_is = none_is; tail_is = tail_is })) h
