-- A reply is one line, and begins with `no ` where it is a refusal.
use Rattle.std.proofs.Common.{◌≡◌, ℕ, Bool, true, not, nat_eq, nat_lt, ◌-◌, List, [], ◌∷◌, ◌++◌, codes, decimal, Option, Some, None, refl, sym, ◌∙◌, cond, if◌then◌else◌}
use Rattle.std.specs.List.{starts_with, flat_map}
use Rattle.std.proofs.lemmas.Bool.{and_parts, and_from, cond_both, not-true, eqb-false}
use Rattle.std.proofs.lemmas.List.Folds.{list_all-append}
use Rattle.map_model.specs.Text.{one_line}
use Rattle.map_model.proofs.TextLemmas.{decimal_one_line}
use Rattle.map_model.specs.Version.{Version, One, Two, negatives, coordinate_text}
use Rattle.map_model.specs.Shape.{Shape, Point, Segment}
use Rattle.map_model.specs.Found.{Found, Peak}
use Rattle.map_model.specs.Answer.{Answer, Counted, Summed, Listed, NearestOne, NearestOnes, ListedAbove, Highest, Stabbed, StabCounted, Crossed, CrossCounted}
use Rattle.map_model.specs.Refusal as refusals
use Rattle.map_model.specs.Refusal.{Refusal, refusal_text}
use Rattle.map_model.specs.Cost.{Cost, Untold, Updating, Joining, Asking, cost_text, out_of}
use Rattle.map_model.specs.Reply.{Reply, Made, Updated, Answered, Got, Sized, Latest, Refused, is_refusal, spaced, spaced_coordinate, numbers_or_none, found_numbers, found_or_none, peak_or_none, shape_text, answer_text, reply_text}

pub one_line-append : (s t : List ℕ) → one_line s ≡ true → one_line t ≡ true → one_line (s ++ t) ≡ true
one_line-append s t h k = list_all-append (λ byte. not (nat_eq byte 10)) s t ∙ and_from (one_line s) (one_line t) h k

numbers_one_line : (ns : List ℕ) → one_line (flat_map spaced ns) ≡ true
numbers_one_line [] = refl
numbers_one_line (n ∷ ns) = one_line-append (spaced n) (flat_map spaced ns) (decimal_one_line n) (numbers_one_line ns)

numbers_or_none_one_line : (ns : List ℕ) → one_line (numbers_or_none ns) ≡ true
numbers_or_none_one_line [] = refl
numbers_or_none_one_line (n ∷ ns) = numbers_one_line (n ∷ ns)

found_one_line : (found : Option Found) → one_line (found_or_none found) ≡ true
found_one_line None = refl
found_one_line (Some found) = numbers_one_line (found_numbers found)

coordinate_one_line : (version : Version) (n : ℕ) → one_line (coordinate_text version n) ≡ true
coordinate_one_line One n = decimal_one_line n
coordinate_one_line Two n =
    cond_both (nat_lt n negatives) (45 ∷ decimal (negatives - n)) (decimal (n - negatives)) (λ t. one_line t ≡ true)
    (λ _. decimal_one_line (negatives - n)) (λ _. decimal_one_line (n - negatives))

peak_one_line : (version : Version) (peak : Option Peak) → one_line (peak_or_none version peak) ≡ true
peak_one_line version None = refl
peak_one_line version (Some peak) =
    one_line-append (spaced peak.id) (spaced_coordinate version peak.y) (decimal_one_line peak.id) (coordinate_one_line version peak.y)

-- three texts of one line
three_one_line : (a b c : List ℕ) → one_line a ≡ true → one_line b ≡ true → one_line c ≡ true → one_line (a ++ b ++ c) ≡ true
three_one_line a b c h k l = one_line-append (a ++ b) c (one_line-append a b h k) l

shape_one_line : (version : Version) (shape : Shape) → one_line (shape_text version shape) ≡ true
shape_one_line version (Point x y w) =
    three_one_line (spaced_coordinate version x) (spaced_coordinate version y) (spaced w)
    (coordinate_one_line version x) (coordinate_one_line version y) (decimal_one_line w)
shape_one_line version (Segment lo hi y) =
    three_one_line (spaced_coordinate version lo) (spaced_coordinate version hi) (spaced_coordinate version y)
    (coordinate_one_line version lo) (coordinate_one_line version hi) (coordinate_one_line version y)

refusal_one_line : (cause : Refusal) → one_line (refusal_text cause) ≡ true
refusal_one_line refusals.Line = refl
refusal_one_line refusals.Command = refl
refusal_one_line refusals.Fields = refl
refusal_one_line refusals.Name = refl
refusal_one_line refusals.Number = refl
refusal_one_line refusals.Range = refl
refusal_one_line refusals.Order = refl
refusal_one_line refusals.NoLayer = refl
refusal_one_line refusals.Kind = refl
refusal_one_line refusals.Index = refl
refusal_one_line (refusals.Building items) = decimal_one_line items
refusal_one_line refusals.Taken = refl
refusal_one_line refusals.NoRoom = refl
refusal_one_line (refusals.Duplicate id) = decimal_one_line id
refusal_one_line (refusals.Unknown id) = decimal_one_line id
refusal_one_line refusals.Full = refl
refusal_one_line refusals.Version = refl
refusal_one_line refusals.NoMemory = refl

answer_one_line : (version : Version) (answer : Answer) → one_line (answer_text version answer) ≡ true
answer_one_line version (Counted n) = decimal_one_line n
answer_one_line version (Summed n) = decimal_one_line n
answer_one_line version (Listed ids) = numbers_or_none_one_line ids
answer_one_line version (NearestOne found) = found_one_line found
answer_one_line version (NearestOnes found) = numbers_or_none_one_line (flat_map found_numbers found)
answer_one_line version (ListedAbove ids) = numbers_or_none_one_line ids
answer_one_line version (Highest peak) = peak_one_line version peak
answer_one_line version (Stabbed ids) = numbers_or_none_one_line ids
answer_one_line version (StabCounted n) = decimal_one_line n
answer_one_line version (Crossed ids) = numbers_or_none_one_line ids
answer_one_line version (CrossCounted n) = decimal_one_line n

pub reply_one_line : (version : Version) (reply : Reply) → one_line (reply_text version reply) ≡ true
reply_one_line version Made = refl
reply_one_line version Updated = refl
reply_one_line version (Answered answer) = answer_one_line version answer
reply_one_line version (Got shape) = shape_one_line version shape
reply_one_line version (Sized n) = decimal_one_line n
reply_one_line version (Latest ids) = numbers_or_none_one_line ids
reply_one_line version (Refused cause) = refusal_one_line cause

out_of_one_line : (a b : ℕ) → one_line (out_of a b) ≡ true
out_of_one_line a b = one_line-append (spaced a) (47 ∷ decimal b) (decimal_one_line a) (decimal_one_line b)

cost_one_line : (cost : Cost) → one_line (cost_text cost) ≡ true
cost_one_line Untold = refl
cost_one_line (Updating s) =
    one_line-append (codes " turns" ++ out_of s.turns s.turn_bound) (codes " marks" ++ out_of s.marks s.mark_bound)
    (out_of_one_line s.turns s.turn_bound) (out_of_one_line s.marks s.mark_bound)
cost_one_line (Joining s) =
    three_one_line (codes " turns " ++ decimal s.turns) (codes " total" ++ out_of s.total s.turn_bound) (codes " marks" ++ out_of s.marks s.mark_bound)
    (decimal_one_line s.turns) (out_of_one_line s.total s.turn_bound) (out_of_one_line s.marks s.mark_bound)
cost_one_line (Asking a) =
    one_line-append (codes " parts" ++ out_of a.parts a.part_bound) (codes " touches " ++ decimal a.touches)
    (out_of_one_line a.parts a.part_bound) (decimal_one_line a.touches)

-- the line without its line feed
abbrev pub told_text : Version → Bool → Reply → Cost → List ℕ
told_text version ledger reply cost = reply_text version reply ++ (if ledger then cost_text cost else [])

pub told_one_line : (version : Version) (ledger : Bool) (reply : Reply) (cost : Cost) → one_line (told_text version ledger reply cost) ≡ true
told_one_line version ledger reply cost =
    one_line-append (reply_text version reply) (cond ledger (cost_text cost) []) (reply_one_line version reply)
    (cond_both ledger (cost_text cost) [] (λ t. one_line t ≡ true) (λ _. cost_one_line cost) (λ _. refl))

pub begins_no : (version : Version) (reply : Reply) (rest : List ℕ) → starts_with nat_eq (reply_text version reply ++ rest) (codes "no ") ≡ is_refusal reply
begins_no version Made rest = refl
begins_no version Updated rest = refl
begins_no version (Answered (Counted n)) rest = refl
begins_no version (Answered (Summed n)) rest = refl
begins_no version (Answered (Listed ids)) rest = refl
begins_no version (Answered (NearestOne found)) rest = refl
begins_no version (Answered (NearestOnes found)) rest = refl
begins_no version (Answered (ListedAbove ids)) rest = refl
begins_no version (Answered (Highest peak)) rest = refl
begins_no version (Answered (Stabbed ids)) rest = refl
begins_no version (Answered (StabCounted n)) rest = refl
begins_no version (Answered (Crossed ids)) rest = refl
begins_no version (Answered (CrossCounted n)) rest = refl
begins_no version (Got shape) rest = refl
begins_no version (Sized n) rest = refl
begins_no version (Latest ids) rest = refl
begins_no version (Refused refusals.Line) rest = refl
begins_no version (Refused refusals.Command) rest = refl
begins_no version (Refused refusals.Fields) rest = refl
begins_no version (Refused refusals.Name) rest = refl
begins_no version (Refused refusals.Number) rest = refl
begins_no version (Refused refusals.Range) rest = refl
begins_no version (Refused refusals.Order) rest = refl
begins_no version (Refused refusals.NoLayer) rest = refl
begins_no version (Refused refusals.Kind) rest = refl
begins_no version (Refused refusals.Index) rest = refl
begins_no version (Refused (refusals.Building items)) rest = refl
begins_no version (Refused refusals.Taken) rest = refl
begins_no version (Refused refusals.NoRoom) rest = refl
begins_no version (Refused (refusals.Duplicate id)) rest = refl
begins_no version (Refused (refusals.Unknown id)) rest = refl
begins_no version (Refused refusals.Full) rest = refl
begins_no version (Refused refusals.Version) rest = refl
begins_no version (Refused refusals.NoMemory) rest = refl

-- What follows two lines is the same where the lines with it are.
pub rest_of_line : (s t x y : List ℕ) → one_line s ≡ true → one_line t ≡ true → (s ++ 10 ∷ []) ++ x ≡ (t ++ 10 ∷ []) ++ y → (s ≡ t) × (x ≡ y)
rest_of_line [] [] x y h k e = (refl, cc)
rest_of_line [] (b ∷ t) x y h k e =
    let same : 10 ≡ b = cc in
    absurd (eqb-false b 10 (not-true (nat_eq b 10) (and_parts (not (nat_eq b 10)) (one_line t) k).0) (sym same))
rest_of_line (a ∷ s) [] x y h k e =
    let same : a ≡ 10 = cc in
    absurd (eqb-false a 10 (not-true (nat_eq a 10) (and_parts (not (nat_eq a 10)) (one_line s) h).0) same)
rest_of_line (a ∷ s) (b ∷ t) x y h k e =
    let same : a ≡ b = cc in
    let more : (s ++ 10 ∷ []) ++ x ≡ (t ++ 10 ∷ []) ++ y = cc in
    let r = rest_of_line s t x y (and_parts (not (nat_eq a 10)) (one_line s) h).1 (and_parts (not (nat_eq b 10)) (one_line t) k).1 more in
    ((λ i. same i ∷ r.0 i), r.1)
