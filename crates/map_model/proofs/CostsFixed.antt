-- A reply's line tells what the reply cost.
use Rattle.std.proofs.Common.{◌≡◌, ℕ, ◌*◌, ◌^◌, ◌<◌, ◌≤◌, Bool, true, false, ◌&&◌, List, [], ◌∷◌, ◌++◌, codes, decimal, get_or, drop, nat_le, arith, refl, sym, ap, ◌∙◌, append_assoc, if◌then◌else◌, ◌+◌, ◌⊎◌, inl, inr}
use Rattle.std.specs.Str.{all_ascii_digits}
use Rattle.std.proofs.lemmas.Bool.{and_parts, leb-true}
use Rattle.std.proofs.lemmas.Fmt.{digits_decimal, decimal_injective}
use Rattle.std.proofs.lemmas.List.{append_cancel_left}
use Rattle.std.proofs.Math.Nat.{mul-le-mul_left}
use Rattle.map_model.specs.Version.{Version}
use Rattle.map_model.specs.Index.{IndexSet, Index, Range, Near, Top, Stab, Cross, one_if, sum_over}
use Rattle.map_model.specs.State.{Layer, live_count}
use Rattle.map_model.specs.Cost.{Bounds, Update, Adds, Drops, Moves, turns_of, marks_of, brings, Spent, SpentAtOnce, QuestionCost, Cost, Untold, Updating, Joining, Asking, Fits64, IsSpent, IsSpentAtOnce, IsAsked, out_of, cost_text, greatest_level, rate_of, turns_up_to, parts_up_to, bounds_at, turn_bound, mark_bound, part_bound, batch_part_bound, batch_turn_bound, inserted_by}
use Rattle.map_model.proofs.Levels.{greatest_level-le, batch_part_bound-le}
use Rattle.map_model.specs.Reply.{Reply, reply_text, reply_line}
use Rattle.map_model.proofs.RoundTrip.{Is64, own}

-- ---- digits up to a byte that is none

head_of : {a b : ℕ} {r s : List ℕ} → a ∷ r ≡ b ∷ s → a ≡ b
head_of e = ap (λ l. get_or l 0 0) e

tail_of : {a b : ℕ} {r s : List ℕ} → a ∷ r ≡ b ∷ s → r ≡ s
tail_of e = ap (drop 1) e

digit_low : (byte : ℕ) (word : List ℕ) → all_ascii_digits (byte ∷ word) ≡ true → 48 ≤ byte
digit_low byte word h = leb-true 48 byte (and_parts (nat_le 48 byte) (nat_le byte 57) (and_parts (nat_le 48 byte && nat_le byte 57) (all_ascii_digits word) h).0).0

digits_end : (stop other : ℕ) → stop < 48 → other < 48 → (xs ys r s : List ℕ) → all_ascii_digits xs ≡ true → all_ascii_digits ys ≡ true → xs ++ stop ∷ r ≡ ys ++ other ∷ s
    → (xs ≡ ys) × (stop ∷ r ≡ other ∷ s)
digits_end stop other low low' [] [] r s x y e = (refl, e)
digits_end stop other low low' [] (b ∷ ys) r s x y e = absurd (let none : ⊥ = omega (arith, low, head_of e, digit_low b ys y) in none)
digits_end stop other low low' (a ∷ xs) [] r s x y e = absurd (let none : ⊥ = omega (arith, low', head_of e, digit_low a xs x) in none)
digits_end stop other low low' (a ∷ xs) (b ∷ ys) r s x y e =
    let more = digits_end stop other low low' xs ys r s (and_parts (nat_le 48 a && nat_le a 57) (all_ascii_digits xs) x).1 (and_parts (nat_le 48 b && nat_le b 57) (all_ascii_digits ys) y).1 (tail_of e) in
    ((λ i. head_of e i ∷ more.0 i), more.1)

number_end : (stop : ℕ) → stop < 48 → (m n : ℕ) (r s : List ℕ) → Is64 m → Is64 n → decimal m ++ stop ∷ r ≡ decimal n ++ stop ∷ s → (m ≡ n) × (r ≡ s)
number_end stop low m n r s small small' e =
    let same = digits_end stop stop low low (decimal m) (decimal n) r s (digits_decimal own m small) (digits_decimal own n small') e in
    (decimal_injective m n small small' same.0, tail_of same.1)

-- what stands right behind a number
number_stop : (stop other : ℕ) → stop < 48 → other < 48 → (m n : ℕ) (r s : List ℕ) → Is64 m → Is64 n → decimal m ++ stop ∷ r ≡ decimal n ++ other ∷ s → stop ≡ other
number_stop stop other low low' m n r s small small' e =
    head_of (digits_end stop other low low' (decimal m) (decimal n) r s (digits_decimal own m small) (digits_decimal own n small') e).1

out_of_before : (a b : ℕ) (rest : List ℕ) → out_of a b ++ rest ≡ 32 ∷ (decimal a ++ 47 ∷ (decimal b ++ rest))
out_of_before a b rest = ap (λ l. 32 ∷ l) (append_assoc (decimal a) (47 ∷ decimal b) rest)

-- ` A/B` and what comes behind it
out_of_end : (stop : ℕ) → stop < 48 → (a b c d : ℕ) (r s : List ℕ) → Is64 a → Is64 b → Is64 c → Is64 d → out_of a b ++ stop ∷ r ≡ out_of c d ++ stop ∷ s → (a ≡ c) × (b ≡ d) × (r ≡ s)
out_of_end stop low a b c d r s ha hb hc hd e =
    let opened = tail_of (sym (out_of_before a b (stop ∷ r)) ∙ e ∙ out_of_before c d (stop ∷ s)) in
    let first = number_end 47 (omega arith) a c (decimal b ++ stop ∷ r) (decimal d ++ stop ∷ s) ha hc opened in
    let second = number_end stop low b d r s hb hd first.1 in
    (first.0, second.0, second.1)

-- ---- costs

-- a cost and the line feed
abbrev ended : Cost → List ℕ
ended cost = cost_text cost ++ 10 ∷ []

-- what comes behind an update's turns
abbrev marks_text : Spent → List ℕ
marks_text s = codes "marks" ++ (out_of s.marks s.mark_bound ++ 10 ∷ [])

ended_update : (s : Spent) → ended (Updating s) ≡ codes " turns" ++ (out_of s.turns s.turn_bound ++ 32 ∷ marks_text s)
ended_update s = append_assoc (codes " turns" ++ out_of s.turns s.turn_bound) (codes " marks" ++ out_of s.marks s.mark_bound) (10 ∷ [])

spent_fixed : (s t : Spent) → Fits64 (Updating s) → Fits64 (Updating t) → ended (Updating s) ≡ ended (Updating t) → s ≡ t
spent_fixed s t hs ht e =
    let opened : out_of s.turns s.turn_bound ++ 32 ∷ marks_text s ≡ out_of t.turns t.turn_bound ++ 32 ∷ marks_text t = ap (drop 6) (sym (ended_update s) ∙ e ∙ ended_update t) in
    let turns = out_of_end 32 (omega arith) s.turns s.turn_bound t.turns t.turn_bound (marks_text s) (marks_text t) hs.0 hs.1 ht.0 ht.1 opened in
    let behind : out_of s.marks s.mark_bound ++ 10 ∷ [] ≡ out_of t.marks t.mark_bound ++ 10 ∷ [] = ap (drop 5) turns.2 in
    let marks = out_of_end 10 (omega arith) s.marks s.mark_bound t.marks t.mark_bound [] [] hs.2 hs.3 ht.2 ht.3 behind in
    λ i. record { turns = turns.0 i; turn_bound = turns.1 i; marks = marks.0 i; mark_bound = marks.1 i }

-- what comes behind the sum of turns, where parts are joined at once
abbrev joined_marks : SpentAtOnce → List ℕ
joined_marks s = codes "marks" ++ (out_of s.marks s.mark_bound ++ 10 ∷ [])

-- what comes behind the turns there
abbrev total_text : SpentAtOnce → List ℕ
total_text s = codes "total" ++ (out_of s.total s.turn_bound ++ 32 ∷ joined_marks s)

ended_joined : (s : SpentAtOnce) → ended (Joining s) ≡ codes " turns " ++ (decimal s.turns ++ 32 ∷ total_text s)
ended_joined s =
    let total = codes " total" ++ out_of s.total s.turn_bound in
    let marks = codes " marks" ++ out_of s.marks s.mark_bound in
    ap (λ l. codes " turns " ++ l) (append_assoc (decimal s.turns ++ total) marks (10 ∷ []) ∙ append_assoc (decimal s.turns) total (marks ++ 10 ∷ []))

joined_fixed : (s t : SpentAtOnce) → Fits64 (Joining s) → Fits64 (Joining t) → ended (Joining s) ≡ ended (Joining t) → s ≡ t
joined_fixed s t hs ht e =
    let opened : decimal s.turns ++ 32 ∷ total_text s ≡ decimal t.turns ++ 32 ∷ total_text t = ap (drop 7) (sym (ended_joined s) ∙ e ∙ ended_joined t) in
    let turns = number_end 32 (omega arith) s.turns t.turns (total_text s) (total_text t) hs.0 ht.0 opened in
    let behind : out_of s.total s.turn_bound ++ 32 ∷ joined_marks s ≡ out_of t.total t.turn_bound ++ 32 ∷ joined_marks t = ap (drop 5) turns.1 in
    let total = out_of_end 32 (omega arith) s.total s.turn_bound t.total t.turn_bound (joined_marks s) (joined_marks t) hs.1 hs.2 ht.1 ht.2 behind in
    let last : out_of s.marks s.mark_bound ++ 10 ∷ [] ≡ out_of t.marks t.mark_bound ++ 10 ∷ [] = ap (drop 5) total.2 in
    let marks = out_of_end 10 (omega arith) s.marks s.mark_bound t.marks t.mark_bound [] [] hs.3 hs.4 ht.3 ht.4 last in
    λ i. record { turns = turns.0 i; total = total.0 i; turn_bound = total.1 i; marks = marks.0 i; mark_bound = marks.1 i }

-- a bound stands right behind the turns of an update, but for the sum of them where parts are joined at once
update_or_join : (s : Spent) (t : SpentAtOnce) → Fits64 (Updating s) → Fits64 (Joining t) → ended (Updating s) ≡ ended (Joining t) → ⊥
update_or_join s t hs ht e =
    let opened : decimal s.turns ++ 47 ∷ (decimal s.turn_bound ++ 32 ∷ marks_text s) ≡ decimal t.turns ++ 32 ∷ total_text t =
    ap (drop 7) (sym (ended_update s ∙ ap (λ l. codes " turns" ++ l) (out_of_before s.turns s.turn_bound (32 ∷ marks_text s))) ∙ e ∙ ended_joined t) in
    let same = number_stop 47 32 (omega arith) (omega arith) s.turns t.turns (decimal s.turn_bound ++ 32 ∷ marks_text s) (total_text t) hs.0 ht.0 opened in
    omega (arith, same)

-- what comes behind a question's parts
abbrev touches_text : QuestionCost → List ℕ
touches_text a = codes "touches " ++ (decimal a.touches ++ 10 ∷ [])

ended_question : (a : QuestionCost) → ended (Asking a) ≡ codes " parts" ++ (out_of a.parts a.part_bound ++ 32 ∷ touches_text a)
ended_question a = append_assoc (codes " parts" ++ out_of a.parts a.part_bound) (codes " touches " ++ decimal a.touches) (10 ∷ [])

asked_fixed : (a b : QuestionCost) → Fits64 (Asking a) → Fits64 (Asking b) → ended (Asking a) ≡ ended (Asking b) → a ≡ b
asked_fixed a b ha hb e =
    let opened : out_of a.parts a.part_bound ++ 32 ∷ touches_text a ≡ out_of b.parts b.part_bound ++ 32 ∷ touches_text b = ap (drop 6) (sym (ended_question a) ∙ e ∙ ended_question b) in
    let parts = out_of_end 32 (omega arith) a.parts a.part_bound b.parts b.part_bound (touches_text a) (touches_text b) ha.0 ha.1 hb.0 hb.1 opened in
    let behind : decimal a.touches ++ 10 ∷ [] ≡ decimal b.touches ++ 10 ∷ [] = ap (drop 8) parts.2 in
    let touches = number_end 10 (omega arith) a.touches b.touches [] [] ha.2 hb.2 behind in
    λ i. record { parts = parts.0 i; part_bound = parts.1 i; touches = touches.0 i }

-- what an update and a question tell of their costs differs in its second byte at the latest
differ : (k : ℕ) {xs ys : List ℕ} → xs ≡ ys → (get_or xs k 0 ≡ get_or ys k 0 → ⊥) → ⊥
differ k e unlike = unlike (ap (λ l. get_or l k 0) e)

cost_fixed : (first second : Cost) → Fits64 first → Fits64 second → ended first ≡ ended second → first ≡ second
cost_fixed Untold Untold h k e = refl
cost_fixed Untold (Updating t) h k e = absurd (differ 0 e (λ same. omega (arith, same)))
cost_fixed Untold (Joining t) h k e = absurd (differ 0 e (λ same. omega (arith, same)))
cost_fixed Untold (Asking b) h k e = absurd (differ 0 e (λ same. omega (arith, same)))
cost_fixed (Updating s) Untold h k e = absurd (differ 0 e (λ same. omega (arith, same)))
cost_fixed (Updating s) (Updating t) h k e = ap Updating (spent_fixed s t h k e)
cost_fixed (Updating s) (Joining t) h k e = absurd (update_or_join s t h k e)
cost_fixed (Updating s) (Asking b) h k e = absurd (differ 1 e (λ same. omega (arith, same)))
cost_fixed (Joining s) Untold h k e = absurd (differ 0 e (λ same. omega (arith, same)))
cost_fixed (Joining s) (Updating t) h k e = absurd (update_or_join t s k h (sym e))
cost_fixed (Joining s) (Joining t) h k e = ap Joining (joined_fixed s t h k e)
cost_fixed (Joining s) (Asking b) h k e = absurd (differ 1 e (λ same. omega (arith, same)))
cost_fixed (Asking a) Untold h k e = absurd (differ 0 e (λ same. omega (arith, same)))
cost_fixed (Asking a) (Updating t) h k e = absurd (differ 1 e (λ same. omega (arith, same)))
cost_fixed (Asking a) (Joining t) h k e = absurd (differ 1 e (λ same. omega (arith, same)))
cost_fixed (Asking a) (Asking b) h k e = ap Asking (asked_fixed a b h k e)

pub line_fixes_cost : (version : Version) (reply : Reply) (first second : Cost) → Fits64 first → Fits64 second → reply_line version true reply first ≡ reply_line version true reply second → first ≡ second
line_fixes_cost version reply first second h k e =
    let text = reply_text version reply in
    cost_fixed first second h k (append_cancel_left text (ended first) (ended second) (sym (append_assoc text (cost_text first) (10 ∷ [])) ∙ e ∙ append_assoc text (cost_text second) (10 ∷ [])))

-- ---- what lawful costs are

shown_at_most : (b : Bool) (n most : ℕ) → n ≤ most → (if b then n else 0) ≤ most
shown_at_most true n most few = few
shown_at_most false n most few = omega arith

sum_at_most : (s : IndexSet) (f : Index → ℕ) (most : ℕ) → ((index : Index) → f index ≤ most) → sum_over s f ≤ 5 * most
sum_at_most s f most few =
    omega (
      arith,
      shown_at_most s.range (f Range) most (few Range),
      shown_at_most s.near (f Near) most (few Near),
      shown_at_most s.top (f Top) most (few Top),
      shown_at_most s.stab (f Stab) most (few Stab),
      shown_at_most s.cross (f Cross) most (few Cross),
    )

-- bounds far below 64 bits
record AreSmall (update : Update) (bounds : Bounds) : Type 0 where
  turns : turns_of update bounds ≤ 320000
  marks : marks_of update bounds ≤ 1266

few_ticks : (ticks : ℕ) (index : Index) (level : ℕ) → (ticks ≡ 6) ⊎ (ticks ≡ 7) → level ≤ 63 → level * level ≤ 3969 → turns_up_to ticks (rate_of index) level ≤ 320000
few_ticks ticks Range level (inl is) low square = rw is (omega (arith, low, square))
few_ticks ticks Range level (inr is) low square = rw is (omega (arith, low, square))
few_ticks ticks Near level (inl is) low square = rw is (omega (arith, low, square))
few_ticks ticks Near level (inr is) low square = rw is (omega (arith, low, square))
few_ticks ticks Top level (inl is) low square = rw is (omega (arith, low, square))
few_ticks ticks Top level (inr is) low square = rw is (omega (arith, low, square))
few_ticks ticks Stab level (inl is) low square = rw is (omega (arith, low, square))
few_ticks ticks Stab level (inr is) low square = rw is (omega (arith, low, square))
few_ticks ticks Cross level (inl is) low square = rw is (omega (arith, low, square))
few_ticks ticks Cross level (inr is) low square = rw is (omega (arith, low, square))

few_turns : (ticks : ℕ) (index : Index) (n : ℕ) → (ticks ≡ 6) ⊎ (ticks ≡ 7) → turns_up_to ticks (rate_of index) (greatest_level n) ≤ 320000
few_turns ticks index n is =
    few_ticks ticks index (greatest_level n) is (greatest_level-le n)
    (omega (arith, greatest_level-le n, mul-le-mul_left (greatest_level n) (greatest_level-le n)))

bounds_small : (update : Update) (index : Index) (n : ℕ) → AreSmall update (bounds_at (rate_of index) n)
bounds_small Adds index n = record { turns = few_turns 6 index n (inl refl); marks = omega (arith, greatest_level-le n) }
bounds_small Drops index n = record { turns = few_turns 6 index n (inl refl); marks = omega (arith, greatest_level-le n) }
bounds_small Moves index n = record { turns = few_turns 7 index n (inr refl); marks = omega (arith, greatest_level-le n) }

pub spent_fits : (layer : Layer) (update : Update) (spent : Spent) → IsSpent layer update spent → Fits64 (Updating spent)
spent_fits layer update spent h =
    let bounds : Index → Bounds = λ index. bounds_at (rate_of index) (live_count layer) in
    let turns : turn_bound update layer < 2 ^ 64 =
    omega (arith, sum_at_most layer.indexes (λ index. turns_of update (bounds index)) 320000 (λ index. (bounds_small update index (live_count layer)).turns)) in
    let marks : mark_bound update layer < 2 ^ 64 =
    omega (arith, sum_at_most layer.indexes (λ index. marks_of update (bounds index)) 1266 (λ index. (bounds_small update index (live_count layer)).marks)) in
    (omega (arith, turns, h.turn_bound_told, h.turns_bounded), omega (arith, turns, h.turn_bound_told), omega (arith, marks, h.mark_bound_told, h.marks_bounded), omega (arith, marks, h.mark_bound_told))

-- the digits of a number of inserts are few
few_per_insert : (n : ℕ) → batch_part_bound n * (batch_part_bound n + 7) ≤ 4544
few_per_insert n =
    let few = batch_part_bound-le n in
    omega (arith, few, mul-le-mul_left (batch_part_bound n) (let le : batch_part_bound n + 7 ≤ 71 = omega (arith, few) in le))

one_at_most : (b : Bool) → one_if b ≤ 1
one_at_most true = omega arith
one_at_most false = omega arith

pub joined_fits : (layer : Layer) (update : Update) (spent : SpentAtOnce) → layer.inserted < 2 ^ 40 → IsSpentAtOnce layer update spent → Fits64 (Joining spent)
joined_fits layer update spent few h =
    let n = inserted_by update layer in
    let turns : batch_turn_bound n < 2 ^ 64 = omega (arith, few, one_at_most (brings update), mul-le-mul_left n (few_per_insert n)) in
    let marks : batch_part_bound n < 2 ^ 64 = omega (arith, batch_part_bound-le n) in (
      omega (arith, turns, h.turn_bound_told, h.turns_bounded, h.turns_added),
      omega (arith, turns, h.turn_bound_told, h.turns_bounded),
      omega (arith, turns, h.turn_bound_told),
      omega (arith, marks, h.mark_bound_told, h.marks_bounded),
      omega (arith, marks, h.mark_bound_told),
    )

few_parts : (b : Bool) (inserted n : ℕ) → (if b then batch_part_bound inserted else parts_up_to (greatest_level n)) ≤ 192
few_parts true inserted n = omega (arith, batch_part_bound-le inserted)
few_parts false inserted n = omega (arith, greatest_level-le n)

pub asked_fits : (layer : Layer) (asked : QuestionCost) → IsAsked layer asked → asked.touches < 2 ^ 64 → Fits64 (Asking asked)
asked_fits layer asked h small =
    let parts : part_bound layer < 2 ^ 64 = omega (arith, few_parts layer.indexes.batch layer.inserted (live_count layer)) in
    (omega (arith, parts, h.part_bound_told, h.parts_bounded), omega (arith, parts, h.part_bound_told), small)
