-- The laws of the output relation over a map of layers.
use Rattle.std.proofs.Common.{◌≡◌, ℕ, ◌*◌, ◌≤◌, Bool, true, false, cond, not, ◌&&◌, nat_le, nat_lt, List, [], ◌∷◌, ◌++◌, codes, Option, Some, None, Ok, Err, IsTrue, ◌⊎◌, inl, inr, arith, refl, sym, ap, ◌∙◌, subst, append_assoc, append-nil, get_or, suc, Contains, length, nat_eq, count_by, add_assoc, add-zero, zero-add, ◌+◌}
use Rattle.std.proofs.lemmas.Bool.{false≢true, and_parts, not-true, both_ways, eqb-false, cases_Bool}
use Rattle.std.proofs.lemmas.List.{append_cancel_left}
use Rattle.std.proofs.lemmas.List.Sums.{sum_by-cons}
use Rattle.std.specs.List.{starts_with}
use Rattle.std.proofs.Math.Nat.{mul-le-mul_right, le_refl}
use Rattle.map_model.specs.Text.{lines, refusals}
use Rattle.map_model.proofs.TextLemmas.{lines-line}
use Rattle.map_model.specs.Version.{Version}
use Rattle.map_model.specs.Shape.{Shape, Kind, Point, Points, kind_of}
use Rattle.map_model.specs.Index.{IndexSet, Index, Range, Near, Top, Stab, Cross, has, one_if}
use Rattle.map_model.specs.State.{Item, Layer, State, most_layers, live_count, is_live, shape_of, layer_named, with_layer, wait_of, handed, added, moved, dropped}
use Rattle.map_model.specs.Answer as questions
use Rattle.map_model.specs.Answer.{answer_over, index_of, kind_asked, latest}
use Rattle.map_model.specs.Command.{Command, Livemap, MakeLayer, MakeIndex, Add, Move, Drop, Ask, Get, Size, Recent, name_of, lists_ids, takes_memory}
use Rattle.map_model.specs.Refusal.{NoMemory, NoLayer, Duplicate, Unknown, Full, Building, Taken, NoRoom, refusal_of_fault}
use Rattle.map_model.specs.Refusal as refusals
use Rattle.map_model.specs.Cost.{Cost, Untold, Updating, Joining, Asking, Update, Adds, Drops, Moves, brings, turns_of, bounds_at, rate_of, turn_bound, mark_bound, part_bound, ready_count, batch_part_bound, batch_parts, batch_turn_bound, inserted_by, parts_up_to, greatest_level, cost_text}
use Rattle.map_model.specs.Reply.{Updated, Answered, Refused, is_refusal, reply_text, reply_line}
use Rattle.map_model.specs.Machine.{Outcome, replied, refused, is_same_kind, is_taken, choose_version, make_layer, index_in, add_to, move_in, drop_from, ask_of, got, get_from, size_of, recent_of, step}
use Rattle.map_model.specs.Grammar.{Parsed, parse}
use Rattle.map_model.specs.Output as outputs
use Rattle.map_model.specs.Output.{Told, Given, nothing, Executes, may_lack_memory, AnswersTo, Answers, written_for, refusal_count, Output, Interrupted, IsCost, update_of, machine_reply, machine_state, line_for, machine_text, machine_end, asks_memory, never_lacks_memory}
use Rattle.map_model.proofs.ReplyLines.{told_text, told_one_line, begins_no, rest_of_line}
use Rattle.map_model.proofs.Levels.{batch_parts-le, some_digit}

-- ---- `no memory` is written for no other answer

-- a reply is a refusal, or begins otherwise than `no memory`
record IsApart (o : Outcome) : Type 0 where
  refused_or : (is_refusal o.reply ≡ true) ⊎ ((version : Version) (x y : List ℕ) → reply_text version o.reply ++ x ≡ codes "no memory" ++ y → ⊥)

either_apart : (b : Bool) (first second : Outcome) → IsApart first → IsApart second → IsApart (cond b first second)
either_apart true first second p q = p
either_apart false first second p q = q

refused_apart : (state : State) (cause : refusals.Refusal) → IsApart (refused state cause)
refused_apart state cause = record { refused_or = inl refl }

updated_apart : (state : State) → IsApart (replied state Updated)
updated_apart state = record { refused_or = inr (λ version x y e. eqb-false 111 110 refl (ap (λ (bytes : List ℕ). get_or bytes 0 0) e)) }

added_apart : (state : State) (name : List ℕ) (id : ℕ) (shape : Shape) (layer : Option Layer) → IsApart (add_to state name id shape layer)
added_apart state name id shape None = refused_apart state NoLayer
added_apart state name id shape (Some layer) =
    either_apart (not (is_same_kind layer.kind (kind_of shape))) _ _ (refused_apart state refusals.Kind)
    (either_apart (is_live id layer.items) _ _ (refused_apart state (Duplicate id))
    (either_apart (nat_le state.most_items (live_count layer)) _ _ (refused_apart state Full) (updated_apart (with_layer name (added (record { id = id; shape = shape })) state))))

moved_apart : (state : State) (name : List ℕ) (id : ℕ) (shape : Shape) (layer : Option Layer) → IsApart (move_in state name id shape layer)
moved_apart state name id shape None = refused_apart state NoLayer
moved_apart state name id shape (Some layer) =
    either_apart (not (is_same_kind layer.kind (kind_of shape))) _ _ (refused_apart state refusals.Kind)
    (either_apart (is_live id layer.items) _ _ (updated_apart (with_layer name (moved (record { id = id; shape = shape })) state)) (refused_apart state (Unknown id)))

dropped_apart : (state : State) (name : List ℕ) (id : ℕ) (layer : Option Layer) → IsApart (drop_from state name id layer)
dropped_apart state name id None = refused_apart state NoLayer
dropped_apart state name id (Some layer) = either_apart (is_live id layer.items) _ _ (updated_apart (with_layer name (dropped id) state)) (refused_apart state (Unknown id))

answer_apart : (items : List Item) (question : questions.Question) → lists_ids question ≡ true → (version : Version) (x y : List ℕ) → reply_text version (Answered (answer_over items question)) ++ x ≡ codes "no memory" ++ y → ⊥
answer_apart items (questions.CountIn rect) h version x y e = false≢true h
answer_apart items (questions.SumIn rect) h version x y e = false≢true h
answer_apart items (questions.ListIn rect) h version x y e = eqb-false 108 110 refl (ap (λ (bytes : List ℕ). get_or bytes 0 0) e)
answer_apart items (questions.Near px py) h version x y e = false≢true h
answer_apart items (questions.Nearest k px py) h version x y e = false≢true h
answer_apart items (questions.Above x1 x2 py) h version x y e = eqb-false 97 110 refl (ap (λ (bytes : List ℕ). get_or bytes 0 0) e)
answer_apart items (questions.Top x1 x2) h version x y e = false≢true h
answer_apart items (questions.Stab px) h version x y e = eqb-false 115 110 refl (ap (λ (bytes : List ℕ). get_or bytes 0 0) e)
answer_apart items (questions.StabCount px) h version x y e = false≢true h
answer_apart items (questions.CrossIn px y1 y2) h version x y e = eqb-false 99 110 refl (ap (λ (bytes : List ℕ). get_or bytes 0 0) e)
answer_apart items (questions.CrossCount px y1 y2) h version x y e = false≢true h

answered_apart : (state : State) (items : List Item) (question : questions.Question) → lists_ids question ≡ true → IsApart (replied state (Answered (answer_over items question)))
answered_apart state items question h = record { refused_or = inr (answer_apart items question h) }

asked_apart : (state : State) (question : questions.Question) (layer : Option Layer) → lists_ids question ≡ true → IsApart (ask_of state question layer)
asked_apart state question None h = refused_apart state NoLayer
asked_apart state question (Some layer) h =
    either_apart (not (is_same_kind layer.kind (kind_asked question))) _ _ (refused_apart state refusals.Kind)
    (either_apart (not (has layer.indexes (index_of question))) _ _ (refused_apart state refusals.Index)
    (either_apart (nat_lt 0 (wait_of layer.waits (index_of question))) _ _ (refused_apart state (Building (wait_of layer.waits (index_of question)))) (answered_apart state layer.items question h)))

stepped_apart : (state : State) (command : Command) → takes_memory command ≡ true → IsApart (step state command)
stepped_apart state (Livemap version) h = absurd (false≢true h)
stepped_apart state (MakeLayer name kind indexes) h = absurd (false≢true h)
stepped_apart state (MakeIndex name index) h = absurd (false≢true h)
stepped_apart state (Add name id shape) h = added_apart state name id shape (layer_named name state.layers)
stepped_apart state (Move name id x y w) h = moved_apart state name id (Point x y w) (layer_named name state.layers)
stepped_apart state (Drop name id) h = dropped_apart state name id (layer_named name state.layers)
stepped_apart state (Ask name question) h = asked_apart state question (layer_named name state.layers) h
stepped_apart state (Get name id) h = absurd (false≢true h)
stepped_apart state (Size name) h = absurd (false≢true h)
stepped_apart state (Recent name k) h = absurd (false≢true h)

-- what is written for a command that memory may refuse isn't `no memory`
executed_apart : (version : Version) (ledger : Bool) (state : State) (command : Command) (cost : Cost) (x y : List ℕ) → IsTrue (may_lack_memory state command) → reply_line version ledger (step state command).reply cost ++ x ≡ reply_line version ledger (Refused NoMemory) Untold ++ y → ⊥
executed_apart version ledger state command cost x y lacking e =
    let parts = and_parts (takes_memory command) (not (is_refusal (step state command).reply)) lacking in
    elim (stepped_apart state command parts.0).refused_or [
      | inl refused' ↦ both_ways _ (not-true _ parts.1) refused'
      | inr apart ↦
          apart version _ _ (sym (append_assoc (reply_text version (step state command).reply) (cond ledger (cost_text cost) []) ((10 ∷ []) ++ x))
          ∙ sym (append_assoc (reply_text version (step state command).reply ++ cond ledger (cost_text cost) []) (10 ∷ []) x) ∙ e
          ∙ append_assoc (reply_text version (Refused NoMemory) ++ cond ledger [] []) (10 ∷ []) y
          ∙ append_assoc (reply_text version (Refused NoMemory)) (cond ledger [] []) ((10 ∷ []) ++ y))
    ]

-- ---- lines and bytes fix the map

-- both replies end with their first line feed
rest_of_told : (version : Version) (ledger : Bool) (a b : Told) (x y : List ℕ) → written_for version ledger (Some a) ++ x ≡ written_for version ledger (Some b) ++ y → x ≡ y
rest_of_told version ledger a b x y e = (rest_of_line (told_text version ledger a.reply a.cost) (told_text version ledger b.reply b.cost) x y (told_one_line version ledger a.reply a.cost) (told_one_line version ledger b.reply b.cost) e).1

abbrev IsSame : Given → Given → List ℕ → List ℕ → Type 0
IsSame a b x y = (a.state ≡ b.state) × (x ≡ y)

-- two answers that are both this one
same_given : (version : Version) (ledger : Bool) (given a b : Given) (x y : List ℕ) → a ≡ given → b ≡ given → written_for version ledger a.told ++ x ≡ written_for version ledger b.told ++ y → IsSame a b x y
same_given version ledger given a b x y p q e =
    let same : a ≡ b = p ∙ sym q in
    (ap (λ (g : Given). g.state) same, append_cancel_left (written_for version ledger b.told) x y (sym (ap (λ (g : Given). written_for version ledger g.told ++ x) same) ∙ e))

-- the machine's answer, and the refusal for want of memory
never_both : (version : Version) (ledger : Bool) (state : State) (command : Command) (a b : Given) (x y : List ℕ) → Executes state command a → IsTrue (may_lack_memory state command) → b ≡ outputs.refused state (Refused NoMemory) → written_for version ledger a.told ++ x ≡ written_for version ledger b.told ++ y → ⊥
never_both version ledger state command a b x y p lacking q e =
    executed_apart version ledger state command p.cost x y lacking
    (sym (ap (λ (g : Given). written_for version ledger g.told ++ x) p.is_given) ∙ e ∙ ap (λ (g : Given). written_for version ledger g.told ++ y) q)

same_executed : (version : Version) (ledger : Bool) (state : State) (command : Command) (a b : Given) (x y : List ℕ) → Executes state command a → Executes state command b → written_for version ledger a.told ++ x ≡ written_for version ledger b.told ++ y → IsSame a b x y
same_executed version ledger state command a b x y p q e = (
  ap (λ (g : Given). g.state) p.is_given ∙ sym (ap (λ (g : Given). g.state) q.is_given),
  rest_of_told version ledger (record { reply = (step state command).reply; cost = p.cost }) (record { reply = (step state command).reply; cost = q.cost }) x y
      (sym (ap (λ (g : Given). written_for version ledger g.told ++ x) p.is_given) ∙ e ∙ ap (λ (g : Given). written_for version ledger g.told ++ y) q.is_given),
)

same_answer : (version : Version) (ledger : Bool) (state : State) (parsed : Parsed) (a b : Given) (x y : List ℕ) → AnswersTo state parsed a → AnswersTo state parsed b → written_for version ledger a.told ++ x ≡ written_for version ledger b.told ++ y → IsSame a b x y
same_answer version ledger state (Ok None) a b x y p q e = same_given version ledger (nothing state) a b x y p q e
same_answer version ledger state (Err fault) a b x y p q e = same_given version ledger (outputs.refused state (Refused (refusal_of_fault fault))) a b x y p q e
same_answer version ledger state (Ok (Some command)) a b x y (inl p) (inl q) e = same_executed version ledger state command a b x y p q e
same_answer version ledger state (Ok (Some command)) a b x y (inl p) (inr q) e = absurd (never_both version ledger state command a b x y p q.0 q.1 e)
same_answer version ledger state (Ok (Some command)) a b x y (inr p) (inl q) e = absurd (never_both version ledger state command b a y x q p.0 p.1 (sym e))
same_answer version ledger state (Ok (Some command)) a b x y (inr p) (inr q) e = same_given version ledger (outputs.refused state (Refused NoMemory)) a b x y p.1 q.1 e

pub end_of_output : (ledger : Bool) (start first second : State) (lines : List (List ℕ)) (written : List ℕ) → Output ledger start lines written first → Output ledger start lines written second → first ≡ second
end_of_output ledger start first second [] written p q = p.1 ∙ sym q.1
end_of_output ledger start first second (line ∷ lines) written p q =
    let same = same_answer start.version ledger start (parse start.version line) p.0 q.0 p.2 q.2 p.1 q.1 (sym p.3 ∙ q.3) in
    end_of_output ledger p.0.state first second lines p.2 p.4
    (subst (λ (s : State). Output ledger s lines p.2 second) (sym same.0) (subst (λ (z : List ℕ). Output ledger q.0.state lines z second) (sym same.1) q.4))

-- ---- outputs one after the other

pub Output-append : (ledger : Bool) (start middle end : State) (first second : List (List ℕ)) (v w : List ℕ) → Output ledger start first v middle → Output ledger middle second w end → Output ledger start (first ++ second) (v ++ w) end
Output-append ledger start middle end [] second v w p q =
    subst (λ (z : List ℕ). Output ledger start second (z ++ w) end) (sym p.0) (subst (λ (s : State). Output ledger s second w end) p.1 q)
Output-append ledger start middle end (line ∷ first) second v w p q =
    (p.0, p.1, p.2 ++ w, ap (λ (z : List ℕ). z ++ w) p.3 ∙ append_assoc (written_for start.version ledger p.0.told) p.2 w, Output-append ledger p.0.state middle end first second p.2 w p.4 q)

pub Output-split : (ledger : Bool) (start end : State) (first second : List (List ℕ)) (written : List ℕ) → Output ledger start (first ++ second) written end → (v : List ℕ) × (w : List ℕ) × (middle : State) × (written ≡ v ++ w) × Output ledger start first v middle × Output ledger middle second w end
Output-split ledger start end [] second written p = ([], written, start, refl, (refl, refl), p)
Output-split ledger start end (line ∷ first) second written p =
    let r = Output-split ledger p.0.state end first second p.2 p.4 in
    (written_for start.version ledger p.0.told ++ r.0, r.1, r.2, p.3 ∙ ap (λ (z : List ℕ). written_for start.version ledger p.0.told ++ z) r.3 ∙ sym (append_assoc (written_for start.version ledger p.0.told) r.0 r.1), (p.0, p.1, r.0, refl, r.4), r.5)

-- ---- refusals

-- What was written begins with `no ` once for each refusal.
refusals-told : (version : Version) (ledger : Bool) (told : Option Told) (rest : List ℕ) → refusals (written_for version ledger told ++ rest) ≡ refusal_count told + refusals rest
refusals-told version ledger None rest = omega arith
refusals-told version ledger (Some told) rest =
    let text = told_text version ledger told.reply told.cost in
    let test : List ℕ → Bool = λ line. starts_with nat_eq line (codes "no ") in
    ap (count_by test) (ap lines (append_assoc text (10 ∷ []) rest) ∙ lines-line text rest (told_one_line version ledger told.reply told.cost))
    ∙ sum_by-cons (λ line. cond (test line) 1 0) text (lines rest)
    ∙ ap (λ b. cond b 1 0 + count_by test (lines rest)) (begins_no version told.reply (cond ledger (cost_text told.cost) []))

-- Behind an output, what is written refuses what it refuses alone.
pub refusals-append_output : (ledger : Bool) (start end : State) (script : List (List ℕ)) (written more : List ℕ) → Output ledger start script written end → refusals (written ++ more) ≡ refusals written + refusals more
refusals-append_output ledger start end [] written more p =
    ap (λ (z : List ℕ). refusals (z ++ more)) p.0 ∙ sym (ap (λ (z : List ℕ). refusals z + refusals more) p.0 ∙ zero-add (refusals more))
refusals-append_output ledger start end (line ∷ script) written more p =
    let front = written_for start.version ledger p.0.told in
    let count = refusal_count p.0.told in
    ap (λ (z : List ℕ). refusals (z ++ more)) p.3
    ∙ ap refusals (append_assoc front p.2 more)
    ∙ refusals-told start.version ledger p.0.told (p.2 ++ more)
    ∙ ap (λ n. count + n) (refusals-append_output ledger p.0.state end script p.2 more p.4)
    ∙ sym (add_assoc count (refusals p.2) (refusals more))
    ∙ ap (λ n. n + refusals more) (sym (refusals-told start.version ledger p.0.told p.2))
    ∙ ap (λ (z : List ℕ). refusals z + refusals more) (sym p.3)

-- one answer more: what it refuses is added
pub refusals-push : (version : Version) (ledger : Bool) (start end : State) (script : List (List ℕ)) (written : List ℕ) (told : Option Told) → Output ledger start script written end → refusals (written ++ written_for version ledger told) ≡ refusals written + refusal_count told
refusals-push version ledger start end script written told p =
    refusals-append_output ledger start end script written (written_for version ledger told) p
    ∙ ap (λ n. refusals written + n) (sym (ap refusals (append-nil (written_for version ledger told))) ∙ refusals-told version ledger told [] ∙ add-zero (refusal_count told))

-- ---- the machine's own run

-- some cost is allowed for a reply
record HasCost (layer : Option Layer) (update : Option Update) (o : Outcome) : Type 0 where
  cost : Cost
  allowed : IsCost layer update o.reply cost

either_cost : (layer : Option Layer) (update : Option Update) (b : Bool) (first second : Outcome) → HasCost layer update first → HasCost layer update second → HasCost layer update (cond b first second)
either_cost layer update true first second p q = p
either_cost layer update false first second p q = q

refused_cost : (layer : Option Layer) (update : Option Update) (state : State) (cause : refusals.Refusal) → HasCost layer update (refused state cause)
refused_cost layer update state cause = record { cost = Untold; allowed = refl }

-- an add or a move may take its bound, which is at least three turns an index
enough_turns : (update : Update) (layer : Layer) → 3 * ready_count layer ≤ turn_bound update layer
enough_turns update layer =
    let s = layer.indexes in
    omega (arith, one s.range Range, one s.near Near, one s.top Top, one s.stab Stab, one s.cross Cross)
  where
    least : (update : Update) (index : Index) (n : ℕ) → 3 ≤ turns_of update (bounds_at (rate_of index) n)
    least Adds Range n = omega arith
    least Adds Near n = omega arith
    least Adds Top n = omega arith
    least Adds Stab n = omega arith
    least Adds Cross n = omega arith
    least Drops Range n = omega arith
    least Drops Near n = omega arith
    least Drops Top n = omega arith
    least Drops Stab n = omega arith
    least Drops Cross n = omega arith
    least Moves Range n = omega arith
    least Moves Near n = omega arith
    least Moves Top n = omega arith
    least Moves Stab n = omega arith
    least Moves Cross n = omega arith

    one_at_most : (b : Bool) → one_if b ≤ 1
    one_at_most true = omega arith
    one_at_most false = omega arith

    one : (b : Bool) (index : Index)
        → 3 * cond b (one_if (nat_le (wait_of layer.waits index) handed)) 0 ≤ cond b (turns_of update (bounds_at (rate_of index) (live_count layer))) 0
    one true index = omega (arith, one_at_most (nat_le (wait_of layer.waits index) handed), least update index (live_count layer))
    one false index = omega arith

-- an update may spend its bounds
spread_cost : (layer : Layer) (update : Update) (state : State) → layer.indexes.batch ≡ false → HasCost (Some layer) (Some update) (replied state Updated)
spread_cost layer update state spread = record {
  cost = Updating (record { turns = turn_bound update layer; turn_bound = turn_bound update layer; marks = mark_bound update layer; mark_bound = mark_bound update layer });
  allowed = record {
    spread = spread;
    turn_bound_told = refl;
    mark_bound_told = refl;
    turns_bounded = le_refl (turn_bound update layer);
    marks_bounded = le_refl (mark_bound update layer);
    takes_turns = λ _. enough_turns update layer;
  };
}

-- inserts may take at least eight turns
some_turns : (n : ℕ) → 8 ≤ batch_turn_bound (n + 1)
some_turns n =
    let digits = batch_part_bound (n + 1) in
    let each : 8 ≤ digits * (digits + 7) = omega (arith, some_digit n, mul-le-mul_right (digits + 7) (some_digit n)) in
    omega (arith, each, mul-le-mul_right (digits * (digits + 7)) (let some : 1 ≤ n + 1 = omega arith in some))

-- the same where parts are joined at once, by the turns and marks of one update
joined_with : (layer : Layer) (update : Update) (state : State) (turns : ℕ) → layer.indexes.batch ≡ true → turns ≤ batch_turn_bound (inserted_by update layer)
    → (brings update ≡ true → 3 ≤ turns) → (brings update ≡ false → turns ≡ 0) → HasCost (Some layer) (Some update) (replied state Updated)
joined_with layer update state turns at_once few some none =
    let bound = batch_turn_bound (inserted_by update layer) in record {
      cost = Joining (record { turns = turns; total = bound; turn_bound = bound; marks = 0; mark_bound = batch_part_bound (inserted_by update layer) });
      allowed = record {
        at_once = at_once;
        turn_bound_told = refl;
        mark_bound_told = refl;
        turns_added = few;
        turns_bounded = le_refl bound;
        marks_bounded = omega arith;
        takes_turns = some;
        takes_none = none;
        makes_none = λ _. refl;
      };
    }

joined_cost : (layer : Layer) (update : Update) (state : State) → layer.indexes.batch ≡ true → HasCost (Some layer) (Some update) (replied state Updated)
joined_cost layer Adds state at_once =
    joined_with layer Adds state 3 at_once (omega (arith, some_turns layer.inserted)) (λ _. omega arith) (λ none. absurd (false≢true (sym none)))
joined_cost layer Drops state at_once = joined_with layer Drops state 0 at_once (omega arith) (λ some. absurd (false≢true some)) (λ _. refl)
joined_cost layer Moves state at_once =
    joined_with layer Moves state 3 at_once (omega (arith, some_turns layer.inserted)) (λ _. omega arith) (λ none. absurd (false≢true (sym none)))

updated_cost : (layer : Layer) (update : Update) (state : State) → HasCost (Some layer) (Some update) (replied state Updated)
updated_cost layer update state = elim (cases_Bool layer.indexes.batch) [
  | inl at_once ↦ joined_cost layer update state at_once
  | inr spread ↦ spread_cost layer update state spread
]

-- a question may ask as many parts as its bound, and each part where they are joined at once
answered_cost : (layer : Layer) (state : State) (answer : questions.Answer) → HasCost (Some layer) None (replied state (Answered answer))
answered_cost layer state answer = elim (cases_Bool layer.indexes.batch) [
  | inl at_once ↦
      let bound : part_bound layer ≡ batch_part_bound layer.inserted = bound_by layer.indexes.batch true at_once in record {
        cost = Asking (record { parts = batch_parts layer.inserted; part_bound = part_bound layer; touches = 0 });
        allowed = record {
          part_bound_told = refl;
          parts_bounded = omega (arith, bound, batch_parts-le layer.inserted);
          some_part = λ spread. absurd (both_ways layer.indexes.batch spread at_once);
          each_part = λ _. refl;
        };
      }
  | inr spread ↦
      let bound : part_bound layer ≡ parts_up_to (greatest_level (live_count layer)) = bound_by layer.indexes.batch false spread in record {
        cost = Asking (record { parts = part_bound layer; part_bound = part_bound layer; touches = 0 });
        allowed = record {
          part_bound_told = refl;
          parts_bounded = le_refl (part_bound layer);
          some_part = λ _ _. omega (arith, bound);
          each_part = λ at_once. absurd (both_ways layer.indexes.batch spread at_once);
        };
      }
]
  where
    bound_by : (b c : Bool) → b ≡ c
        → cond b (batch_part_bound layer.inserted) (parts_up_to (greatest_level (live_count layer))) ≡ cond c (batch_part_bound layer.inserted) (parts_up_to (greatest_level (live_count layer)))
    bound_by b c same = ap (λ x. cond x (batch_part_bound layer.inserted) (parts_up_to (greatest_level (live_count layer)))) same

added_cost : (state : State) (name : List ℕ) (id : ℕ) (shape : Shape) (layer : Option Layer) → HasCost layer (Some Adds) (add_to state name id shape layer)
added_cost state name id shape None = refused_cost None (Some Adds) state NoLayer
added_cost state name id shape (Some layer) =
    either_cost (Some layer) (Some Adds) (not (is_same_kind layer.kind (kind_of shape))) _ _ (refused_cost (Some layer) (Some Adds) state refusals.Kind)
    (either_cost (Some layer) (Some Adds) (is_live id layer.items) _ _ (refused_cost (Some layer) (Some Adds) state (Duplicate id))
    (either_cost (Some layer) (Some Adds) (nat_le state.most_items (live_count layer)) _ _ (refused_cost (Some layer) (Some Adds) state Full)
    (updated_cost layer Adds (with_layer name (added (record { id = id; shape = shape })) state))))

moved_cost : (state : State) (name : List ℕ) (id : ℕ) (shape : Shape) (layer : Option Layer) → HasCost layer (Some Moves) (move_in state name id shape layer)
moved_cost state name id shape None = refused_cost None (Some Moves) state NoLayer
moved_cost state name id shape (Some layer) =
    either_cost (Some layer) (Some Moves) (not (is_same_kind layer.kind (kind_of shape))) _ _ (refused_cost (Some layer) (Some Moves) state refusals.Kind)
    (either_cost (Some layer) (Some Moves) (is_live id layer.items) _ _
    (updated_cost layer Moves (with_layer name (moved (record { id = id; shape = shape })) state))
    (refused_cost (Some layer) (Some Moves) state (Unknown id)))

dropped_cost : (state : State) (name : List ℕ) (id : ℕ) (layer : Option Layer) → HasCost layer (Some Drops) (drop_from state name id layer)
dropped_cost state name id None = refused_cost None (Some Drops) state NoLayer
dropped_cost state name id (Some layer) =
    either_cost (Some layer) (Some Drops) (is_live id layer.items) _ _ (updated_cost layer Drops (with_layer name (dropped id) state)) (refused_cost (Some layer) (Some Drops) state (Unknown id))

asked_cost : (state : State) (question : questions.Question) (layer : Option Layer) → HasCost layer None (ask_of state question layer)
asked_cost state question None = refused_cost None None state NoLayer
asked_cost state question (Some layer) =
    either_cost (Some layer) None (not (is_same_kind layer.kind (kind_asked question))) _ _ (refused_cost (Some layer) None state refusals.Kind)
    (either_cost (Some layer) None (not (has layer.indexes (index_of question))) _ _ (refused_cost (Some layer) None state refusals.Index)
    (either_cost (Some layer) None (nat_lt 0 (wait_of layer.waits (index_of question))) _ _
    (refused_cost (Some layer) None state (Building (wait_of layer.waits (index_of question))))
    (answered_cost layer state (answer_over layer.items question))))

got_cost : (layer : Option Layer) (state : State) (id : ℕ) (shape : Option Shape) → HasCost layer None (got state id shape)
got_cost layer state id None = refused_cost layer None state (Unknown id)
got_cost layer state id (Some shape) = record { cost = Untold; allowed = refl }

read_cost : (state : State) (id : ℕ) (layer : Option Layer) → HasCost layer None (get_from state id layer)
read_cost state id None = refused_cost None None state NoLayer
read_cost state id (Some layer) = got_cost (Some layer) state id (shape_of id layer.items)

sized_cost : (state : State) (layer : Option Layer) → HasCost layer None (size_of state layer)
sized_cost state None = refused_cost None None state NoLayer
sized_cost state (Some layer) = record { cost = Untold; allowed = refl }

latest_cost : (state : State) (k : ℕ) (layer : Option Layer) → HasCost layer None (recent_of state k layer)
latest_cost state k None = refused_cost None None state NoLayer
latest_cost state k (Some layer) = record { cost = Untold; allowed = refl }

made_cost : (layer : Option Layer) (state : State) (name : List ℕ) (kind : Kind) (indexes : IndexSet) → HasCost layer None (make_layer state name kind indexes)
made_cost layer state name kind indexes =
    either_cost layer None (is_taken name state) _ _ (refused_cost layer None state Taken)
    (either_cost layer None (nat_le most_layers (length state.layers)) _ _ (refused_cost layer None state NoRoom) (record { cost = Untold; allowed = refl }))

indexed_cost : (state : State) (name : List ℕ) (index : Index) (layer : Option Layer) → HasCost layer None (index_in state name index layer)
indexed_cost state name index None = refused_cost None None state NoLayer
indexed_cost state name index (Some layer) =
    either_cost (Some layer) None (not (is_same_kind layer.kind Points && not layer.indexes.batch)) _ _ (refused_cost (Some layer) None state refusals.Kind)
    (either_cost (Some layer) None (has layer.indexes index) _ _ (refused_cost (Some layer) None state Taken) (record { cost = Untold; allowed = refl }))

chosen_cost : (layer : Option Layer) (state : State) (version : Version) (layers : List Layer) → HasCost layer None (choose_version state version layers)
chosen_cost layer state version [] = record { cost = Untold; allowed = refl }
chosen_cost layer state version (first ∷ layers) = refused_cost layer None state refusals.Version

stepped_cost : (state : State) (command : Command) → HasCost (layer_named (name_of command) state.layers) (update_of command) (step state command)
stepped_cost state (Livemap version) = chosen_cost (layer_named [] state.layers) state version state.layers
stepped_cost state (MakeLayer name kind indexes) = made_cost (layer_named name state.layers) state name kind indexes
stepped_cost state (MakeIndex name index) = indexed_cost state name index (layer_named name state.layers)
stepped_cost state (Add name id shape) = added_cost state name id shape (layer_named name state.layers)
stepped_cost state (Move name id x y w) = moved_cost state name id (Point x y w) (layer_named name state.layers)
stepped_cost state (Drop name id) = dropped_cost state name id (layer_named name state.layers)
stepped_cost state (Ask name question) = asked_cost state question (layer_named name state.layers)
stepped_cost state (Get name id) = read_cost state id (layer_named name state.layers)
stepped_cost state (Size name) = sized_cost state (layer_named name state.layers)
stepped_cost state (Recent name k) = latest_cost state k (layer_named name state.layers)

-- the machine's answer to a line, as one that may be given
record MachineGives (state : State) (parsed : Parsed) : Type 0 where
  given : Given
  answers : AnswersTo state parsed given
  told : written_for state.version false given.told ≡ line_for state.version (machine_reply state parsed)
  led : given.state ≡ machine_state state parsed

machine_gives : (state : State) (parsed : Parsed) → MachineGives state parsed
machine_gives state (Ok None) = record { given = nothing state; answers = refl; told = refl; led = refl }
machine_gives state (Ok (Some command)) =
    let some = stepped_cost state command in
    let given : Given = record { told = Some (record { reply = (step state command).reply; cost = some.cost }); state = (step state command).state } in
    record { given = given; answers = inl (record { cost = some.cost; is_cost = some.allowed; is_given = refl }); told = refl; led = refl }
machine_gives state (Err fault) = record { given = outputs.refused state (Refused (refusal_of_fault fault)); answers = refl; told = refl; led = refl }

pub machine_is_output : (start : State) (lines : List (List ℕ)) → Output false start lines (machine_text start lines) (machine_end start lines)
machine_is_output start [] = (refl, refl)
machine_is_output start (line ∷ lines) =
    let m = machine_gives start (parse start.version line) in (
      m.given,
      m.answers,
      machine_text (machine_state start (parse start.version line)) lines,
      ap (λ (front : List ℕ). front ++ machine_text (machine_state start (parse start.version line)) lines) (sym m.told),
      subst (λ (s : State). Output false s lines (machine_text (machine_state start (parse start.version line)) lines) (machine_end (machine_state start (parse start.version line)) lines)) (sym m.led) (machine_is_output (machine_state start (parse start.version line)) lines),
    )

-- ---- where `no memory` was written nowhere

-- an answer that isn't `no memory` is the machine's, without the ledger
machine_or_refused : (state : State) (parsed : Parsed) (given : Given) → AnswersTo state parsed given
    → ((written_for state.version false given.told ≡ line_for state.version (machine_reply state parsed)) × (given.state ≡ machine_state state parsed)) ⊎ (given ≡ outputs.refused state (Refused NoMemory))
machine_or_refused state (Ok None) given p = inl (ap (λ (g : Given). written_for state.version false g.told) p, ap (λ (g : Given). g.state) p)
machine_or_refused state (Err fault) given p = inl (ap (λ (g : Given). written_for state.version false g.told) p, ap (λ (g : Given). g.state) p)
machine_or_refused state (Ok (Some command)) given (inl p) = inl (ap (λ (g : Given). written_for state.version false g.told) p.is_given, ap (λ (g : Given). g.state) p.is_given)
machine_or_refused state (Ok (Some command)) given (inr p) = inr p.1

-- what is told of a text is told of what stands behind a whole line
told_behind : (version : Version) (told : Option Told) (rest text : List ℕ) → (Contains (lines (written_for version false told ++ rest)) text → ⊥) → Contains (lines rest) text → ⊥
told_behind version None rest text h c = h c
told_behind version (Some told) rest text h c =
    let text' = told_text version false told.reply told.cost in
    h (subst (λ (ls : List (List ℕ)). Contains ls text) (sym (ap lines (append_assoc text' (10 ∷ []) rest) ∙ lines-line text' rest (told_one_line version false told.reply told.cost))) (suc c.0, omega arith, c.2))

pub output_without_refusals : (start end : State) (script : List (List ℕ)) (written : List ℕ) → (Contains (lines written) (codes "no memory") → ⊥) → Output false start script written end → (written ≡ machine_text start script) × (end ≡ machine_end start script)
output_without_refusals start end [] written h p = p
output_without_refusals start end (line ∷ script) written h p =
    let untold : Contains (lines (written_for start.version false p.0.told ++ p.2)) (codes "no memory") → ⊥ = subst (λ (z : List ℕ). Contains (lines z) (codes "no memory") → ⊥) p.3 h in
    elim (machine_or_refused start (parse start.version line) p.0 p.1) [
      | inl same ↦
          let next = subst (λ (s : State). Output false s script p.2 end) same.1 p.4 in
          let r = output_without_refusals (machine_state start (parse start.version line)) end script p.2 (told_behind start.version p.0.told p.2 (codes "no memory") untold) next in
          (p.3 ∙ ap (λ (front : List ℕ). front ++ p.2) same.0 ∙ ap (λ (rest : List ℕ). line_for start.version (machine_reply start (parse start.version line)) ++ rest) r.0, r.1)
      | inr lacking ↦ absurd (untold (subst (λ (g : Given). Contains (lines (written_for start.version false g.told ++ p.2)) (codes "no memory")) (sym lacking)
          (subst (λ (ls : List (List ℕ)). Contains ls (codes "no memory")) (sym (lines-line (codes "no memory") p.2 refl)) (0, omega arith, refl))))
    ]

-- a script that asks nothing of memory
lacks_nowhere : (start : State) (parsed : Parsed) (given : Given) → asks_memory start parsed ≡ false → AnswersTo start parsed given
    → (written_for start.version false given.told ≡ line_for start.version (machine_reply start parsed)) × (given.state ≡ machine_state start parsed)
lacks_nowhere start (Ok None) given h p = (ap (λ (g : Given). written_for start.version false g.told) p, ap (λ (g : Given). g.state) p)
lacks_nowhere start (Err fault) given h p = (ap (λ (g : Given). written_for start.version false g.told) p, ap (λ (g : Given). g.state) p)
lacks_nowhere start (Ok (Some command)) given h (inl p) = (ap (λ (g : Given). written_for start.version false g.told) p.is_given, ap (λ (g : Given). g.state) p.is_given)
lacks_nowhere start (Ok (Some command)) given h (inr p) = absurd (both_ways (may_lack_memory start command) h p.0)

pub only_output : (start end : State) (script : List (List ℕ)) (written : List ℕ) → IsTrue (never_lacks_memory start script) → Output false start script written end → (written ≡ machine_text start script) × (end ≡ machine_end start script)
only_output start end [] written h p = p
only_output start end (line ∷ script) written h p =
    let parts = and_parts (not (asks_memory start (parse start.version line))) (never_lacks_memory (machine_state start (parse start.version line)) script) h in
    let same = lacks_nowhere start (parse start.version line) p.0 (not-true _ parts.0) p.1 in
    let next = subst (λ (s : State). Output false s script p.2 end) same.1 p.4 in
    let r = only_output (machine_state start (parse start.version line)) end script p.2 parts.1 next in
    (p.3 ∙ ap (λ (front : List ℕ). front ++ p.2) same.0 ∙ ap (λ (rest : List ℕ). line_for start.version (machine_reply start (parse start.version line)) ++ rest) r.0, r.1)
