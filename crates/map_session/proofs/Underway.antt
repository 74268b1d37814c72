-- Answering a text that comes in pieces.
use Rattle.std.proofs.Common.{◌≡◌, ℕ, ◌+◌, ◌-◌, ◌≤◌, ◌<◌, ◌⊎◌, inl, inr, true, false, List, [], ◌∷◌, ◌++◌, length, take, nat_le, arith, refl, sym, ap, ◌∙◌, subst, append_assoc, append-nil, length-append, length-take-le, min}
use Rattle.std.proofs.lemmas.List.{take_all, take-append-le}
use Rattle.std.proofs.Math.Seq.{take-append-add}
use Rattle.std.proofs.lemmas.Bool.{cases_Bool}
use Rattle.std.proofs.lemmas.Bool.Decides.{nat_tests}
use Rattle.query_laws.specs.StepLedger.{Counts}
use Rattle.map_model.specs.Text.{lines, whole_lines, one_line}
use Rattle.map_model.specs.Grammar.{Parsed, parse}
use Rattle.map_model.specs.Version.{Version}
use Rattle.map_model.specs.Output.{Given}
use Rattle.map_model.proofs.TextLemmas.{whole_lines-line, whole_lines-rest, lines-rest}
use Rattle.script_lang.specs.Front.{longest_front}
use Rattle.script_lang.proofs.Fronts.{parse-front}
use Rattle.map_session.specs.Session.{SessionState, map_in, Executes, ExecutesLine}
use Rattle.map_session.specs.Answering.{Moment, AnswersLine, StopsInLine, Runs, IsStoppedBehind, unended, IsUnderway}
use Rattle.map_session.proofs.Lines.{Runs-push, stopped}
use Rattle.map_session.proofs.Unended.{one_line-append, unended_is_line, unended_ended, unended_on, whole_lines-more, lines-more}

-- ---- the front of a line

-- the front of a front with more after it
take-front : (n : ℕ) (line more : List ℕ) → take n (take n line ++ more) ≡ take n (line ++ more)
take-front n line more = cases (cases_Bool (nat_le (length line) n))
  where
    cases : (nat_le (length line) n ≡ true) ⊎ (nat_le (length line) n ≡ false) → take n (take n line ++ more) ≡ take n (line ++ more)
    cases (inl short) = ap (λ (l : List ℕ). take n (l ++ more)) (take_all n line (grind (arith, nat_tests, short)))
    cases (inr long) =
        let enough : n ≤ length line = grind (arith, nat_tests, long) in
        let size : length (take n line) ≡ n = length-take-le n line enough in
        take-append-le n (take n line) more (omega (arith, size)) ∙ take_all n (take n line) (omega (arith, size)) ∙ sym (take-append-le n line more enough)

-- where it is empty, so is the line
pub empty_front : (line : List ℕ) → length (take longest_front line) ≡ 0 → line ≡ []
empty_front [] none = refl
empty_front (byte ∷ line) none = absurd (let wrong : ⊥ = omega (arith, none) in wrong)

-- bytes behind a front, as far as they fit
pub filled_front : (n k : ℕ) (front more : List ℕ) → length front ≤ n → k ≡ min (length more) (n - length front) → front ++ take k more ≡ take n (front ++ more)
filled_front n k front more fits is =
    let same : take k more ≡ take (n - length front) more = cases (cases_Bool (nat_le (length more) (n - length front))) in
    let split : length front + (n - length front) ≡ n = omega (arith, fits) in
    ap (λ (l : List ℕ). front ++ l) same ∙ sym (take-append-add front more (n - length front)) ∙ ap (λ (m : ℕ). take m (front ++ more)) split
  where
    cases : (nat_le (length more) (n - length front) ≡ true) ⊎ (nat_le (length more) (n - length front) ≡ false) → take k more ≡ take (n - length front) more
    cases (inl short) =
        let all : length more ≤ n - length front = grind (arith, nat_tests, short) in
        take_all k more (omega (arith, is, all)) ∙ sym (take_all (n - length front) more all)
    cases (inr long) =
        let fewer : n - length front ≤ length more = grind (arith, nat_tests, long) in
        let room : k ≡ n - length front = omega (arith, is, fewer) in
        ap (λ (m : ℕ). take m more) room

-- what a line says is said by its front
pub said_alike : (old : SessionState) (before : Counts) (line other : List ℕ) (given : Given) (new : SessionState) (after : Counts)
    → parse (map_in old).version line ≡ parse (map_in old).version other
    → ExecutesLine old before line given new after → ExecutesLine old before other given new after
said_alike old before line other given new after alike e = subst (λ (said : Parsed). Executes old before said given new after) alike e

pub front_said : (version : Version) (begun line : List ℕ) → begun ≡ take longest_front line → parse version begun ≡ parse version line
front_said version begun line is = ap (parse version) is ∙ parse-front version line

pub ended_said : (version : Version) (begun line end : List ℕ) → begun ≡ take longest_front line → parse version (take longest_front (begun ++ end)) ≡ parse version (line ++ end)
ended_said version begun line end is =
    ap (λ (b : List ℕ). parse version (take longest_front (b ++ end))) is ∙ ap (parse version) (take-front longest_front line end) ∙ parse-front version (line ++ end)

-- ---- from one piece to the next

pub underway_at_first : (start : Moment) → IsUnderway start [] [] start
underway_at_first start = record { answered = refl; front = refl }

-- a line of a text that ends in these bytes
whole_with : (text end after : List ℕ) → one_line end ≡ true → whole_lines (text ++ (end ++ 10 ∷ after)) ≡ whole_lines text ++ (unended text ++ end) ∷ whole_lines after
whole_with text end after ended =
    whole_lines-more text (end ++ 10 ∷ after)
    ∙ ap (λ (ls : List (List ℕ)). whole_lines text ++ ls)
    (ap whole_lines (sym (append_assoc (unended text) end (10 ∷ after))) ∙ whole_lines-line (unended text ++ end) after (one_line-append (unended text) end (unended_is_line text) ended))

module _ (start now new : Moment) (text begun : List ℕ) (so_far : IsUnderway start text begun now) where
  -- a line ended and was answered
  pub underway_line : (end : List ℕ) → one_line end ≡ true → AnswersLine now (unended text ++ end) new → IsUnderway start (text ++ (end ++ 10 ∷ [])) [] new
  underway_line end ended a = record {
    answered = subst (λ (ls : List (List ℕ)). Runs start ls new) (sym (whole_with text end [] ended))
        (Runs-push start now new (whole_lines text) (unended text ++ end) so_far.answered a);
    front = sym (ap (take longest_front) (unended_ended text end));
  }

  -- bytes came without a line feed
  pub underway_rest : (more : List ℕ) → one_line more ≡ true → IsUnderway start (text ++ more) (take longest_front (begun ++ more)) now
  underway_rest more ended = record {
    answered = subst (λ (ls : List (List ℕ)). Runs start ls now)
        (sym (whole_lines-more text more
        ∙ ap (λ (ls : List (List ℕ)). whole_lines text ++ ls) (whole_lines-rest (unended text ++ more) (one_line-append (unended text) more (unended_is_line text) ended))
        ∙ append-nil (whole_lines text)))
        so_far.answered;
    front = ap (λ (b : List ℕ). take longest_front (b ++ more)) so_far.front ∙ take-front longest_front (unended text) more ∙ sym (ap (take longest_front) (unended_on text more ended));
  }

  -- writing stopped in a line that ended
  pub stopped_line : (end after : List ℕ) → one_line end ≡ true → StopsInLine now (unended text ++ end) new
      → IsStoppedBehind (length (whole_lines text)) start (whole_lines (text ++ (end ++ 10 ∷ after))) new
  stopped_line end after ended s = (
    stopped start now new (whole_lines text) (whole_lines after) (whole_lines (text ++ (end ++ 10 ∷ after))) (unended text ++ end) s.given (whole_with text end after ended)
        so_far.answered s.executed s.cut_off,
    omega arith,
  )

-- more text has no fewer whole lines
pub more_lines : (text more : List ℕ) → length (whole_lines text) ≤ length (whole_lines (text ++ more))
more_lines text more = omega (arith, ap length (whole_lines-more text more), length-append (whole_lines text) (whole_lines (unended text ++ more)))

pub stopped_earlier : (n m : ℕ) (start now : Moment) (script : List (List ℕ)) → n ≤ m → IsStoppedBehind m start script now → IsStoppedBehind n start script now
stopped_earlier n m start now script le s = (s.0, omega (arith, le, s.1))

-- ---- the last line

lines_last : (text : List ℕ) → lines text ≡ whole_lines text ++ lines (unended text)
lines_last text = sym (ap lines (append-nil text)) ∙ lines-more text [] ∙ ap (λ (u : List ℕ). whole_lines text ++ lines u) (append-nil (unended text))

one_last : (rest : List ℕ) → one_line rest ≡ true → (rest ≡ [] → ⊥) → lines rest ≡ rest ∷ []
one_last [] unended some = absurd (some refl)
one_last (byte ∷ rest) unended some = lines-rest byte rest unended

lines_with_last : (text begun : List ℕ) → begun ≡ take longest_front (unended text) → 0 < length begun → lines text ≡ whole_lines text ++ unended text ∷ []
lines_with_last text begun is some =
    let there : unended text ≡ [] → ⊥ = λ none. let empty : length begun ≡ 0 = ap length is ∙ ap (λ (u : List ℕ). length (take longest_front u)) none in omega (arith, some, empty) in
    lines_last text ∙ ap (λ (ls : List (List ℕ)). whole_lines text ++ ls) (one_last (unended text) (unended_is_line text) there)

module _ (start now : Moment) (text begun : List ℕ) (so_far : IsUnderway start text begun now) where
  -- no line is begun
  pub ended_whole : length begun ≡ 0 → Runs start (lines text) now
  ended_whole none =
      let nothing : unended text ≡ [] = empty_front (unended text) (sym (ap length so_far.front) ∙ none) in
      subst (λ (ls : List (List ℕ)). Runs start ls now)
      (sym (lines_last text ∙ ap (λ (u : List ℕ). whole_lines text ++ lines u) nothing ∙ append-nil (whole_lines text))) so_far.answered

  -- the line that is begun was answered
  pub ended_last : (new : Moment) → 0 < length begun → AnswersLine now begun new → Runs start (lines text) new
  ended_last new some a =
      subst (λ (ls : List (List ℕ)). Runs start ls new) (sym (lines_with_last text begun so_far.front some))
      (Runs-push start now new (whole_lines text) (unended text) so_far.answered (record {
        given = a.given;
        executed = said_alike now.session _ begun (unended text) _ _ _ (front_said (map_in now.session).version begun (unended text) so_far.front) a.executed;
        delivered = a.delivered;
      }))

  -- writing stopped in it
  pub stopped_last : (new : Moment) → 0 < length begun → StopsInLine now begun new → IsStoppedBehind (length (whole_lines text)) start (lines text) new
  stopped_last new some s = (
    stopped start now new (whole_lines text) [] (lines text) (unended text) s.given (lines_with_last text begun so_far.front some) so_far.answered
        (said_alike now.session _ begun (unended text) _ _ _ (front_said (map_in now.session).version begun (unended text) so_far.front) s.executed) s.cut_off,
    omega arith,
  )
