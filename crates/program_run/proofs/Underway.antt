-- A script that is read and answered piece by piece.
use Rattle.std.proofs.Common.{◌≡◌, ℕ, ◌+◌, ◌-◌, ◌<◌, ◌≤◌, refl, List, [], ◌++◌, length, take, drop, Option, sym, ap, ◌∙◌, subst, arith, length-append, append-nil, take_at, take-append-drop}
use Rattle.std.proofs.lemmas.List.{take-append-le}
use Rattle.std.specs.Io.KnownBytes.{Keeps, Consumes, IsAtEnd}
use Rattle.std.proofs.KnownBytes.{Consumes-nil, Consumes-trans, Consumes-kept}
use Rattle.map_model.specs.Text.{lines, whole_lines}
use Rattle.map_session.specs.Answering.{Moment, Runs, IsStoppedBehind, IsUnderway}
use Rattle.map_session.proofs.Lines.{stopped_behind_in_text}
use Rattle.map_session.proofs.Underway.{underway_at_first, more_lines, stopped_earlier}
use Rattle.program_run.specs.declared.ended.Status.TheVariants.{Clean, Refusals, ReadFault, WriteFault, TooLong}
use Rattle.program_run.specs.Run.{script_limit, but_last_piece, AnswersScript, IsReading}

pub reading_at_first : (rest : Option (List ℕ)) (start : Moment) → IsReading rest start 0 rest [] start
reading_at_first rest start = record { text = []; consumed = Consumes-nil rest; many = refl; within = omega arith; underway = underway_at_first start }

-- the front of a text has no more whole lines than all of it
fewer_lines : (text more : List ℕ) (n : ℕ) → n ≤ length text → length (whole_lines (take n (text ++ more))) ≤ length (whole_lines text)
fewer_lines text more n short =
    let front : length (whole_lines (take n text)) ≤ length (whole_lines (take n text ++ drop n text)) = more_lines (take n text) (drop n text) in
    let all : length (whole_lines (take n text ++ drop n text)) ≡ length (whole_lines text) = ap (λ (t : List ℕ). length (whole_lines t)) (take-append-drop n text) in
    let same : length (whole_lines (take n (text ++ more))) ≡ length (whole_lines (take n text)) = ap (λ (t : List ℕ). length (whole_lines t)) (take-append-le n text more short) in
    omega (arith, front, all, same)

module _ (rest before : Option (List ℕ)) (start now : Moment) (taken : ℕ) (begun : List ℕ) (r : IsReading rest start taken before begun now) where
  -- nothing came
  pub reading_kept : (rest' : Option (List ℕ)) → Keeps before rest' → IsReading rest start taken rest' begun now
  reading_kept rest' k = record { text = r.text; consumed = Consumes-kept rest before rest' r.text r.consumed k; many = r.many; within = r.within; underway = r.underway }

  pub reading_still : (rest' : Option (List ℕ)) → Consumes before rest' [] → IsReading rest start taken rest' begun now
  reading_still rest' c = record {
    text = r.text;
    consumed = subst (Consumes rest rest') (append-nil r.text) (Consumes-trans rest before rest' r.text [] r.consumed c);
    many = r.many;
    within = r.within;
    underway = r.underway;
  }

  module _ (rest' : Option (List ℕ)) (bytes : List ℕ) (c : Consumes before rest' bytes) where
    consumed_with : Consumes rest rest' (r.text ++ bytes)
    consumed_with = Consumes-trans rest before rest' r.text bytes r.consumed c

    -- bytes came, and their lines were answered
    pub reading_on : (new : Moment) (given : ℕ) (begun' : List ℕ) → length bytes ≡ given → taken + given ≤ script_limit
        → ((start : Moment) (text : List ℕ) → IsUnderway start text begun now → IsUnderway start (text ++ bytes) begun' new) → IsReading rest start (taken + given) rest' begun' new
    reading_on new given begun' size fits on = record {
      text = r.text ++ bytes;
      consumed = consumed_with;
      many = omega (arith, length-append r.text bytes, r.many, size);
      within = fits;
      underway = on start r.text r.underway;
    }

    -- a byte came behind the longest script
    pub too_long_run : length bytes ≡ 1 → taken ≡ script_limit → AnswersScript rest rest' start TooLong now
    too_long_run one full =
        let size : length (r.text ++ bytes) ≡ script_limit + 1 = omega (arith, length-append r.text bytes, r.many, one, full) in
        let front : take script_limit (r.text ++ bytes) ≡ r.text = take_at r.text bytes script_limit (r.many ∙ full) in
        (r.text ++ bytes, consumed_with, omega (arith, size), (size, subst (λ (t : List ℕ). Runs start (whole_lines t) now) (sym front) r.underway.answered))

    -- bytes came, and writing stopped in an answer to one of their lines
    pub stopped_run : (new : Moment) → length bytes ≤ 4096 → taken + length bytes ≤ script_limit
        → ((start : Moment) (text : List ℕ) → IsUnderway start text begun now → IsStoppedBehind (length (whole_lines text)) start (whole_lines (text ++ bytes)) new)
        → AnswersScript rest rest' start WriteFault new
    stopped_run new small fits stopped =
        let size : length (r.text ++ bytes) ≡ length r.text + length bytes = length-append r.text bytes in
        let behind = stopped_behind_in_text (length (whole_lines r.text)) start new (r.text ++ bytes) (stopped start r.text r.underway) in
        let fewer : length (whole_lines (but_last_piece (r.text ++ bytes))) ≤ length (whole_lines r.text) =
        fewer_lines r.text bytes (length (r.text ++ bytes) - 4096) (omega (arith, size, small)) in
        (r.text ++ bytes, consumed_with, omega (arith, size, r.many, fits), stopped_earlier _ _ start new (lines (r.text ++ bytes)) fewer behind)

  -- the source failed
  pub failed_run : AnswersScript rest before start ReadFault now
  failed_run = (r.text, r.consumed, omega (arith, r.many, r.within), r.underway.answered)

  module _ (end : IsAtEnd before) (new : Moment) where
    -- the last line was answered
    pub clean_run : ((start : Moment) (text : List ℕ) → IsUnderway start text begun now → Runs start (lines text) new) → new.session.refused ≡ 0 → AnswersScript rest before start Clean new
    clean_run all none = ((end, (r.text, r.consumed, omega (arith, r.many, r.within), all start r.text r.underway)), none)

    pub refused_run : ((start : Moment) (text : List ℕ) → IsUnderway start text begun now → Runs start (lines text) new) → 0 < new.session.refused → AnswersScript rest before start Refusals new
    refused_run all some = ((end, (r.text, r.consumed, omega (arith, r.many, r.within), all start r.text r.underway)), some)

  -- writing stopped in the answer to the last line
  pub stopped_last_run : (new : Moment) → ((start : Moment) (text : List ℕ) → IsUnderway start text begun now → IsStoppedBehind (length (whole_lines text)) start (lines text) new)
      → AnswersScript rest before start WriteFault new
  stopped_last_run new stopped =
      let fewer : length (whole_lines (but_last_piece r.text)) ≤ length (whole_lines r.text) =
      subst (λ (t : List ℕ). length (whole_lines (take (length r.text - 4096) t)) ≤ length (whole_lines r.text)) (append-nil r.text) (fewer_lines r.text [] (length r.text - 4096) (omega arith)) in
      (r.text, r.consumed, omega (arith, r.many, r.within), stopped_earlier _ _ start new (lines r.text) fewer (stopped start r.text r.underway))
