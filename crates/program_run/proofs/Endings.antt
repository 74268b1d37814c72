-- What a run says of its endings.
use Rattle.std.proofs.Common.{◌≡◌, ℕ, ◌<◌, ◌≤◌, ◌⊎◌, inl, inr, refl, sym, ◌∙◌, Some, None, Ok, Err, List, length, Option, ap, arith, length-append}
use Rattle.std.specs.Io.KnownBytes.{Consumes, IsAtEnd}
use Rattle.map_io.specs.Calls.{counted}
use Rattle.map_io.specs.SinkTold.{SinkTold}
use Rattle.map_session.specs.Answering.{Moment, moment}
use Rattle.map_session.proofs.Lines.{stopped_by_fault}
use Rattle.map_session.proofs.SumsUp.{sums_up}
use Rattle.program_words.specs.declared.job.Job.TheVariants.{Script, Made}
use Rattle.program_words.specs.declared.job.WordsFault.TheVariants as faults
use Rattle.query_laws.specs.StepLedger.{Counts}
use Rattle.program_run.specs.declared.ended.Status.{Status}
use Rattle.program_run.specs.declared.ended.Status.TheVariants.{Clean, Refusals, Usage, ReadFault, WriteFault, TooLong, NoMemory}
use Rattle.program_run.specs.Run.{first_session, script_limit, AnswersScript, AsksForScript, HasRun}

-- ---- where nothing fails

consumed_fits : (left bs : List ℕ) (rest' : Option (List ℕ)) → Consumes (Some left) rest' bs → length bs ≤ length left
consumed_fits left bs None c = absurd c
consumed_fits left bs (Some more) c = omega (arith, ap length c, length-append bs more)

consumed_all : (left bs : List ℕ) (rest' : Option (List ℕ)) → Consumes (Some left) rest' bs → IsAtEnd rest' → length left ≡ length bs
consumed_all left bs None c e = absurd c
consumed_all left bs (Some more) c e = omega (arith, ap length c, length-append bs more, ap length e)

module _ (left : List ℕ) (rest' : Option (List ℕ)) (start now : Moment) where
  -- a script within the limit, that no fault ended, is answered whole
  pub complete_script : (status : Status) → AnswersScript (Some left) rest' start status now → length left ≤ script_limit → (status ≡ ReadFault → ⊥) → (status ≡ WriteFault → ⊥)
      → (status ≡ Clean) ⊎ ((status ≡ Refusals) ⊎ (status ≡ NoMemory))
  complete_script Clean r short read write = inl refl
  complete_script Refusals r short read write = inr (inl refl)
  complete_script Usage r short read write = absurd r
  complete_script ReadFault r short read write = absurd (read refl)
  complete_script WriteFault r short read write = absurd (write refl)
  complete_script TooLong r short read write =
      let fits = consumed_fits left r.0 rest' r.1 in
      absurd (let none : ⊥ = omega (arith, r.3.0, fits, short) in none)
  complete_script NoMemory r short read write = absurd r

  -- and a longer one isn't
  pub limited_script : (status : Status) → AnswersScript (Some left) rest' start status now → script_limit < length left → (status ≡ ReadFault → ⊥) → (status ≡ WriteFault → ⊥)
      → (status ≡ TooLong) ⊎ (status ≡ NoMemory)
  limited_script Clean r long read write =
      let all = consumed_all left r.0.1.0 rest' r.0.1.1 r.0.0 in
      absurd (let none : ⊥ = omega (arith, all, r.0.1.2, long) in none)
  limited_script Refusals r long read write =
      let all = consumed_all left r.0.1.0 rest' r.0.1.1 r.0.0 in
      absurd (let none : ⊥ = omega (arith, all, r.0.1.2, long) in none)
  limited_script Usage r long read write = absurd r
  limited_script ReadFault r long read write = absurd (read refl)
  limited_script WriteFault r long read write = absurd (write refl)
  limited_script TooLong r long read write = inl refl
  limited_script NoMemory r long read write = absurd r

module _ (words : List (List ℕ)) (left : List ℕ) (rest' : Option (List ℕ)) (told : SinkTold) (counts : Counts) (status : Status) (now : Moment) where
  pub complete_run : HasRun words (Some left) rest' told counts status now → length left ≤ script_limit → AsksForScript words → (status ≡ ReadFault → ⊥) → (status ≡ WriteFault → ⊥)
      → (status ≡ Clean) ⊎ ((status ≡ Refusals) ⊎ (status ≡ NoMemory))
  complete_run (Ok (Script ledger), reads, r) short asks read write = complete_script left rest' (moment (first_session ledger) told counts) now status r short read write
  complete_run (Ok (Made seed size), reads, r) short asks read write = absurd (let none : ⊥ = cc (sym reads.1 ∙ asks.1.1) in none)
  complete_run (Err faults.Usage, reads, r) short asks read write = absurd (let none : ⊥ = cc (sym asks.1.0 ∙ reads) in none)
  complete_run (Err faults.NoMemory, reads, r) short asks read write = inr (inr r.0)

  pub limited_run : HasRun words (Some left) rest' told counts status now → script_limit < length left → AsksForScript words → (status ≡ ReadFault → ⊥) → (status ≡ WriteFault → ⊥)
      → (status ≡ TooLong) ⊎ (status ≡ NoMemory)
  limited_run (Ok (Script ledger), reads, r) long asks read write = limited_script left rest' (moment (first_session ledger) told counts) now status r long read write
  limited_run (Ok (Made seed size), reads, r) long asks read write = absurd (let none : ⊥ = cc (sym reads.1 ∙ asks.1.1) in none)
  limited_run (Err faults.Usage, reads, r) long asks read write = absurd (let none : ⊥ = cc (sym asks.1.0 ∙ reads) in none)
  limited_run (Err faults.NoMemory, reads, r) long asks read write = inr r.0

-- ---- what became of the sink

module _ (rest rest' : Option (List ℕ)) (start now : Moment) where
  -- one call failed
  pub script_fault : AnswersScript rest rest' start WriteFault now → now.told.faults ≡ counted start.told.faults
  script_fault r = stopped_by_fault start now _ r.3.0

  -- no call failed
  pub script_kept : (status : Status) → AnswersScript rest rest' start status now → (status ≡ WriteFault → ⊥) → now.told.faults ≡ start.told.faults
  script_kept Clean r write = (sums_up start _ now r.0.1.3).delivered.faults
  script_kept Refusals r write = (sums_up start _ now r.0.1.3).delivered.faults
  script_kept Usage r write = absurd r
  script_kept ReadFault r write = (sums_up start _ now r.3).delivered.faults
  script_kept WriteFault r write = absurd (write refl)
  script_kept TooLong r write = (sums_up start _ now r.3.1).delivered.faults
  script_kept NoMemory r write = absurd r
