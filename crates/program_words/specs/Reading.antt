-- What clap's matches tell.
use Rattle.std.specs.Prelude.{◌≡◌, ◌⊎◌, ℕ, ◌<◌, ◌^◌, Bool, false, List, Option, Some, None, Result, Ok, Err, codes, option_map}
use Rattle.std.specs.Str.{bytes_eq}
use Rattle.std.specs.Str.Parse.{IsNumeral, without_leading_plus}
use Rattle.std.specs.Option.{option_map_or}
use Rattle.clap.specs.Matches.{found_of, one_text}
use Rattle.clap.specs.declared.parser.matches.ArgMatches.{ArgMatches}
use Rattle.clap.specs.declared.error.kind.ErrorKind.{ErrorKind}
use Rattle.clap.specs.declared.error.kind.ErrorKind.TheVariants.{OutOfMemory}
use Rattle.program_words.specs.Words.{number_of, job_for}
use Rattle.program_words.specs.declared.job.Job.{Job}
use Rattle.program_words.specs.declared.job.WordsFault.{WordsFault}
use Rattle.program_words.specs.declared.job.WordsFault.TheVariants.{Usage, NoMemory}

-- why the words are refused, by clap's error
abbrev pub fault_by : ErrorKind → WordsFault
fault_by OutOfMemory = NoMemory
fault_by _ = Usage

-- the text is a number below a limit
abbrev pub IsNumberBelow : ℕ → List ℕ → Type 0
IsNumberBelow limit text = IsNumeral 10 (without_leading_plus text) × (number_of text < limit)

-- the text says that a flag is set, or isn't
abbrev pub IsFlag : List ℕ → Type 0
IsFlag text = (text ≡ codes "true") ⊎ (text ≡ codes "false")

-- it holds of an argument's text, where there is one
abbrev pub IfGiven : (List ℕ → Type 0) → List ℕ → ArgMatches → Type 0
IfGiven P argument m = (text : List ℕ) → one_text (found_of m) argument ≡ Some text → P text

-- each value is one that its getter reads
pub record HasValues (m : ArgMatches) : Type 0 where
  pub ledger : IfGiven IsFlag (codes "ledger") m
  pub seed : IfGiven (IsNumberBelow (2 ^ 64)) (codes "make") m
  pub size : IfGiven (IsNumberBelow (2 ^ 32)) (codes "size") m

-- the number of an argument
abbrev pub number_in : ArgMatches → List ℕ → Option ℕ
number_in m argument = option_map number_of (one_text (found_of m) argument)

-- a flag is set
abbrev pub flag_in : ArgMatches → List ℕ → Bool
flag_in m argument = option_map_or (λ text. bytes_eq text (codes "true")) (one_text (found_of m) argument) false

-- the job of the numbers and the flag; a size without a seed is refused
abbrev pub job_or_usage : Option ℕ → Option ℕ → Bool → Result Job WordsFault
job_or_usage None (Some size) ledger = Err Usage
job_or_usage seed size ledger = Ok (job_for seed size ledger)
