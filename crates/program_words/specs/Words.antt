-- The words after the program's name, and the job that they ask for.
use Rattle.std.specs.Prelude.{◌≡◌, ⊤, ℕ, Bool, true, false, not, ◌&&◌, ◌||◌, List, Option, Some, None, Result, Ok, Err, pos, codes, is_some, option_map, unwrap_or}
use Rattle.std.specs.Str.{bytes_eq}
use Rattle.std.specs.Str.Parse.{digits_value, without_leading_plus}
use Rattle.std.specs.Option.{option_map_or}
use Rattle.clap.specs.Walk.{Rule, is_empty, one_of}
use Rattle.clap.specs.Simple.{App, new_app, new_rule, on_top, with_rule, matches_of}
use Rattle.clap.specs.Faults.{fault_of}
use Rattle.clap.specs.declared.builder.action.ArgAction.TheVariants.{SetTrue}
use Rattle.clap.specs.declared.builder.value_parser.ValueParser.TheVariants.{Bool as a_flag, Unsigned, Signed}
use Rattle.program_words.specs.declared.job.Job.{Job}
use Rattle.program_words.specs.declared.job.Job.TheVariants.{Script, Made}
use Rattle.program_words.specs.declared.job.WordsFault.{WordsFault}
use Rattle.program_words.specs.declared.job.WordsFault.TheVariants.{Usage, NoMemory}

-- ---- the command line, as clap has it: `livemap [--ledger] [--make SEED] [--size N]`

-- `--ledger`, a flag
abbrev pub ledger_rule : Rule
ledger_rule = record (new_rule (codes "ledger")) { long = Some (codes "ledger"); action = Some SetTrue; parser = Some a_flag }

-- `--make SEED`, a number of 64 bits
abbrev pub make_rule : Rule
make_rule = record (new_rule (codes "make")) { long = Some (codes "make"); parser = Some (Unsigned 0 18446744073709551615) }

-- `--size N`, from 1 to 65,536
abbrev pub size_rule : Rule
size_rule = record (new_rule (codes "size")) { long = Some (codes "size"); parser = Some (Signed (pos 1) (pos 65536)) }

-- the name isn't among the words
abbrev pub nameless : App → App
nameless = on_top (λ top. record top { no_binary_name = true })

-- the command line `[--ledger] [--make SEED] [--size N]`, as clap has it
abbrev pub livemap_app : App
livemap_app = with_rule (with_rule (with_rule (nameless (new_app (codes "livemap"))) ledger_rule) make_rule) size_rule

-- ---- what stands in the words, where clap takes them

-- the text of an argument: the value that it is given, or else its default
abbrev pub text_of : (argument : List ℕ) → (words : List (List ℕ)) → Option (List ℕ)
text_of argument words = one_of argument (matches_of livemap_app words)

-- the number that a text of digits says
abbrev pub number_of : List ℕ → ℕ
number_of text = digits_value 10 (without_leading_plus text)

-- the seed that the words give
abbrev pub seed_of : List (List ℕ) → Option ℕ
seed_of words = option_map number_of (text_of (codes "make") words)

-- the size that the words give
abbrev pub size_of : List (List ℕ) → Option ℕ
size_of words = option_map number_of (text_of (codes "size") words)

-- the words ask for the ledger
abbrev pub has_ledger : List (List ℕ) → Bool
has_ledger words = option_map_or (λ text. bytes_eq text (codes "true")) (text_of (codes "ledger") words) false

-- ---- the job

-- clap finds no fault in the words, and a size stands beside a seed alone
abbrev pub accepts : List (List ℕ) → Bool
accepts words = is_empty (fault_of livemap_app words) && (is_some (seed_of words) || not (is_some (size_of words)))

-- the rounds of a made script, where no size is given
abbrev pub usual_size : ℕ
usual_size = 1000

-- with a seed the script made of it, with so many rounds or else 1,000; without, the script of the input, with or without the ledger
abbrev pub job_for : Option ℕ → Option ℕ → Bool → Job
job_for None size ledger = Script ledger
job_for (Some seed) size ledger = Made seed (unwrap_or size usual_size)

-- the job that accepted words ask for
abbrev pub job_of : List (List ℕ) → Job
job_of words = job_for (seed_of words) (size_of words) (has_ledger words)

-- the words are accepted, and ask for this job
abbrev pub AsksFor : List (List ℕ) → Job → Type 0
AsksFor words job = (accepts words ≡ true) × (job_of words ≡ job)

-- What reading the words may give: their job where they are accepted, Usage where they aren't, and NoMemory for any words, since clap says nowhere
-- that memory is found.
abbrev pub Reads : List (List ℕ) → Result Job WordsFault → Type 0
Reads words (Ok job) = AsksFor words job
Reads words (Err Usage) = accepts words ≡ false
Reads words (Err NoMemory) = ⊤
