-- What is answered, from what clap found.
use Rattle.std.proofs.Common.{◌≡◌, ◌∙◌, ◌&&◌, ◌||◌, not, is_some, length, arith, ap, ap₂, ℕ, Bool, true, false, List, [], ◌∷◌, Option, Some, None, Ok, Err, refl, sym, subst, inl, inr, codes}
use Rattle.std.specs.Prelude.{Result, option_map, IsErrAnd}
use Rattle.std.specs.Option.{option_map_or}
use Rattle.std.specs.Str.{bytes_eq}
use Rattle.std.proofs.lemmas.Bool.{ne_eqb}
use Rattle.clap.specs.Walk.{is_empty, rows_of, one_of}
use Rattle.clap.specs.Simple.{is_simple, matches_of}
use Rattle.clap.specs.Faults.{fault_of, is_simple_and_free}
use Rattle.clap.specs.Kinds.{Kinds, HasKind, IsAmong}
use Rattle.clap.specs.Matches.{found_of, one_text}
use Rattle.clap.specs.Values.{kind_of}
use Rattle.clap.specs.declared.error.Error.{Error}
use Rattle.clap.specs.declared.parser.matches.ArgMatches.{ArgMatches}
use Rattle.clap.proofs.OnLiterals.{clap_on_literals}
use Rattle.clap.proofs.WalkLemmas.{one_text-rows}
use Rattle.program_words.specs.Words.{livemap_app, text_of, number_of, seed_of, size_of, has_ledger, job_for, job_of, accepts, Reads}
use Rattle.program_words.specs.Reading.{fault_by, number_in, flag_in, job_or_usage}
use Rattle.program_words.specs.declared.job.Job.{Job}
use Rattle.program_words.specs.declared.job.WordsFault.{WordsFault}
use Rattle.program_words.specs.declared.job.WordsFault.TheVariants.{Usage, NoMemory}

pub is_simple_command : is_simple livemap_app ≡ true
unfolding clap_on_literals
is_simple_command = refl

pub is_free_command : is_simple_and_free livemap_app ≡ true
unfolding clap_on_literals
is_free_command = refl

module _ (words : List (List ℕ)) where
  accepts_is : (seed size : Option ℕ) → fault_of livemap_app words ≡ [] → seed_of words ≡ seed → size_of words ≡ size
      → accepts words ≡ (is_some seed || not (is_some size))
  accepts_is seed size fine seed_is size_is =
      ap (λ (kinds : Kinds). is_empty kinds && (is_some (seed_of words) || not (is_some (size_of words)))) fine
      ∙ ap₂ (λ (a b : Option ℕ). is_some a || not (is_some b)) seed_is size_is

  job_is : (seed size : Option ℕ) → seed_of words ≡ seed → size_of words ≡ size → job_of words ≡ job_for seed size (has_ledger words)
  job_is seed size seed_is size_is = ap₂ (λ (a b : Option ℕ). job_for a b (has_ledger words)) seed_is size_is

  by_numbers : fault_of livemap_app words ≡ [] → Reads words (job_or_usage (seed_of words) (size_of words) (has_ledger words))
  by_numbers fine = go (seed_of words) (size_of words) refl refl
    where
      go : (seed size : Option ℕ) → seed_of words ≡ seed → size_of words ≡ size → Reads words (job_or_usage seed size (has_ledger words))
      go None None s n = (accepts_is None None fine s n, job_is None None s n)
      go None (Some size) s n = accepts_is None (Some size) fine s n
      go (Some seed) None s n = (accepts_is (Some seed) None fine s n, job_is (Some seed) None s n)
      go (Some seed) (Some size) s n = (accepts_is (Some seed) (Some size) fine s n, job_is (Some seed) (Some size) s n)

  pub reads_matches : (m : ArgMatches) → fault_of livemap_app words ≡ [] → rows_of (found_of m) ≡ matches_of livemap_app words
      → Reads words (job_or_usage (number_in m (codes "make")) (number_in m (codes "size")) (flag_in m (codes "ledger")))
  reads_matches m fine rows =
      let text_is : (argument : List ℕ) → text_of argument words ≡ one_text (found_of m) argument =
      λ argument. sym (one_text-rows (found_of m) argument ∙ ap (one_of argument) rows) in
      let seed_is : seed_of words ≡ number_in m (codes "make") = ap (option_map number_of) (text_is (codes "make")) in
      let size_is : size_of words ≡ number_in m (codes "size") = ap (option_map number_of) (text_is (codes "size")) in
      let ledger_is : has_ledger words ≡ flag_in m (codes "ledger") =
      ap (λ o. option_map_or (λ text. bytes_eq text (codes "true")) o false) (text_is (codes "ledger")) in
      subst (λ (ledger : Bool). Reads words (job_or_usage (number_in m (codes "make")) (number_in m (codes "size")) ledger)) ledger_is
      (subst (λ (size : Option ℕ). Reads words (job_or_usage (number_in m (codes "make")) size (has_ledger words))) size_is
      (subst (λ (seed : Option ℕ). Reads words (job_or_usage seed (size_of words) (has_ledger words))) seed_is (by_numbers fine)))

  not_accepted : (kinds : Kinds) → fault_of livemap_app words ≡ kinds → (e : Error) → IsAmong (kind_of e) kinds → accepts words ≡ false
  not_accepted [] is e among = absurd among
  not_accepted (k ∷ ks) is e among =
      ap (λ (kinds : Kinds). is_empty kinds && (is_some (seed_of words) || not (is_some (size_of words)))) is
      ∙ ap (λ (b : Bool). b && (is_some (seed_of words) || not (is_some (size_of words)))) (ne_eqb (length (k ∷ ks)) 0 (λ e. absurd (omega (arith, e))))

  pub reads_error : (e : Error) → HasKind (fault_of livemap_app words) e → Reads words (Err (fault_by (kind_of e)))
  reads_error e (inl memory) = rw memory tt
  reads_error e (inr among) = go (fault_by (kind_of e))
    where
      go : (fault : WordsFault) → Reads words (Err fault)
      go Usage = not_accepted (fault_of livemap_app words) refl e among
      go NoMemory = tt

  pub reads_converted : (e : Error) → HasKind (fault_of livemap_app words) e → (r : Result Job WordsFault)
      → IsErrAnd r (λ fault. fault ≡ fault_by (kind_of e)) → Reads words r
  reads_converted e kind (Ok job) is = absurd is
  reads_converted e kind (Err fault) is = subst (λ (f : WordsFault). Reads words (Err f)) (sym is) (reads_error e kind)
