use Rattle.std.proofs.Common.{◌≡◌, ◌∙◌, ap, subst, sym, map, []}
use Rattle.std.specs.String.{string_bytes}
use Rattle.clap.specs.Simple.{App, is_simple, matches_of}
use Rattle.clap.specs.Faults.{fault_of, is_simple_and_free}
use Rattle.program_words.proofs.Answers.{is_simple_command, is_free_command, reads_matches, reads_converted}
use Rattle.program_words.proofs.Values.{values_fit}
use Rattle.clap.specs.Kinds.{HasKind}
use Rattle.clap.specs.Walk.{rows_of}
use Rattle.clap.specs.Matches.{found_of}
use Rattle.program_words.specs.Words.{livemap_app}
use Rattle.program_words.proofs.reading.read_words.Goals as goal

pub returns-in_err-matches : goal.returns-in_err-matches
returns-in_err-matches c =
    let words = map string_bytes c.args.words.now in
    let is = c.in_ok-command.ensures in
    let kind : HasKind (fault_of livemap_app words) c.in_err-matches.field-0.0 =
    subst (λ (app : App). HasKind (fault_of app words) c.in_err-matches.field-0.0) is
    (c.in_err-matches.ensures.kinds (ap is_simple_and_free is ∙ is_free_command)) in
    reads_converted words c.in_err-matches.field-0.0 kind c.from_residual-in_err-matches.result c.from_residual-in_err-matches.ensures.1

pub job_of-requires : goal.job_of-requires
job_of-requires c = values_fit c.in_ok-command.field-0 c.in_ok-command.ensures c.in_ok-matches.matches c.in_ok-matches.ensures.parsed

pub returns : goal.returns
returns c =
    let words = map string_bytes c.args.words.now in
    let is = c.in_ok-command.ensures in
    let fine : fault_of livemap_app words ≡ [] =
    ap (λ app. fault_of app words) (sym is) ∙ c.in_ok-matches.ensures.kinds (ap is_simple_and_free is ∙ is_free_command) in
    let rows : rows_of (found_of c.in_ok-matches.matches) ≡ matches_of livemap_app words =
    (c.in_ok-matches.ensures.matches (ap is_simple is ∙ is_simple_command)).0 ∙ ap (λ app. matches_of app words) is in
    rw c.job_of.ensures (reads_matches words c.in_ok-matches.matches fine rows)
