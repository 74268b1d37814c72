use Rattle.std.proofs.Common.{◌≡◌, ◌∙◌, ap, sym, refl, ℕ, false, List, Option, Some, None, inl, inr, codes}
use Rattle.std.specs.Str.{bytes_eq}
use Rattle.std.specs.Option.{option_map_or}
use Rattle.clap.specs.Matches.{found_of, one_text}
use Rattle.program_words.specs.Reading.{flag_in}
use Rattle.program_words.proofs.reading.has_ledger.Goals as goal

pub returns : goal.returns
returns c = go (one_text (found_of c.args.matches.now) (codes "ledger")) refl
  where
    flag : (o : Option (List ℕ)) → one_text (found_of c.args.matches.now) (codes "ledger") ≡ o
        → option_map_or (λ text. bytes_eq text (codes "true")) o false ≡ flag_in c.args.matches.now (codes "ledger")
    flag o e = ap (λ x. option_map_or (λ text. bytes_eq text (codes "true")) x false) (sym e)

    go : (o : Option (List ℕ)) → one_text (found_of c.args.matches.now) (codes "ledger") ≡ o → c.get_flag.result ≡ flag_in c.args.matches.now (codes "ledger")
    go None e = c.get_flag.ensures.none e ∙ flag None e
    go (Some text) e = elim (c.requires.ledger text e) [
      | inl h ↦ c.get_flag.ensures.value (e ∙ ap Some h) ∙ flag (Some (codes "true")) (e ∙ ap Some h)
      | inr h ↦ c.get_flag.ensures.other (e ∙ ap Some h) ∙ flag (Some (codes "false")) (e ∙ ap Some h)
    ]
