use Rattle.std.proofs.Common.{◌≡◌, ◌+◌, ◌/◌, ◌%◌, ◌<◌, ◌==◌, ap, sym, ◌∙◌, arith, ℕ}
use Rattle.std.specs.Prelude.{not, Some}
use Rattle.std.specs.Int.{bit_at}
use Rattle.std.proofs.lemmas.Bool.Decides.{nat_tests}
use Rattle.std.proofs.lemmas.List.{get_or_read}
use Rattle.std.proofs.lemmas.Nat.Bits.{bit_at-lt}
use Rattle.rank_rows.specs.declared.word.Word.{Word}
use Rattle.rank_rows.specs.Words.{no_word}
use Rattle.rank_rows.proofs.Reading.{found_in, live_of}
use Rattle.rank_rows.proofs.ranks.RankRows.is_live.Goals as goal

clear_bit : (b : ℕ) → b < 2 → (b == 0) ≡ not (b == 1)
clear_bit b small = grind (arith, nat_tests)

pub at-word-requires : goal.at-word-requires
at-word-requires g c =
    let i = c.self.inside in
    (found_in c.self.inside c.args.self.now c.self.view_is c.self.invariant c.args.row c.args.k c.base.result c.requires c.base.ensures).there

pub returns-clause-value : goal.returns-clause-value
returns-clause-value g c =
    let i = c.self.inside in
    let f = found_in c.self.inside c.args.self.now c.self.view_is c.self.invariant c.args.row c.args.k c.base.result c.requires c.base.ensures in
    let word = get_or_read i.store.words.items (c.base.result + c.args.k / 64) c.at-word.result f.there c.at-word.ensures.read_or no_word in
    live_of i.store.words.items i.store.weights.items i.stride i.height i.store.weights.capacity c.args.self.now c.args.row c.args.k c.base.result c.self.view_is f
    ∙ ap (λ (w : Word). Some (bit_at w.dead (c.args.k % 64) == 0)) (sym word)
    ∙ ap (λ b. Some b) (clear_bit (bit_at c.at-word.result.dead (c.args.k % 64)) (bit_at-lt c.at-word.result.dead (c.args.k % 64)) ∙ ap not (sym c.has_bit.ensures))
