use Rattle.std.proofs.Common.{◌*◌, ap, arith}
use Rattle.std.proofs.lemmas.List.{get_or_read}
use Rattle.rank_rows.specs.declared.word.Word.{Word}
use Rattle.rank_rows.specs.Words.{no_word, weight_at}
use Rattle.rank_rows.proofs.Sums.{total-le}
use Rattle.rank_rows.proofs.store.Store.front.Goals as goal

pub died_before-died-requires-clause-light : goal.died_before-died-requires-clause-light
died_before-died-requires-clause-light g c =
    let read = get_or_read c.args.self.now.words.items c.args.at c.at-word.result c.requires.within c.at-word.ensures.read_or no_word in
    let rise = total-le (weight_at c.args.self.now.weights.items) (64 * c.args.first) (64 * c.args.at) (omega (arith, c.requires.from)) in
    omega (arith, rise, ap (λ (w : Word). w.weight) read)
