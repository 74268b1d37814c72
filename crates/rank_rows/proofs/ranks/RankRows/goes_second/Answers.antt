use Rattle.std.proofs.Common.{◌+◌, ◌*◌, ◌/◌, ◌%◌, ◌==◌, ap, ◌∙◌, refl, arith}
use Rattle.std.specs.Int.{bit_at}
use Rattle.std.proofs.lemmas.List.{get_or_read}
use Rattle.rank_rows.specs.declared.word.Word.{Word}
use Rattle.rank_rows.specs.Words.{no_word}
use Rattle.rank_rows.proofs.Reading.{found_in, second_of}
use Rattle.rank_rows.proofs.ranks.RankRows.goes_second.Goals as goal

pub base-requires : goal.base-requires
base-requires g c =
    let inside = c.self.inside in
    let f = found_in c.self.inside c.args.self.now c.self.view_is c.self.invariant c.args.row c.args.k (c.args.row * c.args.self.now.stride) c.requires refl in
    omega (arith, f.position, f.base_is, c.self.invariant.within, c.self.invariant.small)

pub at-word-requires : goal.at-word-requires
at-word-requires g c =
    let inside = c.self.inside in
    (found_in c.self.inside c.args.self.now c.self.view_is c.self.invariant c.args.row c.args.k c.base.result c.requires c.base.ensures).there

pub returns-clause-value : goal.returns-clause-value
returns-clause-value g c =
    let inside = c.self.inside in
    let f = found_in c.self.inside c.args.self.now c.self.view_is c.self.invariant c.args.row c.args.k c.base.result c.requires c.base.ensures in
    c.has_bit.ensures
    ∙ ap (λ (w : Word). bit_at w.second (c.args.k % 64) == 1)
    (get_or_read inside.store.words.items (c.base.result + c.args.k / 64) c.at-word.result f.there c.at-word.ensures.read_or no_word)
    ∙ second_of inside.store.words.items inside.store.weights.items inside.stride inside.height inside.store.weights.capacity c.args.self.now c.args.row c.args.k c.base.result
    c.self.view_is f
