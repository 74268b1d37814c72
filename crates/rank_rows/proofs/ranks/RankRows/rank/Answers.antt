use Rattle.std.proofs.Common.{◌≡◌, ◌+◌, ◌-◌, ◌*◌, ◌/◌, ◌%◌, ap, sym, subst, ◌∙◌, arith}
use Rattle.std.proofs.lemmas.List.{get_or_read}
use Rattle.std.specs.Int.{bit_at}
use Rattle.rank_rows.specs.declared.word.Word.{Word}
use Rattle.rank_rows.specs.Totals.{total}
use Rattle.rank_rows.specs.Words.{word_at, no_word}
use Rattle.rank_rows.specs.Ranked.{Ranked, IsFront, rank}
use Rattle.rank_rows.proofs.Reading.{last_there, rank-word, rank-le}
use Rattle.rank_rows.proofs.Trees.{pow_low}
use Rattle.rank_rows.proofs.ranks.RankRows.rank.Goals as goal

pub at-word-requires : goal.at-word-requires
at-word-requires g c =
    let inside = c.self.inside in
    let words = inside.store.words.items in
    let weights = inside.store.weights.items in
    let front = subst (λ v. IsFront v c.args.row c.args.start c.args.to) (sym c.self.view_is) c.requires in
    let stride = ap (λ (v : Ranked). v.stride) c.self.view_is in
    let base : c.base.result ≡ c.args.row * inside.stride = c.base.ensures ∙ ap (λ n. c.args.row * n) (sym stride) in
    omega (
      arith,
      base,
      last_there words weights inside.stride inside.height inside.store.weights.capacity c.args.row c.args.start c.args.to front (omega (arith, front.from)) c.self.invariant.entries,
    )

pub returns-clause-value : goal.returns-clause-value
returns-clause-value g c =
    let inside = c.self.inside in
    let words = inside.store.words.items in
    let weights = inside.store.weights.items in
    let front = subst (λ v. IsFront v c.args.row c.args.start c.args.to) (sym c.self.view_is) c.requires in
    let stride = ap (λ (v : Ranked). v.stride) c.self.view_is in
    let base : c.base.result + (c.args.to - 1) / 64 ≡ c.args.row * inside.stride + (c.args.to - 1) / 64 =
    ap (λ n. n + (c.args.to - 1) / 64) (c.base.ensures ∙ ap (λ n. c.args.row * n) (sym stride)) in
    let there = last_there words weights inside.stride inside.height inside.store.weights.capacity c.args.row c.args.start c.args.to front (omega (arith, front.from)) c.self.invariant.entries in
    let read : c.at-word.result ≡ word_at words (c.args.row * inside.stride + (c.args.to - 1) / 64) =
    get_or_read words (c.base.result + (c.args.to - 1) / 64) c.at-word.result (omega (arith, base, there)) c.at-word.ensures.read_or no_word ∙ ap (word_at words) base in
    ap (λ n. c.at-word.result.ones + n) c.ones_below.ensures
    ∙ ap (λ (w : Word). w.ones + total (bit_at w.second) ((c.args.to - 1) % 64 + 1)) read
    ∙ rank-word words weights inside.stride inside.height inside.store.weights.capacity c.args.row c.args.start c.args.to front (omega (arith, front.from)) c.self.invariant.ranks c.self.invariant.entries
    ∙ ap (λ v. rank v c.args.row c.args.start c.args.to) c.self.view_is

pub overflow_add-result : goal.overflow_add-result
overflow_add-result g c =
    let few = pow_low (c.args.self.now.height - c.args.row) (omega (arith, c.self.invariant.low, ap (λ (v : Ranked). v.height) c.self.view_is)) in
    let most = rank-le c.args.self.now c.args.row c.args.start c.args.to c.requires.from (omega (arith, c.requires.below)) c.requires.there in
    omega (arith, returns-clause-value g c, most)
