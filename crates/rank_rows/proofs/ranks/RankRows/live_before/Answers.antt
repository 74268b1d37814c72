use Rattle.std.proofs.Common.{◌+◌, ◌-◌, ◌%◌, ap, ◌∙◌, arith}
use Rattle.std.specs.Int.{bit_at}
use Rattle.rank_rows.specs.declared.word.Word.{Word}
use Rattle.rank_rows.specs.Totals.{total}
use Rattle.rank_rows.specs.Words.{dead_at}
use Rattle.rank_rows.proofs.Reading.{read_in, live-front}
use Rattle.rank_rows.proofs.ranks.RankRows.live_before.Goals as goal

pub front-front-requires : goal.front-front-requires
front-front-requires g c =
    let i = c.self.inside in
    let r = read_in c.self.inside c.args.self.now c.self.view_is c.self.invariant c.args.row c.args.start c.args.to c.base-base.result c.requires (omega (arith, c.requires.from)) c.base-base.ensures in
    r.word

pub returns-clause-value : goal.returns-clause-value
returns-clause-value g c =
    let i = c.self.inside in
    let r = read_in c.self.inside c.args.self.now c.self.view_is c.self.invariant c.args.row c.args.start c.args.to c.base-base.result c.requires (omega (arith, c.requires.from)) c.base-base.ensures in
    let live = live-front i.store.words.items i.store.weights.items i.stride i.height i.store.weights.capacity c.args.self.now c.args.row c.args.start c.args.to c.self.view_is c.requires in
    omega (
      arith,
      live,
      r.dead,
      c.front-front.ensures.count,
      ap (total (dead_at i.store.words.items)) r.first_is,
      c.ones_below-dead.ensures ∙ ap (λ (w : Word). total (bit_at w.dead) ((c.args.to - 1) % 64 + 1)) c.front-front.ensures.word,
    )

pub overflow_sub-result-2 : goal.overflow_sub-result-2
overflow_sub-result-2 g c =
    let i = c.self.inside in
    let r = read_in c.self.inside c.args.self.now c.self.view_is c.self.invariant c.args.row c.args.start c.args.to c.base-base.result c.requires (omega (arith, c.requires.from)) c.base-base.ensures in
    let live = live-front i.store.words.items i.store.weights.items i.stride i.height i.store.weights.capacity c.args.self.now c.args.row c.args.start c.args.to c.self.view_is c.requires in
    omega (
      arith,
      live,
      r.dead,
      c.front-front.ensures.count,
      ap (total (dead_at i.store.words.items)) r.first_is,
      c.ones_below-dead.ensures ∙ ap (λ (w : Word). total (bit_at w.dead) ((c.args.to - 1) % 64 + 1)) c.front-front.ensures.word,
    )

pub overflow_sub-result-3 : goal.overflow_sub-result-3
overflow_sub-result-3 g c =
    let i = c.self.inside in
    let r = read_in c.self.inside c.args.self.now c.self.view_is c.self.invariant c.args.row c.args.start c.args.to c.base-base.result c.requires (omega (arith, c.requires.from)) c.base-base.ensures in
    let live = live-front i.store.words.items i.store.weights.items i.stride i.height i.store.weights.capacity c.args.self.now c.args.row c.args.start c.args.to c.self.view_is c.requires in
    omega (
      arith,
      live,
      r.dead,
      c.front-front.ensures.count,
      ap (total (dead_at i.store.words.items)) r.first_is,
      c.ones_below-dead.ensures ∙ ap (λ (w : Word). total (bit_at w.dead) ((c.args.to - 1) % 64 + 1)) c.front-front.ensures.word,
    )
