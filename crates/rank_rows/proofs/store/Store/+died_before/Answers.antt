use Rattle.std.proofs.Common.{◌≡◌, ◌+◌, ◌-◌, ◌^◌, ◌<◌, ◌≤◌, suc, ap, arith, rules}
use Rattle.std.proofs.lemmas.List.{get_or_read}
use Rattle.rank_rows.specs.declared.word.Dead.{Dead}
use Rattle.rank_rows.specs.declared.word.Word.{Word}
use Rattle.rank_rows.specs.Words.{word_at, no_word, dead_before, weight_before}
use Rattle.rank_rows.proofs.Sums.{dead_before-le}
use Rattle.rank_rows.proofs.Trees.{AreNodes-open, behind}
use Rattle.rank_rows.proofs.store.Store.+died_before.Goals as goal

pub died_before-requires : goal.died_before-requires
died_before-requires g t c κs within =
    let is : c.args.height ≡ suc (c.args.height - 1) = omega arith in
    let words = c.args.self.now.words.items in
    let halves = AreNodes-open words (dead_before words) (weight_before c.args.self.now.weights.items) c.args.start c.args.height (c.args.height - 1) (c.args.at + 1) is c.requires.nodes in
    let nodes = halves.first in
    let below : c.args.at < c.args.start + 2 ^ (c.args.height - 1) = omega (arith, c.block_len.ensures) in
    search rules

pub plus-requires-clause-count : goal.plus-requires-clause-count
plus-requires-clause-count g t c =
    let words = c.args.self.now.words.items in
    let middle = c.args.start + c.block_len.result in
    let b = behind words (dead_before words) (weight_before c.args.self.now.weights.items) c.args.start c.args.height (c.args.height - 1) middle c.args.at
    (omega arith) (ap (λ n. c.args.start + n) c.block_len.ensures) c.if-at-middle.false c.requires.block c.requires.nodes in
    let read = get_or_read words middle c.at.result (omega arith) c.at.ensures.read_or no_word in
    omega (arith, b.node.count, ap (λ (w : Word). w.died.count) read, dead_before-le words middle)

pub plus-requires-clause-weight : goal.plus-requires-clause-weight
plus-requires-clause-weight g t c =
    let words = c.args.self.now.words.items in
    let middle = c.args.start + c.block_len.result in
    let b = behind words (dead_before words) (weight_before c.args.self.now.weights.items) c.args.start c.args.height (c.args.height - 1) middle c.args.at
    (omega arith) (ap (λ n. c.args.start + n) c.block_len.ensures) c.if-at-middle.false c.requires.block c.requires.nodes in
    let read = get_or_read words middle c.at.result (omega arith) c.at.ensures.read_or no_word in
    omega (arith, b.node.weight, b.lost, ap (λ (w : Word). w.died.weight) read)

pub died_before-requires-2 : goal.died_before-requires-2
died_before-requires-2 g t c κs within =
    let words = c.args.self.now.words.items in
    let middle = c.args.start + c.block_len.result in
    let b = behind words (dead_before words) (weight_before c.args.self.now.weights.items) c.args.start c.args.height (c.args.height - 1) middle c.args.at
    (omega arith) (ap (λ n. c.args.start + n) c.block_len.ensures) c.if-at-middle.false c.requires.block c.requires.nodes in
    let read = get_or_read words middle c.at.result (omega arith) c.at.ensures.read_or no_word in
    let nodes = b.nodes in
    let block = b.block in
    let few : c.plus.result.count ≤ dead_before words middle = omega (arith, b.node.count, ap (λ (w : Word). w.died.count) read, ap (λ (d : Dead). d.count) c.plus.ensures) in
    let light : c.plus.result.weight + weight_before c.args.self.now.weights.items middle + (word_at words c.args.at).weight
    < 2 ^ 64 + weight_before c.args.self.now.weights.items c.args.at + (word_at words middle).weight =
    omega (arith, b.node.weight, ap (λ (w : Word). w.died.weight) read, ap (λ (d : Dead). d.weight) c.plus.ensures) in
    search rules

pub returns-clause-count : goal.returns-clause-count
returns-clause-count g t c =
    let words = c.args.self.now.words.items in
    let middle = c.args.start + c.block_len.result in
    let b = behind words (dead_before words) (weight_before c.args.self.now.weights.items) c.args.start c.args.height (c.args.height - 1) middle c.args.at
    (omega arith) (ap (λ n. c.args.start + n) c.block_len.ensures) c.if-at-middle.false c.requires.block c.requires.nodes in
    let read = get_or_read words middle c.at.result (omega arith) c.at.ensures.read_or no_word in
    omega (arith, b.node.count, ap (λ (w : Word). w.died.count) read, ap (λ (d : Dead). d.count) c.plus.ensures, c.died_before-2.ensures.count)

pub returns-clause-weight : goal.returns-clause-weight
returns-clause-weight g t c =
    let words = c.args.self.now.words.items in
    let middle = c.args.start + c.block_len.result in
    let b = behind words (dead_before words) (weight_before c.args.self.now.weights.items) c.args.start c.args.height (c.args.height - 1) middle c.args.at
    (omega arith) (ap (λ n. c.args.start + n) c.block_len.ensures) c.if-at-middle.false c.requires.block c.requires.nodes in
    let read = get_or_read words middle c.at.result (omega arith) c.at.ensures.read_or no_word in
    omega (arith, b.node.weight, ap (λ (w : Word). w.died.weight) read, ap (λ (d : Dead). d.weight) c.plus.ensures, c.died_before-2.ensures.weight)
