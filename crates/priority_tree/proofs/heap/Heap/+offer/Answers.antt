use Rattle.std.proofs.Common.{◌≡◌, ◌-◌, ◌+◌, ◌^◌, ◌++◌, ◌∙◌, suc, ap, arith, rules, sym, refl}
use Rattle.query_laws.proofs.Counting.{Spends-then, Spends-within}
use Rattle.priority_tree.specs.Strips.{is_in, cuts}
use Rattle.priority_tree.specs.Tree.{entries_in}
use Rattle.priority_tree.proofs.AtHeights.{place_there, second_block, second_heap}
use Rattle.priority_tree.proofs.Best.{joined_none, joined_no_better, joined_here, joined_halves}
use Rattle.priority_tree.proofs.StripLemmas.{missed_in, entries_at, over_at, inside_at, cuts_halves, cuts_some, walked}
use Rattle.priority_tree.proofs.heap.Heap.+offer.Goals as goal

pub returns-then-misses-clause-joined : goal.returns-then-misses-clause-joined
returns-then-misses-clause-joined g t c =
    joined_none (is_in c.args.strip.now) c.args.tally.now (entries_in c.args.self.now c.args.height c.args.start)
    (missed_in c.args.self.now c.args.height c.args.start c.args.strip.now c.requires.heap (sym c.misses.ensures ∙ c.if-misses.true))

pub held-requires : goal.held-requires
held-requires g t c =
    let e : c.args.height ≡ suc (c.args.height - 1) = omega arith in
    let low = c.args.height - 1 in
    let k = c.args.start + c.block_len.result in
    let at : c.args.start + c.block_len.result ≡ c.args.start + 2 ^ (c.args.height - 1) = ap (λ n. c.args.start + n) c.block_len.ensures in
    place_there c.args.self.now c.args.height low c.args.start k e at c.requires.block

pub returns-then-not-beats-clause-joined : goal.returns-then-not-beats-clause-joined
returns-then-not-beats-clause-joined g t c =
    let e : c.args.height ≡ suc (c.args.height - 1) = omega arith in
    let low = c.args.height - 1 in
    let k = c.args.start + c.block_len.result in
    let at : c.args.start + c.block_len.result ≡ c.args.start + 2 ^ (c.args.height - 1) = ap (λ n. c.args.start + n) c.block_len.ensures in
    joined_no_better (is_in c.args.strip.now) c.args.tally.now c.beats.result c.in-Some.entry (entries_in c.args.self.now low c.args.start ++ entries_in c.args.self.now low k)
    (entries_in c.args.self.now c.args.height c.args.start)
    (entries_at c.args.self.now c.args.height low c.args.start k c.in-Some.entry c.held.result e at c.held.ensures.value c.in-Some.is)
    (over_at c.args.self.now c.args.height low c.args.start k c.in-Some.entry c.held.result e at c.held.ensures.value c.requires.heap c.in-Some.is) c.beats.ensures c.if-not-beats.true

pub returns-then-has-clause-joined : goal.returns-then-has-clause-joined
returns-then-has-clause-joined g t c =
    let e : c.args.height ≡ suc (c.args.height - 1) = omega arith in
    let low = c.args.height - 1 in
    let k = c.args.start + c.block_len.result in
    let at : c.args.start + c.block_len.result ≡ c.args.start + 2 ^ (c.args.height - 1) = ap (λ n. c.args.start + n) c.block_len.ensures in
    joined_here (is_in c.args.strip.now) c.args.tally.now c.offer.new.self c.peak.result c.in-Some.entry (entries_in c.args.self.now low c.args.start ++ entries_in c.args.self.now low k)
    (entries_in c.args.self.now c.args.height c.args.start)
    (entries_at c.args.self.now c.args.height low c.args.start k c.in-Some.entry c.held.result e at c.held.ensures.value c.in-Some.is)
    (over_at c.args.self.now c.args.height low c.args.start k c.in-Some.entry c.held.result e at c.held.ensures.value c.requires.heap c.in-Some.is) (sym c.has.ensures ∙ c.if-has.true)
    c.peak.ensures c.offer.ensures.joined

pub offer-requires-3 : goal.offer-requires-3
offer-requires-3 g t c =
    let e : c.args.height ≡ suc (c.args.height - 1) = omega arith in
    let low = c.args.height - 1 in
    let k = c.args.start + c.block_len.result in
    let at : c.args.start + c.block_len.result ≡ c.args.start + 2 ^ (c.args.height - 1) = ap (λ n. c.args.start + n) c.block_len.ensures in
    let block = second_block c.args.self.now c.args.height low c.args.start k e at c.requires.block in
    let heap = second_heap c.args.self.now c.args.height low c.args.start k e at c.requires.heap in
    search rules

pub returns-clause-joined : goal.returns-clause-joined
returns-clause-joined g t c =
    let e : c.args.height ≡ suc (c.args.height - 1) = omega arith in
    let low = c.args.height - 1 in
    let k = c.args.start + c.block_len.result in
    let at : c.args.start + c.block_len.result ≡ c.args.start + 2 ^ (c.args.height - 1) = ap (λ n. c.args.start + n) c.block_len.ensures in
    joined_halves (is_in c.args.strip.now) c.args.tally.now c.offer-2.new.tally c.offer-3.new.tally c.in-Some.entry
    (entries_in c.args.self.now low c.args.start) (entries_in c.args.self.now low k)
    (entries_in c.args.self.now c.args.height c.args.start)
    (entries_at c.args.self.now c.args.height low c.args.start k c.in-Some.entry c.held.result e at c.held.ensures.value c.in-Some.is)
    (sym c.has.ensures ∙ c.if-has.false) c.offer-2.ensures.joined c.offer-3.ensures.joined

pub returns-clause-cost : goal.returns-clause-cost
returns-clause-cost g t c =
    let e : c.args.height ≡ suc (c.args.height - 1) = omega arith in
    let low = c.args.height - 1 in
    let k = c.args.start + c.block_len.result in
    let at : c.args.start + c.block_len.result ≡ c.args.start + 2 ^ (c.args.height - 1) = ap (λ n. c.args.start + n) c.block_len.ensures in
    let fewer = cuts_halves c.args.strip.now c.args.height low c.args.start k e at in
    let some = cuts_some c.args.strip.now c.args.height c.args.start c.in-Some.entry c.requires.ordered (sym c.misses.ensures ∙ c.if-misses.false)
    (inside_at c.args.self.now c.args.height low c.args.start k c.in-Some.entry c.held.result e at c.held.ensures.value c.requires.heap c.in-Some.is) (sym c.has.ensures ∙ c.if-has.false) in
    Spends-within (Spends-then (Spends-then c.held.ensures.cost c.offer-2.ensures.cost) c.offer-3.ensures.cost) refl refl
    (walked c.args.height low (cuts c.args.strip.now c.args.height c.args.start) (cuts c.args.strip.now low c.args.start) (cuts c.args.strip.now low k) e fewer some)
