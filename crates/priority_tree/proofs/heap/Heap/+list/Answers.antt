use Rattle.std.proofs.Common.{◌≡◌, ◌-◌, ◌+◌, ◌^◌, ◌∷◌, [], ◌++◌, ◌∙◌, suc, ap, arith, rules, sym, refl, length}
use Rattle.std.specs.List.{filter}
use Rattle.std.proofs.lemmas.Result.{on_ok_weaker}
use Rattle.query_laws.proofs.Counting.{Spends-then, Spends-within}
use Rattle.priority_tree.specs.Strips.{is_hit, cuts}
use Rattle.priority_tree.specs.Tree.{entries_in}
use Rattle.priority_tree.proofs.AtHeights.{place_there, second_block, second_heap}
use Rattle.priority_tree.proofs.Listed.{higher, lower, listed_none, listed_halves, counted_halves, low_hits, cut_or_hit}
use Rattle.priority_tree.proofs.StripLemmas.{missed_hits, entries_at, over_at, inside_at, cuts_halves, cuts_some, walked_hits}
use Rattle.priority_tree.proofs.heap.Heap.+list.Goals as goal

pub returns-then-misses-clause-listed : goal.returns-then-misses-clause-listed
returns-then-misses-clause-listed g t c =
    listed_none (is_hit c.args.strip.now c.args.y) c.args.tally.now (entries_in c.args.self.now c.args.height c.args.start)
    (missed_hits c.args.self.now c.args.height c.args.start c.args.strip.now c.requires.heap (sym c.misses.ensures ∙ c.if-misses.true) c.args.y)

pub held-requires : goal.held-requires
held-requires g t c =
    let e : c.args.height ≡ suc (c.args.height - 1) = omega arith in
    let low = c.args.height - 1 in
    let k = c.args.start + c.block_len.result in
    let at : c.args.start + c.block_len.result ≡ c.args.start + 2 ^ (c.args.height - 1) = ap (λ n. c.args.start + n) c.block_len.ensures in
    place_there c.args.self.now c.args.height low c.args.start k e at c.requires.block

pub returns-then-not-reaches-clause-listed : goal.returns-then-not-reaches-clause-listed
returns-then-not-reaches-clause-listed g t c =
    let e : c.args.height ≡ suc (c.args.height - 1) = omega arith in
    let low = c.args.height - 1 in
    let k = c.args.start + c.block_len.result in
    let at : c.args.start + c.block_len.result ≡ c.args.start + 2 ^ (c.args.height - 1) = ap (λ n. c.args.start + n) c.block_len.ensures in
    listed_none (is_hit c.args.strip.now c.args.y) c.args.tally.now (entries_in c.args.self.now c.args.height c.args.start)
    (low_hits c.args.strip.now c.args.y c.in-Some.entry (entries_in c.args.self.now low c.args.start ++ entries_in c.args.self.now low k)
    (entries_in c.args.self.now c.args.height c.args.start)
    (entries_at c.args.self.now c.args.height low c.args.start k c.in-Some.entry c.held.result e at c.held.ensures.value c.in-Some.is)
    (over_at c.args.self.now c.args.height low c.args.start k c.in-Some.entry c.held.result e at c.held.ensures.value c.requires.heap c.in-Some.is) (lower c.args.y c.in-Some.entry.y (sym c.reaches.ensures ∙ c.if-not-reaches.true)))

pub returns-in_err-list-clause-cost : goal.returns-in_err-list-clause-cost
returns-in_err-list-clause-cost g t c =
    let e : c.args.height ≡ suc (c.args.height - 1) = omega arith in
    let low = c.args.height - 1 in
    let k = c.args.start + c.block_len.result in
    let at : c.args.start + c.block_len.result ≡ c.args.start + 2 ^ (c.args.height - 1) = ap (λ n. c.args.start + n) c.block_len.ensures in
    let fewer = cuts_halves c.args.strip.now c.args.height low c.args.start k e at in
    let some = cut_or_hit c.args.strip.now c.args.y (cuts c.args.strip.now c.args.height c.args.start) c.in-Some.entry
    (λ out. cuts_some c.args.strip.now c.args.height c.args.start c.in-Some.entry c.requires.ordered (sym c.misses.ensures ∙ c.if-misses.false)
    (inside_at c.args.self.now c.args.height low c.args.start k c.in-Some.entry c.held.result e at c.held.ensures.value c.requires.heap c.in-Some.is) out) (higher c.args.y c.in-Some.entry.y (sym c.reaches.ensures ∙ c.if-not-reaches.false)) in
    let test = is_hit c.args.strip.now c.args.y in
    let counted = counted_halves test c.in-Some.entry (entries_in c.args.self.now low c.args.start) (entries_in c.args.self.now low k) (entries_in c.args.self.now c.args.height c.args.start) (entries_at c.args.self.now c.args.height low c.args.start k c.in-Some.entry c.held.result e at c.held.ensures.value c.in-Some.is) in
    let most = walked_hits c.args.height low (cuts c.args.strip.now c.args.height c.args.start) (cuts c.args.strip.now low c.args.start) (cuts c.args.strip.now low k)
    (length (filter test (entries_in c.args.self.now c.args.height c.args.start))) (length (filter test (entries_in c.args.self.now low c.args.start)))
    (length (filter test (entries_in c.args.self.now low k))) (length (filter test (c.in-Some.entry ∷ []))) e fewer some counted in
    Spends-within (Spends-then c.held.ensures.cost c.list.ensures.cost) refl refl (omega (arith, most))

pub list-requires-2 : goal.list-requires-2
list-requires-2 g t c =
    let e : c.args.height ≡ suc (c.args.height - 1) = omega arith in
    let low = c.args.height - 1 in
    let k = c.args.start + c.block_len.result in
    let at : c.args.start + c.block_len.result ≡ c.args.start + 2 ^ (c.args.height - 1) = ap (λ n. c.args.start + n) c.block_len.ensures in
    let block = second_block c.args.self.now c.args.height low c.args.start k e at c.requires.block in
    let heap = second_heap c.args.self.now c.args.height low c.args.start k e at c.requires.heap in
    search rules

pub returns-clause-listed : goal.returns-clause-listed
returns-clause-listed g t c =
    let e : c.args.height ≡ suc (c.args.height - 1) = omega arith in
    let low = c.args.height - 1 in
    let k = c.args.start + c.block_len.result in
    let at : c.args.start + c.block_len.result ≡ c.args.start + 2 ^ (c.args.height - 1) = ap (λ n. c.args.start + n) c.block_len.ensures in
    on_ok_weaker c.list-2.result
    (listed_halves (is_hit c.args.strip.now c.args.y) c.args.tally.now c.list_entry.new.tally c.list.new.tally c.list-2.new.tally c.in-Some.entry
    (entries_in c.args.self.now low c.args.start) (entries_in c.args.self.now low k) (entries_in c.args.self.now c.args.height c.args.start) (entries_at c.args.self.now c.args.height low c.args.start k c.in-Some.entry c.held.result e at c.held.ensures.value c.in-Some.is) c.in_ok-list_entry.ensures c.in_ok-list.ensures.listed) c.list-2.ensures.listed

pub returns-clause-cost : goal.returns-clause-cost
returns-clause-cost g t c =
    let e : c.args.height ≡ suc (c.args.height - 1) = omega arith in
    let low = c.args.height - 1 in
    let k = c.args.start + c.block_len.result in
    let at : c.args.start + c.block_len.result ≡ c.args.start + 2 ^ (c.args.height - 1) = ap (λ n. c.args.start + n) c.block_len.ensures in
    let fewer = cuts_halves c.args.strip.now c.args.height low c.args.start k e at in
    let some = cut_or_hit c.args.strip.now c.args.y (cuts c.args.strip.now c.args.height c.args.start) c.in-Some.entry
    (λ out. cuts_some c.args.strip.now c.args.height c.args.start c.in-Some.entry c.requires.ordered (sym c.misses.ensures ∙ c.if-misses.false)
    (inside_at c.args.self.now c.args.height low c.args.start k c.in-Some.entry c.held.result e at c.held.ensures.value c.requires.heap c.in-Some.is) out) (higher c.args.y c.in-Some.entry.y (sym c.reaches.ensures ∙ c.if-not-reaches.false)) in
    let test = is_hit c.args.strip.now c.args.y in
    let counted = counted_halves test c.in-Some.entry (entries_in c.args.self.now low c.args.start) (entries_in c.args.self.now low k) (entries_in c.args.self.now c.args.height c.args.start) (entries_at c.args.self.now c.args.height low c.args.start k c.in-Some.entry c.held.result e at c.held.ensures.value c.in-Some.is) in
    let most = walked_hits c.args.height low (cuts c.args.strip.now c.args.height c.args.start) (cuts c.args.strip.now low c.args.start) (cuts c.args.strip.now low k)
    (length (filter test (entries_in c.args.self.now c.args.height c.args.start))) (length (filter test (entries_in c.args.self.now low c.args.start)))
    (length (filter test (entries_in c.args.self.now low k))) (length (filter test (c.in-Some.entry ∷ []))) e fewer some counted in
    Spends-within (Spends-then (Spends-then c.held.ensures.cost c.list.ensures.cost) c.list-2.ensures.cost) refl refl most
