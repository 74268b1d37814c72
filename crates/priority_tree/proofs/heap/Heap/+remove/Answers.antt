use Rattle.std.proofs.Common.{◌≡◌, ◌-◌, ◌+◌, ◌^◌, suc, ap, arith, rules, sym, ◌∙◌}
use Rattle.query_laws.specs.Permuted.{same_head, composed}
use Rattle.priority_tree.proofs.AtHeights.{hole-at, taken-at, head_of_holds, first_among, second_among, first_owned, second_owned, first_block, second_block, first_heap, second_heap, removed_first-at, removed_second-at}
use Rattle.priority_tree.proofs.heap.Heap.+remove.Goals as goal

pub fill-requires-clause-hole : goal.fill-requires-clause-hole
fill-requires-clause-hole g t c =
    let e : c.args.height ≡ suc (c.args.height - 1) = omega arith in
    hole-at c.args.self.now c.hold.new.self c.args.height (c.args.height - 1) c.args.start (c.args.start + c.block_len.result) e
    (ap (λ n. c.args.start + n) c.block_len.ensures) c.hold.ensures.set c.requires.heap

pub returns-then-holds-clause-taken : goal.returns-then-holds-clause-taken
returns-then-holds-clause-taken g t c =
    let e : c.args.height ≡ suc (c.args.height - 1) = omega arith in
    let at = ap (λ n. c.args.start + n) c.block_len.ensures in
    composed (same_head c.args.entry.now c.fill.ensures.same_entries)
    (taken-at c.args.self.now c.hold.new.self c.args.height (c.args.height - 1) c.args.start (c.args.start + c.block_len.result) e at c.hold.ensures.set c.args.entry.now
    (head_of_holds c.args.self.now c.args.height (c.args.height - 1) c.args.start (c.args.start + c.block_len.result) c.args.entry.now c.holds.result e at
    c.requires.owned c.holds.ensures.value c.if-holds.true))

pub remove-requires : goal.remove-requires
remove-requires g t c =
    let e : c.args.height ≡ suc (c.args.height - 1) = omega arith in
    let low = c.args.height - 1 in
    let k = c.args.start + c.block_len.result in
    let at : c.args.start + c.block_len.result ≡ c.args.start + 2 ^ (c.args.height - 1) = ap (λ n. c.args.start + n) c.block_len.ensures in
    let not_held = sym c.holds.ensures.value ∙ c.if-holds.false in
    let block = first_block c.args.self.now c.args.height low c.args.start k e at c.requires.block in
    let heap = first_heap c.args.self.now c.args.height low c.args.start k e at c.requires.heap in
    let among = first_among c.args.self.now c.args.height low c.args.start k c.args.entry.now e at c.requires.heap c.requires.there c.requires.owned not_held (omega (arith, c.if-entry-middle.true)) in
    let owned = first_owned c.args.self.now c.args.height low c.args.start k c.args.entry.now e at c.requires.heap c.requires.there c.requires.owned not_held in
    search rules

pub remove-requires-else-entry-middle : goal.remove-requires-else-entry-middle
remove-requires-else-entry-middle g t c =
    let e : c.args.height ≡ suc (c.args.height - 1) = omega arith in
    let low = c.args.height - 1 in
    let k = c.args.start + c.block_len.result in
    let at : c.args.start + c.block_len.result ≡ c.args.start + 2 ^ (c.args.height - 1) = ap (λ n. c.args.start + n) c.block_len.ensures in
    let not_held = sym c.holds.ensures.value ∙ c.if-holds.false in
    let block = second_block c.args.self.now c.args.height low c.args.start k e at c.requires.block in
    let heap = second_heap c.args.self.now c.args.height low c.args.start k e at c.requires.heap in
    let among = second_among c.args.self.now c.args.height low c.args.start k c.args.entry.now e at c.requires.heap c.requires.there c.requires.owned not_held (omega (arith, c.if-entry-middle.false)) in
    let owned = second_owned c.args.self.now c.args.height low c.args.start k c.args.entry.now e at c.requires.heap c.requires.there c.requires.owned not_held in
    search rules

pub returns-then-entry-middle-clause-heap : goal.returns-then-entry-middle-clause-heap
returns-then-entry-middle-clause-heap g t c =
    let e : c.args.height ≡ suc (c.args.height - 1) = omega arith in
    let low = c.args.height - 1 in
    let k = c.args.start + c.block_len.result in
    let at : c.args.start + c.block_len.result ≡ c.args.start + 2 ^ (c.args.height - 1) = ap (λ n. c.args.start + n) c.block_len.ensures in
    (removed_first-at c.args.self.now c.remove.new.self c.args.height low c.args.start k c.args.entry.now e at c.requires.heap
    c.remove.ensures.heap c.remove.ensures.taken c.remove.ensures.same).0

pub returns-then-entry-middle-clause-taken : goal.returns-then-entry-middle-clause-taken
returns-then-entry-middle-clause-taken g t c =
    let e : c.args.height ≡ suc (c.args.height - 1) = omega arith in
    let low = c.args.height - 1 in
    let k = c.args.start + c.block_len.result in
    let at : c.args.start + c.block_len.result ≡ c.args.start + 2 ^ (c.args.height - 1) = ap (λ n. c.args.start + n) c.block_len.ensures in
    (removed_first-at c.args.self.now c.remove.new.self c.args.height low c.args.start k c.args.entry.now e at c.requires.heap
    c.remove.ensures.heap c.remove.ensures.taken c.remove.ensures.same).1

pub returns-then-entry-middle-clause-same : goal.returns-then-entry-middle-clause-same
returns-then-entry-middle-clause-same g t c =
    let e : c.args.height ≡ suc (c.args.height - 1) = omega arith in
    let low = c.args.height - 1 in
    let k = c.args.start + c.block_len.result in
    let at : c.args.start + c.block_len.result ≡ c.args.start + 2 ^ (c.args.height - 1) = ap (λ n. c.args.start + n) c.block_len.ensures in
    (removed_first-at c.args.self.now c.remove.new.self c.args.height low c.args.start k c.args.entry.now e at c.requires.heap
    c.remove.ensures.heap c.remove.ensures.taken c.remove.ensures.same).2

pub returns-else-entry-middle-clause-heap : goal.returns-else-entry-middle-clause-heap
returns-else-entry-middle-clause-heap g t c =
    let e : c.args.height ≡ suc (c.args.height - 1) = omega arith in
    let low = c.args.height - 1 in
    let k = c.args.start + c.block_len.result in
    let at : c.args.start + c.block_len.result ≡ c.args.start + 2 ^ (c.args.height - 1) = ap (λ n. c.args.start + n) c.block_len.ensures in
    (removed_second-at c.args.self.now c.remove-else-entry-middle.new.self c.args.height low c.args.start k c.args.entry.now e at c.requires.heap
    c.remove-else-entry-middle.ensures.heap c.remove-else-entry-middle.ensures.taken c.remove-else-entry-middle.ensures.same).0

pub returns-else-entry-middle-clause-taken : goal.returns-else-entry-middle-clause-taken
returns-else-entry-middle-clause-taken g t c =
    let e : c.args.height ≡ suc (c.args.height - 1) = omega arith in
    let low = c.args.height - 1 in
    let k = c.args.start + c.block_len.result in
    let at : c.args.start + c.block_len.result ≡ c.args.start + 2 ^ (c.args.height - 1) = ap (λ n. c.args.start + n) c.block_len.ensures in
    (removed_second-at c.args.self.now c.remove-else-entry-middle.new.self c.args.height low c.args.start k c.args.entry.now e at c.requires.heap
    c.remove-else-entry-middle.ensures.heap c.remove-else-entry-middle.ensures.taken c.remove-else-entry-middle.ensures.same).1

pub returns-else-entry-middle-clause-same : goal.returns-else-entry-middle-clause-same
returns-else-entry-middle-clause-same g t c =
    let e : c.args.height ≡ suc (c.args.height - 1) = omega arith in
    let low = c.args.height - 1 in
    let k = c.args.start + c.block_len.result in
    let at : c.args.start + c.block_len.result ≡ c.args.start + 2 ^ (c.args.height - 1) = ap (λ n. c.args.start + n) c.block_len.ensures in
    (removed_second-at c.args.self.now c.remove-else-entry-middle.new.self c.args.height low c.args.start k c.args.entry.now e at c.requires.heap
    c.remove-else-entry-middle.ensures.heap c.remove-else-entry-middle.ensures.taken c.remove-else-entry-middle.ensures.same).2
