-- The copied bytes and those after them are what was left.
use Rattle.std.proofs.Common.{◌≡◌, ◌+◌, ◌-◌, ◌≤◌, ◌++◌, length, take, drop, sym, ap, ◌∙◌, drop_of_length-le, length-take-le, arith}
use Rattle.map_io.proofs.StreamLaws.{take-copied}
use Rattle.map_io.proofs.mem_source.MemSourceSource.read.Goals as goal

pub returns-clause-taken : goal.returns-clause-taken
returns-clause-taken c =
    let bytes = c.self.inside.bytes.items in
    let at = c.self.inside.taken in
    let n = c.min-given.result in
    let into = c.args.into.now in
    let copied = c.copy_from_slice.new.self in
    let fits : n ≤ length into = omega arith in
    let size : length copied ≡ n = c.copy_from_slice.ensures.len ∙ length-take-le n into fits in
    let same : copied ≡ take (at + n - at) (drop at bytes) = c.copy_from_slice.ensures.after ∙ ap (λ l. take (at + n - at) (drop at l)) c.deref.ensures.value in
    let whole = take-copied bytes into copied at n same size in
    let split : c.args.self.now.rest ≡ take n (copied ++ drop n into) ++ drop (at + n) bytes = ap (λ s. s.rest) (sym c.self.view_is) ∙ whole in
    (split, λ none some. drop_of_length-le bytes (omega arith))
