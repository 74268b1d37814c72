use Rattle.std.proofs.Common.{◌≡◌, ℕ, ◌==◌, ◌+◌, ◌*◌, ◌^◌, ◌<◌, ◌&&◌, ◌||◌, nat_lt, arith}
use Rattle.std.proofs.lemmas.Bool.Decides.{nat_tests}
use Rattle.range_tree.proofs.entry.Entry.precedes.Goals as goal

-- numbers with a low half are in the order of the high halves, then of the low ones
by_halves : (x y p q m n : ℕ) → m ≡ x * 2 ^ 32 + p → n ≡ y * 2 ^ 32 + q → p < 2 ^ 32 → q < 2 ^ 32
    → nat_lt m n ≡ (nat_lt x y || ((x == y) && nat_lt p q))
by_halves x y p q m n first second low high = grind (arith, nat_tests)

pub returns : goal.returns
returns c =
    by_halves c.args.self.now.y c.args.other.now.y _ _ _ _ c.key.ensures.value c.key-2.ensures.value c.key.ensures.small c.key-2.ensures.small
