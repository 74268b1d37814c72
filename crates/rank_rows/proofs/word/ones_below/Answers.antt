use Rattle.std.proofs.Common.{◌≡◌, ◌-◌, ◌%◌, ◌^◌, ap, sym, ◌∙◌, arith}
use Rattle.std.specs.Prelude.{bit_and}
use Rattle.std.specs.Int.{bit_at}
use Rattle.std.proofs.lemmas.Nat.{one_shl, and_mask}
use lib.Count.{ones}
use Rattle.rank_rows.specs.Totals.{total}
use Rattle.rank_rows.proofs.Sums.{ones-below}
use Rattle.rank_rows.proofs.word.ones_below.Goals as goal

pub returns-then-bits-eq-WIDTH : goal.returns-then-bits-eq-WIDTH
returns-then-bits-eq-WIDTH c =
    let whole : c.args.mask % 2 ^ 64 ≡ c.args.mask = omega arith in
    sym (ap ones whole) ∙ ones-below c.args.mask 64 ∙ ap (total (bit_at c.args.mask)) (sym c.if-bits-eq-WIDTH.true)

pub returns-else-bits-eq-WIDTH : goal.returns-else-bits-eq-WIDTH
returns-else-bits-eq-WIDTH c =
    ap (λ m. ones (bit_and c.args.mask (m - 1))) (one_shl c.args.bits 64 (omega arith))
    ∙ ap ones (and_mask c.args.mask c.args.bits) ∙ ones-below c.args.mask c.args.bits
