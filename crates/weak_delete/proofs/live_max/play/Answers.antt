use Rattle.std.proofs.Common.{◌≡◌, ℕ, ◌+◌, ◌^◌, ◌<◌, Option, None, max, length, set, get_or, arith, ap, subst, sym, get_or-set_same, ◌∙◌}
use Rattle.query_laws.specs.StepLedger.{Entries}
use Rattle.row_blocks.specs.Blocks.{IsMultiple}
use Rattle.weak_delete.specs.Tournament.{winner_rank, IsGreatest}
use Rattle.row_blocks.proofs.Blocks.{first_half, second_half, halved_next, pow_next}
use Rattle.weak_delete.proofs.Winners.{IsWinnerAt-from_block, IsGreatest-both}
use Rattle.weak_delete.proofs.live_max.play.Goals as goal

pub winner_of-first-requires-clause-block : goal.winner_of-first-requires-clause-block
winner_of-first-requires-clause-block g c = first_half _ _ c.requires.block

pub winner_of-second-requires-clause-block : goal.winner_of-second-requires-clause-block
winner_of-second-requires-clause-block g c =
    let P : ℕ → Type 0 = λ half. IsMultiple (c.args.start + half) c.args.height in
    subst P (sym c.block_len.ensures) (second_half _ _ c.requires.block)

pub returns-clause-wins : goal.returns-clause-wins
returns-clause-wins g c =
    let start = c.args.start in
    let places = c.args.places.now.items in
    let half = c.block_len.ensures in
    let block = halved_next start c.args.height c.requires.block (omega arith) in
    let items : c.set.new.self.items ≡ set c.args.winners.now.items (start + c.block_len.result) c.greater.result = ap (λ (r : Entries (Option ℕ)). r.items) c.set.ensures.written in
    let M : ℕ → Type 0 = λ h. IsGreatest places (start + h) (start + h + 2 ^ c.args.height) (winner_rank c.winner_of-second.result) in
    let E : ℕ → Type 0 = λ e. IsGreatest places start e (max (winner_rank c.winner_of-first.result) (winner_rank c.winner_of-second.result)) in
    let end : start + 2 ^ c.args.height + 2 ^ c.args.height ≡ start + 2 ^ (c.args.height + 1) = omega (arith, pow_next c.args.height) in
    let both = subst E end (IsGreatest-both _ _ (omega arith) (omega arith) c.winner_of-first.ensures.greatest (subst M half c.winner_of-second.ensures.greatest)) in
    let there : start + 2 ^ c.args.height < length c.args.winners.now.items = omega arith in
    let here : get_or c.set.new.self.items (start + 2 ^ c.args.height) None ≡ c.greater.result =
    ap (λ ws. get_or ws (start + 2 ^ c.args.height) None) (items ∙ ap (λ h. set c.args.winners.now.items (start + h) c.greater.result) half)
    ∙ get_or-set_same c.args.winners.now.items (start + 2 ^ c.args.height) c.greater.result None there in
    let rank : max (winner_rank c.winner_of-first.result) (winner_rank c.winner_of-second.result) ≡ winner_rank (get_or c.set.new.self.items (start + 2 ^ c.args.height) None) = sym (ap winner_rank here ∙ c.greater.ensures) in
    let R : ℕ → Type 0 = λ r. IsGreatest places start (start + 2 ^ (c.args.height + 1)) r in
    IsWinnerAt-from_block c.set.new.self.items block (subst R rank both)
