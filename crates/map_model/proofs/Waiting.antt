-- An index that waits for items catches up.
use Rattle.std.proofs.Common.{ℕ, ◌+◌, ◌-◌, ◌≤◌, ◌==◌, Bool, true, false, List, length, drop, arith, ◌≡◌, zero, suc}
use Rattle.std.proofs.lemmas.Bool.{cond_both, true≢false}
use Rattle.map_model.specs.Index.{Index, Range, Near, Top, Stab, Cross, one_if}
use Rattle.map_model.specs.State.{Item, Layer, is_live, wait_of, handed, wait_after, added, moved, dropped}

one_at_most : (b : Bool) → one_if b ≤ 1
one_at_most true = omega arith
one_at_most false = omega arith

fewer : (comes : Bool) (id : ℕ) (items : List Item) (wait : ℕ) → wait_after comes id items wait ≤ wait - 3
fewer comes id items wait =
    let left = wait - handed in
    let gone = one_if (is_live id (drop (length items - left) items)) in
    cond_both (left == 0) 0 ((left - gone) + one_if comes) (λ n. n ≤ wait - 3) (λ none. omega arith)
    (λ some. omega (arith, one_at_most comes, above left some))
  where
    above : (n : ℕ) → (n == 0) ≡ false → 1 ≤ n
    above zero h = absurd (true≢false h)
    above (suc n) h = omega arith

pub added-waits : (layer : Layer) (item : Item) (index : Index) → wait_of (added item layer).waits index ≤ wait_of layer.waits index - 3
added-waits layer item Range = fewer true item.id layer.items layer.waits.range
added-waits layer item Near = fewer true item.id layer.items layer.waits.near
added-waits layer item Top = fewer true item.id layer.items layer.waits.top
added-waits layer item Stab = omega arith
added-waits layer item Cross = omega arith

pub moved-waits : (layer : Layer) (item : Item) (index : Index) → wait_of (moved item layer).waits index ≤ wait_of layer.waits index - 3
moved-waits layer item Range = fewer true item.id layer.items layer.waits.range
moved-waits layer item Near = fewer true item.id layer.items layer.waits.near
moved-waits layer item Top = fewer true item.id layer.items layer.waits.top
moved-waits layer item Stab = omega arith
moved-waits layer item Cross = omega arith

pub dropped-waits : (layer : Layer) (id : ℕ) (index : Index) → wait_of (dropped id layer).waits index ≤ wait_of layer.waits index - 3
dropped-waits layer id Range = fewer false id layer.items layer.waits.range
dropped-waits layer id Near = fewer false id layer.items layer.waits.near
dropped-waits layer id Top = fewer false id layer.items layer.waits.top
dropped-waits layer id Stab = omega arith
dropped-waits layer id Cross = omega arith
