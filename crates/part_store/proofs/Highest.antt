-- The highest level of a store of which something is kept.
use Rattle.std.proofs.Common.{◌≡◌, ℕ, ◌+◌, ◌<◌, ◌≤◌, List, length, max, inl, inr, subst, sym, ap, arith}
use Rattle.std.proofs.lemmas.Bool.{cases_eq}
use Rattle.std.proofs.lemmas.List.{get_or_past}
use Rattle.part_store.specs.Shelves.{Shelved, kept_at}
use Rattle.part_store.specs.Store.{Stored, kept_in, IsEmptyFrom, IsHighest}

past : (l : List Shelved) (k : ℕ) → length l ≤ k → kept_at k l ≡ 0
past l k beyond = ap (λ s. s.kept) (get_or_past l k (record { level = 0; kept = 0; lent = 0 }) beyond)

pub none_past : (store : Stored) (n : ℕ) → n ≡ max (length store.builders) (length store.tables) → IsEmptyFrom n store
none_past store n is k from = omega (arith, past store.builders k (omega (arith, is, from)), past store.tables k (omega (arith, is, from)))

module _ (store : Stored) (level next : ℕ) (below : next + 1 ≡ level) (from : IsEmptyFrom level store) where
  pub none_at : kept_in next store ≡ 0 → IsEmptyFrom next store
  none_at none k above = elim (cases_eq k next) [
    | inl same ↦ subst (λ j. kept_in j store ≡ 0) (sym same) none
    | inr apart ↦ from k (omega (arith, below, above, apart))
  ]

  pub highest_at : 0 < kept_in next store → IsHighest next store
  highest_at some = record { some = some; above = λ k up. from k (omega (arith, below, up)) }
