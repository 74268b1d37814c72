-- Shares of one index, and of two together.
use Rattle.std.proofs.Common.{◌≡◌, ℕ, ◌+◌, ◌≤◌, [], ◌∷◌, ◌++◌, Some, arith}
use Rattle.std.specs.Option.{option_map_or}
use Rattle.std.proofs.lemmas.List.Sums.{sum_by-append}
use Rattle.query_laws.specs.StepLedger.{Counts}
use Rattle.query_laws.proofs.Counting.{Spends-nothing}
use Rattle.log_levels.specs.Cost.{IsWithin}
use Rattle.log_levels.proofs.Spending.{IsWithin-of, IsWithin-more, IsWithin-then}
use Rattle.map_structures.specs.Touches.{touches_at}
use Rattle.map_model.specs.Cost.{Rate}
use Rattle.layer_kinds.specs.Shares.{Rates, share, IsShared, CostsShares}

share-append : (f : Rate → ℕ) (first second : Rates) → share f (first ++ second) ≡ share f first + share f second
share-append f first second = sum_by-append (λ r. option_map_or f r 0) first second

module _ (turns marks : Rate → ℕ) (g : ℕ) where
  -- what one index costs that is there
  pub IsShared-there : (rate : Rate) {touches : ℕ} {old new : Counts} → touches ≤ touches_at g → IsWithin (turns rate) (marks rate) touches old new
      → IsShared turns marks (Some rate ∷ []) g old new
  IsShared-there rate few h = IsWithin-more h (omega arith) (omega arith) few

  -- where nothing is done
  pub IsShared-nothing : (rates : Rates) (counts : Counts) → IsShared turns marks rates g counts counts
  IsShared-nothing rates counts = IsWithin-of (Spends-nothing counts) (omega arith) (omega arith) (omega arith)

  -- what some cost, and then others
  pub IsShared-then : (first second : Rates) {old mid new : Counts} → IsShared turns marks first g old mid
      → IsShared turns marks second g mid new → IsShared turns marks (first ++ second) g old new
  IsShared-then first second {old} {mid} {new} h k =
      IsWithin-more (IsWithin-then h k) (omega (arith, share-append turns first second)) (omega (arith, share-append marks first second)) (omega arith)

pub costs_then : {turns marks : ℕ → Rate → ℕ} {many : ℕ} {first second : Rates} {old mid new : Counts} → CostsShares turns marks many first old mid
    → CostsShares turns marks many second mid new → CostsShares turns marks many (first ++ second) old new
costs_then {turns} {marks} {many} {first} {second} h k =
    record { within = λ g less. IsShared-then (turns g) (marks g) g first second (h.within g less) (k.within g less) }
