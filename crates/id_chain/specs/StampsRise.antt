-- Stamps along a chain.
use Rattle.std.specs.Prelude.{ℕ, ◌+◌, ◌≤◌, List, [], ◌∷◌}
use Rattle.id_chain.specs.Chain.{Entry}

module _ {I : Type 0} (stamp : I → ℕ) where
  -- the stamps rise along the list, from at least `low` on, and stay below `high`
  abbrev pub StampsRise : ℕ → List (Entry I) → ℕ → Type 0
  StampsRise low [] high = low ≤ high
  StampsRise low (e ∷ es) high = (low ≤ stamp e.item) × StampsRise (stamp e.item + 1) es high
