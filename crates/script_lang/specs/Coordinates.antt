-- Coordinates in their array.
use Rattle.std.specs.Prelude.{◌≡◌, ℕ, ◌≤◌, List, length, slice_index}

-- The first `len` places hold them, and the others zeros.
pub record AreCoordinates (values : List ℕ) (len : ℕ) : Type 0 where
  pub whole : length values ≡ 4
  pub fits : len ≤ 4
  pub rest : (k : ℕ) → len ≤ k → slice_index values k ≡ 0
