-- Tests that pass up to some entry.
use Rattle.std.specs.Prelude.{ℕ, ◌<◌, ◌≤◌, Bool, IsTrue, List, slice_index_or}

-- before an entry below `high` that passes, all from `low` on pass
abbrev pub PassesUpTo : {T : Type 0} → (T → Bool) → List T → ℕ → ℕ → Type 0
PassesUpTo {T} passes entries low high =
    (k l : ℕ) (d : T) → low ≤ k → k < l → l < high → IsTrue (passes (slice_index_or entries l d)) → IsTrue (passes (slice_index_or entries k d))
