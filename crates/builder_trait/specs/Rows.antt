-- What the rows of a structure are beside the items of a part.
use Rattle.std.specs.Prelude.{◌≡◌, ℕ, Bool, true, false, List, Some, slice_get, slice_set}
use Rattle.builder_trait.specs.Parts.{Contents}

-- The item at a place has died, and the rows don't have it yet: they are those of the part in which it was live.
pub record AreBehind {Item Rows : Type 0} (IsDone : Contents Item → Rows → Type 0) (part : Contents Item) (place : ℕ) (rows : Rows) : Type 0 where
  pub flags : List Bool
  pub was_live : slice_get flags place ≡ Some true
  pub died : part.flags ≡ slice_set flags place false
  pub done : IsDone (record part { flags = flags }) rows
