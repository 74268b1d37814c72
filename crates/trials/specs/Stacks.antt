-- A stack beside the list of its live items.
use Rattle.std.specs.Prelude.{ℕ, ◌<◌, List, All}
use Rattle.query_laws.specs.Permuted.{Permuted}
use Rattle.builder_trait.specs.Parts.{Contents}
use Rattle.log_levels.specs.Slots.{Slots}
use Rattle.log_levels.specs.Levels.{live_items, all_items, weight_of}

-- the stamp of each item is below the number of inserts, which so is that of none; and these are the live ones
pub record IsStackOf {P Item : Type 0} (contents : P → Contents Item) (stamp : Item → ℕ) (levels : List (Slots P Item)) (items : List Item) : Type 0 where
  pub below : All (λ x. stamp x < weight_of levels) (all_items contents levels)
  pub live : Permuted (live_items contents levels) items
