-- What contracts see of a walk along a chain, by which a stack gets its items.
use Rattle.std.specs.Prelude.{◌≡◌, ℕ, ◌+◌, ◌<◌, ◌≤◌, Bool, List, [], ◌∷◌, ◌++◌, Option, Some, None, All, length, map}
use Rattle.std.specs.Option.{option_map_or}
use Rattle.query_laws.specs.Permuted.{Permuted}
use Rattle.builder_trait.specs.Parts.{Contents}
use Rattle.id_chain.specs.Chain.{Entry, item_at, IsCursor, before_cursor, without_handle}
use Rattle.log_levels.specs.Levels.{live_items, all_items, weight_of, parts_asked}
use Rattle.log_levels.specs.Marking.{noted}
use Rattle.log_method.specs.Stack.{Stacked}

-- the stack that gets the items, and the cursor of the walk along the chain: the handle of the item that comes next
pub record Walked (P Item : Type 0) : Type 0 where
  pub stack : Stacked P Item
  pub cursor : Option ℕ

module _ {Item : Type 0} (stamp : Item → ℕ) where
  -- the stamp of the item at a cursor, and a number above all past the last
  abbrev pub stamp_at : Option ℕ → List (Entry Item) → ℕ → ℕ
  stamp_at None es stamps = stamps
  stamp_at (Some handle) es stamps = option_map_or stamp (item_at handle es) stamps

-- the entries where one is renewed: another item is under its handle, and it comes last
abbrev pub renewed : {Item : Type 0} → ℕ → Item → List (Entry Item) → List (Entry Item)
renewed handle item es = without_handle handle es ++ record { handle = handle; item = item } ∷ []

module _ {P Item : Type 0} (contents : P → Contents Item) where
  -- how many items are live in a stack
  abbrev pub live_in : Stacked P Item → ℕ
  live_in s = length (live_items contents s.levels)

  -- a stack holds what it held, and the walk is where it was
  pub record IsKept (r r' : Walked P Item) : Type 0 where
    pub cursor : r'.cursor ≡ r.cursor
    pub live : live_items contents r'.stack.levels ≡ live_items contents r.stack.levels
    pub items : all_items contents r'.stack.levels ≡ all_items contents r.stack.levels
    pub weight : weight_of r'.stack.levels ≡ weight_of r.stack.levels

  -- a walk handed over so many items at most: each is live and weighs one
  pub record HandsOver (most : ℕ) (old new : Walked P Item) : Type 0 where
    pub no_fewer : live_in old.stack ≤ live_in new.stack
    pub at_most : live_in new.stack ≤ live_in old.stack + most
    pub weight : weight_of new.stack.levels + live_in old.stack ≡ weight_of old.stack.levels + live_in new.stack

  module _ (stamp : Item → ℕ) where
    -- what a delete asks of a stack that has the item: a mark of each part up to the one in which it lives, and of each construction in which it comes to wait
    abbrev pub asked_of : (Item → Item → Bool) → Item → Stacked P Item → ℕ
    asked_of first x s = parts_asked contents stamp (stamp x) s.levels + noted first x contents stamp s.levels

    -- a stack has the items of a chain before the cursor; those that are dead in it were before the cursor too
    pub record IsWalkOf (r : Walked P Item) (es : List (Entry Item)) (stamps : ℕ) : Type 0 where
      pub cursor : IsCursor r.cursor es
      pub live : Permuted (live_items contents r.stack.levels) (map (λ e. e.item) (before_cursor r.cursor es))
      pub below : All (λ x. stamp x < stamp_at stamp r.cursor es stamps) (all_items contents r.stack.levels)
