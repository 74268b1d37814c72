-- What contracts see of a layer, and what an update does to its items.
use Rattle.std.specs.Prelude.{◌≡◌, ℕ, ◌<◌, ◌≤◌, Bool, true, false, List, Result, Ok, Err, length, map}
use Rattle.id_chain.specs.Chain.{Entry}
use Rattle.map_model.specs.State.{Item, is_live, with_item, without_item, wait_after}
use Rattle.layer_kinds.specs.declared.faults.AskFault.{AskFault}
use Rattle.layer_kinds.specs.declared.faults.AskFault.TheVariants as ask
use Rattle.layer_kinds.specs.declared.faults.UpdateFault.{UpdateFault}
use Rattle.layer_kinds.specs.declared.faults.UpdateFault.TheVariants.{Duplicate, Unknown, Full, NoMemory}
use Rattle.layer_kinds.specs.Indexing.{Placed, is_there, wait_in}
use Rattle.layer_kinds.specs.Shares.{Waits, all_after}

-- a layer: its name, how many items it may have, its entries in order of add or move, how many of these there ever were, and its indexes
pub record Layered (X I : Type 0) : Type 0 where
  pub name : List ℕ
  pub most_items : ℕ
  pub entries : List (Entry I)
  pub adds : ℕ
  pub indexes : X

-- the entries' items, as the definitions have them
abbrev pub items_of : {I : Type 0} → (I → Item) → List (Entry I) → List Item
items_of item_of es = map (λ e. item_of e.item) es

-- An item whose identifier is live is refused, and any other where as many are live as may be; else it goes to the end, but for want
-- of memory.
abbrev pub IsAdd : {T : Type 0} → ℕ → List Item → Item → List Item → Result T UpdateFault → Type 0
IsAdd most old item new (Ok done) = (is_live item.id old ≡ false) × (length old < most) × (new ≡ with_item item old)
IsAdd most old item new (Err (Duplicate id)) = (is_live item.id old ≡ true) × (id ≡ item.id) × (new ≡ old)
IsAdd most old item new (Err (Unknown id)) = ⊥
IsAdd most old item new (Err Full) = (is_live item.id old ≡ false) × (most ≤ length old) × (new ≡ old)
IsAdd most old item new (Err NoMemory) = (is_live item.id old ≡ false) × (length old < most) × (new ≡ old)

-- An item whose identifier isn't live is refused; for any other the item that has its identifier goes out, and it comes last, but for want of
-- memory.
abbrev pub IsMove : {T : Type 0} → List Item → Item → List Item → Result T UpdateFault → Type 0
IsMove old item new (Ok done) = (is_live item.id old ≡ true) × (new ≡ with_item item (without_item item.id old))
IsMove old item new (Err (Duplicate id)) = ⊥
IsMove old item new (Err (Unknown id)) = (is_live item.id old ≡ false) × (id ≡ item.id) × (new ≡ old)
IsMove old item new (Err Full) = ⊥
IsMove old item new (Err NoMemory) = (is_live item.id old ≡ true) × (new ≡ old)

-- An identifier that isn't live is refused, and any other item is taken out, but for want of memory.
abbrev pub IsRemoval : {T : Type 0} → List Item → ℕ → List Item → Result T UpdateFault → Type 0
IsRemoval old id new (Ok done) = (is_live id old ≡ true) × (new ≡ without_item id old)
IsRemoval old id new (Err (Duplicate other)) = ⊥
IsRemoval old id new (Err (Unknown other)) = (is_live id old ≡ false) × (other ≡ id) × (new ≡ old)
IsRemoval old id new (Err Full) = ⊥
IsRemoval old id new (Err NoMemory) = (is_live id old ≡ true) × (new ≡ old)

-- A question is refused exactly where the index isn't there, and then where it waits for items, which are told, but for want of memory, where its
-- tally can refuse.
abbrev pub IsAskRefusal : {T P I : Type 0} → Placed P I → Bool → Result T AskFault → Type 0
IsAskRefusal place refusable (Ok given) = (is_there place ≡ true) × (wait_in place ≡ 0)
IsAskRefusal place refusable (Err ask.NoIndex) = is_there place ≡ false
IsAskRefusal place refusable (Err (ask.Building items)) = (is_there place ≡ true) × (0 < items) × (items ≡ wait_in place)
IsAskRefusal place refusable (Err ask.NoMemory) = (is_there place ≡ true) × (wait_in place ≡ 0) × (refusable ≡ true)

-- An update of an identifier that is done changes for how many items each index waits, as the definitions say, and one that is refused doesn't.
abbrev pub IsWaiting : {T : Type 0} → Bool → ℕ → List Item → (old new : Waits) → Result T UpdateFault → Type 0
IsWaiting comes id items old new (Ok done) = new ≡ all_after (wait_after comes id items) old
IsWaiting comes id items old new (Err fault) = new ≡ old
