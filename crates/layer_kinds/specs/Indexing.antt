-- The place of an index, over the chain of a layer's items.
use Rattle.std.specs.Prelude.{ℕ, ◌+◌, ◌-◌, ◌==◌, ◌≤◌, Bool, true, false, List, [], ◌∷◌, Option, Some, None, drop, length, if◌then◌else◌}
use Rattle.builder_trait.specs.Parts.{Contents}
use Rattle.id_chain.specs.Chain.{Entry, is_linked, first_handle}
use Rattle.global_rebuild.specs.Index.{Indexed, IsIndexOf}
use Rattle.global_rebuild.specs.Index as index
use Rattle.late_index.specs.Late.{LateState, IsLateOf}
use Rattle.late_index.specs.Late as late
use Rattle.map_model.specs.Cost.{Rate}
use Rattle.map_model.specs.Index.{one_if}
use Rattle.map_model.specs.State.{handed}
use Rattle.layer_kinds.specs.Shares.{Rates, Waits}

-- the place of an index in a layer: it isn't there, or it is, or it was made late and is there, but waits for items
pub data Placed (P Item : Type 0) : Type 0 where
  Absent : Placed P Item
  Whole : Indexed P Item → Placed P Item
  Late : LateState P Item → Placed P Item

module _ {P Item : Type 0} where
  -- the index is there, late or not
  abbrev pub is_there : Placed P Item → Bool
  is_there Absent = false
  is_there (Whole i) = true
  is_there (Late l) = true

  -- the index that answers
  abbrev pub answering : Placed P Item → Option (Indexed P Item)
  answering Absent = None
  answering (Whole i) = Some i
  answering (Late l) = None

  -- how many items the index waits for; 0 where it isn't there, or isn't late
  abbrev pub wait_in : Placed P Item → ℕ
  wait_in Absent = 0
  wait_in (Whole i) = 0
  wait_in (Late l) = l.waiting

  -- its rate, where it is there
  abbrev pub rates_of : Rate → Placed P Item → Rates
  rates_of rate Absent = None ∷ []
  rates_of rate (Whole i) = Some rate ∷ []
  rates_of rate (Late l) = Some rate ∷ []

  -- how many items it waits for, where it is there
  abbrev pub waits_of : Placed P Item → Waits
  waits_of Absent = None ∷ []
  waits_of (Whole i) = Some 0 ∷ []
  waits_of (Late l) = Some l.waiting ∷ []

  -- an index without items and memory
  abbrev pub no_items : Indexed P Item
  no_items = record { store = record { builders = []; tables = [] }; main = record { levels = [] }; shadow = None; retired = [] }

  -- an index that is made late of entries: it has no memory, and waits for all items; of none it is ready at once
  abbrev pub begun : List (Entry Item) → Placed P Item
  begun [] = Whole no_items
  begun (e ∷ es) = Late (record {
    store = record { builders = []; tables = [] };
    walk = record { stack = record { levels = [] }; cursor = first_handle (e ∷ es) };
    waiting = length (e ∷ es);
  })

  -- a late index with its cursor there: past the last item its stack goes on as an index
  abbrev pub adopted_at : LateState P Item → Option ℕ → Placed P Item
  adopted_at l None = Whole (record { store = l.store; main = l.walk.stack; shadow = None; retired = [] })
  adopted_at l (Some handle) = Late l

  -- a late index that was handed all items goes on as an index, and any other stays
  abbrev pub adopted : Placed P Item → Placed P Item
  adopted Absent = Absent
  adopted (Whole i) = Whole i
  adopted (Late l) = adopted_at l l.walk.cursor

  module _ (contents : P → Contents Item) where
    -- An index that is there is that of the entries, and every stamp in it is below a number. A late one waits for some.
    abbrev pub IsOf : (Item → ℕ) → Placed P Item → List (Entry Item) → ℕ → Type 0
    IsOf stamp Absent es stamps = Unit {0}
    IsOf stamp (Whole i) es stamps = IsIndexOf contents stamp i es stamps
    IsOf stamp (Late l) es stamps = IsLateOf contents stamp l es stamps × (1 ≤ l.waiting)

    -- an index that is there is prepared for an update of the entries
    abbrev pub IsReady : Placed P Item → List (Entry Item) → Type 0
    IsReady Absent es = Unit {0}
    IsReady (Whole i) es = index.IsPrepared contents i
    IsReady (Late l) es = late.IsPrepared contents l es

-- For how many items an index waits after an update of the entry of a handle, by those before it: the definitions' `wait_after`, over entries. First
-- it is handed the next four, and where these are the last it is ready. Else it waits no more for the entry, if it did, and waits for one that comes.
abbrev pub wait_by : {Item : Type 0} → Bool → ℕ → List (Entry Item) → ℕ → ℕ
wait_by comes handle es wait =
    let left = wait - handed in
    if left == 0 then 0 else (left - one_if (is_linked handle (drop (length es - left) es))) + one_if comes
