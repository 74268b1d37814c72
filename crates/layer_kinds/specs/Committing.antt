-- What becomes of the place of an index in an update. No public clause cites this module.
use Rattle.std.specs.Prelude.{◌≡◌, ◌≢◌, ℕ, List, None}
use Rattle.query_laws.specs.StepLedger.{Counts}
use Rattle.builder_trait.specs.Parts.{Contents}
use Rattle.id_chain.specs.Chain.{Entry}
use Rattle.global_rebuild.specs.Index.{IsIndexOf}
use Rattle.late_index.specs.Late.{IsShortOf, IsLateOf}
use Rattle.map_model.specs.Cost.{Rate}
use Rattle.layer_kinds.specs.Shares.{CostsShares, all_after}
use Rattle.layer_kinds.specs.Indexing.{Placed, Absent, Whole, Late, rates_of, waits_of}
use Rattle.layer_kinds.specs.Memory.{Each, KeepsAll, memories_of}

module _ {P Item : Type 0} where
  -- the index isn't a late one that was handed all items
  abbrev pub IsGoing : Placed P Item → Type 0
  IsGoing Absent = Unit {0}
  IsGoing (Whole i) = Unit {0}
  IsGoing (Late l) = l.walk.cursor ≢ None

  module _ (contents : P → Contents Item) where
    -- the index is that of the entries; a late one may wait for none
    abbrev pub IsOver : (Item → ℕ) → Placed P Item → List (Entry Item) → ℕ → Type 0
    IsOver stamp Absent es stamps = Unit {0}
    IsOver stamp (Whole i) es stamps = IsIndexOf contents stamp i es stamps
    IsOver stamp (Late l) es stamps = IsLateOf contents stamp l es stamps

    -- a late index waits for exactly the items that it wasn't handed
    abbrev pub IsExact : Placed P Item → List (Entry Item) → Type 0
    IsExact Absent es = Unit {0}
    IsExact (Whole i) es = Unit {0}
    IsExact (Late l) es = IsShortOf contents l.waiting l es

    -- what a commit keeps, changes and costs, beside the items
    pub record Commits (rate : Rate) (after : ℕ → ℕ) (turns marks : ℕ → Rate → ℕ) (many : ℕ) (old new : Placed P Item) (before later : Counts) : Type 0 where
      pub there : rates_of rate new ≡ rates_of rate old
      pub waits : waits_of new ≡ all_after after (waits_of old)
      pub held : Each KeepsAll (memories_of contents old) (memories_of contents new)
      pub cost : CostsShares turns marks many (rates_of rate old) before later
