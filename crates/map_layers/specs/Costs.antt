-- What a call on the layer of a name costs, where there is one.
use Rattle.std.specs.Prelude.{◌≡◌, ℕ, ◌+◌, ◌≤◌, false, Option, None, Some, Result, Ok, Err, length}
use Rattle.query_laws.specs.StepLedger.{Counts}
use Rattle.log_levels.specs.Cost.{IsWithin}
use Rattle.map_structures.specs.Touches.{PartTouches, touches_at}
use Rattle.map_model.specs.State as state
use Rattle.map_model.specs.State.{live_count}
use Rattle.map_model.specs.Index.{Index}
use Rattle.map_model.specs.Cost.{greatest_level, turn_bound, mark_bound, part_bound, Update, IsSpent, IsAsked}
use Rattle.map_shapes.specs.Cost.{spent_of, asked_of}
use Rattle.map_shapes.specs.declared.question_cost.QuestionCost.{QuestionCost}
use Rattle.map_shapes.specs.declared.spent.Spent.{Spent}
use Rattle.layer_kinds.specs.Asking as asking
use Rattle.layer_kinds.specs.Asking.{most_of}
use Rattle.map_layers.specs.declared.faults.AskFault.{AskFault}
use Rattle.map_layers.specs.declared.faults.UpdateFault.{UpdateFault}
use Rattle.map_layers.specs.declared.faults.UpdateFault.TheVariants.{NoLayer, WrongKind, Duplicate, Unknown, Full, NoMemory}
use Rattle.map_layers.specs.Faults.{IfAsked}
use Rattle.map_layers.specs.Layer.{LayerState, items_in, held_by, IsEveryPart}

-- what an update may cost: the bounds of its layer, and 16 touches at most a turn
abbrev pub IsInBounds : state.Layer → Update → Counts → Counts → Type 0
IsInBounds layer update old new = IsWithin (turn_bound update layer) (mark_bound update layer) (touches_at (greatest_level (live_count layer))) old new

-- An update that is done or that memory refused is within the bounds, and any other that is refused costs nothing.
abbrev pub IsCost : {T : Type 0} → state.Layer → Update → Result T UpdateFault → Counts → Counts → Type 0
IsCost layer update (Ok done) old new = IsInBounds layer update old new
IsCost layer update (Err NoLayer) old new = new ≡ old
IsCost layer update (Err WrongKind) old new = new ≡ old
IsCost layer update (Err (Duplicate id)) old new = new ≡ old
IsCost layer update (Err (Unknown id)) old new = new ≡ old
IsCost layer update (Err Full) old new = new ≡ old
IsCost layer update (Err NoMemory) old new = IsInBounds layer update old new

-- what it cost is told
pub record IsTold (layer : state.Layer) (update : Update) (spent : Spent) (old new : Counts) : Type 0 where
  pub bounds : IsSpent layer update (spent_of spent)
  pub turns : new.turns ≡ old.turns + spent.turns
  pub marks : new.marks ≡ old.marks + spent.marks

-- A question that is answered costs so many touches at most, and no turn and no mark; how many parts were consulted and how many touches is told.
pub record IsAsking (layer : state.Layer) (most : ℕ) (asked : QuestionCost) (old new : Counts) : Type 0 where
  pub spread : layer.indexes.batch ≡ false
  pub bounds : IsAsked layer (asked_of asked)
  pub consulted : new.consulted ≡ old.consulted + asked.parts
  pub touches : new.touches ≡ old.touches + asked.touches
  pub few_touches : asked.touches ≤ most
  pub turns : new.turns ≡ old.turns
  pub marks : new.marks ≡ old.marks

-- One that is answered or that memory refused consults so many parts and touches so much at most, and any other that is refused counts nothing.
abbrev pub IsTouching : {T : Type 0} → ℕ → ℕ → Result T AskFault → Counts → Counts → Type 0
IsTouching parts most result old new = IfAsked (λ r. asking.IsTouching parts most r old new) (new ≡ old) result

-- the most touches, by the greatest level that a part of the layer may have, and the live items
abbrev pub most_in : state.Layer → (ℕ → ℕ → ℕ) → ℕ
most_in layer most = most (greatest_level (live_count layer)) (live_count layer)

-- ---- the same for the layer of a name, where there is one

-- An update of the layer of a name is within its bounds, where it is done or memory refused it; where there is no layer, or it is refused for
-- another cause, nothing is counted.
abbrev pub IsCostIn : {T : Type 0} → Option state.Layer → Update → Result T UpdateFault → Counts → Counts → Type 0
IsCostIn None update result old new = new ≡ old
IsCostIn (Some layer) update result old new = IsCost layer update result old new

-- what an update of the layer of a name cost is told as it was counted, within its bounds
abbrev pub IsToldIn : Option state.Layer → Update → Spent → Counts → Counts → Type 0
IsToldIn None update spent old new = ⊥
IsToldIn (Some layer) update spent old new = IsTold layer update spent old new

-- what an answered question to the layer of a name cost is told as it was counted, within its bounds
abbrev pub IsAskingIn : Option state.Layer → (ℕ → ℕ → ℕ) → QuestionCost → Counts → Counts → Type 0
IsAskingIn None most asked old new = ⊥
IsAskingIn (Some layer) most asked old new = IsAsking layer (most_in layer most) asked old new

-- Answered or refused for want of memory, a question consults so many parts and touches so much at most of the layer; where there is none, or it is refused for
-- another cause, nothing is counted.
abbrev pub IsTouchingIn : {T : Type 0} → Option state.Layer → (ℕ → PartTouches) → Result T AskFault → Counts → Counts → Type 0
IsTouchingIn None touches result old new = new ≡ old
IsTouchingIn (Some layer) touches result old new = IsTouching (part_bound layer) (most_in layer (λ level n. most_of (touches level) n)) result old new

-- so many parts as the index of a layer has complete ones, of which no level has more than three, and as many live items as the layer has
abbrev pub IsEveryPartIn : Option LayerState → Index → ℕ → ℕ → Type 0
IsEveryPartIn None index parts live = ⊥
IsEveryPartIn (Some layer) index parts live = IsEveryPart (held_by layer.held index) parts × (live ≡ length (items_in layer))
