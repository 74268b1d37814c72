-- What an index holds and answers, by its name.
use Rattle.std.proofs.Common.{◌≡◌, ℕ, ◌+◌, ◌∙◌, ◌≤◌, true, List, [], ◌∷◌, Option, Some, None, Result, Ok, Err, length, map, refl, sym, ap}
use Rattle.std.specs.Prelude.{sum_by}
use Rattle.std.specs.Option.{is_some}
use Rattle.std.proofs.lemmas.List.Elements.{All-map}
use Rattle.std.proofs.lemmas.List.Sums.{sum_by-cons}
use Rattle.query_laws.specs.StepLedger.{Counts}
use Rattle.log_levels.specs.Levels.{parts_of}
use Rattle.log_levels.specs.Slots.{Slots}
use Rattle.map_model.specs.Answer.{Question, index_of}
use Rattle.map_model.specs.Command.{lists_ids}
use Rattle.map_model.specs.Index.{Index, Range, Near, Top, Stab, Cross, has}
use Rattle.map_model.specs.Machine.{is_same_kind}
use Rattle.map_model.specs.Shape.{Kind, Points, Segments}
use Rattle.map_model.specs.State as state
use Rattle.map_model.specs.State.{wait_of}
use Rattle.layer_kinds.specs.declared.faults.AskFault as kind_ask
use Rattle.layer_kinds.specs.declared.faults.AskFault.TheVariants as of_ask
use Rattle.layer_kinds.specs.Asking as kinds
use Rattle.layer_kinds.specs.Indexing.{Placed, Absent, Whole, Late, is_there, wait_in}
use Rattle.layer_kinds.specs.Layered.{IsAskRefusal}
use Rattle.map_layers.specs.Costs.{IsTouching}
use Rattle.map_layers.specs.Faults.{ask_result_of}
use Rattle.map_layers.specs.Layer.{Held, held_by, set_of, IsEveryPart}
use Rattle.map_layers.specs.Questions.{IsOfKind, IsThere, IsWaiting, IsRefusal}
use Rattle.map_indexes.specs.Held.{parts_held}
use Rattle.map_indexes.specs.IndexesLaws.{there-held}

-- ---- what an index holds

sum_of-parts : {P I : Type 0} (ls : List (Slots P I)) → parts_of ls ≡ sum_by (λ n. n) (map (λ l. length l.parts) ls)
sum_of-parts [] = refl
sum_of-parts (l ∷ ls) = ap (λ n. length l.parts + n) (sum_of-parts ls) ∙ sym (sum_by-cons (λ n. n) (length l.parts) (map (λ m. length m.parts) ls))

pub IsEveryPart-of : {P I : Type 0} (index : Placed P I) (parts : ℕ) → kinds.IsEveryPart index parts → IsEveryPart (parts_held index) parts
IsEveryPart-of Absent parts h = absurd h
IsEveryPart-of (Whole i) parts h = (h.0 ∙ sum_of-parts i.main.levels, All-map (λ n. n ≤ 3) (λ l. length l.parts) i.main.levels h.1)
IsEveryPart-of (Late l) parts h = absurd h

-- whether it is there

held-there : (held : Held) (i : Index) → has (set_of held) i ≡ is_some (held_by held i)
held-there held Range = refl
held-there held Near = refl
held-there held Top = refl
held-there held Stab = refl
held-there held Cross = refl

pub there_by : {P I : Type 0} (held : Held) (i : Index) (index : Placed P I) → held_by held i ≡ parts_held index → has (set_of held) i ≡ is_there index
there_by held i index is = held-there held i ∙ ap is_some is ∙ there-held index

-- ---- whether a question is about a kind

pub of_kind : (k asked : Kind) → asked ≡ k → is_same_kind k asked ≡ true
of_kind Points asked is = ap (is_same_kind Points) is
of_kind Segments asked is = ap (is_same_kind Segments) is

-- ---- what is refused

module _ {P I : Type 0} (layer : state.Layer) (question : Question) (index : Placed P I) (kind : IsOfKind layer question true)
    (there : has layer.indexes (index_of question) ≡ is_there index) (waits : wait_of layer.waits (index_of question) ≡ wait_in index) where
  pub refused_by : {T : Type 0} (r : Result T kind_ask.AskFault) → IsAskRefusal index (lists_ids question) r → IsRefusal layer question (ask_result_of r)
  refused_by (Ok given) h = (kind, there ∙ h.0, waits ∙ h.1)
  refused_by (Err of_ask.NoIndex) h = (kind, there ∙ h)
  refused_by (Err (of_ask.Building items)) h = (kind, there ∙ h.0, waits ∙ sym h.2, h.1)
  refused_by (Err of_ask.NoMemory) h = (kind, there ∙ h.0, waits ∙ h.1, h.2)

pub touching : {T : Type 0} (r : Result T kind_ask.AskFault) (parts most : ℕ) (old new : Counts) → kinds.IsTouching parts most r old new
    → IsTouching parts most (ask_result_of r) old new
touching (Ok given) parts most old new h = h
touching (Err of_ask.NoIndex) parts most old new h = h
touching (Err (of_ask.Building items)) parts most old new h = h
touching (Err of_ask.NoMemory) parts most old new h = h
