-- What a run over a made script executes and writes.
use Rattle.std.specs.Prelude.{◌≡◌, ℕ, ◌<◌, List, Option, Some, None}
use Rattle.map_io.specs.SinkTold.{Delivers, CutOff}
use Rattle.map_model.specs.Output.{Told}
use Rattle.map_model.specs.State.{Layer, State, layer_named, live_count}
use Rattle.map_session.specs.Session.{map_in, Obeys}
use Rattle.map_session.specs.Answering.{Moment}
use Rattle.workload_gen.specs.Made.{made, made_script}
use Rattle.workload_gen.specs.Summary.{summary_of, summary_text}
use Rattle.program_run.specs.declared.ended.Status.{Status}
use Rattle.program_run.specs.declared.ended.Status.TheVariants.{Clean, Refusals, Usage, ReadFault, WriteFault, TooLong, NoMemory}

-- how many items the layer of made scripts has
abbrev pub live_in : Option Layer → ℕ
live_in None = 0
live_in (Some layer) = live_count layer

-- how many items the layer of made scripts has in a map
abbrev pub live_made : State → ℕ
live_made state = live_in (layer_named made state.layers)

-- The script of a seed was executed, and P holds of the summary of its answers.
pub record Summarizes (seed size : ℕ) (start now : Moment) (P : List ℕ → Type 0) : Type 0 where
  pub told : List Told
  pub obeys : Obeys start.session start.counts (made_script seed size) told now.session now.counts
  pub written : P (summary_text (summary_of told) (live_made (map_in now.session)))

-- What was executed and written since the start, by how it ended: the summary whole, as Clean or Refusals, or a proper prefix of it, as
-- WriteFault; in no other way.
abbrev pub AnswersMade : (seed size : ℕ) → Moment → Status → Moment → Type 0
AnswersMade seed size start Clean now = Summarizes seed size start now (λ text. Delivers start.told now.told text 1) × (now.session.refused ≡ 0)
AnswersMade seed size start Refusals now = Summarizes seed size start now (λ text. Delivers start.told now.told text 1) × (0 < now.session.refused)
AnswersMade seed size start Usage now = ⊥
AnswersMade seed size start ReadFault now = ⊥
AnswersMade seed size start WriteFault now = Summarizes seed size start now (λ text. CutOff start.told now.told text 0)
AnswersMade seed size start TooLong now = ⊥
AnswersMade seed size start NoMemory now = ⊥
