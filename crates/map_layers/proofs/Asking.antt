-- What a question to a layer costs.
use Rattle.std.proofs.Common.{◌≡◌, ◌∙◌, ℕ, false, true, Option, Some, if◌then◌else◌, ap, sym, subst}
use Rattle.query_laws.specs.StepLedger.{Counts}
use Rattle.map_model.specs.Cost.{greatest_level, parts_up_to, part_bound, batch_part_bound}
use Rattle.map_model.specs.State.{Layer, live_count}
use Rattle.map_shapes.specs.declared.question_cost.QuestionCost.{QuestionCost}
use Rattle.layer_kinds.specs.Asking as kinds
use Rattle.map_layers.specs.Costs.{IsAskingIn}

-- the bound where no parts are joined at once
pub part_bound-spread : (layer : Layer) → layer.indexes.batch ≡ false → part_bound layer ≡ parts_up_to (greatest_level (live_count layer))
part_bound-spread layer spread = ap (λ b. if b then batch_part_bound layer.inserted else parts_up_to (greatest_level (live_count layer))) spread

pub IsAskingIn-of : (o : Option Layer) (layer : Layer) (found : o ≡ Some layer) → layer.indexes.batch ≡ false → {old new : Counts} (most : ℕ → ℕ → ℕ) (asked : QuestionCost)
    → kinds.IsAsking (live_count layer) (most (greatest_level (live_count layer)) (live_count layer)) asked old new → kinds.IsReading old new → IsAskingIn o most asked old new
IsAskingIn-of o layer found spread {old} {new} most asked h reads = subst (λ l. IsAskingIn l most asked old new) (sym found) (record {
  spread = spread;
  bounds = record {
    part_bound_told = h.part_bound ∙ sym (part_bound-spread layer spread);
    parts_bounded = h.few_parts;
    some_part = λ _ some. h.some_part some;
    each_part = λ at_once. let clash : false ≡ true = sym spread ∙ at_once in absurd cc;
  };
  consulted = h.consulted;
  touches = h.touches;
  few_touches = h.few_touches;
  turns = reads.turns;
  marks = reads.marks;
})
