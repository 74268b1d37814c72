use Rattle.std.proofs.Common.{List, ℕ, [], ◌∷◌, ◌++◌, subst}
use Rattle.map_model.specs.Text.{lines}
use Rattle.map_model.specs.Output.{Output}
use Rattle.map_model.proofs.Outputs.{Output-split}
use Rattle.map_model.proofs.TextLemmas.{lines-append}
use Rattle.map_model.proofs.outputs_split.Goals as goal

pub returns : goal.returns
returns c = λ ledger start end first second written p.
    Output-split ledger start end (lines (first ++ 10 ∷ [])) (lines second) written
    (subst (λ (ls : List (List ℕ)). Output ledger start ls written end) (lines-append first second) p)
