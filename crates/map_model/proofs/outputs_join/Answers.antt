use Rattle.std.proofs.Common.{List, ℕ, [], ◌∷◌, ◌++◌, sym, subst}
use Rattle.map_model.specs.Text.{lines}
use Rattle.map_model.specs.Output.{Output}
use Rattle.map_model.proofs.Outputs.{Output-append}
use Rattle.map_model.proofs.TextLemmas.{lines-append}
use Rattle.map_model.proofs.outputs_join.Goals as goal

pub returns : goal.returns
returns c = λ ledger start middle end first second v w p q.
    subst (λ (ls : List (List ℕ)). Output ledger start ls (v ++ w) end) (sym (lines-append first second))
    (Output-append ledger start middle end (lines (first ++ 10 ∷ [])) (lines second) v w p q)
