use Rattle.std.proofs.Common.{◌∙◌, ap}
use Rattle.std.specs.List.{find}
use Rattle.std.proofs.Common.{bytes_eq}
use Rattle.map_model.specs.Form as model
use Rattle.script_lang.proofs.Table.{row_of_found, verb_of_result}
use Rattle.script_lang.proofs.form.find_form.Goals as goal

pub returns-clause-verb : goal.returns-clause-verb
returns-clause-verb c =
    verb_of_result c.rows.result.now c.args.word.now _ c.find_row.ensures c.rows.ensures.rows
    ∙ ap (find (λ v. bytes_eq (model.form v).word c.args.word.now)) c.rows.ensures.verbs

pub returns-clause-row : goal.returns-clause-row
returns-clause-row c = row_of_found c.rows.result.now c.args.word.now _ c.find_row.ensures c.rows.ensures.rows
