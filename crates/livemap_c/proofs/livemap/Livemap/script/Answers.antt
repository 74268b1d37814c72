use Rattle.livemap_c.proofs.livemap.Livemap.script.Goals as goal

pub returns : goal.returns
returns g = (g.answer_script.result, g.code.ensures, g.answer_script.ensures)
