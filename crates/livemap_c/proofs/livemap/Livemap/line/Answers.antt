use Rattle.livemap_c.proofs.livemap.Livemap.line.Goals as goal

pub returns : goal.returns
returns g = (g.answer_line.result, g.code.ensures, g.answer_line.ensures)
