use Rattle.std.proofs.Common.{sym, subst}
use Rattle.rank_rows.specs.Putting.{IsWordPut}
use Rattle.rank_rows.proofs.Words.{IsWordPut-opened}
use Rattle.rank_rows.proofs.store.Store.open_word.Goals as goal

pub returns-clause-put : goal.returns-clause-put
returns-clause-put g c =
    subst (IsWordPut c.args.n c.args.second c.args.ones c.args.weight c.args.self.now.words) (sym c.push.ensures.appended)
    (IsWordPut-opened c.args.n c.args.ones c.args.weight c.args.second c.args.self.now.words c.requires.first)
