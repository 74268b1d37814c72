use Rattle.std.proofs.Common.{ap, sym, subst, ◌∙◌}
use Rattle.rank_rows.specs.declared.store.Store.{Store}
use Rattle.rank_rows.specs.Putting.{IsWordPut}
use Rattle.rank_rows.proofs.Words.{IsPut-weighed}
use Rattle.rank_rows.proofs.store.Store.put.Goals as goal
use Rattle.rank_rows.proofs.store.Store.put.Goals.{then-n-eq0, else-n-eq0}

pub returns-clause-put : goal.returns-clause-put
returns-clause-put g c =
    let put = IsPut-weighed c.args.second c.args.weight c.args.ones c.args.before c.args.self.now c.if-n-eq0.self.words c.if-n-eq0.self.weights c.push.new.self
    c.len-n.result c.len-n.ensures.value in
    let P : Store → Type 0 = λ s. IsWordPut c.len-n.result c.args.second c.args.ones c.args.before c.args.self.now.words s.words in
    elim c.if-n-eq0.branch [
      | then-n-eq0 w ↦ put (subst P (sym w.self-is) w.open_word.ensures.put) (ap (λ (s : Store). s.weights) w.self-is ∙ w.open_word.ensures.weights) c.push.ensures.appended
      | else-n-eq0 w ↦ put (subst P (sym w.self-is) (w.set_second.ensures.put c.args.ones c.args.before)) (ap (λ (s : Store). s.weights) w.self-is ∙ w.set_second.ensures.weights)
          c.push.ensures.appended
    ]
