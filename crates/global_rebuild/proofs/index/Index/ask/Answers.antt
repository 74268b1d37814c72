use Rattle.std.proofs.Common.{◌≡◌, ◌+◌, ◌*◌, ◌∙◌, length, map, ap, subst, arith}
use Rattle.query_laws.proofs.Values.{value-Permuted}
use Rattle.log_method.proofs.Forecasting.{when_ok}
use Rattle.log_levels.specs.Levels.{live_items, parts_of}
use Rattle.log_method.specs.Height.{AreFew}
use Rattle.log_method.proofs.FewParts.{parts-small}
use Rattle.chain_walk.specs.Walk.{live_in}
use Rattle.global_rebuild.proofs.Weights.{as_many, main_within}
use Rattle.global_rebuild.proofs.index.Index.ask.Goals as goal

pub returns-clause-joined : goal.returns-clause-joined
returns-clause-joined g c es stamps h =
    let asking = c.args.asking.now in
    let q = asking.question in
    let contents = g.B.Part.Part.contents in
    let levels = c.self.inside.main.levels in
    let value : g.Q.Question.value q (live_items contents levels) ≡ g.Q.Question.value q (map (λ e. e.item) es) =
    ap (λ i. g.Q.Question.value q (live_items contents i.main.levels)) c.self.view_is ∙ value-Permuted (g.met.Q.Question.decomposable q) h.live in
    let live : length (live_items contents levels) ≡ length es =
    ap (λ i. length (live_items contents i.main.levels)) c.self.view_is ∙ as_many contents g.B.Item.Item.stamp c.args.self.now es h in
    let parts = ap (λ i. parts_of i.main.levels) c.self.view_is in
    when_ok c.ask.result
    (λ joined. joined ∙ (λ i. record asking { so_far = g.Q.Question.join q asking.so_far (value i); parts = asking.parts + parts i; live = asking.live + live i }))
    c.ask.ensures.joined.if_ok

pub returns-clause-few : goal.returns-clause-few
returns-clause-few g c =
    let contents = g.B.Part.Part.contents in
    let levels = c.self.inside.main.levels in
    let few = c.ask.ensures.few in
    let light = main_within c.self.view_is c.self.invariant in
    let most = 2 * live_in contents c.args.self.now.main + 9 in
    subst (λ i. AreFew contents most i.main.levels) c.self.view_is (record {
      on_level = c.ask.ensures.three.three;
      parts = λ g' less. few.parts g' (omega (arith, less, light));
      sizes = λ g' less. parts-small contents levels c.ask.ensures.three.of_level g' (omega (arith, less, light));
      items = omega (arith, few.items, light);
    })
