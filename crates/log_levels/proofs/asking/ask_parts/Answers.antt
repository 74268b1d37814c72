use Rattle.std.proofs.Common.{◌≡◌, ◌+◌, ◌<◌, ◌∙◌, ◌++◌, List, get_or, length, take, sum_by, refl, ap, sym, subst, arith}
use Rattle.std.specs.List.{flat_map}
use Rattle.std.proofs.lemmas.List.Sums.{sum_by_more}
use Rattle.query_laws.specs.StepLedger.{Consults}
use Rattle.query_laws.proofs.Counting.{Consults-then}
use Rattle.builder_trait.specs.Parts.{live_of}
use Rattle.log_levels.proofs.Joining.{flat_map-more, asked_over-then}
use Rattle.log_levels.proofs.asking.ask_parts.Goals as goal

pub loop-part-preserved : goal.loop-part-preserved
loop-part-preserved g c =
    let now = c.args.asking.now in
    let parts = c.args.parts.now in
    let i = c.loop-part.part-index in
    let part = c.part-item.result in
    let live : g.row.P.Denot → List g.row.P-Item.Denot = λ p. live_of (g.P.Part.contents p) in
    let touches = g.P.Answers.ask_touches now.question in
    let laws = g.met.Q.Question.decomposable in
    let h = c.loop-part.invariant in
    let question : c.loop-part.asking.question ≡ now.question = ap (λ a. a.question) h.parts_asked in
    let less : i < length parts = c.loop-part-test.true in
    let here : part ≡ get_or parts i part = c.part-item.is in
    let items : flat_map live (take i parts) ++ live part ≡ flat_map live (take (i + 1) parts) =
    ap (λ p. flat_map live (take i parts) ++ live p) here ∙ flat_map-more live parts i part less in
    let sum : sum_by touches (take i parts) + touches part ≡ sum_by touches (take (i + 1) parts) =
    ap (λ p. sum_by touches (take i parts) + touches p) here ∙ sym (sum_by_more touches parts i part less) in
    record {
      parts_asked = asked_over-then laws now c.loop-part.asking c.part.new.self (flat_map live (take i parts)) (live part) i 1 c.requires.lawful
          h.parts_asked c.in_ok-part.ensures.joined items refl;
      lawful = subst (λ q. g.Q.Question.lawful q c.part.new.self.so_far) question c.part.ensures.lawful;
      consulted = omega (arith, h.consulted, c.part.ensures.consulted);
      spent = subst (λ n. Consults c.args.steps.now c.part.new.steps (i + 1) n) sum
          (Consults-then h.spent (subst (λ q. Consults c.loop-part.steps c.part.new.steps 1 (g.P.Answers.ask_touches q part)) question c.part.ensures.cost));
    }
