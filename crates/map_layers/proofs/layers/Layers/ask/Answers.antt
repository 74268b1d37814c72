use Rattle.std.proofs.Common.{rules, ◌≡◌, None, Some, sym, subst}
use Rattle.std.proofs.lemmas.Result.{IfOk-weaker}
use Rattle.map_model.specs.State.{layer_named}
use Rattle.map_layers.specs.Costs.{IsAskingIn, IsTouchingIn}
use Rattle.map_layers.specs.Layer.{layer_of}
use Rattle.map_layers.specs.Layers.{map_of, named}
use Rattle.map_questions.specs.Any.{question_of}
use Rattle.map_layers.specs.Questions.{touches_for, most_for}
use Rattle.map_layers.proofs.Answering.{IsAnswered-ask, unfound-ask}
use Rattle.map_layers.proofs.Asking.{IsAskingIn-of}
use Rattle.map_layers.proofs.Names.{layer_named-Some, layer_named-None}
use Rattle.map_layers.proofs.layers.Layers.ask.Goals as goal

pub returns-in-Some-clause-answered : goal.returns-in-Some-clause-answered
returns-in-Some-clause-answered g c =
    let name = c.args.name.now in
    let ls = c.args.self.now.layers in
    let l = c.in-Some.layer.now in
    let found : named name ls ≡ Some l = search rules in
    IsAnswered-ask (map_of c.args.self.now) name (question_of c.args.question.now) (layer_of l) (layer_named-Some name ls found) (λ given. given.0.answer) c.ask.result c.ask.ensures.refused
    (IfOk-weaker c.ask.result _ _ (λ given h. h.1) c.ask.ensures.answer)

pub returns-in-Some-clause-cost : goal.returns-in-Some-clause-cost
returns-in-Some-clause-cost g c =
    let name = c.args.name.now in
    let ls = c.args.self.now.layers in
    let l = c.in-Some.layer.now in
    let found : named name ls ≡ Some l = search rules in
    let here : layer_named name (map_of c.args.self.now).layers ≡ Some (layer_of l) = layer_named-Some name ls found in
    IfOk-weaker c.ask.result _ _
    (λ given asking. subst (λ s. IsAskingIn (layer_named name (map_of c.args.self.now).layers) (λ level n. most_for level given.1.parts n given.0.answer) given.1 s c.ask.new.steps)
    c.start_lap.ensures
    (IsAskingIn-of (layer_named name (map_of c.args.self.now).layers) (layer_of l) here c.ask.ensures.spread (λ level n. most_for level given.1.parts n given.0.answer) given.1 asking c.ask.ensures.reads))
    c.ask.ensures.cost

pub returns-in-Some-clause-touches : goal.returns-in-Some-clause-touches
returns-in-Some-clause-touches g c =
    let name = c.args.name.now in
    let ls = c.args.self.now.layers in
    let l = c.in-Some.layer.now in
    let found : named name ls ≡ Some l = search rules in
    let here : layer_named name (map_of c.args.self.now).layers ≡ Some (layer_of l) = layer_named-Some name ls found in
    let question = question_of c.args.question.now in
    subst (λ s. IsTouchingIn (layer_named name (map_of c.args.self.now).layers) (touches_for question) c.ask.result s c.ask.new.steps) c.start_lap.ensures
    (subst (λ o. IsTouchingIn o (touches_for question) c.ask.result c.start_lap.new.self c.ask.new.steps) (sym here) c.ask.ensures.touches)

pub returns-in-None-clause-answered : goal.returns-in-None-clause-answered
returns-in-None-clause-answered g c =
    let none : named c.args.name.now c.args.self.now.layers ≡ None = search rules in
    unfound-ask (map_of c.args.self.now) c.args.name.now (question_of c.args.question.now) (layer_named-None c.args.name.now c.args.self.now.layers none)
