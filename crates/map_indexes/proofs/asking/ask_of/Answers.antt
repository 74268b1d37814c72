use Rattle.std.proofs.Common.{◌∙◌, Ok, Err, length, refl, ap, sym, subst}
use Rattle.std.specs.Prelude.{IfOk}
use Rattle.layer_kinds.proofs.Items.{as_many_items}
use Rattle.layer_kinds.specs.Asking.{IsAsking, ReadsAtMost, most_of}
use Rattle.layer_kinds.specs.Asking as kinds
use Rattle.map_model.specs.Answer.{kind_asked, index_of}
use Rattle.map_model.specs.Cost.{greatest_level, parts_up_to}
use Rattle.map_layers.specs.Layer.{layer_seen, IsEveryPart}
use Rattle.map_layers.specs.Questions.{touches_for, most_for}
use Rattle.map_indexes.proofs.ByIndex.{of_kind, there_by, refused_by, touching, IsEveryPart-of}
use Rattle.map_indexes.proofs.asking.ask_of.Goals as goal

pub returns : goal.returns
returns g c =
    let e = c.in_ok-given.ensures in
    let l = c.args.layer.now in
    let asked = c.in_ok-given.asked in
    let question = g.Q.OneQuestion.asks c.args.question.now in
    let index = g.X.Has.index l.indexes in
    let held = g.X.NamedIndexes.held l.indexes in
    let kind = of_kind g.R.Item.Shaped.kind (kind_asked question) (g.met.Q.MapQuestion.asks_kind c.args.question.now) in
    let many = as_many_items g.R.Item.Shaped.item_of l.entries in
    let m = length l.entries in
    let level = greatest_level m in
    let old = c.args.steps.now in
    let new = c.ask_layer.new.steps in
    record {
      spread = refl;
      refused = (kind, there_by held (index_of question) index c.requires.there ∙ e.refused.0, c.requires.waits ∙ e.refused.1);
      answer = (ap (λ a. a.question) c.new.ensures ∙ ap g.Q.OneQuestion.asks e.question, ap (λ a. a.answer) c.new.ensures ∙ e.answer);
      every_part = (
        subst (λ h. IsEveryPart h asked.parts) (sym c.requires.there) (IsEveryPart-of index asked.parts e.every_part.0),
        e.every_part.1 ∙ sym (ap (λ a. a.parts) c.new.ensures),
        ap (λ a. a.live) c.new.ensures ∙ e.every_part.2 ∙ sym many,
      );
      cost = subst (λ n. IsAsking n (most_for (greatest_level n) asked.parts n c.new.result.answer) asked old new) (sym many)
          (subst (λ most. IsAsking m most asked old new)
          (c.requires.most level asked.parts m c.in_ok-given.given.answer ∙ sym (ap (λ a. most_for level asked.parts m a.answer) c.new.ensures)) e.cost);
      touches = subst (λ n. ReadsAtMost (parts_up_to (greatest_level n)) (most_of (touches_for question (greatest_level n)) n) old new) (sym many)
          (subst (λ t. ReadsAtMost (parts_up_to level) (most_of t m) old new) (c.requires.touches level) e.touches);
      reads = e.reads;
    }
