use Rattle.std.proofs.Common.{rules, ◌≡◌, ◌∙◌, true, false, [], ◌∷◌, ◌++◌, ℕ, length, map, bytes_eq, refl, ap, sym, subst, arith}
use Rattle.std.specs.Prelude.{nat_le}
use Rattle.std.specs.List.{list_any, All}
use Rattle.std.specs.Option.{is_some}
use Rattle.std.proofs.lemmas.Bool.{le-leb, lt-leb}
use Rattle.std.proofs.lemmas.List.{append-nil, length-map, map-append}
use Rattle.std.proofs.lemmas.List.Elements.{All-push}
use Rattle.std.proofs.lemmas.List.Sums.{sum_by_push}
use Rattle.map_model.specs.State.{Layer, most_layers}
use Rattle.map_model.specs.Reply.{Made}
use Rattle.map_model.specs.Machine.{replied}
use Rattle.map_shapes.specs.Kind.{kind_of}
use Rattle.map_shapes.specs.IndexSet.{index_set_of}
use Rattle.map_layers.specs.Layer.{name_in, limit_in, adds_in, layer_of}
use Rattle.map_layers.specs.Layers.{LayersState, map_of, named, names_of, limits_of, adds_of, AllDiffer}
use Rattle.map_layers.proofs.Names.{state_of-same, is_some-seen, is_taken-named, is_among-named, AllDiffer-push}
use Rattle.map_layers.proofs.Answering.{step-make}
use Rattle.map_layers.proofs.layers.Layers.create.Goals as goal

pub returns-then-is_some-clause-answered : goal.returns-then-is_some-clause-answered
returns-then-is_some-clause-answered g c =
    let there : is_some c.layer.result ≡ true = search rules in
    let taken : is_some (named c.args.name.now c.args.self.now.layers) ≡ true = sym (ap is_some c.layer.ensures) ∙ is_some-seen _ c.layer.result there in
    step-make (map_of c.args.self.now) c.args.name.now (kind_of c.args.kind) (index_set_of c.args.indexes) true (nat_le most_layers (length (map_of c.args.self.now).layers))
    (is_taken-named c.args.name.now c.args.self.now.layers ∙ taken) refl

pub returns-then-len-ge-MOST_LAYERS-clause-answered : goal.returns-then-len-ge-MOST_LAYERS-clause-answered
returns-then-len-ge-MOST_LAYERS-clause-answered g c =
    let there : is_some c.layer.result ≡ false = search rules in
    let free : is_some (named c.args.name.now c.args.self.now.layers) ≡ false = sym (ap is_some c.layer.ensures) ∙ is_some-seen _ c.layer.result there in
    let held : c.len.result ≡ length c.args.self.now.layers = search rules in
    step-make (map_of c.args.self.now) c.args.name.now (kind_of c.args.kind) (index_set_of c.args.indexes) false true
    (is_taken-named c.args.name.now c.args.self.now.layers ∙ free)
    (le-leb most_layers (length (map_of c.args.self.now).layers) (omega (arith, c.if-len-ge-MOST_LAYERS.true, held, length-map c.args.self.now.layers layer_of)))

pub invariant_of-self : goal.invariant_of-self
invariant_of-self g c =
    let ls = c.self.inside.layers.items in
    let there : is_some c.layer.result ≡ false = search rules in
    let same : ls ≡ c.args.self.now.layers = search rules in
    let free : is_some (named c.args.name.now ls) ≡ false =
    ap (λ xs. is_some (named c.args.name.now xs)) same ∙ sym (ap is_some c.layer.ensures) ∙ is_some-seen _ c.layer.result there in
    let named_as : name_in c.new.result ≡ c.args.name.now = ap (λ m. m.name) c.new.ensures.made in
    let unused : list_any (λ other. bytes_eq other (name_in c.new.result)) (names_of ls) ≡ false =
    ap (λ n. list_any (λ other. bytes_eq other n) (names_of ls)) named_as ∙ sym (is_among-named c.args.name.now ls) ∙ free in
    let no_adds : adds_in c.new.result ≡ 0 = ap (λ m. m.inserted) c.new.ensures.made in
    let may : ℕ → Type 0 = λ n. n ≡ c.self.inside.most_items in
    let limits : limits_of (ls ++ c.new.result ∷ []) ≡ limits_of ls ++ limit_in c.new.result ∷ [] = map-append limit_in ls (c.new.result ∷ []) in
    let names : names_of (ls ++ c.new.result ∷ []) ≡ names_of ls ++ name_in c.new.result ∷ [] = map-append name_in ls (c.new.result ∷ []) in (
      subst (λ xs. AllDiffer (names_of xs)) (sym c.push.ensures.items)
          (subst AllDiffer (sym names) (AllDiffer-push (names_of ls) (name_in c.new.result) c.self.invariant.0 unused)),
      omega (arith, c.self.invariant.1, no_adds, ap adds_of c.push.ensures.items, sum_by_push adds_in ls c.new.result),
      subst (λ xs. All may (limits_of xs)) (sym c.push.ensures.items)
          (subst (All may) (sym limits) (All-push may (limits_of ls) (limit_in c.new.result) c.self.invariant.2 c.new.ensures.limit)),
      c.self.invariant.3,
    )

pub returns-clause-answered : goal.returns-clause-answered
returns-clause-answered g c =
    let ls = c.args.self.now.layers in
    let there : is_some c.layer.result ≡ false = search rules in
    let free : is_some (named c.args.name.now ls) ≡ false = sym (ap is_some c.layer.ensures) ∙ is_some-seen _ c.layer.result there in
    let held : c.len.result ≡ length ls = search rules in
    let items : c.push.new.self.items ≡ ls ++ c.new.result ∷ [] = search rules in
    step-make (map_of c.args.self.now) c.args.name.now (kind_of c.args.kind) (index_set_of c.args.indexes) false false
    (is_taken-named c.args.name.now ls ∙ free)
    (lt-leb most_layers (length (map_of c.args.self.now).layers) (omega (arith, c.if-len-ge-MOST_LAYERS.false, held, length-map ls layer_of)))
    ∙ ap (λ s. replied s Made) (state_of-same (sym (ap (λ (s : LayersState). s.version) c.self.view_is)) (sym (ap (λ (s : LayersState). s.most_items) c.self.view_is))
    (sym (ap (map layer_of) items ∙ map-append layer_of ls (c.new.result ∷ []) ∙ ap (λ (l : Layer). map layer_of ls ++ l ∷ []) c.new.ensures.made)))

pub returns-then-is_some-clause-kept : goal.returns-then-is_some-clause-kept
returns-then-is_some-clause-kept g c = ([], sym (append-nil c.args.self.now.layers))

pub returns-then-len-ge-MOST_LAYERS-clause-kept : goal.returns-then-len-ge-MOST_LAYERS-clause-kept
returns-then-len-ge-MOST_LAYERS-clause-kept g c = ([], sym (append-nil c.args.self.now.layers))

pub returns-clause-kept : goal.returns-clause-kept
returns-clause-kept g c =
    let items : c.push.new.self.items ≡ c.args.self.now.layers ++ c.new.result ∷ [] = search rules in
    (c.new.result ∷ [], items)
