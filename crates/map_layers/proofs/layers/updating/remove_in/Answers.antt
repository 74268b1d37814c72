use Rattle.std.proofs.Common.{rules, ◌≡◌, ◌<◌, None, Some, Err, IfOk, length, get_or, set, sym, subst, arith}
use Rattle.std.specs.List.{refill}
use Rattle.map_model.specs.Cost.{Drops}
use Rattle.map_layers.specs.Costs.{IsCostIn, IsToldIn}
use Rattle.map_layers.specs.Layer.{layer_of}
use Rattle.map_layers.specs.declared.faults.UpdateFault.TheVariants.{NoLayer}
use Rattle.map_shapes.specs.declared.spent.Spent.{Spent}
use Rattle.map_layers.specs.Memory.{KeepsMemory}
use Rattle.map_layers.specs.Layers.{place_named, map_with}
use Rattle.map_layers.proofs.Answering.{IsAnswered-drop, unfound-drop}
use Rattle.map_layers.proofs.Names.{named-none, layer_named-None, AllDiffer-at, limits-at, adds-at, found-at, IsRenewed-at, KeptIn-none, KeptIn-at}
use Rattle.map_layers.proofs.layers.updating.remove_in.Goals as goal

pub returns-in-Some : goal.returns-in-Some
returns-in-Some g c =
    let name = c.args.name.now in
    let k = c.in-Some.k in
    let items = c.args.layers.now.items in
    let ls = c.as_mut_slice.result.now in
    let d = c.index-as_mut_slice-k.result in
    let new = c.remove.new.self in
    let same = c.as_mut_slice.ensures.value in
    let found : place_named name ls ≡ Some k = search rules in
    let within : k < length ls = search rules in
    let here = sym (found-at name k items ls d new same found within c.requires.differ c.remove.ensures.name) in
    record {
      answered = λ version most.
          IsAnswered-drop (map_with version most items) (map_with version most (refill (length items) items (set ls k new))) name c.args.id (layer_of (get_or ls k d)) (layer_of new)
          (IsRenewed-at name k items ls d new same found within c.requires.differ c.remove.ensures.name version most) c.remove.result c.remove.ensures.removed;
      differ = AllDiffer-at name k items ls d new same found within c.requires.differ c.remove.ensures.name;
      limits = limits-at name k items ls d new same found within c.requires.differ c.remove.ensures.name c.remove.ensures.limit;
      adds = omega (arith, adds-at name k items ls d new same found within c.requires.differ c.remove.ensures.name, c.remove.ensures.adds);
      kept = KeptIn-at name k items ls d new same found within c.requires.differ c.remove.ensures.name (KeepsMemory c.remove.result) c.remove.ensures.kept;
      cost = subst (λ o. IsCostIn o Drops c.remove.result c.args.steps.now c.remove.new.steps) here c.remove.ensures.cost;
      told = subst (λ o. IfOk c.remove.result (λ spent. IsToldIn o Drops spent c.args.steps.now c.remove.new.steps)) here c.remove.ensures.told;
    }

pub returns-in-None-clause-answered : goal.returns-in-None-clause-answered
returns-in-None-clause-answered g c =
    let none : place_named c.args.name.now c.args.layers.now.items ≡ None = search rules in
    λ version most.
    unfound-drop (map_with version most c.args.layers.now.items) c.args.name.now c.args.id
    (layer_named-None c.args.name.now c.args.layers.now.items (named-none c.args.name.now 0 c.args.layers.now.items none))

pub returns-in-None-clause-kept : goal.returns-in-None-clause-kept
returns-in-None-clause-kept g c =
    let none : place_named c.args.name.now c.args.layers.now.items ≡ None = search rules in
    KeptIn-none c.args.name.now (KeepsMemory {T = Spent} (Err NoLayer)) c.args.layers.now.items (named-none c.args.name.now 0 c.args.layers.now.items none)
