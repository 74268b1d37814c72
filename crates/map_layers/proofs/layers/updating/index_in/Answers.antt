use Rattle.std.proofs.Common.{rules, ◌≡◌, ◌<◌, None, Some, Err, length, get_or, set, arith}
use Rattle.std.specs.List.{refill}
use Rattle.map_shapes.specs.IndexSet.{index_of}
use Rattle.map_layers.specs.Layer.{layer_of}
use Rattle.map_layers.specs.declared.faults.IndexFault.{IndexFault}
use Rattle.map_layers.specs.declared.faults.IndexFault.TheVariants.{NoLayer}
use Rattle.map_layers.specs.Memory.{AddsMemory}
use Rattle.map_layers.specs.Layers.{place_named, map_with}
use Rattle.map_layers.proofs.Answering.{IsAnswered-index, unfound-index}
use Rattle.map_layers.proofs.Names.{named-none, layer_named-None, AllDiffer-at, limits-at, adds-at, IsRenewed-at, KeptIn-none, KeptIn-at}
use Rattle.map_layers.proofs.layers.updating.index_in.Goals as goal

pub returns-in-Some : goal.returns-in-Some
returns-in-Some g c =
    let name = c.args.name.now in
    let k = c.in-Some.k in
    let items = c.args.layers.now.items in
    let ls = c.as_mut_slice.result.now in
    let d = c.index-as_mut_slice-k.result in
    let new = c.add_index.new.self in
    let same = c.as_mut_slice.ensures.value in
    let found : place_named name ls ≡ Some k = search rules in
    let within : k < length ls = search rules in
    record {
      answered = λ version most.
          IsAnswered-index (map_with version most items) (map_with version most (refill (length items) items (set ls k new))) name (index_of c.args.index) (layer_of (get_or ls k d)) (layer_of new)
          (IsRenewed-at name k items ls d new same found within c.requires c.add_index.ensures.name version most) c.add_index.result c.add_index.ensures.begun;
      differ = AllDiffer-at name k items ls d new same found within c.requires c.add_index.ensures.name;
      limits = limits-at name k items ls d new same found within c.requires c.add_index.ensures.name c.add_index.ensures.limit;
      adds = omega (arith, adds-at name k items ls d new same found within c.requires c.add_index.ensures.name, c.add_index.ensures.adds);
      kept = KeptIn-at name k items ls d new same found within c.requires c.add_index.ensures.name (AddsMemory c.add_index.result) c.add_index.ensures.kept;
    }

pub returns-in-None-clause-answered : goal.returns-in-None-clause-answered
returns-in-None-clause-answered g c =
    let none : place_named c.args.name.now c.args.layers.now.items ≡ None = search rules in
    λ version most.
    unfound-index (map_with version most c.args.layers.now.items) c.args.name.now (index_of c.args.index)
    (layer_named-None c.args.name.now c.args.layers.now.items (named-none c.args.name.now 0 c.args.layers.now.items none))

pub returns-in-None-clause-kept : goal.returns-in-None-clause-kept
returns-in-None-clause-kept g c =
    let none : place_named c.args.name.now c.args.layers.now.items ≡ None = search rules in
    KeptIn-none c.args.name.now (AddsMemory {T = Unit {0}} {F = IndexFault} (Err NoLayer)) c.args.layers.now.items (named-none c.args.name.now 0 c.args.layers.now.items none)
