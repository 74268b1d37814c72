-- What a layer of one kind did, as the definitions have it.
use Rattle.std.proofs.Common.{◌≡◌, ◌∙◌, ℕ, ◌+◌, ◌*◌, ◌<◌, ◌≤◌, Bool, true, false, ◌&&◌, List, [], ◌∷◌, Option, Some, None, Result, Ok, Err, length, map, refl, sym, ap, ap₂, subst, arith}
use Rattle.std.specs.Prelude.{IfOk}
use Rattle.std.specs.Option.{option_map}
use Rattle.std.specs.Result.{is_ok}
use Rattle.query_laws.specs.StepLedger.{Counts}
use Rattle.log_levels.specs.Cost.{IsWithin}
use Rattle.map_structures.specs.Touches.{touches_at}
use Rattle.map_model.specs.Cost.{Rate, rate_of, Update, greatest_level, turn_bound, mark_bound, bounds_at, ready_count}
use Rattle.map_model.specs.Cost as model
use Rattle.map_model.specs.Index.{Index, one_if, sum_over}
use Rattle.map_model.specs.Machine.{is_same_kind}
use Rattle.map_model.specs.Shape as shapes
use Rattle.map_model.specs.State as state
use Rattle.map_model.specs.State.{Item, Waits, live_count, wait_after}
use Rattle.map_shapes.specs.declared.spent.Spent.{Spent}
use Rattle.layer_kinds.specs.declared.faults.Standing.{Standing}
use Rattle.layer_kinds.specs.declared.faults.UpdateFault.{UpdateFault}
use Rattle.layer_kinds.specs.declared.faults.UpdateFault.TheVariants.{Duplicate, Unknown, Full, NoMemory}
use Rattle.layer_kinds.specs.Costs as kinds
use Rattle.layer_kinds.specs.Layered.{Layered, items_of, IsAdd, IsMove, IsRemoval, IsWaiting}
use Rattle.layer_kinds.specs.Memory as memories
use Rattle.layer_kinds.specs.Memory.{Memory}
use Rattle.layer_kinds.specs.Shares as shares
use Rattle.layer_kinds.specs.Shares.{Rates, all_after, share}
use Rattle.layer_kinds.proofs.Items.{as_many_items}
use Rattle.map_layers.specs.Costs.{IsInBounds, IsCost, IsTold}
use Rattle.map_layers.specs.Faults.{update_result_of}
use Rattle.map_layers.specs.Layer.{Held, set_of, each_after, layer_seen, IsAddTo, IsMoveTo, IsRemovalFrom}
use Rattle.map_layers.specs.Memory.{KeepsMemory}

-- no number is changed
after_none : (waits : shares.Waits) → all_after (λ n. n) waits ≡ waits
after_none [] = refl
after_none (None ∷ waits) = ap (λ ws. None ∷ ws) (after_none waits)
after_none (Some n ∷ waits) = ap (λ ws. Some n ∷ ws) (after_none waits)

pub keeps_memory : {T : Type 0} (r : Result T UpdateFault) (old new : List Memory) → memories.KeepsMemory r old new → KeepsMemory (update_result_of r) old new
keeps_memory (Ok done) old new kept = kept
keeps_memory (Err (Duplicate id)) old new kept = kept
keeps_memory (Err (Unknown id)) old new kept = kept
keeps_memory (Err Full) old new kept = kept
keeps_memory (Err NoMemory) old new kept = kept

pub one_more : {T : Type 0} (r : Result T UpdateFault) (old new : ℕ) → new ≡ old + one_if (is_ok r) → new ≤ old + 1
one_more (Ok done) old new is = omega (arith, is)
one_more (Err fault) old new is = omega (arith, is)

-- for how many items each index waits after an update
abbrev HasWaited : {T : Type 0} → Bool → ℕ → List Item → (old new : Waits) → Result T UpdateFault → Type 0
HasWaited comes id items old new (Ok done) = new ≡ each_after (wait_after comes id items) old
HasWaited comes id items old new (Err fault) = new ≡ old

module _ {X I : Type 0} (kind : shapes.Kind) (item_of : I → Item) (held : X → Held) where
  -- the same by name
  pub has_waited : (waits : X → shares.Waits) → ((s t : X) (after : ℕ → ℕ) → after 0 ≡ 0 → waits t ≡ all_after after (waits s) → (held t).waits ≡ each_after after (held s).waits)
      → (comes : Bool) (id : ℕ) (items : List Item) (s t : X) {T : Type 0} (r : Result T UpdateFault) → IsWaiting comes id items (waits s) (waits t) r
      → HasWaited comes id items (held s).waits (held t).waits r
  has_waited waits by_waits comes id items s t (Ok done) is = by_waits s t (wait_after comes id items) refl is
  has_waited waits by_waits comes id items s t (Err fault) is = by_waits s t (λ n. n) refl (is ∙ sym (after_none (waits s)))

  module _ (old new : Layered X I) (same_name : new.name ≡ old.name) (same_set : set_of (held new.indexes) ≡ set_of (held old.indexes)) where
    abbrev layer : state.Layer
    layer = layer_seen kind item_of held old

    abbrev layer' : state.Layer
    layer' = layer_seen kind item_of held new

    changed : (waits : Waits) (inserted : ℕ) (items : List Item) → (held new.indexes).waits ≡ waits → new.adds ≡ inserted → items_of item_of new.entries ≡ items
        → layer' ≡ record layer { waits = waits; inserted = inserted; items = items }
    changed waits inserted items is_waits is_inserted is_items = λ i. record {
      name = same_name i;
      kind = kind;
      indexes = same_set i;
      waits = is_waits i;
      inserted = is_inserted i;
      items = is_items i;
    }

    stays : items_of item_of new.entries ≡ items_of item_of old.entries → new.adds ≡ old.adds + 0 → (held new.indexes).waits ≡ (held old.indexes).waits → layer' ≡ layer
    stays items adds waits = changed (held old.indexes).waits old.adds (items_of item_of old.entries) waits (omega (arith, adds)) items

    pub added_to : (most : ℕ) (item : Item) {T : Type 0} (r : Result T UpdateFault) → is_same_kind kind (shapes.kind_of item.shape) ≡ true
        → IsAdd most (items_of item_of old.entries) item (items_of item_of new.entries) r → new.adds ≡ old.adds + one_if (is_ok r)
        → HasWaited true item.id (items_of item_of old.entries) (held old.indexes).waits (held new.indexes).waits r → IsAddTo most layer item layer' (update_result_of r)
    added_to most item (Ok done) of_kind is adds waits = (of_kind, is.0, is.1, changed _ _ _ waits adds is.2)
    added_to most item (Err (Duplicate id)) of_kind is adds waits = (of_kind, is.0, is.1, stays is.2 adds waits)
    added_to most item (Err (Unknown id)) of_kind is adds waits = is
    added_to most item (Err Full) of_kind is adds waits = (of_kind, is.0, is.1, stays is.2 adds waits)
    added_to most item (Err NoMemory) of_kind is adds waits = (of_kind, is.0, is.1, stays is.2 adds waits)

    pub moved_to : (item : Item) {T : Type 0} (r : Result T UpdateFault) → is_same_kind kind (shapes.kind_of item.shape) ≡ true
        → IsMove (items_of item_of old.entries) item (items_of item_of new.entries) r → new.adds ≡ old.adds + one_if (is_ok r)
        → HasWaited true item.id (items_of item_of old.entries) (held old.indexes).waits (held new.indexes).waits r → IsMoveTo layer item layer' (update_result_of r)
    moved_to item (Ok done) of_kind is adds waits = (of_kind, is.0, changed _ _ _ waits adds is.1)
    moved_to item (Err (Duplicate id)) of_kind is adds waits = is
    moved_to item (Err (Unknown id)) of_kind is adds waits = (of_kind, is.0, is.1, stays is.2 adds waits)
    moved_to item (Err Full) of_kind is adds waits = is
    moved_to item (Err NoMemory) of_kind is adds waits = (of_kind, is.0, stays is.1 adds waits)

    pub removed_from : (id : ℕ) {T : Type 0} (r : Result T UpdateFault) → IsRemoval (items_of item_of old.entries) id (items_of item_of new.entries) r → new.adds ≡ old.adds
        → HasWaited false id (items_of item_of old.entries) (held old.indexes).waits (held new.indexes).waits r → IsRemovalFrom layer id layer' (update_result_of r)
    removed_from id (Ok done) is adds waits = (is.0, changed _ _ _ waits adds is.1)
    removed_from id (Err (Duplicate other)) is adds waits = is
    removed_from id (Err (Unknown other)) is adds waits = (is.0, is.1, changed _ _ _ waits adds is.2)
    removed_from id (Err Full) is adds waits = is
    removed_from id (Err NoMemory) is adds waits = (is.0, changed _ _ _ waits adds is.1)

  -- ---- costs

  module _ (old : Layered X I) (rates : Rates) (sums : (f : Rate → ℕ) → share f rates ≡ sum_over (set_of (held old.indexes)) (λ i. f (rate_of i))) (update : Update) where
    abbrev seen_layer : state.Layer
    seen_layer = layer_seen kind item_of held old

    abbrev n : ℕ
    n = length old.entries

    turns_told : kinds.turns_of update rates n ≡ turn_bound update seen_layer
    turns_told = ap (λ k. kinds.turns_of update rates k) (sym (as_many_items item_of old.entries)) ∙ sums (λ rate. model.turns_of update (bounds_at rate (live_count seen_layer)))

    marks_told : kinds.marks_of update rates n ≡ mark_bound update seen_layer
    marks_told = ap (λ k. kinds.marks_of update rates k) (sym (as_many_items item_of old.entries)) ∙ sums (λ rate. model.marks_of update (bounds_at rate (live_count seen_layer)))

    in_bounds : (a b : Counts) → kinds.IsInBounds update rates n a b → IsInBounds seen_layer update a b
    in_bounds a b h =
        subst (λ t. IsWithin t (mark_bound update seen_layer) (touches_at (greatest_level (live_count seen_layer))) a b) turns_told
        (subst (λ m. IsWithin (kinds.turns_of update rates n) m (touches_at (greatest_level (live_count seen_layer))) a b) marks_told
        (subst (λ k. IsWithin (kinds.turns_of update rates n) (kinds.marks_of update rates n) (touches_at (greatest_level k)) a b) (sym (as_many_items item_of old.entries)) h))

    pub costs : {T : Type 0} (r : Result T UpdateFault) (a b : Counts) → kinds.IsCost update rates n r a b → IsCost seen_layer update (update_result_of r) a b
    costs (Ok done) a b h = in_bounds a b h
    costs (Err (Duplicate id)) a b h = h
    costs (Err (Unknown id)) a b h = h
    costs (Err Full) a b h = h
    costs (Err NoMemory) a b h = in_bounds a b h

    module _ (waits : shares.Waits) (ready : shares.ready_count waits ≡ ready_count seen_layer) (a b : Counts) where
      told_of : (spent : Spent) → kinds.IsTold update rates waits n spent a b → IsTold seen_layer update spent a b
      told_of spent h = record {
        bounds = record {
          spread = refl;
          turn_bound_told = h.turn_bound ∙ turns_told;
          mark_bound_told = h.mark_bound ∙ marks_told;
          turns_bounded = h.few_turns;
          marks_bounded = h.few_marks;
          takes_turns = λ brings. subst (λ k. 3 * k ≤ spent.turns) ready (h.some_turns brings);
        };
        turns = h.turns;
        marks = h.marks;
      }

      pub told : (r : Result Spent UpdateFault) → IfOk r (λ spent. kinds.IsTold update rates waits n spent a b)
          → IfOk (update_result_of r) (λ spent. IsTold seen_layer update spent a b)
      told (Ok spent) h = told_of spent h
      told (Err fault) h = h
