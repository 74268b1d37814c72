-- The items of a layer, as the definitions have them, beside its directory.
use Rattle.std.proofs.Common.{◌≡◌, ℕ, ◌+◌, ◌≤◌, Bool, true, false, if◌then◌else◌, List, [], ◌∷◌, ◌++◌, Option, Some, None, Ok, Err, length, map, take, refl, sym, ap, ◌∙◌, subst, arith}
use Rattle.std.specs.Prelude.{reverse}
use Rattle.std.specs.Option.{is_some, is_none}
use Rattle.std.proofs.lemmas.Bool.Decides.{nat_tests}
use Rattle.std.proofs.lemmas.Grind.{common_steps}
use Rattle.std.proofs.lemmas.List.{length-map, map-append}
use Rattle.map_shapes.specs.declared.spent.Spent.{Spent}
use Rattle.id_chain.specs.Chain.{Entry, HandlesDiffer, is_linked, item_at}
use Rattle.id_directory.specs.Directory.{ids, handle_of, without, IdsDiffer}
use Rattle.map_model.specs.Answer.{latest}
use Rattle.map_model.specs.State.{Item, is_live, shape_of, without_item}
use Rattle.layer_kinds.specs.declared.faults.UpdateFault.{UpdateFault}
use Rattle.layer_kinds.specs.declared.faults.UpdateFault.TheVariants as faults
use Rattle.layer_kinds.specs.Layered.{items_of, IsAdd, IsMove}

module _ {I : Type 0} (id_of : I → ℕ) (item_of : I → Item) (same : (x : I) → (item_of x).id ≡ id_of x) where
  -- an identifier is live exactly where the directory finds it
  pub live_found : (id : ℕ) (es : List (Entry I)) → is_live id (items_of item_of es) ≡ is_some (handle_of id_of id es)
  live_found id [] = refl
  live_found id (e ∷ es) = let rest = live_found id es in grind (arith, nat_tests, common_steps, rest, same e.item)

  none_live : (id : ℕ) (es : List (Entry I)) → handle_of id_of id es ≡ None → without_item id (items_of item_of es) ≡ items_of item_of es
  none_live id [] none = refl
  none_live id (e ∷ es) none = grind (arith, nat_tests, common_steps, none_live id es, same e.item)

  -- without an entry there are the others' items
  pub items_without : (id : ℕ) (es : List (Entry I)) → IdsDiffer id_of es → items_of item_of (without id_of id es) ≡ without_item id (items_of item_of es)
  items_without id [] differ = refl
  items_without id (e ∷ es) differ = grind (arith, nat_tests, common_steps, differ.0, none_live id es, items_without id es differ.1, same e.item)

  pub shape_not_found : (id : ℕ) (es : List (Entry I)) → handle_of id_of id es ≡ None → shape_of id (items_of item_of es) ≡ None
  shape_not_found id [] none = refl
  shape_not_found id (e ∷ es) none = grind (arith, nat_tests, common_steps, shape_not_found id es, same e.item)

module _ {I : Type 0} (id_of : I → ℕ) where
  -- the handle that is found is linked
  pub linked_found : (id handle : ℕ) (es : List (Entry I)) → handle_of id_of id es ≡ Some handle → is_linked handle es ≡ true
  linked_found id handle [] found = absurd cc
  linked_found id handle (e ∷ es) found = grind (arith, nat_tests, common_steps, linked_found id handle es)

  pub fewer : (id : ℕ) (es : List (Entry I)) → length (without id_of id es) ≤ length es
  fewer id [] = omega arith
  fewer id (e ∷ es) = grind (arith, nat_tests, common_steps, fewer id es)

  -- where an identifier is found, one entry has it
  pub one_fewer : (id handle : ℕ) (es : List (Entry I)) → handle_of id_of id es ≡ Some handle → length (without id_of id es) + 1 ≡ length es
  one_fewer id handle [] found = absurd cc
  one_fewer id handle (e ∷ es) found = grind (arith, nat_tests, common_steps, one_fewer id handle es)

module _ {I : Type 0} (id_of : I → ℕ) (item_of : I → Item) (same : (x : I) → (item_of x).id ≡ id_of x) where
  -- the shape of an identifier is that of the item under the handle that is found
  pub shape_found : (id handle : ℕ) (x : I) (es : List (Entry I)) → HandlesDiffer es → handle_of id_of id es ≡ Some handle
      → item_at handle es ≡ Some x → shape_of id (items_of item_of es) ≡ Some (item_of x).shape
  shape_found id handle x [] differ found at = absurd cc
  shape_found id handle x (e ∷ es) differ found at =
      grind (arith, nat_tests, common_steps, shape_found id handle x es differ.1, linked_found id_of id handle es, differ.0, same e.item)

module _ {I : Type 0} (id_of : I → ℕ) (item_of : I → Item) (same : (x : I) → (item_of x).id ≡ id_of x) where
  ids_of_items : (es : List (Entry I)) → map (λ item. item.id) (items_of item_of es) ≡ ids id_of es
  ids_of_items [] = refl
  ids_of_items (e ∷ es) = λ i. same e.item i ∷ ids_of_items es i

  -- the last identifiers are those of the items
  pub latest_ids : (k : ℕ) (es : List (Entry I)) → take k (reverse (ids id_of es)) ≡ latest k (items_of item_of es)
  latest_ids k es = ap (λ xs. take k (reverse xs)) (sym (ids_of_items es))

pub as_many_items : {I : Type 0} (item_of : I → Item) (es : List (Entry I)) → length (items_of item_of es) ≡ length es
as_many_items item_of es = length-map es (λ e. item_of e.item)

some_of : {X : Type 0} (found : Option X) → is_none found ≡ false → is_some found ≡ true
some_of None e = absurd cc
some_of (Some x) e = refl

module _ {I : Type 0} (id_of : I → ℕ) (item_of : I → Item) (same : (x : I) → (item_of x).id ≡ id_of x) (item : I) (es : List (Entry I)) (id : ℕ) (is : id ≡ id_of item) where
  live_by : is_live (item_of item).id (items_of item_of es) ≡ is_some (handle_of id_of id es)
  live_by = ap (λ n. is_live n (items_of item_of es)) (same item ∙ sym is) ∙ live_found id_of item_of same id es

  -- an identifier that the directory has is a duplicate
  pub duplicate_refused : (new : List (Entry I)) → new ≡ es → is_none (handle_of id_of id es) ≡ false
      → (is_live (item_of item).id (items_of item_of es) ≡ true) × (id ≡ (item_of item).id) × (items_of item_of new ≡ items_of item_of es)
  duplicate_refused new kept there = (live_by ∙ some_of (handle_of id_of id es) there, is ∙ sym (same item), ap (items_of item_of) kept)

  -- a full layer takes no item, and tells first that the identifier is live
  pub full_refused : (most : ℕ) → most ≤ length es → (fault : UpdateFault) → fault ≡ (if is_some (handle_of id_of id es) then faults.Duplicate id else faults.Full)
      → IsAdd {T = Spent} most (items_of item_of es) (item_of item) (items_of item_of es) (Err fault)
  full_refused most full fault told =
      subst (λ (f : UpdateFault). IsAdd {T = Spent} most (items_of item_of es) (item_of item) (items_of item_of es) (Err f)) (sym told) (by_live (is_some (handle_of id_of id es)) live_by)
    where
      by_live : (b : Bool) → is_live (item_of item).id (items_of item_of es) ≡ b
          → IsAdd {T = Spent} most (items_of item_of es) (item_of item) (items_of item_of es) (Err (if b then faults.Duplicate id else faults.Full))
      by_live true live = (live, is ∙ sym (same item), refl)
      by_live false dead = (dead, omega (arith, full, as_many_items item_of es), refl)

  -- ---- a move

  -- an identifier that the directory lacks is unknown
  pub unknown_refused : (new : List (Entry I)) → new ≡ es → is_some (handle_of id_of id es) ≡ false
      → IsMove {T = Spent} (items_of item_of es) (item_of item) (items_of item_of new) (Err (faults.Unknown id))
  unknown_refused new kept none = (live_by ∙ none, is ∙ sym (same item), ap (items_of item_of) kept)

  -- where memory is refused the items stay
  pub move_refused : (new : List (Entry I)) → new ≡ es → is_some (handle_of id_of id es) ≡ true
      → IsMove {T = Spent} (items_of item_of es) (item_of item) (items_of item_of new) (Err faults.NoMemory)
  move_refused new kept there = (live_by ∙ there, ap (items_of item_of) kept)

  -- the item with another stamp has the same identifier
  pub same_identifier : (stamped : I) → item_of stamped ≡ item_of item → id_of stamped ≡ id
  same_identifier stamped alike = sym (same stamped) ∙ ap (λ i. i.id) alike ∙ same item ∙ sym is

  -- the others stay in their order, and the item comes last
  pub moved_items : (spent : Spent) (stamped : I) (handle : ℕ) (new : List (Entry I)) → IdsDiffer id_of es → is_some (handle_of id_of id es) ≡ true
      → item_of stamped ≡ item_of item → new ≡ without id_of (id_of stamped) es ++ record { handle = handle; item = stamped } ∷ []
      → IsMove (items_of item_of es) (item_of item) (items_of item_of new) (Ok spent)
  moved_items spent stamped handle new differ there alike renewed =
      let rest : items_of item_of (without id_of (id_of stamped) es) ≡ without_item (item_of item).id (items_of item_of es) =
      items_without id_of item_of same (id_of stamped) es differ
      ∙ ap (λ n. without_item n (items_of item_of es)) (same_identifier stamped alike ∙ is ∙ sym (same item)) in (
        live_by ∙ there,
        ap (items_of item_of) renewed
            ∙ map-append (λ e. item_of e.item) (without id_of (id_of stamped) es) (record { handle = handle; item = stamped } ∷ [])
            ∙ ap (λ items. items ++ item_of stamped ∷ []) rest
            ∙ ap (λ i. without_item (item_of item).id (items_of item_of es) ++ i ∷ []) alike,
      )
