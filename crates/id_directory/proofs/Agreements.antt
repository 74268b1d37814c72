-- What an add and a removal make of the map and the chain.
use Rattle.std.proofs.Common.{◌≡◌, ℕ, ◌+◌, true, false, if◌then◌else◌, List, [], ◌∷◌, ◌++◌, Option, Some, None, refl, sym, ap, ◌∙◌, subst, arith, inl, inr}
use Rattle.std.specs.declared.cmp.Ordering.{Ordering}
use Rattle.std.specs.declared.cmp.Ordering.TheVariants.{Less, Equal, Greater}
use Rattle.std.proofs.lemmas.Bool.{cases_eq, false_from_ne_true}
use Rattle.std.proofs.lemmas.Map.Lookups.{exact_unsigned}
use Rattle.std.specs.Ordering.{nat_cmp, is_eq}
use Rattle.std.specs.Option.{option_map_or}
use Rattle.std.specs.BTreeMap.{BTreeMap, get, is_at, UpdatesBy}
use Rattle.id_chain.specs.Chain.{Entry, is_linked, HandlesDiffer, before, after, without_handle}
use Rattle.id_chain.specs.StampsRise.{StampsRise}
use Rattle.id_chain.proofs.Entries.{Apart-parts, Apart-without, HandlesDiffer-append, unlinked_more}
use Rattle.id_chain.proofs.Cursors.{unlinked-without}
use Rattle.id_chain.proofs.Stamps.{StampsRise-append, StampsRise-without}
use Rattle.id_directory.specs.Directory.{DirectoryState, handle_of, without, IdsDiffer}
use Rattle.id_directory.specs.Agreement.{is_pending, slot_of, Agrees}
use Rattle.id_directory.proofs.Identifiers.{same_test, other_test, find_id, handle_of-other, handle_of-removed, IdsDiffer-without, handle_of-push, handle_of-pushed, IdsDiffer-push, same_by_handle}

equal_answer : (o : Ordering) → is_eq o ≡ true → o ≡ Equal
equal_answer Less test = absurd (cc)
equal_answer Equal test = refl
equal_answer Greater test = absurd (cc)

pub is_at-other : (id q : ℕ) → ¬ (id ≡ q) → is_at (nat_cmp id) q ≡ false
is_at-other id q apart = false_from_ne_true _ (λ test. apart (exact_unsigned id q (equal_answer (nat_cmp id q) test)))

-- where no add is prepared a slot with a handle is that of an item
slot_handle : (found : Option ℕ) (handle : ℕ) → option_map_or (λ h. Some h) found None ≡ Some handle → found ≡ Some handle
slot_handle (Some h) handle slot = slot
slot_handle None handle slot = absurd (cc)

-- directories with the same parts are seen as one
pub same_registered : {I : Type 0} (es fs : List (Entry I)) (m n : ℕ) (p q : Option ℕ) → es ≡ fs → m ≡ n → p ≡ q
    → ◌≡◌ {A = DirectoryState I} (record { entries = es; adds = m; pending = p }) (record { entries = fs; adds = n; pending = q })
same_registered es fs m n p q entries adds pending = rw (entries, adds, pending) refl

module _ {I : Type 0} (id_of stamp : I → ℕ) where
  pub handle_of-slot : (handles : BTreeMap ℕ ℕ) (es : List (Entry I)) (spare next adds : ℕ) (pending : Option ℕ) (id handle : ℕ)
      → Agrees id_of stamp handles es spare next adds pending → pending ≡ None → get nat_cmp handles id ≡ Some handle → handle_of id_of id es ≡ Some handle
  handle_of-slot handles es spare next adds pending id handle agrees none slot =
      let here : option_map_or (λ h. Some h) (handle_of id_of id es) None ≡ Some handle = sym (ap (λ p. slot_of id_of es next p id) none) ∙ sym (agrees.found id) ∙ slot in
      slot_handle (handle_of id_of id es) handle here

  differ_without : (front : List (Entry I)) (e : Entry I) (back : List (Entry I)) → HandlesDiffer (front ++ e ∷ back) → HandlesDiffer (front ++ back)
  differ_without front e back differ = HandlesDiffer-append front back (Apart-without front e back (Apart-parts front (e ∷ back) differ))

  -- what is left without the item of an identifier
  record IsLeft (es rest : List (Entry I)) (adds id : ℕ) : Type 0 where
    gone : handle_of id_of id rest ≡ None
    others : (q : ℕ) → ¬ (id ≡ q) → handle_of id_of q es ≡ handle_of id_of q rest
    ids_differ : IdsDiffer id_of rest
    handles_differ : HandlesDiffer rest
    rising : StampsRise stamp 0 rest adds

  left_without : (handles : BTreeMap ℕ ℕ) (es : List (Entry I)) (spare next adds : ℕ) (pending : Option ℕ) (id handle : ℕ)
      → Agrees id_of stamp handles es spare next adds pending → handle_of id_of id es ≡ Some handle → IsLeft es (without id_of id es) adds id
  left_without handles es spare next adds pending id handle agrees found =
      let at = find_id id_of id handle es found in
      let ids_differ : IdsDiffer id_of (at.front ++ at.e ∷ at.back) = let P : List (Entry I) → Type 0 = IdsDiffer id_of in subst P at.is.whole agrees.ids_differ in
      let handles_differ : HandlesDiffer (at.front ++ at.e ∷ at.back) = let P : List (Entry I) → Type 0 = HandlesDiffer in subst P at.is.whole agrees.handles_differ in
      let rising : StampsRise stamp 0 (at.front ++ at.e ∷ at.back) adds = let P : List (Entry I) → Type 0 = λ xs. StampsRise stamp 0 xs adds in subst P at.is.whole agrees.rising in
      let P : List (Entry I) → Type 0 = λ xs. IsLeft es xs adds id in
      subst P (sym at.is.rest) (record {
        gone = ap (λ i. handle_of id_of i (at.front ++ at.back)) (sym at.is.its_id) ∙ handle_of-removed id_of at.front at.e at.back ids_differ;
        others = λ q apart. ap (handle_of id_of q) at.is.whole ∙ handle_of-other id_of q at.front at.e at.back (λ same. apart (sym at.is.its_id ∙ same));
        ids_differ = IdsDiffer-without id_of at.front at.e at.back ids_differ;
        handles_differ = differ_without at.front at.e at.back handles_differ;
        rising = StampsRise-without stamp 0 at.front at.e at.back adds rising;
      })

  pub Agrees-removed : (handles new : BTreeMap ℕ ℕ) (es : List (Entry I)) (spare spare' next next' adds : ℕ) (pending : Option ℕ) (id handle : ℕ)
      → Agrees id_of stamp handles es spare next adds pending → pending ≡ None → handle_of id_of id es ≡ Some handle
      → UpdatesBy nat_cmp (nat_cmp id) handles new None
      → Agrees id_of stamp new (without id_of id es) spare' next' adds pending
  Agrees-removed handles new es spare spare' next next' adds pending id handle agrees none found updates =
      let rest = without id_of id es in
      let left = left_without handles es spare next adds pending id handle agrees found in
      record {
        found = λ q. elim (cases_eq id q) [
          | inl same ↦
              let here : handle_of id_of q rest ≡ None = ap (λ i. handle_of id_of i rest) (sym same) ∙ left.gone in
              rw (here, none) (ap (get nat_cmp new) (sym same) ∙ updates.1)
          | inr apart ↦
              updates.2 q (is_at-other id q apart) ∙ agrees.found q ∙ ap (λ p. slot_of id_of es next p q) none ∙ ap (λ o. option_map_or (λ h. Some h) o None) (left.others q apart) ∙ sym (ap (λ p. slot_of id_of rest next' p q) none)
        ];
        ids_differ = left.ids_differ;
        handles_differ = left.handles_differ;
        rising = left.rising;
        new_id = λ q is. let clash : None ≡ Some q = sym none ∙ is in absurd (cc);
        room = λ q is. let clash : None ≡ Some q = sym none ∙ is in absurd (cc);
      }

  -- an item that is unlinked, and whose handle the map keeps, is as one whose add is prepared
  Agrees-unlinked : (handles : BTreeMap ℕ ℕ) (es : List (Entry I)) (spare next adds : ℕ) (pending : Option ℕ) (id handle : ℕ)
      → Agrees id_of stamp handles es spare next adds pending → pending ≡ None → handle_of id_of id es ≡ Some handle
      → Agrees id_of stamp handles (without id_of id es) 1 handle adds (Some id)
  Agrees-unlinked handles es spare next adds pending id handle agrees none found =
      let rest = without id_of id es in
      let left = left_without handles es spare next adds pending id handle agrees found in
      let was : (q : ℕ) → get nat_cmp handles q ≡ option_map_or (λ h. Some h) (handle_of id_of q es) None =
      λ q. agrees.found q ∙ ap (λ p. slot_of id_of es next p q) none in
      record {
        found = λ q. elim (cases_eq id q) [
          | inl same ↦
              let here : handle_of id_of q rest ≡ None = ap (λ i. handle_of id_of i rest) (sym same) ∙ left.gone in
              rw (here, same_test id q same) (was q ∙ ap (λ o. option_map_or (λ h. Some h) o None) (ap (λ i. handle_of id_of i es) (sym same) ∙ found))
          | inr apart ↦ rw (other_test id q apart) (was q ∙ ap (λ o. option_map_or (λ h. Some h) o None) (left.others q apart))
        ];
        ids_differ = left.ids_differ;
        handles_differ = left.handles_differ;
        rising = left.rising;
        new_id = λ q is. let same : id ≡ q = cc in ap (λ i. handle_of id_of i rest) (sym same) ∙ left.gone;
        room = λ q is. omega arith;
      }

  pub Agrees-added : (handles : BTreeMap ℕ ℕ) (es : List (Entry I)) (spare spare' next next' adds : ℕ) (pending : Option ℕ) (handle : ℕ) (item : I)
      → Agrees id_of stamp handles es spare next adds pending → pending ≡ Some (id_of item) → stamp item ≡ adds → is_linked handle es ≡ false → handle ≡ next
      → Agrees id_of stamp handles (es ++ record { handle = handle; item = item } ∷ []) spare' next' (adds + 1) None
  Agrees-added handles es spare spare' next next' adds pending handle item agrees is stamped unlinked given =
      let e : Entry I = record { handle = handle; item = item } in
      let absent = agrees.new_id (id_of item) is in
      record {
        found = λ q. elim (cases_eq (id_of item) q) [
          | inl same ↦
              let here : handle_of id_of q (es ++ e ∷ []) ≡ Some handle = ap (λ i. handle_of id_of i (es ++ e ∷ [])) (sym same) ∙ handle_of-pushed id_of es e absent in
              rw here (ap (get nat_cmp handles) (sym same) ∙ agrees.found (id_of item) ∙ (λ i. option_map_or (λ h. Some h) (absent i) (if is_pending (id_of item) (is i) then Some next else None)) ∙ rw (same_test (id_of item) (id_of item) refl) (ap (λ n. Some n) (sym given)))
          | inr apart ↦
              let other : handle_of id_of q (es ++ e ∷ []) ≡ handle_of id_of q es = handle_of-push id_of q es e apart in
              let waits : is_pending q pending ≡ false = rw is (other_test _ _ apart) in
              let before_it : slot_of id_of es next pending q ≡ option_map_or (λ h. Some h) (handle_of id_of q es) None = rw waits refl in
              rw other (agrees.found q ∙ before_it)
        ];
        ids_differ = IdsDiffer-push id_of es e absent agrees.ids_differ;
        handles_differ = HandlesDiffer-append es (e ∷ []) (record {
          front = agrees.handles_differ;
          back = (refl, tt);
          front_only = λ other linked. false_from_ne_true _ (λ there. clash other linked there);
          back_only = λ other linked. false_from_ne_true _ (λ there. clash other there linked);
        });
        rising =
            let P : ℕ → Type 0 = λ n. StampsRise stamp 0 (es ++ e ∷ []) (n + 1) in
            subst P stamped (StampsRise-append stamp 0 es adds e (omega arith) agrees.rising);
        new_id = λ q none. absurd (cc);
        room = λ q none. absurd (cc);
      }
    where
      clash : (other : ℕ) → is_linked other es ≡ true → is_linked other (record { handle = handle; item = item } ∷ []) ≡ true → ⊥
      clash other linked there = elim (cases_eq handle other) [
        | inl same ↦ let two : false ≡ true = sym unlinked ∙ ap (λ h. is_linked h es) same ∙ linked in cc
        | inr apart ↦ let two : false ≡ true = sym (unlinked_more other (record { handle = handle; item = item }) [] apart refl) ∙ there in cc
      ]

  -- all of a removal, with the slot that the map had and the entries that the chain keeps
  pub Agrees-removed_at : (handles new : BTreeMap ℕ ℕ) (es es' : List (Entry I)) (spare spare' next next' adds : ℕ) (pending : Option ℕ) (id handle : ℕ)
      → Agrees id_of stamp handles es spare next adds pending → pending ≡ None → get nat_cmp handles id ≡ Some handle
      → UpdatesBy nat_cmp (nat_cmp id) handles new None
      → es' ≡ before handle es ++ after handle es
      → Agrees id_of stamp new es' spare' next' adds pending
  Agrees-removed_at handles new es es' spare spare' next next' adds pending id handle agrees none slot updates kept =
      let found = handle_of-slot handles es spare next adds pending id handle agrees none slot in
      let same = same_by_handle id_of id handle es agrees.handles_differ found in
      let rest : es' ≡ without id_of id es = kept ∙ sym same.rest in
      rw rest (Agrees-removed handles new es spare spare' next next' adds pending id handle agrees none found updates)

  -- all of an add, with the entries as the calls give them
  pub Agrees-added_at : (handles : BTreeMap ℕ ℕ) (es es' : List (Entry I)) (spare spare' next next' adds adds' : ℕ) (pending : Option ℕ) (handle : ℕ) (item : I)
      → Agrees id_of stamp handles es spare next adds pending → pending ≡ Some (id_of item) → stamp item ≡ adds → is_linked handle es ≡ false → handle ≡ next
      → es' ≡ es ++ record { handle = handle; item = item } ∷ []
      → adds' ≡ adds + 1
      → Agrees id_of stamp handles es' spare' next' adds' None
  Agrees-added_at handles es es' spare spare' next next' adds adds' pending handle item agrees is stamped unlinked given appended more =
      rw (appended, more) (Agrees-added handles es spare spare' next next' adds pending handle item agrees is stamped unlinked given)

  -- all of a renewal, with the entries as the call gives them
  pub Agrees-renewed_at : (handles : BTreeMap ℕ ℕ) (es es' : List (Entry I)) (spare spare' next next' adds adds' : ℕ) (pending : Option ℕ) (handle : ℕ) (item : I)
      → Agrees id_of stamp handles es spare next adds pending → pending ≡ None → handle_of id_of (id_of item) es ≡ Some handle → stamp item ≡ adds
      → es' ≡ without_handle handle es ++ record { handle = handle; item = item } ∷ []
      → adds' ≡ adds + 1
      → Agrees id_of stamp handles es' spare' next' adds' pending
  Agrees-renewed_at handles es es' spare spare' next next' adds adds' pending handle item agrees none found stamped renewed more =
      let same = same_by_handle id_of (id_of item) handle es agrees.handles_differ found in
      let unlinked : is_linked handle (without id_of (id_of item) es) ≡ false = ap (is_linked handle) same.rest ∙ unlinked-without handle es agrees.handles_differ in
      let last : es' ≡ without id_of (id_of item) es ++ record { handle = handle; item = item } ∷ [] =
      renewed ∙ ap (λ xs. xs ++ record { handle = handle; item = item } ∷ []) (sym same.rest) in
      rw (last, more, none)
      (Agrees-added handles (without id_of (id_of item) es) 1 spare' handle next' adds (Some (id_of item)) handle item
      (Agrees-unlinked handles es spare next adds pending (id_of item) handle agrees none found) refl stamped unlinked refl)
