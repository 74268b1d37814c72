-- A chain from which an entry goes, or in which one is renewed, and what these cost.
use Rattle.std.proofs.Common.{◌≡◌, ℕ, ◌+◌, ◌*◌, ◌≤◌, ◌∙◌, false, List, [], ◌∷◌, ◌++◌, Some, inl, inr, map, refl, sym, ap, subst, arith}
use Rattle.std.proofs.lemmas.Bool.{cases_eq}
use Rattle.std.proofs.lemmas.List.{append-nil}
use Rattle.query_laws.specs.Permuted.{Permuted}
use Rattle.builder_trait.specs.Parts.{Contents}
use Rattle.query_laws.specs.StepLedger.{Counts}
use Rattle.id_chain.specs.Chain.{Entry, HandlesDiffer, is_linked, item_at, before, after, first_or, first_handle, before_cursor, without_handle}
use Rattle.id_chain.specs.StampsRise.{StampsRise}
use Rattle.id_chain.proofs.Cursors.{unlinked-without, linked-append}
use Rattle.id_chain.proofs.Entries.{Apart-parts, Apart-without, HandlesDiffer-append, before-split, item_at-split, split_at, unlinked_more}
use Rattle.id_chain.proofs.Stamps.{StampsRise-without}
use Rattle.log_levels.specs.Levels.{live_items}
use Rattle.log_levels.specs.Cost.{IsWithin}
use Rattle.log_levels.proofs.Spending.{IsWithin-more}
use Rattle.chain_walk.specs.Walk.{Walked, IsWalkOf, renewed}
use Rattle.chain_walk.proofs.Walking.{item_of, stamp_at-item, item_at-below}
use Rattle.chain_walk.proofs.Forgetting.{IsWalkOf-moved}
use Rattle.chain_walk.proofs.Appending.{IsWalkOf-appended}

module _ {Item : Type 0} (handle : ℕ) (item : Item) (es : List (Entry Item)) (is : item_at handle es ≡ Some item) where
  abbrev entry : Entry Item
  entry = record { handle = handle; item = item }

  pub HandlesDiffer-without : HandlesDiffer es → HandlesDiffer (without_handle handle es)
  HandlesDiffer-without differ =
      HandlesDiffer-append (before handle es) (after handle es)
      (Apart-without (before handle es) entry (after handle es)
      (Apart-parts (before handle es) (entry ∷ after handle es) (subst HandlesDiffer (split_at handle item es is) differ)))

  pub rise_without : (stamp : Item → ℕ) (stamps : ℕ) → StampsRise stamp 0 es stamps → StampsRise stamp 0 (without_handle handle es) stamps
  rise_without stamp stamps rise =
      StampsRise-without stamp 0 (before handle es) entry (after handle es) stamps
      (subst (λ l. StampsRise stamp 0 l stamps) (split_at handle item es is) rise)

module _ {Item : Type 0} (handle : ℕ) (es : List (Entry Item)) (item : Item) where
  pub renewed_differ : (gone : Item) → item_at handle es ≡ Some gone → HandlesDiffer es → HandlesDiffer (renewed handle item es)
  renewed_differ gone is differ =
      let e : Entry Item = record { handle = handle; item = item } in
      let none = unlinked-without handle es differ in
      HandlesDiffer-append (without_handle handle es) (e ∷ []) (record {
        front = HandlesDiffer-without handle gone es is differ;
        back = (refl, tt);
        front_only = λ k there. elim (cases_eq handle k) [
          | inl same ↦ let unlinked : is_linked k (without_handle handle es) ≡ false = subst (λ j. is_linked j (without_handle handle es) ≡ false) same none in absurd (cc)
          | inr apart ↦ unlinked_more k e [] apart refl
        ];
        back_only = λ k there. elim (cases_eq handle k) [
          | inl same ↦ subst (λ j. is_linked j (without_handle handle es) ≡ false) same none
          | inr apart ↦ let unlinked : is_linked k (e ∷ []) ≡ false = unlinked_more k e [] apart refl in absurd (cc)
        ];
      })

  pub at_renewed : HandlesDiffer es → (before handle (renewed handle item es) ≡ without_handle handle es) × (item_at handle (renewed handle item es) ≡ Some item)
  at_renewed differ =
      let none = unlinked-without handle es differ in
      (before-split handle item (without_handle handle es) [] none, item_at-split handle item (without_handle handle es) [] none)

-- The cursor was at an entry that is renewed, and goes on to the next one, or else to the one in its place.
module _ {P Item : Type 0} (contents : P → Contents Item) (stamp : Item → ℕ) (r : Walked P Item) (es : List (Entry Item)) (handle : ℕ) (gone item : Item)
    (rise : StampsRise stamp 0 es (stamp item)) (differ : HandlesDiffer es) (is : item_at handle es ≡ Some gone)
    (own : IsWalkOf contents stamp r es (stamp item)) (at : r.cursor ≡ Some handle) where
  -- it was the last
  at_last : after handle es ≡ [] → IsWalkOf contents stamp (record r { cursor = Some handle }) (renewed handle item es) (stamp item + 1)
  at_last last =
      let back = at_renewed handle es item differ in
      let all : without_handle handle es ≡ before handle es = ap (λ l. before handle es ++ l) last ∙ append-nil (before handle es) in
      let was = stamp_at-item stamp r.cursor handle gone es (stamp item) at is in
      let now = stamp_at-item stamp (Some handle) handle item (renewed handle item es) (stamp item + 1) refl back.1 in
      let less = item_at-below stamp handle 0 gone es (stamp item) rise is in
      record {
        cursor = linked-append (without_handle handle es) (record { handle = handle; item = item });
        live = subst (λ l. Permuted (live_items contents r.stack.levels) (map item_of l)) (sym (back.0 ∙ all))
            (subst (λ c. Permuted (live_items contents r.stack.levels) (map item_of (before_cursor c es))) at own.live);
        below = λ k d within. let low = own.below k d within in omega (arith, low, was, now, less);
      }

  pub renewed_at : IsWalkOf contents stamp (record r { cursor = first_or (after handle es) (Some handle) }) (renewed handle item es) (stamp item + 1)
  renewed_at = cases (after handle es) refl
    where
      cases : (l : List (Entry Item)) → after handle es ≡ l
          → IsWalkOf contents stamp (record r { cursor = first_or l (Some handle) }) (renewed handle item es) (stamp item + 1)
      cases [] last = at_last last
      cases (x ∷ rest) next = IsWalkOf-appended contents stamp (record r { cursor = Some x.handle }) (without_handle handle es)
          (record { handle = handle; item = item }) x.handle refl
          (subst (λ l. IsWalkOf contents stamp (record r { cursor = first_handle l }) (without_handle handle es) (stamp item)) next
          (IsWalkOf-moved contents stamp r es (stamp item) handle gone rise own is differ at))

-- what one delete costs
pub one_delete : {turns a touches : ℕ} (g : ℕ) {old new : Counts} → IsWithin turns (2 * g + a) touches old new → a ≤ 3 * (g + 1) → IsWithin turns (5 * g + 3) touches old new
one_delete g h few = IsWithin-more h (omega arith) (omega (arith, few)) (omega arith)

-- turns are counted up
pub turns_rise : {turns marks touches : ℕ} {old new : Counts} → IsWithin turns marks touches old new → old.turns ≤ new.turns
turns_rise h = omega (arith, h.spent.turns_spent)
