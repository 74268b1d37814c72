-- The least and the greatest stamp of some items, over a put and at a mark.
use Rattle.std.proofs.Common.{◌≡◌, ◌≢◌, ℕ, ◌-◌, ◌^◌, ◌<◌, ◌≤◌, ◌↔◌, Bool, true, false, IsTrue, List, [], ◌∷◌, ◌++◌, length, min, max, get_or, refl, sym, ap, subst, arith, Some, slice_get, All, ⊎_elim}
use Rattle.std.proofs.lemmas.Bool.{cases_lt, both_ways}
use Rattle.std.proofs.lemmas.List.Elements.{All-nil, All-push, All-pop}
use Rattle.std.proofs.lemmas.Option.{slice_get_within, get_or_from_slice_get}
use Rattle.query_laws.specs.StepLedger.{Entries}
use Rattle.builder_trait.specs.Parts.{Contents, IsOutside}
use Rattle.builder_trait.specs.Flat.{AreStamps}

module _ {Item : Type 0} {stamp : Item → ℕ} where
  pub AreStamps-none : AreStamps stamp [] (2 ^ 64 - 1) 0
  AreStamps-none = record {
    from_least = All-nil (λ x. 2 ^ 64 - 1 ≤ stamp x);
    to_greatest = All-nil (λ x. stamp x ≤ 0);
    tight_least = λ s low all. low;
    tight_greatest = λ s some all. some;
    small = omega arith;
  }

  -- one more item
  AreStamps-push : {items : List Item} {least greatest least' greatest' : ℕ} → AreStamps stamp items least greatest → (item : Item)
      → stamp item < 2 ^ 64 → least' ≡ min least (stamp item) → greatest' ≡ max greatest (stamp item)
      → AreStamps stamp (items ++ item ∷ []) least' greatest'
  AreStamps-push {items} {least} {greatest} {least'} {greatest'} kept item small lower higher = record {
    from_least = All-push (λ x. least' ≤ stamp x) items item (λ k d below. omega (arith, kept.from_least k d below)) (omega arith);
    to_greatest = All-push (λ x. stamp x ≤ greatest') items item (λ k d below. omega (arith, kept.to_greatest k d below)) (omega arith);
    tight_least = λ s low all.
        let both : All (λ x. s < stamp x) items × (s < stamp item) = All-pop (λ x. s < stamp x) (items ++ item ∷ []) items (Some item) refl all in
        omega (arith, kept.tight_least s low both.0, both.1);
    tight_greatest = λ s some all.
        let both : All (λ x. stamp x < s) items × (stamp item < s) = All-pop (λ x. stamp x < s) (items ++ item ∷ []) items (Some item) refl all in
        omega (arith, kept.tight_greatest s some both.0, both.1);
    small = omega (arith, kept.small, small);
  }

  pub AreStamps-put : {items items' : Entries Item} {item : Item} {least greatest least' greatest' at : ℕ}
      → AreStamps stamp items.items least greatest → items' ≡ record items { items = items.items ++ item ∷ [] } → at ≡ stamp item → at < 2 ^ 64
      → least' ≡ min least at → greatest' ≡ max greatest at → AreStamps stamp items'.items least' greatest'
  AreStamps-put {items} {items'} {item} {least} {greatest} {least'} {greatest'} {at} kept pushed is small lower higher =
      subst (λ (xs : List Item). AreStamps stamp xs least' greatest') (sym (ap (λ r. r.items) pushed))
      (AreStamps-push kept item (omega (arith, is, small)) (omega (arith, is, lower)) (omega (arith, is, higher)))

  module _ {part now : Contents Item} (view : part ≡ now) {least greatest : ℕ} (kept : AreStamps stamp part.items least greatest)
      (item : Item) {at : ℕ} (is : at ≡ stamp item) {spans : Bool} (told : IsTrue spans ↔ ((least ≤ at) × (at ≤ greatest))) where
    -- no item has a stamp that doesn't lie between the two
    pub none_spanned : spans ≡ false → All (λ x. stamp x ≢ stamp item) part.items
    none_spanned failed k d below same =
        both_ways spans failed
        (told.1 (omega (arith, kept.from_least k d below, same, is), omega (arith, kept.to_greatest k d below, same, is)))

    -- and the stamp of an item that is older than all, or younger, doesn't
    pub outside_not_spanned : at < 2 ^ 64 → spans ≡ true → IsOutside stamp item now.items → ⊥
    outside_not_spanned small passed outside =
        let between : (least ≤ at) × (at ≤ greatest) = told.0 passed in
        ⊎_elim
        (λ (older : All (λ x. stamp item < stamp x) part.items). ⊎_elim
        (λ low. omega (arith, kept.tight_least (stamp item) low older, is, between.0))
        (λ high. omega (
          arith,
          is,
          between.1,
          kept.tight_greatest (stamp item) (omega arith) (λ k d below. absurd (omega (arith, older k d below, kept.to_greatest k d below, kept.small))),
        ))
        (cases_lt (stamp item) (2 ^ 64 - 1)))
        (λ (younger : All (λ x. stamp x < stamp item) part.items). ⊎_elim
        (λ some. omega (arith, kept.tight_greatest (stamp item) some younger, is, between.1))
        (λ none. omega (arith, is, between.0, kept.tight_least (stamp item) (omega arith) (λ k d below. absurd (omega (arith, younger k d below)))))
        (cases_lt 0 (stamp item)))
        (subst (λ (p : Contents Item). IsOutside stamp item p.items) (sym view) outside)

-- an item of a part is neither older than all items nor younger
module _ {Item : Type 0} (stamp : Item → ℕ) (item : Item) (k : ℕ) where
  pub outside_not_there : {part now : Contents Item} → part ≡ now → slice_get part.items k ≡ Some item → IsOutside stamp item now.items → ⊥
  outside_not_there {part} {now} view there outside =
      let itself : stamp (get_or part.items k item) ≡ stamp item = ap stamp (get_or_from_slice_get part.items k item item there) in
      let within : k < length part.items = slice_get_within part.items k item there in
      ⊎_elim
      (λ (older : All (λ x. stamp item < stamp x) part.items). omega (arith, older k item within, itself))
      (λ (younger : All (λ x. stamp x < stamp item) part.items). omega (arith, younger k item within, itself))
      (subst (λ (p : Contents Item). IsOutside stamp item p.items) (sym view) outside)
