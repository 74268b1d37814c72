-- Items whose stamps are their places.
use Rattle.std.proofs.Common.{◌≡◌, ℕ, ◌<◌, ◌∙◌, List, length, Option, Some, IfSome, get_or, ap, sym, subst}
use Rattle.std.proofs.lemmas.List.{get_or_default}
use Rattle.std.proofs.lemmas.List.Sorted.{All-permutation}
use Rattle.std.specs.List.Sorted.{IsPermutation}
use Rattle.builder_trait.specs.Parts.{Contents, OwnsStamp}
use Rattle.trials.specs.Marked.{IsMarked}

module _ {P Item : Type 0} {contents : P → Contents Item} {stamp : Item → ℕ} where
  -- the item at a place has a stamp of its own in the part
  pub OwnsStamp-place : (part : Option P) (p : P) (items : List Item) (k : ℕ) (x : Item) → part ≡ Some p → k < length items
      → x ≡ get_or items k x → IsMarked contents stamp part items → OwnsStamp stamp x (contents p).items
  OwnsStamp-place part p items k x is within there h =
      let here : (d : Item) → get_or items k d ≡ x = λ d. get_or_default items k d x within ∙ sym there in
      All-permutation (λ y. stamp y ≡ stamp x → y ≡ x) items (contents p).items
      (subst (λ o. IfSome o (λ q. IsPermutation items (contents q).items)) is h.built)
      (λ j d inside same.
      let place : j ≡ k = sym (h.numbered j d inside) ∙ same ∙ ap stamp (sym (here d)) ∙ h.numbered k d within in
      ap (λ n. get_or items n d) place ∙ here d)
