-- Lemmas on entries by identifier, for this crate and its callers.
use Rattle.std.proofs.Common.{◌≡◌, ◌≢◌, ℕ, ◌==◌, true, false, List, [], ◌∷◌, ◌++◌, Some, None, refl, sym, ap, ◌∙◌, subst, arith, inl, inr}
use Rattle.std.proofs.lemmas.Bool.{cases_eq}
use Rattle.std.proofs.lemmas.Bool.Decides.{nat_tests}
use Rattle.id_chain.specs.Chain.{Entry, is_linked, HandlesDiffer, item_at, before, after}
use Rattle.id_chain.proofs.Entries.{linked_head, Apart-parts, before-split, after-split, item_at-split, linked_tail}
use Rattle.id_directory.specs.Directory.{handle_of, item_of, without, IdsDiffer}

pub same_test : (a b : ℕ) → a ≡ b → (a == b) ≡ true
same_test a b same = grind (arith, nat_tests)

pub other_test : (a b : ℕ) → ¬ (a ≡ b) → (a == b) ≡ false
other_test a b apart = grind (arith, nat_tests)

module _ {I : Type 0} (id_of : I → ℕ) where
  -- the entry with an identifier, between those before it and those after it
  pub record IsAt (id handle : ℕ) (es front : List (Entry I)) (e : Entry I) (back : List (Entry I)) : Type 0 where
    pub whole : es ≡ front ++ e ∷ back
    pub here : e.handle ≡ handle
    pub its_id : id_of e.item ≡ id
    pub item_is : item_of id_of id es ≡ Some e.item
    pub rest : without id_of id es ≡ front ++ back

  pub record Found (id handle : ℕ) (es : List (Entry I)) : Type 0 where
    pub front : List (Entry I)
    pub e : Entry I
    pub back : List (Entry I)
    pub is : IsAt id handle es front e back

  pub find_id : (id handle : ℕ) (es : List (Entry I)) → handle_of id_of id es ≡ Some handle → Found id handle es
  find_id id handle [] found = absurd (cc)
  find_id id handle (e ∷ es) found = elim (cases_eq (id_of e.item) id) [
    | inl same ↦
        let test = same_test (id_of e.item) id same in
        let one : Some e.handle ≡ Some handle = rw test at found in
        record {
          front = [];
          e = e;
          back = es;
          is = record { whole = refl; here = cc; its_id = same; item_is = rw test refl; rest = rw test refl };
        }
    | inr other ↦
        let test = other_test (id_of e.item) id other in
        let later = find_id id handle es (rw test at found) in
        record {
          front = e ∷ later.front;
          e = later.e;
          back = later.back;
          is = record {
            whole = ap (λ xs. e ∷ xs) later.is.whole;
            here = later.is.here;
            its_id = later.is.its_id;
            item_is = rw test later.is.item_is;
            rest = rw test (ap (λ xs. e ∷ xs) later.is.rest);
          };
        }
  ]

  -- an entry taken out or put at the end changes what is found at its identifier alone
  pub handle_of-other : (q : ℕ) (front : List (Entry I)) (e : Entry I) (back : List (Entry I)) → ¬ (id_of e.item ≡ q)
      → handle_of id_of q (front ++ e ∷ back) ≡ handle_of id_of q (front ++ back)
  handle_of-other q [] e back apart = rw (other_test _ _ apart) refl
  handle_of-other q (x ∷ front) e back apart = rw (handle_of-other q front e back apart) refl

  pub handle_of-here : (front : List (Entry I)) (e : Entry I) (back : List (Entry I)) → handle_of id_of (id_of e.item) (front ++ e ∷ back) ≢ None
  handle_of-here [] e back none = let test = same_test (id_of e.item) (id_of e.item) refl in let clash : Some e.handle ≡ None = rw test at none in cc
  handle_of-here (x ∷ front) e back none = elim (cases_eq (id_of x.item) (id_of e.item)) [
    | inl same ↦ let test = same_test _ _ same in let clash : Some x.handle ≡ None = rw test at none in cc
    | inr other ↦ let test = other_test _ _ other in handle_of-here front e back (rw test at none)
  ]

  -- where no identifier is there twice, it is found no more once its entry is taken out
  pub handle_of-removed : (front : List (Entry I)) (e : Entry I) (back : List (Entry I)) → IdsDiffer id_of (front ++ e ∷ back)
      → handle_of id_of (id_of e.item) (front ++ back) ≡ None
  handle_of-removed [] e back differ = differ.0
  handle_of-removed (x ∷ front) e back differ =
      let apart : ¬ (id_of x.item ≡ id_of e.item) = λ same. handle_of-here front e back (ap (λ i. handle_of id_of i (front ++ e ∷ back)) (sym same) ∙ differ.0) in
      rw (other_test _ _ apart) (handle_of-removed front e back differ.1)

  pub IdsDiffer-without : (front : List (Entry I)) (e : Entry I) (back : List (Entry I)) → IdsDiffer id_of (front ++ e ∷ back) → IdsDiffer id_of (front ++ back)
  IdsDiffer-without [] e back differ = differ.1
  IdsDiffer-without (x ∷ front) e back differ =
      let apart : ¬ (id_of e.item ≡ id_of x.item) = λ same. handle_of-here front e back (ap (λ i. handle_of id_of i (front ++ e ∷ back)) same ∙ differ.0) in
      (sym (handle_of-other (id_of x.item) front e back apart) ∙ differ.0, IdsDiffer-without front e back differ.1)

  pub handle_of-push : (q : ℕ) (es : List (Entry I)) (e : Entry I) → ¬ (id_of e.item ≡ q) → handle_of id_of q (es ++ e ∷ []) ≡ handle_of id_of q es
  handle_of-push q [] e apart = rw (other_test _ _ apart) refl
  handle_of-push q (x ∷ es) e apart = rw (handle_of-push q es e apart) refl

  pub handle_of-pushed : (es : List (Entry I)) (e : Entry I) → handle_of id_of (id_of e.item) es ≡ None → handle_of id_of (id_of e.item) (es ++ e ∷ []) ≡ Some e.handle
  handle_of-pushed [] e none = rw (same_test (id_of e.item) (id_of e.item) refl) refl
  handle_of-pushed (x ∷ es) e none = elim (cases_eq (id_of x.item) (id_of e.item)) [
    | inl same ↦ let test = same_test _ _ same in let clash : Some x.handle ≡ None = rw test at none in absurd (cc)
    | inr other ↦ let test = other_test _ _ other in rw test (handle_of-pushed es e (rw test at none))
  ]

  pub IdsDiffer-push : (es : List (Entry I)) (e : Entry I) → handle_of id_of (id_of e.item) es ≡ None → IdsDiffer id_of es → IdsDiffer id_of (es ++ e ∷ [])
  IdsDiffer-push [] e none differ = (refl, tt)
  IdsDiffer-push (x ∷ es) e none differ = elim (cases_eq (id_of x.item) (id_of e.item)) [
    | inl same ↦ let test = same_test _ _ same in let clash : Some x.handle ≡ None = rw test at none in absurd (cc)
    | inr other ↦
        let test = other_test _ _ other in
        (handle_of-push (id_of x.item) es e (λ same. other (sym same)) ∙ differ.0, IdsDiffer-push es e (rw test at none) differ.1)
  ]

  pub handle_of-linked : (id handle : ℕ) (es : List (Entry I)) → handle_of id_of id es ≡ Some handle → is_linked handle es ≡ true
  handle_of-linked id handle [] found = absurd (cc)
  handle_of-linked id handle (e ∷ es) found = elim (cases_eq (id_of e.item) id) [
    | inl same ↦
        let test = same_test (id_of e.item) id same in
        let one : Some e.handle ≡ Some handle = rw test at found in
        let here : e.handle ≡ handle = cc in
        rw (same_test e.handle handle here) refl
    | inr other ↦
        let test = other_test (id_of e.item) id other in
        linked_tail handle e es (handle_of-linked id handle es (rw test at found))
  ]

  -- by the handle, the same is taken out and the same item found
  pub record SameByHandle (id handle : ℕ) (es : List (Entry I)) : Type 0 where
    pub rest : without id_of id es ≡ before handle es ++ after handle es
    pub item : item_of id_of id es ≡ item_at handle es

  pub same_by_handle : (id handle : ℕ) (es : List (Entry I)) → HandlesDiffer es → handle_of id_of id es ≡ Some handle → SameByHandle id handle es
  same_by_handle id handle es differ found =
      let at = find_id id handle es found in
      let e : Entry I = record { handle = handle; item = at.e.item } in
      let same : at.e ≡ e = ap (λ h. record { handle = h; item = at.e.item }) at.is.here in
      let whole : es ≡ at.front ++ e ∷ at.back = at.is.whole ∙ ap (λ x. at.front ++ x ∷ at.back) same in
      let apart = Apart-parts at.front (e ∷ at.back) (let P : List (Entry I) → Type 0 = HandlesDiffer in subst P whole differ) in
      let before_it : is_linked handle at.front ≡ false = apart.back_only handle (linked_head e at.back) in
      record {
        rest = at.is.rest ∙ sym (ap (λ xs. before handle xs ++ after handle xs) whole ∙ ap (λ xs. xs ++ after handle (at.front ++ e ∷ at.back)) (before-split handle at.e.item at.front at.back before_it)
            ∙ ap (λ xs. at.front ++ xs) (after-split handle at.e.item at.front at.back before_it));
        item = at.is.item_is ∙ sym (ap (item_at handle) whole ∙ item_at-split handle at.e.item at.front at.back before_it);
      }
