-- Lemmas on lists of entries, for this crate and its callers.
use Rattle.std.proofs.Common.{◌≡◌, ◌⊎◌, ℕ, ◌||◌, true, false, List, [], ◌∷◌, ◌++◌, Option, Some, None, refl, sym, ap, ◌∙◌, inl, inr, arith}
use Rattle.std.proofs.lemmas.Bool.{cases_eq, true_from_ne_false}
use Rattle.std.proofs.lemmas.Bool.Decides.{nat_tests}
use Rattle.std.proofs.lemmas.Grind.{common_steps}
use Rattle.id_chain.specs.Chain.{Entry, is_linked, HandlesDiffer, item_at, before, after, first_or, last_or, first_handle, last_handle}

pub no_end : {A : Type 0} {x : A} → None ≡ Some x → ⊥
no_end same = cc

module _ {I : Type 0} where
  -- a list is empty, or has a last entry
  pub front_and_last : (es : List (Entry I)) → (es ≡ []) ⊎ ((front : List (Entry I)) × (e : Entry I) × (es ≡ front ++ e ∷ []))
  front_and_last [] = inl refl
  front_and_last (e ∷ es) =
      elim (front_and_last es) [
        | inl none ↦ inr ([], e, ap (λ xs. e ∷ xs) none)
        | inr some ↦ inr (e ∷ some.0, some.1, ap (λ xs. e ∷ xs) some.2)
      ]

  pub is_linked-append : (handle : ℕ) (xs ys : List (Entry I)) → is_linked handle (xs ++ ys) ≡ (is_linked handle xs || is_linked handle ys)
  is_linked-append handle [] ys = refl
  is_linked-append handle (x ∷ xs) ys = rw (is_linked-append handle xs ys) (grind (arith, common_steps))

  pub linked_head : (e : Entry I) (es : List (Entry I)) → is_linked e.handle (e ∷ es) ≡ true
  linked_head e es = grind (arith, nat_tests)

  pub linked_tail : (handle : ℕ) (e : Entry I) (es : List (Entry I)) → is_linked handle es ≡ true → is_linked handle (e ∷ es) ≡ true
  linked_tail handle e es linked = grind (arith, nat_tests)

  -- a handle that is linked in neither of two parts, and the head of a list that is not linked
  pub unlinked_parts : (handle : ℕ) (xs ys : List (Entry I)) → is_linked handle (xs ++ ys) ≡ false → (is_linked handle xs ≡ false) × (is_linked handle ys ≡ false)
  unlinked_parts handle xs ys none = (grind (arith, is_linked-append handle xs ys), grind (arith, is_linked-append handle xs ys))

  pub unlinked_both : (handle : ℕ) (xs ys : List (Entry I)) → is_linked handle xs ≡ false → is_linked handle ys ≡ false → is_linked handle (xs ++ ys) ≡ false
  unlinked_both handle xs ys first second = grind (arith, is_linked-append handle xs ys)

  pub unlinked_head : (handle : ℕ) (e : Entry I) (es : List (Entry I)) → is_linked handle (e ∷ es) ≡ false → (¬ (e.handle ≡ handle)) × (is_linked handle es ≡ false)
  unlinked_head handle e es none = (λ same. grind (arith, nat_tests), grind (arith, nat_tests))

  pub unlinked_more : (handle : ℕ) (e : Entry I) (es : List (Entry I)) → ¬ (e.handle ≡ handle) → is_linked handle es ≡ false → is_linked handle (e ∷ es) ≡ false
  unlinked_more handle e es apart none = grind (arith, nat_tests)

  pub first_or-append : (xs ys : List (Entry I)) (next : Option ℕ) → first_or (xs ++ ys) next ≡ first_or xs (first_or ys next)
  first_or-append [] ys next = refl
  first_or-append (x ∷ xs) ys next = refl

  pub last_or-append : (prev : Option ℕ) (xs ys : List (Entry I)) → last_or prev (xs ++ ys) ≡ last_or (last_or prev xs) ys
  last_or-append prev [] ys = refl
  last_or-append prev (x ∷ xs) ys = last_or-append (Some x.handle) xs ys

  -- a handle that isn't among the entries is the last of them only where there are none, and it is before them
  pub last_or-other : (handle : ℕ) (prev : Option ℕ) (es : List (Entry I)) → is_linked handle es ≡ false → last_or prev es ≡ Some handle → prev ≡ Some handle
  last_or-other handle prev [] other last = last
  last_or-other handle prev (e ∷ es) other last = absurd (grind (arith, nat_tests, last_or-other handle (Some e.handle) es))

  pub first_or-other : (handle : ℕ) (es : List (Entry I)) (next : Option ℕ) → is_linked handle es ≡ false → first_or es next ≡ Some handle → next ≡ Some handle
  first_or-other handle [] next other first = first
  first_or-other handle (e ∷ es) next other first = absurd (grind (arith, nat_tests))

  -- after an entry there is always a last one
  pub last_or-some : (handle : ℕ) (es : List (Entry I)) → (last : ℕ) × (last_or (Some handle) es ≡ Some last)
  last_or-some handle [] = (handle, refl)
  last_or-some handle (e ∷ es) = last_or-some e.handle es

  -- the parts of a list whose handles differ
  pub record Apart (xs ys : List (Entry I)) : Type 0 where
    pub front : HandlesDiffer xs
    pub back : HandlesDiffer ys
    pub front_only : (handle : ℕ) → is_linked handle xs ≡ true → is_linked handle ys ≡ false
    pub back_only : (handle : ℕ) → is_linked handle ys ≡ true → is_linked handle xs ≡ false

  pub Apart-parts : (xs ys : List (Entry I)) → HandlesDiffer (xs ++ ys) → Apart xs ys
  Apart-parts [] ys differ = record { front = tt; back = differ; front_only = λ handle h. cc; back_only = λ handle h. refl }
  Apart-parts (x ∷ xs) ys differ =
      let rest = Apart-parts xs ys differ.1 in
      let none = sym (is_linked-append x.handle xs ys) ∙ differ.0 in
      record {
        front = (grind (arith, nat_tests), rest.front);
        back = rest.back;
        front_only = λ handle h. grind (arith, nat_tests, rest.front_only handle);
        back_only = λ handle h. grind (arith, nat_tests, rest.back_only handle);
      }

  -- the second part without its first entry
  pub Apart-without : (xs : List (Entry I)) (e : Entry I) (ys : List (Entry I)) → Apart xs (e ∷ ys) → Apart xs ys
  Apart-without xs e ys apart = record {
    front = apart.front;
    back = apart.back.1;
    front_only = λ handle h. grind (arith, nat_tests, apart.front_only handle);
    back_only = λ handle h. grind (arith, nat_tests, apart.back_only handle);
  }

  pub HandlesDiffer-append : (xs ys : List (Entry I)) → Apart xs ys → HandlesDiffer (xs ++ ys)
  HandlesDiffer-append [] ys apart = apart.back
  HandlesDiffer-append (x ∷ xs) ys apart = (
    rw (is_linked-append x.handle xs ys) (grind (arith, nat_tests, apart.front_only x.handle)),
    HandlesDiffer-append xs ys (record {
      front = apart.front.1;
      back = apart.back;
      front_only = λ handle h. grind (arith, nat_tests, apart.front_only handle);
      back_only = λ handle h. grind (arith, nat_tests, apart.back_only handle);
    }),
  )

  -- a linked handle has an item
  pub item_at-linked : (handle : ℕ) (es : List (Entry I)) → is_linked handle es ≡ true → (item : I) × (item_at handle es ≡ Some item)
  item_at-linked handle [] linked = absurd (cc)
  item_at-linked handle (e ∷ es) linked = elim (cases_eq e.handle handle) [
    | inl same ↦ (e.item, grind (arith, nat_tests))
    | inr apart ↦ let later = item_at-linked handle es (grind (arith, nat_tests)) in (later.0, grind (arith, nat_tests, later.1))
  ]

  -- the list is what is before a handle, its entry, and what is after it
  pub split_at : (handle : ℕ) (item : I) (es : List (Entry I)) → item_at handle es ≡ Some item → es ≡ before handle es ++ record { handle = handle; item = item } ∷ after handle es
  split_at handle item [] is = absurd (cc)
  split_at handle item (e ∷ es) is = grind (arith, nat_tests, common_steps, split_at handle item es)

  -- the other way round: an entry whose handle isn't linked before it splits the list
  pub before-split : (handle : ℕ) (item : I) (front back : List (Entry I)) → is_linked handle front ≡ false
      → before handle (front ++ record { handle = handle; item = item } ∷ back) ≡ front
  before-split handle item [] back other = grind (arith, nat_tests)
  before-split handle item (e ∷ front) back other = grind (arith, nat_tests, common_steps, before-split handle item front back)

  pub after-split : (handle : ℕ) (item : I) (front back : List (Entry I)) → is_linked handle front ≡ false
      → after handle (front ++ record { handle = handle; item = item } ∷ back) ≡ back
  after-split handle item [] back other = grind (arith, nat_tests)
  after-split handle item (e ∷ front) back other = grind (arith, nat_tests, common_steps, after-split handle item front back)

  pub item_at-split : (handle : ℕ) (item : I) (front back : List (Entry I)) → is_linked handle front ≡ false
      → item_at handle (front ++ record { handle = handle; item = item } ∷ back) ≡ Some item
  item_at-split handle item [] back other = grind (arith, nat_tests)
  item_at-split handle item (e ∷ front) back other = grind (arith, nat_tests, common_steps, item_at-split handle item front back)

  -- a handle at an end is linked
  pub last_handle-linked : (es : List (Entry I)) (handle : ℕ) → last_handle es ≡ Some handle → is_linked handle es ≡ true
  last_handle-linked es handle last = true_from_ne_false _ (λ none. no_end (last_or-other handle None es none last))

  pub first_handle-linked : (es : List (Entry I)) (handle : ℕ) → first_handle es ≡ Some handle → is_linked handle es ≡ true
  first_handle-linked es handle first = true_from_ne_false _ (λ none. no_end (first_or-other handle es None none first))
