-- The walk back from the end of a chain, and the identifiers that it has come by.
use Rattle.std.proofs.Common.{◌≡◌, ℕ, ◌+◌, ◌-◌, ◌<◌, ◌≤◌, List, [], ◌∷◌, ◌++◌, suc, false, length, take, drop, reverse, Option, Some, None, true, refl, sym, ap, ◌∙◌, subst, arith, inl, inr, length-append, append_assoc}
use Rattle.std.proofs.Math.Seq.{take-append_seam, take-append-add}
use Rattle.std.proofs.lemmas.List.{take-append-drop, length-take, length-reverse, reverse-append, map-append, take_all, length-map, length-drop}
use Rattle.std.proofs.lemmas.Grind.{reverse_onto}
use Rattle.id_chain.specs.Chain.{Entry, is_linked, HandlesDiffer, item_at, before, last_handle}
use Rattle.id_chain.proofs.Entries.{is_linked-append, front_and_last, last_or-append, linked_head, Apart-parts, before-split, item_at-split}
use Rattle.id_directory.specs.Directory.{ids}

take_next : (xs : List ℕ) (y : ℕ) (ys : List ℕ) → take (length xs + 1) (xs ++ y ∷ ys) ≡ take (length xs) (xs ++ y ∷ ys) ++ y ∷ []
take_next xs y ys = take-append-add xs (y ∷ ys) 1 ∙ ap (λ zs. zs ++ y ∷ []) (sym (take-append_seam xs (y ∷ ys)))

module _ {I : Type 0} (id_of : I → ℕ) where
  -- the list as the walk has come by all of `back`
  latest-split : (front : List (Entry I)) (e : Entry I) (back : List (Entry I))
      → take (length back + 1) (reverse (ids id_of (front ++ e ∷ back))) ≡ take (length back) (reverse (ids id_of (front ++ e ∷ back))) ++ id_of e.item ∷ []
  latest-split front e back =
      let newest = reverse (ids id_of back) in
      let count : length newest ≡ length back = length-reverse (ids id_of back) ∙ length-map back _ in
      let whole : reverse (ids id_of (front ++ e ∷ back)) ≡ newest ++ id_of e.item ∷ reverse (ids id_of front) =
      ap reverse (map-append _ front (e ∷ back)) ∙ reverse-append (ids id_of front) (ids id_of (e ∷ back))
      ∙ ap (λ xs. xs ++ reverse (ids id_of front)) (reverse_onto (ids id_of back) (id_of e.item) [])
      ∙ append_assoc newest (id_of e.item ∷ []) (reverse (ids id_of front)) in
      rw (whole, sym count) (take_next newest (id_of e.item) (reverse (ids id_of front)))

  -- one step back, after `count` of them
  pub record StepsBack (es : List (Entry I)) (count handle : ℕ) (item : I) : Type 0 where
    pub linked : is_linked handle es ≡ true
    pub item_is : item_at handle es ≡ Some item
    pub within : count < length es
    pub latest : take (count + 1) (reverse (ids id_of es)) ≡ take count (reverse (ids id_of es)) ++ id_of item ∷ []
    pub prev : last_handle (before handle es) ≡ last_handle (take (length es - (count + 1)) es)

  by_parts : (es : List (Entry I)) (count handle : ℕ) (item : I) (front back : List (Entry I)) → HandlesDiffer es
      → es ≡ front ++ record { handle = handle; item = item } ∷ back → length back ≡ count → StepsBack es count handle item
  by_parts es count handle item front back differ whole later =
      let e : Entry I = record { handle = handle; item = item } in
      let apart = Apart-parts front (e ∷ back) (let P : List (Entry I) → Type 0 = HandlesDiffer in subst P whole differ) in
      let not_before : is_linked handle front ≡ false = apart.back_only handle (linked_head e back) in
      let size : length es ≡ length front + suc (length back) = ap length whole ∙ length-append front (e ∷ back) in
      let shorter : length es - (count + 1) ≡ length front = omega arith in
      record {
        linked = ap (is_linked handle) whole ∙ is_linked-append handle front (e ∷ back) ∙ rw (not_before, linked_head e back) refl;
        item_is = ap (item_at handle) whole ∙ item_at-split handle item front back not_before;
        within = omega arith;
        latest = rw (sym later, whole) (latest-split front e back);
        prev = ap last_handle (ap (before handle) whole ∙ before-split handle item front back not_before
            ∙ sym (ap (λ n. take n es) shorter ∙ ap (take (length front)) whole ∙ take-append_seam front (e ∷ back)));
      }

  pub step_back : (es : List (Entry I)) (count handle : ℕ) → HandlesDiffer es → last_handle (take (length es - count) es) ≡ Some handle
      → (item : I) × StepsBack es count handle item
  step_back es count handle differ last = elim (front_and_last (take (length es - count) es)) [
    | inl none ↦ let clash : None ≡ Some handle = ap last_handle (sym none) ∙ last in absurd (cc)
    | inr some ↦
        let front = some.0 in
        let back = drop (length es - count) es in
        let ends : last_handle (front ++ some.1 ∷ []) ≡ Some handle = ap last_handle (sym some.2) ∙ last in
        let here : some.1.handle ≡ handle = let one : Some some.1.handle ≡ Some handle = sym (last_or-append None front (some.1 ∷ [])) ∙ ends in cc in
        let e : Entry I = record { handle = handle; item = some.1.item } in
        let whole : es ≡ front ++ e ∷ back =
        sym (take-append-drop (length es - count) es) ∙ ap (λ xs. xs ++ back) some.2 ∙ append_assoc front (some.1 ∷ []) back
        ∙ ap (λ h. front ++ record { handle = h; item = some.1.item } ∷ back) here in
        let taken : length front + 1 ≡ length es - count =
        sym (length-append front (some.1 ∷ [])) ∙ ap length (sym some.2) ∙ length-take (length es - count) es ∙ omega arith in
        let later : length back ≡ count = length-drop (length es - count) es ∙ omega arith in
        (some.1.item, by_parts es count handle some.1.item front back differ whole later)
  ]

  -- at the front the walk stays
  pub record StaysAtFront (es : List (Entry I)) (count : ℕ) : Type 0 where
    pub latest : take (count + 1) (reverse (ids id_of es)) ≡ take count (reverse (ids id_of es))
    pub prev : last_handle (take (length es - (count + 1)) es) ≡ None

  pub stay_at_front : (es : List (Entry I)) (count : ℕ) → last_handle (take (length es - count) es) ≡ None → StaysAtFront es count
  stay_at_front es count last = elim (front_and_last (take (length es - count) es)) [
    | inl none ↦
        let short : length es ≤ count = omega (arith, ap length none, length-take (length es - count) es) in
        let all = length-reverse (ids id_of es) ∙ length-map es _ in
        record {
          latest = take_all (count + 1) (reverse (ids id_of es)) (omega arith) ∙ sym (take_all count (reverse (ids id_of es)) (omega arith));
          prev = let gone : length es - (count + 1) ≡ 0 = omega arith in rw gone refl;
        }
    | inr some ↦ let clash : Some some.1.handle ≡ None = sym (last_or-append None some.0 (some.1 ∷ [])) ∙ ap last_handle (sym some.2) ∙ last in absurd (cc)
  ]

  -- after `count` steps back: what was come by, and where the walk is
  pub record HasWalked (es : List (Entry I)) (count : ℕ) (recent : List ℕ) (at : Option ℕ) : Type 0 where
    pub latest : recent ≡ take count (reverse (ids id_of es))
    pub place : at ≡ last_handle (take (length es - count) es)

  pub HasWalked-step : (es : List (Entry I)) (count handle : ℕ) (recent recent' : List ℕ) (at at' : Option ℕ) (item : I) (id : ℕ)
      → HandlesDiffer es → HasWalked es count recent at → at ≡ Some handle → item_at handle es ≡ Some item → id ≡ id_of item
      → recent' ≡ recent ++ id ∷ [] → at' ≡ last_handle (before handle es) → HasWalked es (count + 1) recent' at'
  HasWalked-step es count handle recent recent' at at' item id differ walked is found its_id pushed back =
      let step = step_back es count handle differ (sym walked.place ∙ is) in
      let both : Some step.0 ≡ Some item = sym step.1.item_is ∙ found in
      let same : step.0 ≡ item = cc in
      record {
        latest = pushed ∙ ap (λ xs. xs ++ id ∷ []) walked.latest
            ∙ ap (λ i. take count (reverse (ids id_of es)) ++ i ∷ []) (its_id ∙ ap id_of (sym same)) ∙ sym step.1.latest;
        place = back ∙ step.1.prev;
      }

  pub HasWalked-stay : (es : List (Entry I)) (count : ℕ) (recent recent' : List ℕ) (at at' : Option ℕ)
      → HasWalked es count recent at → at ≡ None → recent' ≡ recent → at' ≡ at → HasWalked es (count + 1) recent' at'
  HasWalked-stay es count recent recent' at at' walked is same same_place =
      let front = stay_at_front es count (sym walked.place ∙ is) in
      record {
        latest = same ∙ walked.latest ∙ sym front.latest;
        place = same_place ∙ is ∙ sym front.prev;
      }

  -- the handle that the walk is at is linked
  pub HasWalked-linked : (es : List (Entry I)) (count handle : ℕ) (recent : List ℕ) (at : Option ℕ)
      → HandlesDiffer es → HasWalked es count recent at → at ≡ Some handle → is_linked handle es ≡ true
  HasWalked-linked es count handle recent at differ walked is = (step_back es count handle differ (sym walked.place ∙ is)).1.linked
