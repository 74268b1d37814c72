-- Runs of linked nodes.
use Rattle.std.proofs.Common.{◌≡◌, ◌≢◌, ℕ, suc, ◌+◌, true, false, List, [], ◌∷◌, ◌++◌, length, Option, Some, None, refl, sym, ap, ◌∙◌, inl, inr, arith, append_assoc, zero-add, reverse}
use Rattle.std.proofs.lemmas.Bool.{cases_eq, false_from_ne_true}
use Rattle.std.proofs.lemmas.Bool.Decides.{nat_tests}
use Rattle.std.proofs.lemmas.Grind.{reverse_onto}
use Rattle.std.specs.Option.{option_map_or}
use Rattle.slab.specs.Slab.{Slab, get}
use Rattle.id_chain.specs.declared.node.Node.{Node}
use Rattle.id_chain.specs.Chain.{Entry, is_linked, HandlesDiffer, first_or, last_or}
use Rattle.id_chain.specs.Linking.{walk, walk_back, IsRun, SetsNext, SetsPrev}
use Rattle.id_chain.proofs.Entries.{no_end, first_or-append, last_or-other, last_or-some}

module _ {I : Type 0} where
  -- the walk by `next` over a run gives its entries
  pub walk-run : (at : ℕ → Option (Node I)) (prev : Option ℕ) (es : List (Entry I)) → IsRun at prev es None → walk at (length es) (first_or es None) ≡ es
  walk-run at prev [] run = refl
  walk-run at prev (e ∷ es) run = rw run.0 (ap (λ xs. e ∷ xs) (walk-run at (Some e.handle) es run.1))

  -- the walk by `prev` gives them reversed, and goes on before the run
  pub walk_back-run : (at : ℕ → Option (Node I)) (prev : Option ℕ) (es : List (Entry I)) (next : Option ℕ) (more : ℕ) → IsRun at prev es next
      → walk_back at (length es + more) (last_or prev es) ≡ reverse es ++ walk_back at more prev
  walk_back-run at prev [] next more run = rw zero-add refl
  walk_back-run at prev (e ∷ es) next more run =
      let later = walk_back-run at (Some e.handle) es next (suc more) run.1 in
      let shift : suc (length es) + more ≡ length es + suc more = omega arith in
      let here : walk_back at (suc more) (Some e.handle) ≡ e ∷ walk_back at more prev = rw run.0 refl in
      rw (shift, later, here) (sym (ap (λ xs. xs ++ walk_back at more prev) (reverse_onto es e []) ∙ append_assoc (reverse es) (e ∷ []) (walk_back at more prev)))

  -- a run in two parts
  pub IsRun-parts : (at : ℕ → Option (Node I)) (prev : Option ℕ) (xs ys : List (Entry I)) (next : Option ℕ) → IsRun at prev (xs ++ ys) next
      → IsRun at prev xs (first_or ys next) × IsRun at (last_or prev xs) ys next
  IsRun-parts at prev [] ys next run = (tt, run)
  IsRun-parts at prev (x ∷ xs) ys next run =
      let rest = IsRun-parts at (Some x.handle) xs ys next run.1 in
      ((rw (first_or-append xs ys next) at run.0, rest.0), rest.1)

  pub IsRun-append : (at : ℕ → Option (Node I)) (prev : Option ℕ) (xs ys : List (Entry I)) (next : Option ℕ) → IsRun at prev xs (first_or ys next)
      → IsRun at (last_or prev xs) ys next → IsRun at prev (xs ++ ys) next
  IsRun-append at prev [] ys next front back = back
  IsRun-append at prev (x ∷ xs) ys next front back =
      (rw (first_or-append xs ys next) front.0, IsRun-append at (Some x.handle) xs ys next front.1 back)

  -- a change of other nodes leaves a run
  pub IsRun-same : (at now : ℕ → Option (Node I)) (prev : Option ℕ) (es : List (Entry I)) (next : Option ℕ)
      → ((place : ℕ) → is_linked place es ≡ true → now place ≡ at place) → IsRun at prev es next → IsRun now prev es next
  IsRun-same at now prev [] next same run = tt
  IsRun-same at now prev (e ∷ es) next same run =
      (same e.handle (grind (arith, nat_tests)) ∙ run.0, IsRun-same at now (Some e.handle) es next (λ place linked. same place (grind (arith, nat_tests))) run.1)

  last_not_first : (e f : Entry I) (es : List (Entry I)) → is_linked e.handle (f ∷ es) ≡ false → last_or (Some f.handle) es ≡ Some e.handle → ⊥
  last_not_first e f es other last = grind (arith, nat_tests, last_or-other e.handle (Some f.handle) es)

  first_not_later : (e : Entry I) (es : List (Entry I)) (place : ℕ) → is_linked e.handle es ≡ false → is_linked place es ≡ true → Some e.handle ≡ Some place → ⊥
  first_not_later e es place other linked first = grind (arith, nat_tests)

  -- the last node of a run is linked to what follows now
  pub IsRun-next : (old new : Slab (Node I)) (prev : Option ℕ) (es : List (Entry I)) (next to : Option ℕ) → HandlesDiffer es
      → SetsNext old new (last_or prev es) to → IsRun (get old) prev es next → IsRun (get new) prev es to
  IsRun-next old new prev [] next to differ sets run = tt
  IsRun-next old new prev (e ∷ []) next to differ sets run = (sets.changed e.handle _ refl run.0, tt)
  IsRun-next old new prev (e ∷ f ∷ es) next to differ sets run = (
    sets.others e.handle (λ last. absurd (last_not_first e f es differ.0 last)) ∙ run.0,
    IsRun-next old new (Some e.handle) (f ∷ es) next to differ.1 sets run.1,
  )

  -- the first node of a run is linked to what is before it now
  pub IsRun-prev : (old new : Slab (Node I)) (prev : Option ℕ) (es : List (Entry I)) (next to : Option ℕ) → HandlesDiffer es
      → SetsPrev old new (first_or es next) to → IsRun (get old) prev es next → IsRun (get new) to es next
  IsRun-prev old new prev [] next to differ sets run = tt
  IsRun-prev old new prev (e ∷ es) next to differ sets run = (
    sets.changed e.handle _ refl run.0,
    IsRun-same (get old) (get new) (Some e.handle) es next (λ place linked. sets.others place (λ same. absurd (first_not_later e es place differ.0 linked same))) run.1,
  )

  -- a linked place has the node with its item and its neighbours
  pub node_at : (at : ℕ → Option (Node I)) (prev : Option ℕ) (front : List (Entry I)) (e : Entry I) (back : List (Entry I)) (next : Option ℕ)
      → IsRun at prev (front ++ e ∷ back) next → at e.handle ≡ Some (record { item = e.item; prev = last_or prev front; next = first_or back next })
  node_at at prev front e back next run = (IsRun-parts at prev front (e ∷ back) next run).1.0

  -- two handles of a list with different handles
  pub linked_apart : (handle other : ℕ) (es : List (Entry I)) → is_linked handle es ≡ false → is_linked other es ≡ true → other ≢ handle
  linked_apart handle other es unlinked linked same = grind (arith, nat_tests)

  pub run_linked : (at : ℕ → Option (Node I)) (prev : Option ℕ) (es : List (Entry I)) (next : Option ℕ) (place : ℕ) → IsRun at prev es next → is_linked place es ≡ true
      → (node : Node I) × (at place ≡ Some node)
  run_linked at prev [] next place run linked = absurd (cc)
  run_linked at prev (e ∷ es) next place run linked = elim (cases_eq e.handle place) [
    | inl same ↦ (record { item = e.item; prev = prev; next = first_or es next }, ap at (sym same) ∙ run.0)
    | inr other ↦ run_linked at (Some e.handle) es next place run.1 (grind (arith, nat_tests))
  ]

  -- no run comes by a place with no node
  pub vacant_unlinked : (at : ℕ → Option (Node I)) (prev : Option ℕ) (es : List (Entry I)) (next : Option ℕ) (place : ℕ) → IsRun at prev es next → at place ≡ None
      → is_linked place es ≡ false
  vacant_unlinked at prev es next place run vacant = false_from_ne_true _ (λ linked.
      let found = run_linked at prev es next place run linked in no_end (sym vacant ∙ found.1))

  -- the first handle is set where nothing is before, and the last where nothing follows
  pub first_or-linked : (es : List (Entry I)) (old next : Option ℕ) → option_map_or (λ _. first_or es old) (last_or None es) next ≡ first_or es next
  first_or-linked [] old next = refl
  first_or-linked (e ∷ es) old next = let last = last_or-some e.handle es in rw last.1 refl

  pub last_or-linked : (es : List (Entry I)) (old prev : Option ℕ) → option_map_or (λ _. last_or old es) (first_or es None) prev ≡ last_or prev es
  last_or-linked [] old prev = refl
  last_or-linked (e ∷ es) old prev = refl
