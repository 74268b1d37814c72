-- The refinement: what each operation on the nodes and the ends makes of their list.
use Rattle.std.proofs.Common.{◌↔◌, ◌≡◌, ◌≢◌, ℕ, ◌+◌, Bool, true, false, List, [], ◌∷◌, ◌++◌, Option, Some, None, refl, sym, ap, ◌∙◌, arith, subst, append-nil, length-append, add-zero}
use Rattle.std.proofs.lemmas.Bool.{true_from_ne_false, false_from_ne_true}
use Rattle.std.proofs.lemmas.Bool.Decides.{nat_tests}
use Rattle.std.specs.Option.{option_map_or}
use Rattle.slab.proofs.SlabLemmas.{vacant_after_removal}
use Rattle.slab.specs.Slab.{Slab, get, slab_len, ContainsKey, Updates}
use Rattle.id_chain.specs.declared.node.Node.{Node}
use Rattle.id_chain.specs.Chain.{Entry, is_linked, before, after, first_or, last_or, first_handle, last_handle}
use Rattle.id_chain.specs.Linking.{IsRun, IsChainOf, Refines, list_of, SetsNext, SetsPrev, IsNodeOf}
use Rattle.id_chain.proofs.Links.{ContainsKey-some}
use Rattle.id_chain.proofs.Entries.{last_handle-linked, first_handle-linked, item_at-linked, split_at, no_end, linked_head, linked_tail, unlinked_parts, unlinked_both, unlinked_more, first_or-append, last_or-append, last_or-other, first_or-other, Apart-parts, Apart-without, HandlesDiffer-append}
use Rattle.id_chain.proofs.Runs.{walk-run, walk_back-run, IsRun-parts, IsRun-append, IsRun-same, IsRun-next, IsRun-prev, node_at, linked_apart, run_linked, vacant_unlinked, first_or-linked, last_or-linked}

module _ {I : Type 0} where
  -- the walk by `next` from the first place gives the list
  pub list_of-chain : (nodes : Slab (Node I)) (first last : Option ℕ) (es : List (Entry I)) → IsChainOf nodes first last es → list_of nodes first ≡ es
  list_of-chain nodes first last es chain =
      rw (sym chain.full, chain.first_is) (walk-run (get nodes) None es chain.run)

  -- The nodes are refined by the list that the walk gives, and the walk by `prev` from the last place gives it reversed.
  pub Refines-walked : (nodes : Slab (Node I)) (first last : Option ℕ) (es : List (Entry I)) → IsChainOf nodes first last es
      → Refines nodes first last (list_of nodes first)
  Refines-walked nodes first last es chain = rw (list_of-chain nodes first last es chain) (record {
    links = chain;
    forward = list_of-chain nodes first last es chain;
    backward = rw (sym chain.full, chain.last_is) (rw (add-zero, append-nil) at (walk_back-run (get nodes) None es None 0 chain.run));
  })

  -- a place is linked exactly where it has a node
  pub has_node : (nodes : Slab (Node I)) (first last : Option ℕ) (es : List (Entry I)) (place : ℕ) → IsChainOf nodes first last es
      → is_linked place es ≡ true → (node : Node I) × (get nodes place ≡ Some node)
  has_node nodes first last es place chain linked = run_linked (get nodes) None es None place chain.run linked

  pub appended : (old nodes new : Slab (Node I)) (first last : Option ℕ) (es : List (Entry I)) (place : ℕ) (item : I)
      → IsChainOf old first last es
      → get old place ≡ None
      → Updates old nodes place (Some (record { item = item; prev = last; next = None }))
      → slab_len nodes ≡ slab_len old + 1
      → SetsNext nodes new last (Some place)
      → IsChainOf new (option_map_or (λ _. first) last (Some place)) (Some place) (es ++ record { handle = place; item = item } ∷ [])
  appended old nodes new first last es place item chain vacant updates len sets =
      let unlinked : is_linked place es ≡ false = vacant_unlinked (get old) None es None place chain.run vacant in
      let kept : (other : ℕ) → is_linked other es ≡ true → get nodes other ≡ get old other =
      λ other linked. updates.others other (linked_apart place other es unlinked linked) in
      let inserted : IsRun (get nodes) None es None = IsRun-same (get old) (get nodes) None es None kept chain.run in
      let front : IsRun (get new) None es (Some place) = IsRun-next nodes new None es None (Some place) chain.differ (rw chain.last_is at sets) inserted in
      let last_other : ¬ (last ≡ Some place) = λ same. no_end (last_or-other place None es unlinked (sym chain.last_is ∙ same)) in
      let here : get new place ≡ Some (record { item = item; prev = last_handle es; next = None }) =
      rw chain.last_is at (sets.others place last_other ∙ updates.changed) in
      record {
        first_is = rw (chain.first_is, chain.last_is) (first_or-linked es None (Some place) ∙ sym (first_or-append es _ None));
        last_is = sym (last_or-append None es _);
        run = IsRun-append (get new) None es _ None front (here, tt);
        differ = HandlesDiffer-append es _ (record {
          front = chain.differ;
          back = (refl, tt);
          front_only = λ other linked. grind (arith, nat_tests, linked_apart place other es unlinked linked);
          back_only = λ other linked. grind (arith, nat_tests);
        });
        full = omega (arith, length-append es (record { handle = place; item = item } ∷ []), chain.full, len, sets.len);
        only = λ other none.
            let parts = unlinked_parts other es _ none in
            let apart : other ≢ place = λ same. grind (arith, nat_tests) in
            let not_last : ¬ (last ≡ Some other) = λ same. no_end (last_or-other other None es parts.0 (sym chain.last_is ∙ same)) in
            sets.others other not_last ∙ updates.others other apart ∙ chain.only other parts.0;
      }

  pub unlinked : (old nodes mid new : Slab (Node I)) (first last prev next : Option ℕ) (front : List (Entry I)) (e : Entry I) (back : List (Entry I))
      → IsChainOf old first last (front ++ e ∷ back)
      → Updates old nodes e.handle None
      → slab_len nodes + 1 ≡ slab_len old
      → prev ≡ last_handle front
      → next ≡ first_handle back
      → SetsNext nodes mid prev next
      → SetsPrev mid new next prev
      → IsChainOf new (option_map_or (λ _. first) prev next) (option_map_or (λ _. last) next prev) (front ++ back)
  unlinked old nodes mid new first last prev next front e back chain updates len prev_is next_is sets_next sets_prev =
      let apart = Apart-parts front (e ∷ back) chain.differ in
      let e_before : is_linked e.handle front ≡ false = apart.back_only e.handle (linked_head e back) in
      let both = Apart-without front e back apart in
      let parts = IsRun-parts (get old) None front (e ∷ back) None chain.run in
      let front_kept : IsRun (get nodes) None front (Some e.handle) =
      IsRun-same (get old) (get nodes) None front (Some e.handle) (λ other linked. updates.others other (linked_apart e.handle other front e_before linked)) parts.0 in
      let back_kept : IsRun (get nodes) (Some e.handle) back None =
      IsRun-same (get old) (get nodes) (Some e.handle) back None (λ other linked. updates.others other (linked_apart e.handle other back apart.back.0 linked)) parts.1.1 in
      let not_prev : (other : ℕ) → is_linked other front ≡ false → ¬ (prev ≡ Some other) =
      λ other none same. no_end (last_or-other other None front none (sym prev_is ∙ same)) in
      let not_next : (other : ℕ) → is_linked other back ≡ false → ¬ (next ≡ Some other) =
      λ other none same. no_end (first_or-other other back None none (sym next_is ∙ same)) in
      let front_next : IsRun (get mid) None front next =
      IsRun-next nodes mid None front (Some e.handle) next apart.front (rw prev_is at sets_next) front_kept in
      let back_next : IsRun (get mid) (Some e.handle) back None =
      IsRun-same (get nodes) (get mid) (Some e.handle) back None (λ other linked. sets_next.others other (not_prev other (both.back_only other linked))) back_kept in
      let front_done : IsRun (get new) None front next =
      IsRun-same (get mid) (get new) None front next (λ other linked. sets_prev.others other (not_next other (both.front_only other linked))) front_next in
      let back_done : IsRun (get new) prev back None =
      IsRun-prev mid new (Some e.handle) back None prev apart.back.1 (rw next_is at sets_prev) back_next in
      record {
        first_is =
            let ends : first ≡ first_or front (Some e.handle) = chain.first_is ∙ first_or-append front (e ∷ back) None in
            rw (ends, prev_is, next_is) (first_or-linked front (Some e.handle) (first_handle back) ∙ sym (first_or-append front back None));
        last_is =
            let ends : last ≡ last_or (Some e.handle) back = chain.last_is ∙ last_or-append None front (e ∷ back) in
            rw (ends, prev_is, next_is) (last_or-linked back (Some e.handle) (last_handle front) ∙ sym (last_or-append None front back));
        run = IsRun-append (get new) None front back None (rw next_is at front_done) (rw prev_is at back_done);
        differ = HandlesDiffer-append front back both;
        full = omega (arith, length-append front back, length-append front (e ∷ back), chain.full, len, sets_next.len, sets_prev.len);
        only = λ other none.
            let parts = unlinked_parts other front back none in
            let removed : get nodes other ≡ None = vacant_after_removal old nodes e.handle other updates (λ apart.
            chain.only other (unlinked_both other front (e ∷ back) parts.0 (unlinked_more other e back (λ same. apart (sym same)) parts.1))) in
            sets_prev.others other (not_next other parts.1) ∙ sets_next.others other (not_prev other parts.0) ∙ removed;
      }

  -- no nodes, no entries
  pub IsChainOf-empty : (nodes : Slab (Node I)) → nodes.slots ≡ [] → IsChainOf nodes None None []
  IsChainOf-empty nodes empty = record {
    first_is = refl;
    last_is = refl;
    run = tt;
    differ = tt;
    full = rw empty refl;
    only = λ place none. rw empty refl;
  }

  -- more room leaves the list
  pub IsChainOf-room : (old new : Slab (Node I)) (first last : Option ℕ) (es : List (Entry I)) → new ≡ record old { capacity = new.capacity } → IsChainOf old first last es → IsChainOf new first last es
  IsChainOf-room old new first last es same chain = rw same (record {
    first_is = chain.first_is;
    last_is = chain.last_is;
    run = chain.run;
    differ = chain.differ;
    full = chain.full;
    only = chain.only;
  })

  -- the list of an open value
  pub opened : (nodes : Slab (Node I)) (first last : Option ℕ) (es : List (Entry I)) → Refines nodes first last (list_of nodes first) → list_of nodes first ≡ es → IsChainOf nodes first last es
  opened nodes first last es refines is = rw is at refines.links

  -- the node at a linked handle
  pub IsNodeOf-linked : (nodes : Slab (Node I)) (first last : Option ℕ) (es : List (Entry I)) (handle : ℕ) (node : Node I) → IsChainOf nodes first last es
      → is_linked handle es ≡ true → get nodes handle ≡ Some node → IsNodeOf node handle es
  IsNodeOf-linked nodes first last es handle node chain linked found =
      let item = item_at-linked handle es linked in
      let run : IsRun (get nodes) None (before handle es ++ record { handle = handle; item = item.0 } ∷ after handle es) None =
      let P : List (Entry I) → Type 0 = λ xs. IsRun (get nodes) None xs None in subst P (split_at handle item.0 es item.1) chain.run in
      let both = sym found ∙ node_at (get nodes) None (before handle es) (record { handle = handle; item = item.0 }) (after handle es) None run in
      let same : node ≡ record { item = item.0; prev = last_handle (before handle es); next = first_handle (after handle es) } = cc in
      record {
        item = item.1 ∙ ap (λ (n : Node I). Some n.item) (sym same);
        next = ap (λ (n : Node I). n.next) same;
        prev = ap (λ (n : Node I). n.prev) same;
      }

  pub linked_present : (nodes : Slab (Node I)) (first last : Option ℕ) (es : List (Entry I)) (handle : ℕ) → IsChainOf nodes first last es
      → is_linked handle es ≡ true → ContainsKey nodes handle
  linked_present nodes first last es handle chain linked =
      let found = has_node nodes first last es handle chain linked in
      ContainsKey-some nodes handle found.0 found.1

  pub has_is : (nodes : Slab (Node I)) (first last : Option ℕ) (es : List (Entry I)) (handle : ℕ) (b : Bool) → IsChainOf nodes first last es
      → ((b ≡ true) ↔ ContainsKey nodes handle) → b ≡ is_linked handle es
  has_is nodes first last es handle true chain is = sym (true_from_ne_false _ (λ none.
      let vacant = chain.only handle none in
      let clash : false ≡ true = rw vacant at (is.0 refl) in cc))
  has_is nodes first last es handle false chain is = sym (false_from_ne_true _ (λ linked. let clash = is.1 (linked_present nodes first last es handle chain linked) in cc))

  -- the last node is there still once a new one is inserted
  pub present_last : (old nodes : Slab (Node I)) (first last : Option ℕ) (es : List (Entry I)) (place : ℕ) (slot : Option (Node I)) → IsChainOf old first last es
      → get old place ≡ None → Updates old nodes place slot → (p : ℕ) → last ≡ Some p → ContainsKey nodes p
  present_last old nodes first last es place slot chain vacant updates p is =
      let linked = last_handle-linked es p (sym chain.last_is ∙ is) in
      let none = vacant_unlinked (get old) None es None place chain.run vacant in
      let found = has_node old first last es p chain linked in
      ContainsKey-some nodes p found.0 (updates.others p (linked_apart place p es none linked) ∙ found.1)

  -- the neighbours of a removed node are there still
  pub record NeighboursStay (nodes : Slab (Node I)) (node : Node I) : Type 0 where
    pub prev : (p : ℕ) → node.prev ≡ Some p → ContainsKey nodes p
    pub next : (mid : Slab (Node I)) → SetsNext nodes mid node.prev node.next → (p : ℕ) → node.next ≡ Some p → ContainsKey mid p

  -- the parts at a linked handle
  pub split_chain : (nodes : Slab (Node I)) (first last : Option ℕ) (es : List (Entry I)) (handle : ℕ) → IsChainOf nodes first last es → is_linked handle es ≡ true
      → (item : I) × IsChainOf nodes first last (before handle es ++ record { handle = handle; item = item } ∷ after handle es)
  split_chain nodes first last es handle chain linked =
      let item = item_at-linked handle es linked in
      let P : List (Entry I) → Type 0 = IsChainOf nodes first last in
      (item.0, subst P (split_at handle item.0 es item.1) chain)

  pub neighbours_stay : (old nodes : Slab (Node I)) (first last : Option ℕ) (es : List (Entry I)) (handle : ℕ) (node : Node I) → IsChainOf old first last es
      → is_linked handle es ≡ true → get old handle ≡ Some node → Updates old nodes handle None → NeighboursStay nodes node
  neighbours_stay old nodes first last es handle node chain linked found updates =
      let read = IsNodeOf-linked old first last es handle node chain linked found in
      let whole = split_chain old first last es handle chain linked in
      let front = before handle es in
      let back = after handle es in
      let e : Entry I = record { handle = handle; item = whole.0 } in
      let apart = Apart-parts front (e ∷ back) whole.1.differ in
      let parts = IsRun-parts (get old) None front (e ∷ back) None whole.1.run in
      let not_front : is_linked handle front ≡ false = apart.back_only handle (linked_head e back) in
      record {
        prev = λ p is.
            let in_front : is_linked p front ≡ true = last_handle-linked front p (sym read.prev ∙ is) in
            let there = run_linked (get old) None front (Some handle) p parts.0 in_front in
            ContainsKey-some nodes p there.0 (updates.others p (linked_apart handle p front not_front in_front) ∙ there.1);
        next = λ mid sets p is.
            let in_back : is_linked p back ≡ true = first_handle-linked back p (sym read.next ∙ is) in
            let there = run_linked (get old) (Some handle) back None p parts.1.1 in_back in
            let not_in_front : is_linked p front ≡ false = apart.back_only p (linked_tail p e back in_back) in
            let not_prev : ¬ (node.prev ≡ Some p) = λ same. no_end (last_or-other p None front not_in_front (sym read.prev ∙ same)) in
            ContainsKey-some mid p there.0 (sets.others p not_prev ∙ updates.others p (linked_apart handle p back apart.back.0 in_back) ∙ there.1);
      }

  -- all of an unlink
  pub unlinked_at : (old nodes mid new : Slab (Node I)) (first last first' last' : Option ℕ) (es : List (Entry I)) (handle : ℕ) (node : Node I) (prev : Option ℕ)
      → IsChainOf old first last es
      → is_linked handle es ≡ true
      → get old handle ≡ Some node
      → Updates old nodes handle None
      → slab_len nodes + 1 ≡ slab_len old
      → SetsNext nodes mid node.prev node.next
      → SetsPrev mid new node.next prev
      → prev ≡ node.prev
      → first' ≡ option_map_or (λ _. first) node.prev node.next
      → last' ≡ option_map_or (λ _. last) node.next prev
      → IsChainOf new first' last' (before handle es ++ after handle es)
  unlinked_at old nodes mid new first last first' last' es handle node prev chain linked found updates len sets_next sets_prev prev_is first_is last_is =
      let read = IsNodeOf-linked old first last es handle node chain linked found in
      let whole = split_chain old first last es handle chain linked in
      rw (first_is, last_is, prev_is)
      (unlinked old nodes mid new first last node.prev node.next (before handle es) (record { handle = handle; item = whole.0 }) (after handle es)
      whole.1 updates len read.prev read.next sets_next (rw prev_is at sets_prev))

  -- all of an append
  pub appended_at : (old nodes new : Slab (Node I)) (first last first' : Option ℕ) (es : List (Entry I)) (place handle : ℕ) (item : I) (prev : Option ℕ)
      → IsChainOf old first last es
      → get old place ≡ None
      → Updates old nodes place (Some (record { item = item; prev = prev; next = None }))
      → prev ≡ last
      → slab_len nodes ≡ slab_len old + 1
      → handle ≡ place
      → SetsNext nodes new last (Some handle)
      → first' ≡ option_map_or (λ _. first) last (Some handle)
      → IsChainOf new first' (Some handle) (es ++ record { handle = handle; item = item } ∷ [])
  appended_at old nodes new first last first' es place handle item prev chain vacant updates prev_is len same sets first_is =
      rw (first_is, same) (appended old nodes new first last es place item chain vacant (rw prev_is at updates) len (rw same at sets))

  -- the handle of an append is not linked before
  pub appended_new : (old : Slab (Node I)) (first last : Option ℕ) (es : List (Entry I)) (place handle : ℕ) → IsChainOf old first last es → get old place ≡ None → handle ≡ place
      → is_linked handle es ≡ false
  appended_new old first last es place handle chain vacant same = rw same (vacant_unlinked (get old) None es None place chain.run vacant)
