-- How the links of nodes in a slab make a list. No public clause cites this module.
use Rattle.std.specs.Prelude.{◌≡◌, ℕ, zero, suc, false, List, [], ◌∷◌, length, reverse, Option, Some, None}
use Rattle.std.specs.Option.{option_map_or}
use Rattle.slab.specs.Slab.{Slab, get, slab_len}
use Rattle.id_chain.specs.declared.node.Node.{Node}
use Rattle.id_chain.specs.Chain.{Entry, is_linked, HandlesDiffer, item_at, before, after, first_or, first_handle, last_handle}

module _ {I : Type 0} where
  -- the entries that so many steps by `next` come by, from a place on
  abbrev pub walk : (ℕ → Option (Node I)) → ℕ → Option ℕ → List (Entry I)
  walk at zero place = []
  walk at (suc steps) place =
      option_map_or (λ p. option_map_or (λ node. record { handle = p; item = node.item } ∷ walk at steps node.next) (at p) []) place []

  -- the same by `prev`
  abbrev pub walk_back : (ℕ → Option (Node I)) → ℕ → Option ℕ → List (Entry I)
  walk_back at zero place = []
  walk_back at (suc steps) place =
      option_map_or (λ p. option_map_or (λ node. record { handle = p; item = node.item } ∷ walk_back at steps node.prev) (at p) []) place []

  -- each entry has its node, which links its neighbours; `prev` and `next` are the neighbours of the whole run
  abbrev pub IsRun : (ℕ → Option (Node I)) → Option ℕ → List (Entry I) → Option ℕ → Type 0
  IsRun at prev [] next = Unit {0}
  IsRun at prev (e ∷ es) next =
      (at e.handle ≡ Some (record { item = e.item; prev = prev; next = first_or es next })) × IsRun at (Some e.handle) es next

  -- the nodes are the list's, and no others, and the ends are its ends
  pub record IsChainOf (nodes : Slab (Node I)) (first last : Option ℕ) (es : List (Entry I)) : Type 0 where
    pub first_is : first ≡ first_handle es
    pub last_is : last ≡ last_handle es
    pub run : IsRun (get nodes) None es None
    pub differ : HandlesDiffer es
    pub full : length es ≡ slab_len nodes
    pub only : (place : ℕ) → is_linked place es ≡ false → get nodes place ≡ None

  -- the list of the fields: the walk by `next` from the first place, over as many nodes as there are
  abbrev pub list_of : Slab (Node I) → Option ℕ → List (Entry I)
  list_of nodes first = walk (get nodes) (slab_len nodes) first

  -- the refinement: the nodes are linked as this list, the walk by `next` from the first place gives it, and the walk by
  -- `prev` from the last gives it reversed
  pub record Refines (nodes : Slab (Node I)) (first last : Option ℕ) (es : List (Entry I)) : Type 0 where
    pub links : IsChainOf nodes first last es
    pub forward : walk (get nodes) (slab_len nodes) first ≡ es
    pub backward : walk_back (get nodes) (slab_len nodes) last ≡ reverse es

  -- the node at the place, where there is one, is changed so, and all else stays
  pub record ChangesNode (change : Node I → Node I) (old new : Slab (Node I)) (place : Option ℕ) : Type 0 where
    pub changed : (p : ℕ) (node : Node I) → place ≡ Some p → get old p ≡ Some node → get new p ≡ Some (change node)
    pub others : (other : ℕ) → ¬ (place ≡ Some other) → get new other ≡ get old other
    pub len : slab_len new ≡ slab_len old
    pub capacity : new.capacity ≡ old.capacity
    pub vacant_key : new.vacant_key ≡ old.vacant_key

  -- the node at the place has this next
  abbrev pub SetsNext : Slab (Node I) → Slab (Node I) → Option ℕ → Option ℕ → Type 0
  SetsNext old new place to = ChangesNode (λ node. record node { next = to }) old new place

  -- the node at the place has this prev
  abbrev pub SetsPrev : Slab (Node I) → Slab (Node I) → Option ℕ → Option ℕ → Type 0
  SetsPrev old new place to = ChangesNode (λ node. record node { prev = to }) old new place

  -- a node has the item and the neighbours of a handle's entry
  pub record IsNodeOf (node : Node I) (handle : ℕ) (es : List (Entry I)) : Type 0 where
    pub item : item_at handle es ≡ Some node.item
    pub next : node.next ≡ first_handle (after handle es)
    pub prev : node.prev ≡ last_handle (before handle es)
