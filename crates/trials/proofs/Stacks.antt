-- What updates keep of a stack beside the list of its live items.
use Rattle.std.proofs.Common.{◌≡◌, ℕ, ◌+◌, ◌<◌, List, [], ◌∷◌, ◌++◌, All, sym, subst, arith}
use Rattle.query_laws.specs.Permuted.{Permuted, nothing, same_head, composed}
use Rattle.std.proofs.lemmas.List.Elements.{All-nil}
use Rattle.query_laws.proofs.Permutations.{Permuted-append_comm, Permuted-filter}
use Rattle.builder_trait.specs.Parts.{Contents, without}
use Rattle.log_levels.specs.Slots.{Slots, IsPartOf}
use Rattle.log_levels.specs.Levels.{live_items, all_items, weight_of}
use Rattle.chain_walk.proofs.Walking.{All-part, below-appended}
use Rattle.trials.specs.Stacks.{IsStackOf}

module _ {P Item : Type 0} {contents : P → Contents Item} {stamp : Item → ℕ} {levels levels' : List (Slots P Item)} {items : List Item} where
  -- a stack that is seen as before
  pub IsStackOf-same : weight_of levels' ≡ weight_of levels → all_items contents levels' ≡ all_items contents levels
      → live_items contents levels' ≡ live_items contents levels → IsStackOf contents stamp levels items → IsStackOf contents stamp levels' items
  IsStackOf-same weight all live h = record {
    below = subst (λ xs. All (λ x. stamp x < weight_of levels') xs) (sym all)
        (subst (λ w. All (λ x. stamp x < w) (all_items contents levels)) (sym weight) h.below);
    live = subst (λ l. Permuted l items) (sym live) h.live;
  }

  -- an item more, the last of the list
  pub IsStackOf-insert : (x : Item) → stamp x ≡ weight_of levels → weight_of levels' ≡ weight_of levels + 1
      → IsPartOf (all_items contents levels') (x ∷ all_items contents levels)
      → Permuted (live_items contents levels') (x ∷ live_items contents levels) → IsStackOf contents stamp levels items
      → IsStackOf contents stamp levels' (items ++ x ∷ [])
  IsStackOf-insert x next weight part live h = record {
    below = below-appended stamp (all_items contents levels') (all_items contents levels) x (weight_of levels) (weight_of levels') part
        (omega (arith, next)) (omega (arith, next, weight)) h.below;
    live = composed live (composed (same_head x h.live) (Permuted-append_comm (x ∷ []) items));
  }

  -- without the items with a stamp
  pub IsStackOf-delete : (s : ℕ) → weight_of levels' ≡ weight_of levels → IsPartOf (all_items contents levels') (all_items contents levels)
      → Permuted (live_items contents levels') (without stamp s (live_items contents levels)) → IsStackOf contents stamp levels items
      → IsStackOf contents stamp levels' (without stamp s items)
  IsStackOf-delete s weight part live h = record {
    below = subst (λ w. All (λ x. stamp x < w) (all_items contents levels')) (sym weight)
        (All-part (λ x. stamp x < weight_of levels) (all_items contents levels') (all_items contents levels) part h.below);
    live = composed live (Permuted-filter _ h.live);
  }

-- nothing is inserted
pub IsStackOf-nil : {P Item : Type 0} {contents : P → Contents Item} {stamp : Item → ℕ} → IsStackOf contents stamp [] []
IsStackOf-nil {P} {Item} {contents} {stamp} = record { below = All-nil (λ x. stamp x < 0); live = nothing }
