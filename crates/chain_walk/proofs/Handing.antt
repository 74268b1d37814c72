-- How many items a walk has handed over.
use Rattle.std.proofs.Common.{◌≡◌, ◌≢◌, ℕ, ◌+◌, ◌<◌, ◌≤◌, ◌∙◌, ◌⊎◌, List, [], ◌∷◌, Option, Some, None, inl, inr, true, length, refl, arith}
use Rattle.std.proofs.lemmas.Bool.Decides.{nat_tests}
use Rattle.std.proofs.lemmas.Grind.{common_steps}
use Rattle.std.proofs.lemmas.List.{length-map}
use Rattle.query_laws.proofs.Permutations.{Permuted-length}
use Rattle.builder_trait.specs.Parts.{Contents}
use Rattle.id_chain.specs.Chain.{Entry, is_linked, before, IsCursor, before_cursor}
use Rattle.log_levels.specs.Levels.{weight_of}
use Rattle.chain_walk.specs.Walk.{Walked, HandsOver, IsWalkOf, live_in}
use Rattle.chain_walk.proofs.Walking.{item_of}

module _ {Item : Type 0} where
  length-before : (handle : ℕ) (es : List (Entry Item)) → is_linked handle es ≡ true → length (before handle es) < length es
  length-before handle [] linked = absurd cc
  length-before handle (e ∷ es) linked = grind (arith, nat_tests, common_steps, length-before handle es)

  -- a cursor has an entry to come exactly where it isn't past the last
  pub few_before : (cursor : Option ℕ) (es : List (Entry Item)) → IsCursor cursor es
      → ((cursor ≡ None) × (length (before_cursor cursor es) ≡ length es)) ⊎ ((cursor ≢ None) × (length (before_cursor cursor es) < length es))
  few_before None es linked = inl (refl, refl)
  few_before (Some handle) es linked = inr ((λ none. absurd cc), length-before handle es linked)

-- as many are live in the stack as stand before the cursor
pub as_walked : {P Item : Type 0} (contents : P → Contents Item) (stamp : Item → ℕ) (r : Walked P Item) (es : List (Entry Item)) {stamps : ℕ}
    → IsWalkOf contents stamp r es stamps → live_in contents r.stack ≡ length (before_cursor r.cursor es)
as_walked contents stamp r es own = Permuted-length own.live ∙ length-map (before_cursor r.cursor es) item_of

module _ {P Item : Type 0} {contents : P → Contents Item} {r r' : Walked P Item} {most : ℕ} where
  pub handed_over : (n : ℕ) → live_in contents r'.stack ≡ live_in contents r.stack + n → weight_of r'.stack.levels ≡ weight_of r.stack.levels + n
      → n ≤ most → HandsOver contents most r r'
  handed_over n live weight few = record { no_fewer = omega arith; at_most = omega arith; weight = omega arith }

  -- a stack that gets items weighs no less
  pub lighter : {bound : ℕ} → HandsOver contents most r r' → weight_of r'.stack.levels < bound → weight_of r.stack.levels < bound
  lighter h light = omega arith

  -- some items, and then some more
  pub handed_then : {a b : ℕ} {mid : Walked P Item} → HandsOver contents a r mid → HandsOver contents b mid r' → a + b ≤ most → HandsOver contents most r r'
  handed_then first second few = record { no_fewer = omega arith; at_most = omega arith; weight = omega arith }
