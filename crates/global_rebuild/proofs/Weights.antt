-- How much the two stacks of an index weigh.
use Rattle.std.proofs.Common.{◌≡◌, ◌≢◌, ℕ, ◌+◌, ◌*◌, ◌^◌, ◌<◌, ◌≤◌, ◌∙◌, List, [], Option, Some, None, inl, inr, length, min, refl, sym, ap, subst, arith}
use Rattle.std.proofs.lemmas.List.{length-map}
use Rattle.std.proofs.lemmas.List.Elements.{All-nil}
use Rattle.query_laws.specs.Permuted.{nothing}
use Rattle.query_laws.specs.StepLedger.{Counts}
use Rattle.query_laws.proofs.Permutations.{Permuted-length}
use Rattle.builder_trait.specs.Parts.{Contents}
use Rattle.id_chain.specs.Chain.{Entry, before_cursor}
use Rattle.log_levels.specs.Levels.{weight_of}
use Rattle.log_levels.specs.Cost.{IsWithin}
use Rattle.log_levels.proofs.Spending.{IsWithin-times}
use Rattle.log_method.specs.Stack.{Stacked}
use Rattle.log_method.specs.Retired.{used_of}
use Rattle.part_store.specs.Store.{Stored}
use Rattle.chain_walk.proofs.Handing.{few_before, as_walked as walked_by}
use Rattle.chain_walk.specs.Walk.{Walked as Shadow, HandsOver, IsWalkOf as IsShadowOf, live_in}
use Rattle.global_rebuild.specs.Index.{Indexed, HasPaused, IsIndexOf, IsIndex, IsInTime}
use Rattle.global_rebuild.specs.Index.{OwnsMemory}
use Rattle.chain_walk.specs.Memory.{HoldsNoLess}
use Rattle.global_rebuild.proofs.Owning.{owns-empty}

module _ {P Item : Type 0} (contents : P → Contents Item) where
  pub IsIndex-empty : IsIndex contents (record { store = record { builders = []; tables = [] }; main = record { levels = [] }; shadow = None; retired = [] })
  IsIndex-empty = record { quiet = λ none. omega arith; in_time = λ r is. absurd cc; left = All-nil (λ s. 0 < used_of s.levels); memory = owns-empty }

  -- only the shadow is another, and the store
  pub IsIndex-shadow : (i : Indexed P Item) (r : Shadow P Item) (store : Stored) → IsIndex contents i → IsInTime contents 0 i.main r
      → OwnsMemory (record i { store = store; shadow = Some r }) → IsIndex contents (record i { store = store; shadow = Some r })
  IsIndex-shadow i r store v t owns = record {
    quiet = λ none. absurd cc;
    in_time = λ r' is. let one : r ≡ r' = cc in subst (IsInTime contents 0 i.main) one t;
    left = v.left;
    memory = owns;
  }

  -- and has taken items
  pub paused : (i : Indexed P Item) (r r' : Shadow P Item) (store : Stored) {most : ℕ} → i.shadow ≡ Some r → HandsOver contents most r r'
      → HoldsNoLess i.store store → HasPaused contents most i (record i { store = store; shadow = Some r' })
  paused i r r' store {most} there h no_less = record {
    main = refl;
    retired = refl;
    no_less = no_less;
    none = λ none. let wrong : Some r ≡ None = sym there ∙ none in absurd cc;
    going = λ x is.
        let one : r ≡ x = let both : Some r ≡ Some x = sym there ∙ is in cc in (r', refl, subst (λ y. HandsOver contents most y r') one h);
  }

module _ {P Item : Type 0} (contents : P → Contents Item) (stamp : Item → ℕ) where
  -- the index is in order, and that of the items of a chain
  abbrev pub IsSoundOf : Indexed P Item → List (Entry Item) → ℕ → Type 0
  IsSoundOf i es stamps = IsIndex contents i × IsIndexOf contents stamp i es stamps

  pub IsIndexOf-empty : IsIndexOf contents stamp (record { store = record { builders = []; tables = [] }; main = record { levels = [] }; shadow = None; retired = [] }) [] 0
  IsIndexOf-empty = record {
    live = nothing;
    below = All-nil (λ x. stamp x < 0);
    shadow = λ r is. absurd cc;
    rise = omega arith;
    differ = tt;
    few = omega arith;
  }

  module _ (i : Indexed P Item) (es : List (Entry Item)) {stamps : ℕ} (h : IsIndexOf contents stamp i es stamps) where
    pub as_many : live_in contents i.main ≡ length es
    as_many = Permuted-length h.live ∙ length-map es (λ e. e.item)

    module _ (r : Shadow P Item) (own : IsShadowOf contents stamp r es stamps) where
      as_walked : live_in contents r.stack ≡ length (before_cursor r.cursor es)
      as_walked = walked_by contents stamp r es own

      -- where the cursor is at an item, fewer are live in the shadow
      pub walked_few : r.cursor ≢ None → live_in contents r.stack < live_in contents i.main
      walked_few going = elim (few_before r.cursor es own.cursor) [ inl all ↦ absurd (going all.0) | inr some ↦ omega (arith, as_walked, as_many, some.1) ]

      -- and where it is past the last, all are
      pub ended_all : r.cursor ≡ None → live_in contents r.stack ≡ live_in contents i.main
      ended_all ended = as_walked ∙ ap (λ c. length (before_cursor c es)) ended ∙ sym as_many

      -- no more is live in the shadow
      pub live-walked : live_in contents r.stack ≤ live_in contents i.main
      live-walked = elim (few_before r.cursor es own.cursor) [
        | inl all ↦ omega (arith, as_walked, as_many, all.1)
        | inr some ↦ omega (arith, as_walked, as_many, some.1)
      ]

-- four ticks at most
pub four_ticks : (n turns marks : ℕ) {touches : ℕ} {old new : Counts} → IsWithin (min 4 n * turns) (min 4 n * marks) touches old new
    → IsWithin (4 * turns) (4 * marks) touches old new
four_ticks n turns marks h = IsWithin-times (min 4 n) 4 turns marks (omega arith) h

-- a shadow that is in time
module _ {P Item : Type 0} {contents : P → Contents Item} {main : Stacked P Item} {r : Shadow P Item} (t : IsInTime contents 0 main r) where
  pub shadow_light : live_in contents main < 2 ^ 29 → weight_of r.stack.levels + 4 ≤ 2 ^ 31
  shadow_light few = omega (arith, t.few, t.shadow_light, few)

  module _ {r' : Shadow P Item} {most : ℕ} (h : HandsOver contents most r r') where
    -- it doesn't weigh much more after some more inserts
    pub shadow_within : (g : ℕ) → most ≤ 4 → 2 * live_in contents main + 10 < 2 ^ (g + 1) → weight_of r'.stack.levels < 2 ^ (g + 1)
    shadow_within g little light = omega arith

    -- it stays in time while it takes items
    pub in_time-walked : live_in contents r'.stack ≤ live_in contents main → IsInTime contents 0 main r'
    in_time-walked few = record { few = few; main_light = omega arith; shadow_light = omega arith }

    -- and is ahead some inserts later, where items are left
    pub in_time-ahead : live_in contents r'.stack < live_in contents main → live_in contents r'.stack ≡ live_in contents r.stack + most
        → IsInTime contents most main r'
    in_time-ahead left all = record { few = omega arith; main_light = omega arith; shadow_light = omega arith }

module _ {P Item : Type 0} {contents : P → Contents Item} {i now : Indexed P Item} (view : i ≡ now) (v : IsIndex contents i) where
  -- the main stack weighs at most twice its live items, and nine
  pub main_within : weight_of i.main.levels ≤ 2 * live_in contents now.main + 9
  main_within = cases i.shadow refl
    where
      cases : (o : Option (Shadow P Item)) → i.shadow ≡ o → weight_of i.main.levels ≤ 2 * live_in contents now.main + 9
      cases None none = omega (arith, v.quiet none, ap (λ j. live_in contents j.main) view)
      cases (Some r) is = omega (arith, (v.in_time r is).main_light, ap (λ j. live_in contents j.main) view)

  pub main_few : (g : ℕ) → 2 * live_in contents now.main + 10 < 2 ^ (g + 1) → weight_of i.main.levels + 1 < 2 ^ (g + 1)
  main_few g light = omega (arith, main_within, light)

  pub main_light : {stamp : Item → ℕ} {es : List (Entry Item)} {stamps : ℕ} → IsIndexOf contents stamp now es stamps → weight_of i.main.levels < 2 ^ 31
  main_light {stamp} {es} h = omega (arith, main_within, as_many contents stamp now es h, h.few)
