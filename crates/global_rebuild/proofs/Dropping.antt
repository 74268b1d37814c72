-- An index from which an item is dropped, beside the chain from which it is to be unlinked.
use Rattle.std.proofs.Common.{◌≡◌, ◌≢◌, ℕ, ◌+◌, ◌-◌, ◌*◌, ◌^◌, ◌<◌, ◌==◌, ◌∙◌, true, false, if◌then◌else◌, not, nat_lt, List, [], Option, Some, None, All, Contains, map, sym, ap, subst, arith}
use Rattle.std.specs.Option.{option_map}
use Rattle.std.proofs.lemmas.Bool.Decides.{nat_tests}
use Rattle.std.proofs.lemmas.List.{length-map}
use Rattle.std.proofs.lemmas.List.Elements.{All-nil}
use Rattle.query_laws.specs.Permuted.{Permuted, nothing, composed}
use Rattle.query_laws.proofs.Permutations.{Permuted-filter, Permuted-length}
use Rattle.query_laws.specs.StepLedger.{Counts}
use Rattle.builder_trait.specs.Parts.{Contents, without}
use Rattle.id_chain.specs.Chain.{Entry, is_linked, item_at, after, IsCursor, before_cursor, without_handle, first_handle}
use Rattle.log_levels.specs.Levels.{live_items, all_items, weight_of}
use Rattle.log_levels.specs.Trades.{Trades, Ticks}
use Rattle.log_method.specs.Retired.{used_of}
use Rattle.log_method.specs.Stack.{Stacked, Deletes}
use Rattle.part_store.specs.Store.{Stored}
use Rattle.log_levels.specs.Cost.{IsWithin}
use Rattle.log_levels.proofs.Spending.{IsWithin-more, IsWithin-then}
use Rattle.chain_walk.specs.Walk.{Walked as Shadow, IsWalkOf as IsShadowOf, live_in, stamp_at}
use Rattle.global_rebuild.specs.Index.{Indexed, OwnsMemory, IsIndexOf, IsIndex, IsPrepared, IsInTime, IsQuiet, unwalked}
use Rattle.chain_walk.proofs.Walking.{item_of, All-part}
use Rattle.chain_walk.proofs.Forgetting.{items_without, length-without_handle, IsWalkOf-deleted, IsWalkOf-moved, IsWalkOf-after, one_fewer, walked_live}
use Rattle.chain_walk.proofs.Renewing.{HandlesDiffer-without, rise_without}
use Rattle.global_rebuild.proofs.Weights.{IsSoundOf, as_many, shadow_light}
use Rattle.global_rebuild.proofs.Owning.{owns-main, owns-fresh, owns-shadow, owns-moved}

-- more is dead than half of what is live, and eight
pub is_over : (weight live : ℕ) → 3 * live + 16 < 2 * weight → nat_lt (live + 16) (2 * (weight - live)) ≡ true
is_over weight live more = let dead : live + 16 < 2 * (weight - live) = omega (arith, more) in grind (arith, nat_tests, dead)

-- an index is in order wherever the cursor of its shadow is
module _ {P Item : Type 0} (contents : P → Contents Item) (i : Indexed P Item) (r : Shadow P Item)
    (owns : (cursor : Option ℕ) → OwnsMemory (record i { shadow = Some (record r { cursor = cursor }) }))
    (in_time : (cursor : Option ℕ) → IsInTime contents 0 i.main (record r { cursor = cursor })) (left : All (λ s. 0 < used_of s.levels) i.retired) where
  pub in_order : (r' : Shadow P Item) → r'.stack ≡ r.stack → IsIndex contents (record i { shadow = Some r' })
  in_order r' same =
      let now : Shadow P Item = record r { cursor = r'.cursor } in
      subst (λ s. IsIndex contents (record i { shadow = Some (record { stack = s; cursor = r'.cursor }) })) (sym same) (record {
        quiet = λ none. absurd cc;
        in_time = λ x is. let one : now ≡ x = cc in subst (IsInTime contents 0 i.main) one (in_time r'.cursor);
        left = left;
        memory = owns r'.cursor;
      })

-- a prepared index of a chain with an item, what is seen of it, and its main stack without the item, with the store after that tick
pub record IsDropped {P Item : Type 0} (contents : P → Contents Item) (stamp : Item → ℕ) (i now : Indexed P Item) (es : List (Entry Item)) (stamps handle : ℕ)
    (item : Item) (main : Stacked P Item) (store : Stored) : Type 0 where
  pub view : i ≡ now
  pub valid : IsIndex contents i
  pub prepared : IsPrepared contents now
  pub chain : IsIndexOf contents stamp now es stamps
  pub linked : is_linked handle es ≡ true
  pub is : item_at handle es ≡ Some item
  pub deletes : Deletes contents stamp (stamp item) i.main.levels main.levels
  pub ticks : Ticks i.main.levels i.store main.levels store

module _ {P Item : Type 0} {contents : P → Contents Item} {stamp : Item → ℕ} {i now : Indexed P Item} {es : List (Entry Item)} {stamps handle : ℕ} {item : Item}
    {main : Stacked P Item} {store : Stored} (f : IsDropped contents stamp i now es stamps handle item main store) where
  pub h : IsIndexOf contents stamp i es stamps
  h = subst (λ j. IsIndexOf contents stamp j es stamps) (sym f.view) f.chain

  pub p : IsPrepared contents i
  p = subst (IsPrepared contents) (sym f.view) f.prepared

  abbrev others : List (Entry Item)
  others = without_handle handle es

  pub others_left : Permuted (live_items contents main.levels) (map item_of others)
  others_left =
      subst (Permuted (live_items contents main.levels)) (items_without stamp handle 0 item es stamps h.rise f.is)
      (composed f.deletes.live (Permuted-filter (λ x. not (stamp x == stamp item)) h.live))

  pub one_dropped : live_in contents main + 1 ≡ live_in contents i.main
  one_dropped =
      omega (arith, Permuted-length others_left, length-map others item_of, length-without_handle handle es f.linked, as_many contents stamp i es h)

  pub few_left : 3 * live_in contents main + 16 < 2 ^ 64
  few_left = omega (arith, one_dropped, as_many contents stamp i es h, h.few)

  -- what is lent after the tick
  pub owned : OwnsMemory (record i { store = store; main = main })
  owned = owns-main f.valid.memory main store f.ticks.trades

  -- with the main stack without the item, and this shadow, it is an index of the others
  abbrev IsSoundWith : Stored → Option (Shadow P Item) → Type 0
  IsSoundWith left shadow = IsSoundOf contents stamp (record i { store = left; main = main; shadow = shadow }) others stamps

  sound : (left : Stored) (shadow : Option (Shadow P Item)) → OwnsMemory (record i { store = left; main = main; shadow = shadow })
      → (shadow ≡ None → IsQuiet contents main)
      → ((r : Shadow P Item) → shadow ≡ Some r → IsInTime contents 0 main r × IsShadowOf contents stamp r others stamps) → IsSoundWith left shadow
  sound left shadow owns quiet some = (
    record {
      quiet = quiet;
      in_time = λ r there. (some r there).0;
      left = f.valid.left;
      memory = owns;
    },
    record {
      live = others_left;
      below = All-part (λ x. stamp x < stamps) (all_items contents main.levels) (all_items contents i.main.levels) f.deletes.items h.below;
      shadow = λ r there. (some r there).1;
      rise = rise_without handle item es f.is stamp stamps h.rise;
      differ = HandlesDiffer-without handle item es f.is h.differ;
      few = omega (arith, length-without_handle handle es f.linked, h.few);
    },
  )

  -- no rebuild runs, and none starts
  pub stays_quiet : i.shadow ≡ None → IsQuiet contents main → IsSoundWith store i.shadow
  stays_quiet none quiet = sound store i.shadow owned (λ no. quiet) (λ r there. let wrong : Some r ≡ None = sym there ∙ none in absurd cc)

  goes_on : (left : Stored) (r : Shadow P Item) → OwnsMemory (record i { store = left; main = main; shadow = Some r }) → IsInTime contents 0 main r
      → IsShadowOf contents stamp r others stamps → IsSoundWith left (Some r)
  goes_on left r owns t own =
      sound left (Some r) owns (λ no. absurd cc)
      (λ x there. let one : r ≡ x = cc in subst (λ s. IsInTime contents 0 main s × IsShadowOf contents stamp s others stamps) one (t, own))

  -- no rebuild runs, and one starts
  pub starts : i.shadow ≡ None → (cursor : Option ℕ) → IsCursor cursor others → before_cursor cursor others ≡ []
      → IsSoundWith store (Some (record { stack = record { levels = [] }; cursor = cursor }))
  starts none cursor at first =
      let quiet = f.valid.quiet none in
      goes_on store (record { stack = record { levels = [] }; cursor = cursor }) (owns-fresh owned none cursor)
      (record { few = omega arith; main_light = omega (arith, quiet, one_dropped, f.deletes.weight); shadow_light = omega arith })
      (record {
        cursor = at;
        live = subst (λ l. Permuted [] (map item_of l)) (sym first) nothing;
        below = All-nil (λ x. stamp x < stamp_at stamp cursor others stamps);
      })

  module _ (r : Shadow P Item) (there : i.shadow ≡ Some r) where
    pub own : IsShadowOf contents stamp r es stamps
    own = h.shadow r there

    pub ahead : IsInTime contents 4 i.main r
    ahead = (p.shadow r there).0

    pub walked_light : weight_of r.stack.levels < 2 ^ 31
    walked_light = omega (arith, shadow_light (f.valid.in_time r there) (omega (arith, as_many contents stamp i es h, h.few)))

    pub walked_few_enough : (g : ℕ) → 2 * live_in contents now.main + 10 < 2 ^ (g + 1) → weight_of r.stack.levels < 2 ^ (g + 1)
    walked_few_enough g light = omega (arith, ahead.few, ahead.shadow_light, light, ap (λ j. live_in contents j.main) f.view)

    -- an item that was handed over is live in the shadow
    pub walked_item : is_linked handle (before_cursor r.cursor es) ≡ true → Contains (live_items contents r.stack.levels) item
    walked_item walked = walked_live contents stamp r es stamps handle item h.rise own f.is walked

    -- it is dropped there too
    pub goes_on_without : (r' : Shadow P Item) (left : Stored) → r'.cursor ≡ r.cursor → is_linked handle (before_cursor r.cursor es) ≡ true
        → Deletes contents stamp (stamp item) r.stack.levels r'.stack.levels → Trades r.stack.levels store r'.stack.levels left
        → IsSoundWith left (Some r')
    goes_on_without r' left same walked d moves =
        let one = one_fewer contents stamp r es stamps handle item h.rise own f.is (live_items contents r'.stack.levels) walked d.live in
        subst (λ k. IsSoundWith left (Some (record { stack = r'.stack; cursor = k }))) (sym same) (goes_on left (record r { stack = r'.stack })
        (owns-shadow owned r there (record r { stack = r'.stack }) left moves) (record {
          few = omega (arith, ahead.few, one, one_dropped);
          main_light = omega (arith, ahead.few, ahead.main_light, one, one_dropped, f.deletes.weight);
          shadow_light = omega (arith, ahead.few, ahead.shadow_light, one, one_dropped, d.weight);
        }) (IsWalkOf-deleted contents stamp r es stamps handle item h.rise own f.is r'.stack walked d.live d.items))

    in_time_at : (cursor : Option ℕ) → IsInTime contents 0 main (record r { cursor = cursor })
    in_time_at cursor =
        let some = (p.shadow r there).1 in
        record {
          few = omega (arith, some, one_dropped);
          main_light = omega (arith, ahead.main_light, some, one_dropped, f.deletes.weight);
          shadow_light = omega (arith, ahead.shadow_light, some, one_dropped);
        }

    -- wherever the walk goes on, the index is in order
    pub in_order_at : (r' : Shadow P Item) → r'.stack ≡ r.stack → IsIndex contents (record i { store = store; main = main; shadow = Some r' })
    in_order_at = in_order contents (record i { store = store; main = main }) r (owns-moved owned r there) in_time_at f.valid.left

    -- the cursor was at it, and goes on
    pub goes_on_moved : r.cursor ≡ Some handle → IsSoundWith store (Some (record r { cursor = first_handle (after handle es) }))
    goes_on_moved at =
        goes_on store (record r { cursor = first_handle (after handle es) }) (owns-moved owned r there (first_handle (after handle es))) (in_time_at (first_handle (after handle es)))
        (IsWalkOf-moved contents stamp r es stamps handle item h.rise own f.is h.differ at)

    -- it comes after the cursor
    pub goes_on_after : is_linked handle (before_cursor r.cursor es) ≡ false → r.cursor ≢ Some handle → IsSoundWith store (Some r)
    goes_on_after later other =
        goes_on store r (owns-moved owned r there r.cursor) (in_time_at r.cursor) (IsWalkOf-after contents stamp r es stamps handle item h.rise own f.is later other)

    -- as many are left after it is dropped, or one fewer
    module _ (old : Shadow P Item) (was : now.shadow ≡ Some old) where
      pub same : r ≡ old
      same = let some : Some r ≡ Some old = sym there ∙ ap (λ j. j.shadow) f.view ∙ was in cc

      pub left_without : (stack : Stacked P Item) → is_linked handle (before_cursor r.cursor es) ≡ true
          → Permuted (live_items contents stack.levels) (without stamp (stamp item) (live_items contents r.stack.levels))
          → Some (live_in contents main - live_in contents stack)
          ≡ option_map (λ w. if is_linked handle (before_cursor old.cursor es) then w else w - 1) (unwalked contents now)
      left_without stack walked live =
          let one = one_fewer contents stamp r es stamps handle item h.rise own f.is (live_items contents stack.levels) walked live in
          rw (was, ← same, walked) (ap Some (omega (arith, one, one_dropped, ap (λ j. live_in contents j.main) f.view)))

      pub left_after : is_linked handle (before_cursor r.cursor es) ≡ false
          → Some (live_in contents main - live_in contents r.stack)
          ≡ option_map (λ w. if is_linked handle (before_cursor old.cursor es) then w else w - 1) (unwalked contents now)
      left_after later = rw (was, ← same, later) (ap Some (omega (arith, one_dropped, ap (λ j. live_in contents j.main) f.view)))

-- what two deletes cost
pub at_most_two : {turns marks touches : ℕ} {old new : Counts} → IsWithin turns marks touches old new → IsWithin (2 * turns) (2 * marks) touches old new
at_most_two h = IsWithin-more h (omega arith) (omega arith) (omega arith)

pub both_deletes : {turns marks touches : ℕ} {old mid new : Counts} → IsWithin turns marks touches old mid → IsWithin turns marks touches mid new
    → IsWithin (2 * turns) (2 * marks) touches old new
both_deletes first second = IsWithin-more (IsWithin-then first second) (omega arith) (omega arith) (omega arith)
