-- An index in which an item is moved: another one is put under its handle, at the end of the chain.
use Rattle.std.proofs.Common.{◌≡◌, ◌≢◌, ℕ, ◌+◌, ◌-◌, ◌*◌, ◌^◌, ◌<◌, ◌∙◌, true, false, if◌then◌else◌, List, [], ◌∷◌, ◌++◌, Option, Some, None, map, refl, sym, ap, subst, arith}
use Rattle.std.specs.Option.{option_map}
use Rattle.std.proofs.lemmas.List.{length-append}
use Rattle.std.proofs.lemmas.List.Elements.{All-nil}
use Rattle.query_laws.specs.Permuted.{Permuted, nothing}
use Rattle.query_laws.proofs.Permutations.{Permuted-length}
use Rattle.builder_trait.specs.Parts.{Contents, without}
use Rattle.id_chain.specs.Chain.{Entry, is_linked, before, after, first_or, IsCursor, before_cursor, without_handle}
use Rattle.id_chain.proofs.Cursors.{linked-append, before-append, others-append}
use Rattle.id_chain.proofs.Entries.{before-split}
use Rattle.id_chain.proofs.Stamps.{StampsRise-append}
use Rattle.log_levels.specs.Levels.{live_items, all_items, weight_of}
use Rattle.log_levels.specs.Trades.{Trades, Ticks}
use Rattle.log_method.specs.Stack.{Stacked, Inserts, Deletes}
use Rattle.part_store.specs.Store.{Stored, KeepsBoth}
use Rattle.chain_walk.specs.Walk.{Walked as Shadow, IsWalkOf as IsShadowOf, live_in, stamp_at, renewed}
use Rattle.global_rebuild.specs.Index.{Indexed, OwnsMemory, IsIndex, IsInTime, IsQuiet, unwalked}
use Rattle.chain_walk.proofs.Walking.{item_of, All-part, Permuted-appended, below-appended}
use Rattle.chain_walk.proofs.Forgetting.{length-without_handle, IsWalkOf-deleted, IsWalkOf-after, one_fewer}
use Rattle.chain_walk.proofs.Appending.{IsWalkOf-appended}
use Rattle.chain_walk.proofs.Renewing.{rise_without}
use Rattle.global_rebuild.proofs.Dropping.{IsDropped, in_order, h, p, others_left, one_dropped, owned, own, ahead, same}
use Rattle.chain_walk.proofs.Renewing.{renewed_differ, renewed_at}
use Rattle.global_rebuild.proofs.Weights.{IsSoundOf, as_many, ended_all}
use Rattle.global_rebuild.proofs.Owning.{owns-main, owns-fresh, owns-shadow, owns-moved}

module _ {Item : Type 0} (handle : ℕ) (es : List (Entry Item)) (item : Item) where
  -- the first of the others, or else the renewed one
  pub first_of : (c : ℕ) → IsCursor (Some c) (without_handle handle es) → before_cursor (Some c) (without_handle handle es) ≡ []
      → IsCursor (Some c) (renewed handle item es) × (before_cursor (Some c) (renewed handle item es) ≡ [])
  first_of c linked first =
      let e : Entry Item = record { handle = handle; item = item } in
      ((others-append c (without_handle handle es) e linked).0, before-append c (without_handle handle es) e linked ∙ first)

  pub first_itself : without_handle handle es ≡ [] → IsCursor (Some handle) (renewed handle item es) × (before_cursor (Some handle) (renewed handle item es) ≡ [])
  first_itself none =
      let e : Entry Item = record { handle = handle; item = item } in (
        linked-append (without_handle handle es) e,
        ap (λ l. before handle (l ++ e ∷ [])) none ∙ before-split handle item [] [] refl,
      )

-- what is in memory stays through two ticks
pub keeps_then : {a b c : Stored} → KeepsBoth a b → KeepsBoth b c → KeepsBoth a c
keeps_then h k = record { builders = λ n. k.builders n ∙ h.builders n; tables = λ n. k.tables n ∙ h.tables n }

-- a prepared index of a chain with an item, what is seen of it, and its main stack without the item, and then with the one that is put in its place
pub record IsMoved {P Item : Type 0} (contents : P → Contents Item) (stamp : Item → ℕ) (i now : Indexed P Item) (es : List (Entry Item)) (handle : ℕ)
    (gone item : Item) (mid main : Stacked P Item) (between store : Stored) : Type 0 where
  pub dropped : IsDropped contents stamp i now es (stamp item) handle gone mid between
  pub inserts : Inserts contents item mid.levels main.levels
  pub ticks : Ticks mid.levels between main.levels store

module _ {P Item : Type 0} {contents : P → Contents Item} {stamp : Item → ℕ} {i now : Indexed P Item} {es : List (Entry Item)} {handle : ℕ} {gone item : Item}
    {mid main : Stacked P Item} {between store : Stored} (m : IsMoved contents stamp i now es handle gone item mid main between store) where
  abbrev e : Entry Item
  e = record { handle = handle; item = item }

  pub as_live : live_in contents main ≡ live_in contents i.main
  as_live = omega (arith, one_dropped m.dropped, Permuted-length m.inserts.live)

  pub few_then : 3 * live_in contents main + 16 < 2 ^ 64
  few_then = omega (arith, as_live, as_many contents stamp i es (h m.dropped), (h m.dropped).few)

  pub heavier : weight_of main.levels ≡ weight_of i.main.levels + 1
  heavier = omega (arith, m.dropped.deletes.weight, m.inserts.weight)

  owned_then : OwnsMemory (record i { store = store; main = main })
  owned_then = owns-main (owned m.dropped) main store m.ticks.trades

  abbrev IsSoundThen : Stored → Option (Shadow P Item) → Type 0
  IsSoundThen left shadow = IsSoundOf contents stamp (record i { store = left; main = main; shadow = shadow }) (renewed handle item es) (stamp item + 1)

  sound : (left : Stored) (shadow : Option (Shadow P Item)) → OwnsMemory (record i { store = left; main = main; shadow = shadow })
      → (shadow ≡ None → IsQuiet contents main)
      → ((r : Shadow P Item) → shadow ≡ Some r → IsInTime contents 0 main r × IsShadowOf contents stamp r (renewed handle item es) (stamp item + 1))
      → IsSoundThen left shadow
  sound left shadow owns quiet some = (
    record {
      quiet = quiet;
      in_time = λ r there. (some r there).0;
      left = m.dropped.valid.left;
      memory = owns;
    },
    record {
      live = Permuted-appended (without_handle handle es) e m.inserts.live (others_left m.dropped);
      below = below-appended stamp (all_items contents main.levels) (all_items contents mid.levels) item (stamp item) (stamp item + 1) m.inserts.items
          (omega arith) (omega arith)
          (All-part (λ x. stamp x < stamp item) (all_items contents mid.levels) (all_items contents i.main.levels) m.dropped.deletes.items (h m.dropped).below);
      shadow = λ r there. (some r there).1;
      rise = StampsRise-append stamp 0 (without_handle handle es) (stamp item) e (omega arith)
          (rise_without handle gone es m.dropped.is stamp (stamp item) (h m.dropped).rise);
      differ = renewed_differ handle es item gone m.dropped.is (h m.dropped).differ;
      few = omega (arith, length-append (without_handle handle es) (e ∷ []), length-without_handle handle es m.dropped.linked, (h m.dropped).few);
    },
  )

  -- no rebuild runs, and none starts
  pub moved_quiet : i.shadow ≡ None → IsQuiet contents main → IsSoundThen store i.shadow
  moved_quiet none quiet = sound store i.shadow owned_then (λ no. quiet) (λ r there. let wrong : Some r ≡ None = sym there ∙ none in absurd cc)

  goes_on : (left : Stored) (r : Shadow P Item) → OwnsMemory (record i { store = left; main = main; shadow = Some r }) → IsInTime contents 0 main r
      → IsShadowOf contents stamp r (renewed handle item es) (stamp item + 1) → IsSoundThen left (Some r)
  goes_on left r owns t own =
      sound left (Some r) owns (λ no. absurd cc) (λ x there.
      let one : r ≡ x = cc in
      subst (λ s. IsInTime contents 0 main s × IsShadowOf contents stamp s (renewed handle item es) (stamp item + 1)) one (t, own))

  -- no rebuild runs, and one starts
  pub moved_starts : i.shadow ≡ None → (cursor : Option ℕ) → IsCursor cursor (renewed handle item es) → before_cursor cursor (renewed handle item es) ≡ []
      → IsSoundThen store (Some (record { stack = record { levels = [] }; cursor = cursor }))
  moved_starts none cursor at first =
      let quiet = m.dropped.valid.quiet none in
      goes_on store (record { stack = record { levels = [] }; cursor = cursor }) (owns-fresh owned_then none cursor)
      (record { few = omega arith; main_light = omega (arith, quiet, as_live, heavier); shadow_light = omega arith })
      (record {
        cursor = at;
        live = subst (λ l. Permuted [] (map item_of l)) (sym first) nothing;
        below = All-nil (λ x. stamp x < stamp_at stamp cursor (renewed handle item es) (stamp item + 1));
      })

  module _ (r : Shadow P Item) (there : i.shadow ≡ Some r) where
    -- items are left to walk by
    stands : (c : ℕ) × (r.cursor ≡ Some c)
    stands = at r.cursor refl
      where
        at : (cursor : Option ℕ) → r.cursor ≡ cursor → (c : ℕ) × (r.cursor ≡ Some c)
        at None ended =
            let all = ended_all contents stamp i es (h m.dropped) r (own m.dropped r there) ended in absurd (omega (arith, all, ((p m.dropped).shadow r there).1))
        at (Some c) is = (c, is)

    -- it is dropped from the shadow too, which gets the other one later
    pub moved_without : (r' : Shadow P Item) (left : Stored) → r'.cursor ≡ r.cursor → is_linked handle (before_cursor r.cursor es) ≡ true
        → Deletes contents stamp (stamp gone) r.stack.levels r'.stack.levels → Trades r.stack.levels store r'.stack.levels left → IsSoundThen left (Some r')
    moved_without r' left same walked d moves =
        let t = ahead m.dropped r there in
        let one = one_fewer contents stamp r es (stamp item) handle gone (h m.dropped).rise (own m.dropped r there) m.dropped.is (live_items contents r'.stack.levels) walked d.live in
        subst (λ k. IsSoundThen left (Some (record { stack = r'.stack; cursor = k }))) (sym same) (goes_on left (record r { stack = r'.stack })
        (owns-shadow owned_then r there (record r { stack = r'.stack }) left moves) (record {
          few = omega (arith, t.few, one, as_live);
          main_light = omega (arith, t.few, t.main_light, one, as_live, heavier);
          shadow_light = omega (arith, t.few, t.shadow_light, one, as_live, d.weight);
        }) (IsWalkOf-appended contents stamp (record r { stack = r'.stack }) (without_handle handle es) e stands.0 stands.1
        (IsWalkOf-deleted contents stamp r es (stamp item) handle gone (h m.dropped).rise (own m.dropped r there) m.dropped.is r'.stack walked d.live d.items)))

    in_time_at : (cursor : Option ℕ) → IsInTime contents 0 main (record r { cursor = cursor })
    in_time_at cursor =
        let t = ahead m.dropped r there in
        record {
          few = omega (arith, t.few, as_live);
          main_light = omega (arith, t.main_light, as_live, heavier);
          shadow_light = omega (arith, t.shadow_light, as_live);
        }

    -- it comes after the cursor
    pub moved_after : is_linked handle (before_cursor r.cursor es) ≡ false → r.cursor ≢ Some handle → IsSoundThen store (Some r)
    moved_after later other =
        goes_on store r (owns-moved owned_then r there r.cursor) (in_time_at r.cursor)
        (IsWalkOf-appended contents stamp r (without_handle handle es) e stands.0 stands.1
        (IsWalkOf-after contents stamp r es (stamp item) handle gone (h m.dropped).rise (own m.dropped r there) m.dropped.is later other))

    -- wherever the walk goes on, the index is in order
    pub in_order_at : (r' : Shadow P Item) → r'.stack ≡ r.stack → IsIndex contents (record i { store = store; main = main; shadow = Some r' })
    in_order_at = in_order contents (record i { store = store; main = main }) r (owns-moved owned_then r there) in_time_at m.dropped.valid.left

    -- the cursor was at it, and goes on to the next one, or else to the one in its place
    pub moved_at : r.cursor ≡ Some handle → (r' : Shadow P Item) → r'.stack ≡ r.stack → r'.cursor ≡ first_or (after handle es) (Some handle)
        → IsSoundThen store (Some r')
    moved_at at r' same goes =
        let cursor = first_or (after handle es) (Some handle) in
        let moved : IsSoundThen store (Some (record r { cursor = cursor })) =
        goes_on store (record r { cursor = cursor }) (owns-moved owned_then r there cursor) (in_time_at cursor)
        (renewed_at contents stamp r es handle gone item (h m.dropped).rise (h m.dropped).differ m.dropped.is (own m.dropped r there) at) in
        subst (λ s. IsSoundThen store (Some (record { stack = s; cursor = r'.cursor }))) (sym same)
        (subst (λ k. IsSoundThen store (Some (record { stack = r.stack; cursor = k }))) (sym goes) moved)

    -- one more is left after it where it was handed over, or else as many
    module _ (old : Shadow P Item) (was : now.shadow ≡ Some old) where
      pub more_left : (stack : Stacked P Item) → is_linked handle (before_cursor r.cursor es) ≡ true
          → Permuted (live_items contents stack.levels) (without stamp (stamp gone) (live_items contents r.stack.levels))
          → Some (live_in contents main - live_in contents stack)
          ≡ option_map (λ w. if is_linked handle (before_cursor old.cursor es) then w + 1 else w) (unwalked contents now)
      more_left stack walked live =
          let few = (ahead m.dropped r there).few in
          let one = one_fewer contents stamp r es (stamp item) handle gone (h m.dropped).rise (own m.dropped r there) m.dropped.is (live_items contents stack.levels) walked live in
          rw (was, ← same m.dropped r there old was, walked) (ap Some (omega (arith, one, few, as_live, ap (λ j. live_in contents j.main) m.dropped.view)))

      pub as_many_left : is_linked handle (before_cursor r.cursor es) ≡ false
          → Some (live_in contents main - live_in contents r.stack)
          ≡ option_map (λ w. if is_linked handle (before_cursor old.cursor es) then w + 1 else w) (unwalked contents now)
      as_many_left later =
          rw (was, ← same m.dropped r there old was, later) (ap Some (omega (arith, as_live, ap (λ j. live_in contents j.main) m.dropped.view)))
