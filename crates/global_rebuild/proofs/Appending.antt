-- An index and its chain, where an item was appended.
use Rattle.std.proofs.Common.{◌≡◌, ℕ, ◌+◌, ◌^◌, ◌<◌, List, [], ◌∷◌, ◌++◌, Option, Some, None, length, refl, arith}
use Rattle.query_laws.specs.Permuted.{Permuted}
use Rattle.query_laws.proofs.Permutations.{Permuted-length}
use Rattle.builder_trait.specs.Parts.{Contents}
use Rattle.id_chain.specs.Chain.{Entry, HandlesDiffer}
use Rattle.id_chain.proofs.Stamps.{StampsRise-append}
use Rattle.log_levels.specs.Slots.{IsPartOf}
use Rattle.log_levels.specs.Levels.{live_items, all_items, weight_of}
use Rattle.log_levels.specs.Trades.{Trades}
use Rattle.log_method.specs.Stack.{Stacked}
use Rattle.part_store.specs.Store.{Stored}
use Rattle.chain_walk.specs.Walk.{Walked as Shadow, IsWalkOf as IsShadowOf}
use Rattle.global_rebuild.specs.Index.{Indexed, IsIndexOf, IsIndex, IsPrepared}
use Rattle.chain_walk.proofs.Appending.{IsWalkOf-appended}
use Rattle.global_rebuild.proofs.Owning.{owns-main}
use Rattle.chain_walk.proofs.Walking.{Permuted-appended, below-appended}
use Rattle.global_rebuild.proofs.Weights.{IsSoundOf, ended_all}

module _ {P Item : Type 0} (contents : P → Contents Item) (stamp : Item → ℕ) (i : Indexed P Item) (front : List (Entry Item)) (e : Entry Item)
    (h : IsIndexOf contents stamp i front (stamp e.item)) (v : IsIndex contents i) (p : IsPrepared contents i) where
  -- some items are left to walk by, so the cursor is at one of them
  shadow-appended : (r : Shadow P Item) → i.shadow ≡ Some r → IsShadowOf contents stamp r (front ++ e ∷ []) (stamp e.item + 1)
  shadow-appended r is = at r.cursor refl
    where
      own : IsShadowOf contents stamp r front (stamp e.item)
      own = h.shadow r is

      at : (cursor : Option ℕ) → r.cursor ≡ cursor → IsShadowOf contents stamp r (front ++ e ∷ []) (stamp e.item + 1)
      at None ended = let all = ended_all contents stamp i front h r own ended in absurd (omega (arith, all, (p.shadow r is).1))
      at (Some handle) stands = IsWalkOf-appended contents stamp r front e handle stands own

  pub appended : (main : Stacked P Item) (store : Stored) → Trades i.main.levels i.store main.levels store → Permuted (live_items contents main.levels) (e.item ∷ live_items contents i.main.levels)
      → IsPartOf (all_items contents main.levels) (e.item ∷ all_items contents i.main.levels) → weight_of main.levels ≡ weight_of i.main.levels + 1
      → HandlesDiffer (front ++ e ∷ []) → length (front ++ e ∷ []) < 2 ^ 29
      → IsSoundOf contents stamp (record { store = store; main = main; shadow = i.shadow; retired = i.retired }) (front ++ e ∷ []) (stamp e.item + 1)
  appended main store moves live items weight differ few =
      let more = Permuted-length live in (
        record {
          quiet = λ none. omega (arith, v.quiet none, more, weight);
          in_time = λ r is.
              let t = v.in_time r is in
              let some = (p.shadow r is).1 in
              record {
                few = omega (arith, t.few, more);
                main_light = omega (arith, t.main_light, more, weight, some);
                shadow_light = omega (arith, t.shadow_light, more, some);
              };
          left = v.left;
          memory = owns-main v.memory main store moves;
        },
        record {
          live = Permuted-appended front e live h.live;
          below = below-appended stamp (all_items contents main.levels) (all_items contents i.main.levels) e.item (stamp e.item) (stamp e.item + 1) items
              (omega arith) (omega arith) h.below;
          shadow = shadow-appended;
          rise = StampsRise-append stamp 0 front (stamp e.item) e (omega arith) h.rise;
          differ = differ;
          few = few;
        },
      )
