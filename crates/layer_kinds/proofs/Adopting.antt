-- The place of an index, where a late one that was handed all items goes on as an index.
use Rattle.std.proofs.Common.{◌≡◌, ◌≢◌, ℕ, ◌-◌, ◌≤◌, ◌∙◌, Bool, List, [], ◌∷◌, Option, Some, None, inl, inr, cond, refl, sym, ap, subst, arith}
use Rattle.std.specs.Prelude.{nat_le}
use Rattle.std.proofs.lemmas.Bool.{le-leb}
use Rattle.std.proofs.lemmas.List.Sums.{sum_by-cons}
use Rattle.query_laws.specs.StepLedger.{Counts}
use Rattle.builder_trait.specs.Parts.{Contents}
use Rattle.id_chain.specs.Chain.{Entry}
use Rattle.id_chain.proofs.Entries.{no_end}
use Rattle.chain_walk.specs.Walk.{IsWalkOf}
use Rattle.chain_walk.proofs.Handing.{few_before, as_walked}
use Rattle.global_rebuild.specs.Index.{Indexed}
use Rattle.global_rebuild.proofs.Adopting.{IsIndexOf-adopted, IsPrepared-adopted}
use Rattle.late_index.specs.Late.{LateState, IsLateOf, IsShortOf, goal_of}
use Rattle.late_index.proofs.Catching.{all_walked}
use Rattle.map_model.specs.Cost.{Rate}
use Rattle.map_model.specs.State.{handed}
use Rattle.layer_kinds.specs.Shares.{CostsShares, all_after, is_ready_after, ready_count}
use Rattle.layer_kinds.specs.Indexing.{Placed, Absent, Whole, Late, rates_of, waits_of, adopted, adopted_at, IsOf, IsReady}
use Rattle.layer_kinds.specs.Memory.{Each, KeepsAll, memories_of}
use Rattle.layer_kinds.specs.Committing.{IsGoing, IsOver, IsExact, Commits}

abbrev counted : Bool → ℕ
counted b = cond b 1 0

module _ {P Item : Type 0} where
  pub going : (p : Placed P Item) → IsGoing (adopted p)
  going Absent = tt
  going (Whole i) = tt
  going (Late l) = at l.walk.cursor refl
    where
      at : (cursor : Option ℕ) → l.walk.cursor ≡ cursor → IsGoing (adopted_at l cursor)
      at None ended = tt
      at (Some handle) stands = λ ended. no_end (sym ended ∙ stands)

  pub adopted_going : (l : LateState P Item) → l.walk.cursor ≢ None → Late l ≡ adopted_at l l.walk.cursor
  adopted_going l on = at l.walk.cursor refl
    where
      at : (cursor : Option ℕ) → l.walk.cursor ≡ cursor → Late l ≡ adopted_at l cursor
      at None ended = absurd (on ended)
      at (Some handle) stands = refl

  pub adopted_ended : (l : LateState P Item) (i : Indexed P Item) → l.walk.cursor ≡ None
      → i ≡ record { store = l.store; main = l.walk.stack; shadow = None; retired = [] } → Whole i ≡ adopted_at l l.walk.cursor
  adopted_ended l i ended is = ap Whole is ∙ ap (adopted_at l) (sym ended)

  -- it is there as before
  pub as_there : (rate : Rate) (p : Placed P Item) → rates_of rate (adopted p) ≡ rates_of rate p
  as_there rate Absent = refl
  as_there rate (Whole i) = refl
  as_there rate (Late l) = at l.walk.cursor
    where
      at : (cursor : Option ℕ) → rates_of rate (adopted_at l cursor) ≡ rates_of rate (Late l)
      at None = refl
      at (Some handle) = refl

  module _ (contents : P → Contents Item) where
    -- and has the memory that it had
    pub as_held : (p : Placed P Item) → memories_of contents (adopted p) ≡ memories_of contents p
    as_held Absent = refl
    as_held (Whole i) = refl
    as_held (Late l) = at l.walk.cursor
      where
        at : (cursor : Option ℕ) → memories_of contents (adopted_at l cursor) ≡ memories_of contents (Late l)
        at None = refl
        at (Some handle) = refl

    pub over-of : (stamp : Item → ℕ) (p : Placed P Item) (es : List (Entry Item)) (stamps : ℕ) → IsOf contents stamp p es stamps → IsOver contents stamp p es stamps
    over-of stamp Absent es stamps of = tt
    over-of stamp (Whole i) es stamps of = of
    over-of stamp (Late l) es stamps of = of.0

    pub over : (stamp : Item → ℕ) (p : Placed P Item) (es : List (Entry Item)) (stamps : ℕ) → IsOver contents stamp p es stamps
        → IsOver contents stamp (adopted p) es stamps
    over stamp Absent es stamps of = tt
    over stamp (Whole i) es stamps of = of
    over stamp (Late l) es stamps of = at l.walk.cursor refl
      where
        at : (cursor : Option ℕ) → l.walk.cursor ≡ cursor → IsOver contents stamp (adopted_at l cursor) es stamps
        at None ended =
            IsIndexOf-adopted contents l.walk.stack l.store stamp es stamps
            (subst (λ c. IsWalkOf contents stamp (record { stack = l.walk.stack; cursor = c }) es stamps) ended of.walk) of.rise of.differ of.few
        at (Some handle) stands = of

    pub ready : (p : Placed P Item) (es : List (Entry Item)) → IsReady contents p es → IsReady contents (adopted p) es
    ready Absent es prepared = tt
    ready (Whole i) es prepared = prepared
    ready (Late l) es prepared = at l.walk.cursor
      where
        at : (cursor : Option ℕ) → IsReady contents (adopted_at l cursor) es
        at None = IsPrepared-adopted contents l.walk.stack l.store prepared.stocked
        at (Some handle) = prepared

    -- the items that are left are handed over before an update
    module _ (stamp : Item → ℕ) (es : List (Entry Item)) (stamps : ℕ) where
      goal_none : (l : LateState P Item) → IsLateOf contents stamp l es stamps → IsShortOf contents (goal_of l) l es → l.walk.cursor ≡ None → goal_of l ≡ 0
      goal_none l of short ended = omega (arith, all_walked of ended, short)

      pub as_waits : (after : ℕ → ℕ) → ((w : ℕ) → w - handed ≡ 0 → after w ≡ 0) → (p : Placed P Item) → IsOver contents stamp p es stamps → IsReady contents p es
          → all_after after (waits_of (adopted p)) ≡ all_after after (waits_of p)
      as_waits after ends Absent of prepared = refl
      as_waits after ends (Whole i) of prepared = refl
      as_waits after ends (Late l) of prepared = at l.walk.cursor refl
        where
          at : (cursor : Option ℕ) → l.walk.cursor ≡ cursor → all_after after (waits_of (adopted_at l cursor)) ≡ all_after after (waits_of (Late l))
          at None ended = ap (λ n. Some n ∷ []) (ends 0 refl ∙ sym (ends l.waiting (goal_none l of prepared.short ended)))
          at (Some handle) stands = refl

      pub as_ready : (p : Placed P Item) → IsOver contents stamp p es stamps → IsReady contents p es
          → ready_count (waits_of (adopted p)) ≡ ready_count (waits_of p)
      as_ready Absent of prepared = refl
      as_ready (Whole i) of prepared = refl
      as_ready (Late l) of prepared = at l.walk.cursor refl
        where
          at : (cursor : Option ℕ) → l.walk.cursor ≡ cursor → ready_count (waits_of (adopted_at l cursor)) ≡ ready_count (waits_of (Late l))
          at None ended =
              let last : counted (nat_le l.waiting 4) ≡ 1 = ap counted (le-leb l.waiting 4 (omega (arith, goal_none l of prepared.short ended))) in
              omega (arith, sum_by-cons (λ x. cond (is_ready_after x) 1 0) (Some l.waiting) [], sum_by-cons (λ x. cond (is_ready_after x) 1 0) (Some 0) [], last)
          at (Some handle) stands = refl

      -- what a commit leaves: where all items are handed over then, none wait
      pub exact_waits : (p : Placed P Item) → IsOver contents stamp p es stamps → IsExact contents p es → waits_of (adopted p) ≡ waits_of p
      exact_waits Absent of exact = refl
      exact_waits (Whole i) of exact = refl
      exact_waits (Late l) of exact = at l.walk.cursor refl
        where
          at : (cursor : Option ℕ) → l.walk.cursor ≡ cursor → waits_of (adopted_at l cursor) ≡ waits_of (Late l)
          at None ended = let none : 0 ≡ l.waiting = omega (arith, all_walked of ended, exact) in ap (λ n. Some n ∷ []) none
          at (Some handle) stands = refl

      pub exact_of : (p : Placed P Item) → IsOver contents stamp p es stamps → IsExact contents p es → IsOf contents stamp (adopted p) es stamps
      exact_of Absent of exact = tt
      exact_of (Whole i) of exact = of
      exact_of (Late l) of exact = at l.walk.cursor refl
        where
          some : l.walk.cursor ≢ None → 1 ≤ l.waiting
          some on = elim (few_before l.walk.cursor es of.walk.cursor) [
            | inl all ↦ absurd (on all.0)
            | inr more ↦ omega (arith, as_walked contents stamp l.walk es of.walk, more.1, exact)
          ]

          at : (cursor : Option ℕ) → l.walk.cursor ≡ cursor → IsOf contents stamp (adopted_at l cursor) es stamps
          at None ended =
              IsIndexOf-adopted contents l.walk.stack l.store stamp es stamps
              (subst (λ c. IsWalkOf contents stamp (record { stack = l.walk.stack; cursor = c }) es stamps) ended of.walk) of.rise of.differ of.few
          at (Some handle) stands = (of, some (λ ended. no_end (sym ended ∙ stands)))

    -- a commit after that, and one before it
    module _ {rate : Rate} {after : ℕ → ℕ} {turns marks : ℕ → Rate → ℕ} {many : ℕ} {before later : Counts} where
      pub commits_after : (p new : Placed P Item) → all_after after (waits_of (adopted p)) ≡ all_after after (waits_of p)
          → Commits contents rate after turns marks many (adopted p) new before later → Commits contents rate after turns marks many p new before later
      commits_after p new waits c = record {
        there = c.there ∙ as_there rate p;
        waits = c.waits ∙ waits;
        held = subst (λ ms. Each KeepsAll ms (memories_of contents new)) (as_held p) c.held;
        cost = subst (λ rs. CostsShares turns marks many rs before later) (as_there rate p) c.cost;
      }

      pub commits_before : (old p : Placed P Item) → waits_of (adopted p) ≡ waits_of p
          → Commits contents rate after turns marks many old p before later → Commits contents rate after turns marks many old (adopted p) before later
      commits_before old p waits c = record {
        there = as_there rate p ∙ c.there;
        waits = waits ∙ c.waits;
        held = subst (λ ms. Each KeepsAll (memories_of contents old) ms) (sym (as_held p)) c.held;
        cost = c.cost;
      }
