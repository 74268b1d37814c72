-- What an update makes of the place of an index: where there is none, where it answers, and where it is late.
use Rattle.std.proofs.Common.{◌≡◌, ◌≢◌, ℕ, ◌+◌, ◌-◌, ◌*◌, ◌^◌, ◌≤◌, ◌<◌, ◌∙◌, Bool, true, false, if◌then◌else◌, List, [], ◌∷◌, ◌++◌, Some, None, cond, refl, sym, ap, subst, arith}
use Rattle.std.specs.Prelude.{nat_le}
use Rattle.std.proofs.lemmas.Bool.{lt-leb}
use Rattle.std.proofs.lemmas.List.Sums.{sum_by-cons}
use Rattle.query_laws.specs.StepLedger.{Counts}
use Rattle.builder_trait.specs.Parts.{Contents}
use Rattle.id_chain.specs.Chain.{Entry, HandlesDiffer, is_linked, before_cursor}
use Rattle.id_chain.proofs.Entries.{Apart-parts, linked_head}
use Rattle.part_store.specs.Store.{Stored, KeepsBoth}
use Rattle.log_levels.specs.Cost.{IsWithin, quotas}
use Rattle.log_levels.proofs.Spending.{IsWithin-more}
use Rattle.chain_walk.specs.Walk.{HandsOver, live_in}
use Rattle.chain_walk.specs.Memory.{HoldsNoLess}
use Rattle.chain_walk.proofs.Handing.{as_walked}
use Rattle.global_rebuild.specs.Index.{Indexed, HoldsAsMuch}
use Rattle.late_index.specs.Late.{LateState, IsLateOf, IsPrepared, goal_of}
use Rattle.late_index.proofs.Catching.{some_wait}
use Rattle.map_structures.specs.Touches.{touches_at}
use Rattle.map_model.specs.Cost.{Rate}
use Rattle.map_model.specs.Index.{one_if}
use Rattle.layer_kinds.specs.Shares.{IsShared, prepare_turns, prepare_marks, is_ready_after, ready_count}
use Rattle.layer_kinds.specs.Indexing.{Placed, Absent, Whole, Late, waits_of, wait_by}
use Rattle.layer_kinds.specs.Memory.{IsReadied, late_memory}
use Rattle.layer_kinds.specs.Committing.{Commits}
use Rattle.layer_kinds.proofs.Keeping.{keeps_all, parts_in}
use Rattle.layer_kinds.proofs.Shared.{IsShared-there, IsShared-nothing}
use Rattle.layer_kinds.proofs.Waiting.{appended_after, gone_after}

abbrev counted : Bool → ℕ
counted b = cond b 1 0

times_more : (n a b : ℕ) → a ≤ b → a * n ≤ b * n
times_more n a b less = grind (arith, less)

module _ {P Item : Type 0} (contents : P → Contents Item) {rate : Rate} {after : ℕ → ℕ} {turns marks : ℕ → Rate → ℕ} {many : ℕ} where
  pub absent_commits : (counts : Counts) → Commits contents rate after turns marks many Absent Absent counts counts
  absent_commits counts = record {
    there = refl;
    waits = refl;
    held = tt;
    cost = record { within = λ g less. IsShared-nothing (turns g) (marks g) g (None ∷ []) counts };
  }

  pub whole_commits : {before later : Counts} (i i' : Indexed P Item) → after 0 ≡ 0 → HoldsAsMuch i i'
      → ((g : ℕ) → many < 2 ^ (g + 1) → IsShared (turns g) (marks g) (Some rate ∷ []) g before later)
      → Commits contents rate after turns marks many (Whole i) (Whole i') before later
  whole_commits i i' none held cost = record {
    there = refl;
    waits = ap (λ n. Some n ∷ []) (sym none);
    held = (keeps_all contents i i' held, tt);
    cost = record { within = cost };
  }

  -- by other names
  pub commits_as : {before later later' : Counts} (old old' new new' : Placed P Item) → old ≡ old' → new ≡ new' → later ≡ later'
      → Commits contents rate after turns marks many old' new' before later' → Commits contents rate after turns marks many old new before later
  commits_as {before} {later} {later'} old old' new new' is is' same c =
      subst (λ q. Commits contents rate after turns marks many q new before later) (sym is)
      (subst (λ q. Commits contents rate after turns marks many old' q before later) (sym is')
      (subst (λ s. Commits contents rate after turns marks many old' new' before s) (sym same) c))

  pub late_commits : {before later : Counts} (l l' : LateState P Item) → l'.waiting ≡ after l.waiting → KeepsBoth l.store l'.store
      → ((g : ℕ) → many < 2 ^ (g + 1) → IsShared (turns g) (marks g) (Some rate ∷ []) g before later)
      → Commits contents rate after turns marks many (Late l) (Late l') before later
  late_commits l l' waits held cost = record {
    there = refl;
    waits = ap (λ n. Some n ∷ []) waits;
    held = (λ k. omega (arith, held.builders k, parts_in k l.store, parts_in k l'.store), tt);
    cost = record { within = cost };
  }

-- ---- a late index

module _ {P Item : Type 0} (contents : P → Contents Item) where
  -- it gets items, whether memory is refused or not
  pub late_readied : (l l' : LateState P Item) → HoldsNoLess l.store l'.store → IsReadied (late_memory l) (late_memory l')
  late_readied l l' held = record {
    parts = (0, λ k. omega (arith, held.builders k, parts_in k l.store, parts_in k l'.store));
    rebuild = tt;
  }

  pub late_prepares : (rate : Rate) (l l' : LateState P Item) {touches : ℕ} {before later : Counts} (g : ℕ) → HandsOver contents 4 l.walk l'.walk
      → touches ≤ touches_at g
      → (let ticks = live_in contents l'.walk.stack - live_in contents l.walk.stack in
      IsWithin (ticks * quotas rate.slope rate.base 0 g) (ticks * (2 * g)) touches before later)
      → IsShared (prepare_turns g) (prepare_marks g) (Some rate ∷ []) g before later
  late_prepares rate l l' g taken few cost =
      let ticks = live_in contents l'.walk.stack - live_in contents l.walk.stack in
      let four : ticks ≤ 4 = omega (arith, taken.at_most) in
      IsShared-there (prepare_turns g) (prepare_marks g) g rate few
      (IsWithin-more cost (times_more (quotas rate.slope rate.base 0 g) ticks 4 four) (times_more (2 * g) ticks 4 four) (omega arith))

  -- its number where an item is appended
  pub late_appended : {stamp : Item → ℕ} {l : LateState P Item} {es : List (Entry Item)} {stamps : ℕ} (front : List (Entry Item)) (e : Entry Item)
      → l.walk.cursor ≢ None → IsLateOf contents stamp l es stamps → IsPrepared contents l es → HandlesDiffer (front ++ e ∷ [])
      → goal_of l + 1 ≡ wait_by true e.handle front l.waiting
  late_appended {stamp} {l} {es} front e going of prepared differ =
      let apart = Apart-parts front (e ∷ []) differ in
      sym (appended_after e.handle front l.waiting (apart.back_only e.handle (linked_head e [])) (some_wait of prepared going))

  -- and where one goes, or another one is put in its place
  pub late_gone : {stamp : Item → ℕ} {l : LateState P Item} {es : List (Entry Item)} {stamps : ℕ} (comes : Bool) (handle : ℕ) → l.walk.cursor ≢ None
      → IsLateOf contents stamp l es stamps → IsPrepared contents l es → is_linked handle es ≡ true
      → (if is_linked handle (before_cursor l.walk.cursor es) then goal_of l else goal_of l - 1) + one_if comes ≡ wait_by comes handle es l.waiting
  late_gone {stamp} {l} {es} comes handle going of prepared linked =
      sym (gone_after comes handle es l.walk.cursor l.waiting of.differ of.walk.cursor linked
      (omega (arith, prepared.short, as_walked contents stamp l.walk es of.walk)) (some_wait of prepared going))

  pub late_dropped : {stamp : Item → ℕ} {l : LateState P Item} {es : List (Entry Item)} {stamps : ℕ} (handle : ℕ) → l.walk.cursor ≢ None
      → IsLateOf contents stamp l es stamps → IsPrepared contents l es → is_linked handle es ≡ true
      → (if is_linked handle (before_cursor l.walk.cursor es) then goal_of l else goal_of l - 1) ≡ wait_by false handle es l.waiting
  late_dropped {stamp} {l} {es} handle going of prepared linked =
      by (is_linked handle (before_cursor l.walk.cursor es)) ∙ late_gone false handle going of prepared linked
    where
      by : (b : Bool) → (if b then goal_of l else goal_of l - 1) ≡ (if b then goal_of l else goal_of l - 1) + one_if false
      by true = omega arith
      by false = omega arith

  pub late_moved : {stamp : Item → ℕ} {l : LateState P Item} {es : List (Entry Item)} {stamps : ℕ} (handle : ℕ) → l.walk.cursor ≢ None
      → IsLateOf contents stamp l es stamps → IsPrepared contents l es → is_linked handle es ≡ true
      → (if is_linked handle (before_cursor l.walk.cursor es) then goal_of l + 1 else goal_of l) ≡ wait_by true handle es l.waiting
  late_moved {stamp} {l} {es} handle going of prepared linked =
      by (some_wait of prepared going) (is_linked handle (before_cursor l.walk.cursor es)) ∙ late_gone true handle going of prepared linked
    where
      by : 1 ≤ goal_of l → (b : Bool) → (if b then goal_of l + 1 else goal_of l) ≡ (if b then goal_of l else goal_of l - 1) + one_if true
      by some true = omega arith
      by some false = omega (arith, some)

  pub moved_some : {stamp : Item → ℕ} {l : LateState P Item} {es : List (Entry Item)} {stamps : ℕ} (b : Bool) → l.walk.cursor ≢ None
      → IsLateOf contents stamp l es stamps → IsPrepared contents l es → 1 ≤ (if b then goal_of l + 1 else goal_of l)
  moved_some true going of prepared = omega arith
  moved_some false going of prepared = some_wait of prepared going

  -- one that isn't handed all items is not ready after the update
  pub late_unready : {stamp : Item → ℕ} {l : LateState P Item} {es : List (Entry Item)} {stamps : ℕ} → l.walk.cursor ≢ None
      → IsLateOf contents stamp l es stamps → IsPrepared contents l es → ready_count (waits_of (Late l)) ≡ 0
  late_unready {stamp} {l} {es} going of prepared =
      let late : counted (nat_le l.waiting 4) ≡ 0 = ap counted (lt-leb l.waiting 4 (omega (arith, some_wait of prepared going))) in
      omega (arith, sum_by-cons (λ x. cond (is_ready_after x) 1 0) (Some l.waiting) [], late)

pub keeps_both : (store : Stored) → KeepsBoth store store
keeps_both store = record { builders = λ k. refl; tables = λ k. refl }
