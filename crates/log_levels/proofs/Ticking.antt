-- Levels and a store, through a whole tick.
use Rattle.std.proofs.Common.{◌≡◌, ◌==◌, ℕ, ◌+◌, ◌^◌, ◌≤◌, ◌&&◌, ◌||◌, ◌∙◌, Bool, true, false, List, [], ◌∷◌, ◌++◌, if◌then◌else◌, length, map, nat_le, refl, ap, ap₂, sym, subst, arith}
use Rattle.std.specs.Option.{is_some}
use Rattle.std.proofs.lemmas.List.{length-append}
use Rattle.query_laws.specs.Permuted.{Permuted}
use Rattle.builder_trait.specs.Builders.{PartProfile}
use Rattle.builder_trait.specs.Parts.{Contents, live_of}
use Rattle.part_store.specs.Shelves.{one_if, kept_at, lent_at, held_at}
use Rattle.part_store.specs.Store.{Stored, LendsBuilder}
use Rattle.log_levels.specs.Slots.{Slots, ticks_of, work_of}
use Rattle.log_levels.specs.Levels.{waiting_of, weight_of, live_items, all_items}
use Rattle.log_levels.specs.Neighbours.{IsBelow, IsVisited, Advances, stays, arrives}
use Rattle.log_levels.specs.Towers.{IsTower, IsHalfway, AreLevels, AreAllLevels, AreHalfway, Arrives}
use Rattle.log_levels.specs.Trades.{runs_in, used_in, used_at, built_at, AreLent, is_due, due_at, now_at, soon_at, IsStocked, IsQuiet, IsQuietAbove, Trades, Ticks, AreReady, AreAllReady, Visits, Walks, WalkAll}
use Rattle.log_levels.proofs.Clocks.{same_ticks, same_runs}
use Rattle.log_levels.proofs.Neighbouring.{none_ticks}
use Rattle.log_levels.proofs.Towers.{first_below, halfway-from_tower, arrived, at_once, weight-pushed}
use Rattle.log_levels.proofs.Trading.{Trades-same, Trades-then, AreLent-on, now-was_due, soon-walked, quiet-walked, visit-left, ready_above, walks_above}

twice : (b : Bool) → one_if b + one_if b ≤ (if b then 2 else 0)
twice true = omega arith
twice false = omega arith

-- a level was visited, and the rest of the levels are
module _ {P Item : Type 0} (contents : P → Contents Item) (profile : PartProfile Item) {lower l lower' l' : Slots P Item} (above : List (Slots P Item))
    {r s : Stored} (below : IsBelow contents profile 0 lower l) (tower : IsTower contents profile l above)
    (visited : IsVisited contents profile l lower l' lower') (same : lower' ≡ record lower { parts = lower'.parts }) (v : Visits lower l r lower' l' s) where
  pub level-visited : l'.level ≡ l.level
  level-visited = visited.below.next_level ∙ ap (λ w. w.level + 1) same ∙ sym below.next_level

  now : (k : ℕ) → now_at k l' above ≤ due_at 1 k (l ∷ above)
  now = now-was_due contents profile l l' above (first_below contents profile l above tower) visited.advances

  soon : (k : ℕ) → soon_at k l' above ≤ due_at 2 k (l ∷ above)
  soon = soon-walked contents profile l l' above (first_below contents profile l above tower) visited.advances level-visited

  pub ready-visited : AreReady lower (l ∷ above) r → AreReady l' above s
  ready-visited ready = ready_above lower l lower' l' above r s v now ready

  pub halfway-visited : AreReady lower (l ∷ above) r → IsHalfway contents profile l' above
  halfway-visited ready = halfway-from_tower contents profile l l' above tower (ready.quiet l above refl) visited.advances level-visited

  pub walks-visited : {l'' : Slots P Item} {above'' : List (Slots P Item)} {t : Stored} → Walks l' above s l'' above'' t
      → Walks lower (l ∷ above) r lower' (l'' ∷ above'') t
  walks-visited {l''} {above''} {t} w =
      walks_above lower l lower' l' above r s v now soon
      (visit-left lower lower' l below.next_level (ap (λ w. w.level) same) (ap ticks_of same) visited.stay)
      (quiet-walked contents profile l l' above visited.advances level-visited) l'' above'' t w

module _ {P Item : Type 0} (contents : P → Contents Item) (profile : PartProfile Item) (l l' : Slots P Item) (above : List (Slots P Item))
    (tower : IsTower contents profile l above) (advances : Advances l l') (level : l'.level ≡ l.level) {r s : Stored}
    (trades : Trades (l ∷ above) r (l' ∷ above) s) (one : (k : ℕ) → kept_at k r.builders ≤ kept_at k s.builders + one_if (k == 0))
    (none : (k : ℕ) → kept_at k r.tables ≤ kept_at k s.tables) where
  -- the lowest level has taken its tick, and the rest finds what it may take
  pub ready-first : IsStocked (l ∷ above) r 1 → AreLent (l ∷ above) r → AreReady l' above s
  ready-first stocked lent = record {
    builders = λ k. omega (arith, stocked.builders k, one k, now-was_due contents profile l l' above (first_below contents profile l above tower) advances k);
    tables = λ k. omega (arith, stocked.tables k, none k, now-was_due contents profile l l' above (first_below contents profile l above tower) advances k);
    quiet = λ next rest is. subst (IsQuietAbove 1 l) is stocked.quiet;
    lent = AreLent-on trades lent;
  }

  -- and that is the tick
  pub ticks-walked : {l'' : Slots P Item} {above'' : List (Slots P Item)} {t : Stored} → Walks l' above s l'' above'' t
      → Ticks (l ∷ above) r (l'' ∷ above'') t
  ticks-walked {l''} {above''} {t} w =
      let now = now-was_due contents profile l l' above (first_below contents profile l above tower) advances in
      let soon = soon-walked contents profile l l' above (first_below contents profile l above tower) advances level in
      record {
        trades = Trades-then trades w.trades;
        takes = λ k. omega (arith, one k, w.takes k, now k);
        takes_tables = λ k. omega (arith, none k, w.takes_tables k, now k);
        stays = λ k. omega (arith, one k, w.stays k, soon k, twice (k == 0));
        stays_tables = λ k. omega (arith, none k, w.stays_tables k, soon k);
        quiet = λ quiet. w.quiet (quiet-walked contents profile l l' above advances level quiet);
      }

module _ {P Item : Type 0} where
  -- a level of which a store sees the same
  record IsSameAbove (l l' : Slots P Item) : Type 0 where
    level : l'.level ≡ l.level
    parts : length l'.parts ≡ length l.parts
    runs : is_some l'.construction ≡ is_some l.construction
    ticks : ticks_of l' ≡ ticks_of l

  -- the same of each of some levels
  abbrev AreSame : List (Slots P Item) → List (Slots P Item) → Type 0
  AreSame [] [] = Unit {0}
  AreSame [] (l' ∷ new) = ⊥
  AreSame (l ∷ old) [] = ⊥
  AreSame (l ∷ old) (l' ∷ new) = IsSameAbove l l' × AreSame old new

  same-worked : (old new : List (Slots P Item)) → map (λ l. l.level) new ≡ map (λ l. l.level) old
      → map (λ l. length l.parts) new ≡ map (λ l. length l.parts) old → map work_of new ≡ map work_of old → AreSame old new
  same-worked [] [] numbers parts work = tt
  same-worked [] (l' ∷ new) numbers parts work = absurd cc
  same-worked (l ∷ old) [] numbers parts work = absurd cc
  same-worked (l ∷ old) (l' ∷ new) numbers parts work =
      let level : l'.level ≡ l.level = cc in
      let levels : map (λ v. v.level) new ≡ map (λ v. v.level) old = cc in
      let as_long : length l'.parts ≡ length l.parts = cc in
      let others : map (λ v. length v.parts) new ≡ map (λ v. length v.parts) old = cc in
      let head : work_of l' ≡ work_of l = cc in
      let rest : map work_of new ≡ map work_of old = cc in (
        record { level = level; parts = as_long; runs = same_runs l l' head; ticks = same_ticks l l' head },
        same-worked old new levels others rest,
      )

  used-same : (old new : List (Slots P Item)) → AreSame old new → (k : ℕ) → used_at k new ≡ used_at k old
  used-same [] [] h k = refl
  used-same [] (l' ∷ new) h k = absurd h
  used-same (l ∷ old) [] h k = absurd h
  used-same (l ∷ old) (l' ∷ new) h k =
      let used : used_in l' ≡ used_in l = ap₂ (λ n b. n + one_if b) h.0.parts h.0.runs in
      ap₂ (λ n m. n + m) (ap₂ (λ n m. if k == n then m else 0) h.0.level used) (used-same old new h.1 k)

  built-same : (old new : List (Slots P Item)) → AreSame old new → (k : ℕ) → built_at k new ≡ built_at k old
  built-same [] [] h k = refl
  built-same [] (l' ∷ new) h k = absurd h
  built-same (l ∷ old) [] h k = absurd h
  built-same (l ∷ old) (l' ∷ new) h k =
      let runs : runs_in l' ≡ runs_in l = ap one_if h.0.runs in
      ap₂ (λ n m. n + m) (ap₂ (λ n m. if k == n then m else 0) h.0.level runs) (built-same old new h.1 k)

  is_due-same : (l l' : Slots P Item) → IsSameAbove l l' → (ticks : ℕ) → is_due ticks l' ≡ is_due ticks l
  is_due-same l l' h ticks =
      ap₂ (λ k n. nat_le (2 ^ k) (n + ticks) && (nat_le 2 ticks || (length l'.parts == 1))) h.level h.ticks
      ∙ ap (λ n. nat_le (2 ^ l.level) (ticks_of l + ticks) && (nat_le 2 ticks || (n == 1))) h.parts

  due-same : (old new : List (Slots P Item)) → AreSame old new → (ticks k : ℕ) → due_at ticks k new ≡ due_at ticks k old
  due-same [] [] h ticks k = refl
  due-same [] (l' ∷ new) h ticks k = absurd h
  due-same (l ∷ old) [] h ticks k = absurd h
  due-same (l ∷ old) (l' ∷ new) h ticks k =
      ap₂ (λ n m. n + m) (ap₂ (λ n b. if k == n + 1 then one_if b else 0) h.0.level (is_due-same l l' h.0 ticks)) (due-same old new h.1 ticks k)

  quiet-same : (ticks : ℕ) (l l' : Slots P Item) (old new : List (Slots P Item)) → IsSameAbove l l' → AreSame old new → IsQuietAbove ticks l old
      → IsQuietAbove ticks l' new
  quiet-same ticks l l' [] [] same h quiet = is_due-same l l' same ticks ∙ quiet
  quiet-same ticks l l' [] (m' ∷ new) same h quiet = absurd h
  quiet-same ticks l l' (m ∷ old) [] same h quiet = absurd h
  quiet-same ticks l l' (m ∷ old) (m' ∷ new) same h quiet = quiet-same ticks m m' old new h.0 h.1 quiet

  all_quiet-same : (ticks : ℕ) (old new : List (Slots P Item)) → AreSame old new → IsQuiet ticks old → IsQuiet ticks new
  all_quiet-same ticks [] new h quiet = absurd quiet
  all_quiet-same ticks (l ∷ old) [] h quiet = absurd h
  all_quiet-same ticks (l ∷ old) (l' ∷ new) h quiet = quiet-same ticks l l' old new h.0 h.1 quiet

  -- an item was marked in levels: they want and have as much of a store
  module _ (old mid : List (Slots P Item)) (numbers : map (λ l. l.level) mid ≡ map (λ l. l.level) old)
      (parts : map (λ l. length l.parts) mid ≡ map (λ l. length l.parts) old) (work : map work_of mid ≡ map work_of old) where
    same : AreSame old mid
    same = same-worked old mid numbers parts work

    pub stocked-worked : {s : Stored} → IsStocked old s 1 → IsStocked mid s 1
    stocked-worked stocked = record {
      builders = λ k. omega (arith, stocked.builders k, due-same old mid same 1 k);
      tables = λ k. omega (arith, stocked.tables k, due-same old mid same 1 k);
      quiet = all_quiet-same 1 old mid same stocked.quiet;
    }

    pub lent-worked : {s : Stored} → AreLent old s → AreLent mid s
    lent-worked lent = record {
      builders = λ k. omega (arith, lent.builders k, used-same old mid same k);
      tables = λ k. omega (arith, lent.tables k, built-same old mid same k);
    }

    pub ticks-worked : {new : List (Slots P Item)} {s t : Stored} → Ticks mid s new t → Ticks old s new t
    ticks-worked h = record {
      trades = record {
        keeps = h.trades.keeps;
        builders = λ k. omega (arith, h.trades.builders k, used-same old mid same k);
        tables = λ k. omega (arith, h.trades.tables k, built-same old mid same k);
      };
      takes = λ k. omega (arith, h.takes k, due-same old mid same 1 k);
      takes_tables = λ k. omega (arith, h.takes_tables k, due-same old mid same 1 k);
      stays = λ k. omega (arith, h.stays k, due-same old mid same 2 k);
      stays_tables = λ k. omega (arith, h.stays_tables k, due-same old mid same 2 k);
      quiet = λ quiet. h.quiet (all_quiet-same 2 old mid same quiet);
    }

  module _ (contents : P → Contents Item) (profile : PartProfile Item) where
    -- a tick without an item
    pub ready-idle : (levels : List (Slots P Item)) (s : Stored) → AreLevels contents profile levels → IsStocked levels s 1 → AreLent levels s
        → AreAllReady levels s
    ready-idle [] s tower stocked lent = stocked.quiet
    ready-idle (l ∷ above) s tower stocked lent =
        ready-first contents profile l l above tower (stays refl (omega arith)) refl (Trades-same (l ∷ above) s) (λ k. omega arith) (λ k. omega arith) stocked lent

    pub ticks-idle : (levels new : List (Slots P Item)) (s t : Stored) → AreLevels contents profile levels → WalkAll levels s new t → Ticks levels s new t
    ticks-idle [] new s t tower w = absurd w
    ticks-idle (l ∷ above) [] s t tower w = absurd w
    ticks-idle (l ∷ above) (l'' ∷ above'') s t tower w =
        ticks-walked contents profile l l above tower (stays refl (omega arith)) refl (Trades-same (l ∷ above) s) (λ k. omega arith) (λ k. omega arith) w

    -- what the arrival of a part of one item leaves of levels: its item is there too, the weight is one more, and nothing of a construction has
    -- changed; and a tick that it begins
    pub record HasArrived (x : Item) (old mid : List (Slots P Item)) (r s : Stored) : Type 0 where
      pub halfway : AreHalfway contents profile mid
      pub ready : AreAllReady mid s
      pub live : Permuted (live_items contents mid) (x ∷ live_items contents old)
      pub items : Permuted (all_items contents mid) (x ∷ all_items contents old)
      pub weight : weight_of mid ≡ weight_of old + 1
      pub waiting : waiting_of mid ≡ waiting_of old
      pub numbers : map (λ l. l.level) mid ≡ map (λ l. l.level) old
      pub work : map work_of mid ≡ map work_of old
      pub ticks : (new : List (Slots P Item)) (t : Stored) → WalkAll mid s new t → Ticks old r new t

    module _ (part : P) {x : Item} (items : (contents part).items ≡ x ∷ []) (live : live_of (contents part) ≡ x ∷ [])
        (lowest : Slots P Item) (above : List (Slots P Item)) {r s : Stored} (lends : LendsBuilder 0 r s)
        (h : AreAllLevels contents profile (lowest ∷ above)) where
      abbrev with_part : Slots P Item
      with_part = record lowest { parts = lowest.parts ++ part ∷ [] }

      longer : length with_part.parts ≡ length lowest.parts + 1
      longer = length-append lowest.parts (part ∷ [])

      one_more : (k : ℕ) → (if k == lowest.level then used_in with_part else 0) ≡ (if k == lowest.level then used_in lowest else 0) + one_if (k == 0)
      one_more k = subst (λ n. (if k == n then used_in with_part else 0) ≡ (if k == n then used_in lowest else 0) + one_if (k == 0)) (sym h.0) (of (k == 0))
        where
          of : (b : Bool) → (if b then used_in with_part else 0) ≡ (if b then used_in lowest else 0) + one_if b
          of true = omega (arith, longer)
          of false = refl

      lent-first : Trades (lowest ∷ above) r (with_part ∷ above) s
      lent-first = record {
        keeps = record { builders = lends.builders.keeps; tables = λ k. ap (held_at k) lends.tables };
        builders = λ k. omega (arith, lends.builders.lent k, one_more k);
        tables = λ k. omega (arith, ap (lent_at k) lends.tables);
      }

      one_less : (k : ℕ) → kept_at k r.builders ≤ kept_at k s.builders + one_if (k == 0)
      one_less k = omega (arith, lends.builders.keeps k, lends.builders.lent k)

      as_many : (k : ℕ) → kept_at k r.tables ≤ kept_at k s.tables
      as_many k = omega (arith, ap (kept_at k) lends.tables)

      arriving : Advances lowest with_part
      arriving = arrives part refl (none_ticks with_part h.1) (at_once contents profile lowest above h)

      has_arrived-first : IsStocked (lowest ∷ above) r 1 → AreLent (lowest ∷ above) r → HasArrived x (lowest ∷ above) (with_part ∷ above) r s
      has_arrived-first stocked lent = record {
        halfway = (h.0, h.1, halfway-from_tower contents profile lowest with_part above h.2 stocked.quiet arriving refl);
        ready = ready-first contents profile lowest with_part above h.2 arriving refl lent-first one_less as_many stocked lent;
        live = subst (λ xs. Permuted (live_items contents (with_part ∷ above)) (xs ++ live_items contents (lowest ∷ above))) live
            (arrived (λ p. live_of (contents p)) lowest.parts (live_items contents above) part refl refl);
        items = subst (λ xs. Permuted (all_items contents (with_part ∷ above)) (xs ++ all_items contents (lowest ∷ above))) items
            (arrived (λ p. (contents p).items) lowest.parts (all_items contents above) part refl refl);
        weight = weight-pushed contents profile lowest above h with_part part refl refl;
        waiting = refl;
        numbers = refl;
        work = refl;
        ticks = ticks;
      }
        where
          ticks : (new : List (Slots P Item)) (t : Stored) → WalkAll (with_part ∷ above) s new t → Ticks (lowest ∷ above) r new t
          ticks [] t w = absurd w
          ticks (l'' ∷ above'') t w = ticks-walked contents profile lowest with_part above h.2 arriving refl lent-first one_less as_many w

    pub has_arrived : (part : P) {x : Item} → (contents part).items ≡ x ∷ [] → live_of (contents part) ≡ x ∷ [] → (old mid : List (Slots P Item)) {r s : Stored}
        → LendsBuilder 0 r s → AreAllLevels contents profile old → Arrives part old mid → IsStocked old r 1 → AreLent old r → HasArrived x old mid r s
    has_arrived part items live [] mid lends h is stocked lent = absurd is
    has_arrived part {x} items live (lowest ∷ above) mid {r} {s} lends h is stocked lent =
        subst (λ ls. HasArrived x (lowest ∷ above) ls r s) (sym is) (has_arrived-first part items live lowest above lends h stocked lent)
