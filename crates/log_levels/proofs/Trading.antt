-- Levels and a store, through a tick.
use Rattle.std.proofs.Common.{◌≡◌, ◌==◌, ℕ, ◌+◌, ◌^◌, ◌≤◌, ◌<◌, ◌&&◌, ◌||◌, ◌⊎◌, ◌∙◌, Bool, true, false, not, None, List, [], ◌∷◌, if◌then◌else◌, length, nat_le, inl, inr, refl, ap, ap₂, sym, subst, ⊎_elim, arith, le-leb}
use Rattle.std.specs.Option.{is_some}
use Rattle.std.proofs.lemmas.Bool.{cases_lt}
use Rattle.std.proofs.lemmas.Bool.Decides.{nat_tests}
use Rattle.std.proofs.lemmas.List.{length-append}
use Rattle.builder_trait.specs.Builders.{PartProfile}
use Rattle.builder_trait.specs.Parts.{Contents}
use Rattle.part_store.specs.Shelves.{one_if, lent_at, held_at}
use Rattle.part_store.specs.Store.{Stored, KeepsBoth, LendsRoom, TakesPart, TakesRoom, TakesTables}
use Rattle.log_levels.specs.Slots.{Slots, ticks_of}
use Rattle.log_levels.specs.Neighbours.{IsBelow, Advances, stays, arrives, IsPublication}
use Rattle.log_levels.proofs.Neighbouring.{none_ticks, not_some}
use Rattle.log_levels.specs.Trades.{runs_in, used_in, used_at, built_at, AreLent, is_due, due_at, Trades, will_begin, may_begin, now_at, soon_at, IsQuiet, IsQuietAbove, IsQuietSoon, AreReady, HasRoom, Visits, Walks}

pub one_fits : (b : Bool) → one_if b ≤ 1
one_fits true = omega arith
one_fits false = omega arith

and-false : (b : Bool) → (b && false) ≡ false
and-false true = refl
and-false false = refl

-- where the first is false, or the second is true
less_true : (a b : Bool) → (a ≡ false) ⊎ (b ≡ true) → one_if a ≤ one_if b
less_true a b (inl off) = rw off (omega arith)
less_true a b (inr on) = rw on (one_fits a)

or_true : (a b c : Bool) → (a ≡ true → c ≡ true) → (b ≡ true → c ≡ true) → one_if (a || b) ≤ one_if c
or_true true b c first second = rw (first refl) (omega arith)
or_true false true c first second = rw (second refl) (omega arith)
or_true false false c first second = omega arith

and_less : (a b : Bool) → one_if (a && b) ≤ one_if a
and_less true b = one_fits b
and_less false b = omega arith

both_if : (b : Bool) (m n : ℕ) → m ≤ n → (if b then m else 0) ≤ (if b then n else 0)
both_if true m n le = le
both_if false m n le = omega arith

le-from : (m n : ℕ) → nat_le m n ≡ true → m ≤ n
le-from m n is = grind (arith, nat_tests, is)

module _ {P Item : Type 0} where
  runs : (l : Slots P Item) → 1 ≤ ticks_of l → is_some l.construction ≡ true
  runs l some = of (is_some l.construction) refl
    where
      of : (b : Bool) → is_some l.construction ≡ b → is_some l.construction ≡ true
      of true is = is
      of false is = absurd (omega (arith, some, none_ticks l (not_some l.construction is)))

  few-begins : (lower l : Slots P Item) → length lower.parts < 2 → will_begin lower l ≡ false
  few-begins lower l few =
      let t : nat_le 2 (length lower.parts) ≡ false = grind (arith, nat_tests, few) in ap (λ b. b && not (is_some l.construction)) t

  run-begins : (lower l : Slots P Item) → is_some l.construction ≡ true → will_begin lower l ≡ false
  run-begins lower l is = ap (λ b. nat_le 2 (length lower.parts) && not b) is ∙ and-false (nat_le 2 (length lower.parts))

  module _ (contents : P → Contents Item) (profile : PartProfile Item) where
    -- above a level that has advanced a construction begins only where it was due
    begins-due : (l l' next : Slots P Item) → IsBelow contents profile 1 l next → Advances l l'
        → (will_begin l' next ≡ false) ⊎ ((length l.parts ≡ 1) × (2 ^ l.level ≡ ticks_of l + 1))
    begins-due l l' next h (stays parts ticks) =
        let long : length l'.parts ≡ length l.parts = ap length parts in
        ⊎_elim (λ few. inl (few-begins l' next (omega (arith, few, long))))
        (λ two. inl (run-begins l' next (runs next (omega (arith, h.clock two)))))
        (cases_lt (length l.parts) 2)
    begins-due l l' next h (arrives fresh parts none ending) =
        let long : length l'.parts ≡ length l.parts + 1 = ap length parts ∙ length-append l.parts (fresh ∷ []) in
        ⊎_elim (λ few. ⊎_elim (λ zero. inl (few-begins l' next (omega (arith, zero, long)))) (λ one. inr (omega (arith, one, few), ending))
        (cases_lt (length l.parts) 1))
        (λ two. inl (run-begins l' next (runs next (omega (arith, h.clock two)))))
        (cases_lt (length l.parts) 2)

    pub due-one : (l : Slots P Item) → length l.parts ≡ 1 → 2 ^ l.level ≡ ticks_of l + 1 → is_due 1 l ≡ true
    due-one l one ending =
        let first : nat_le (2 ^ l.level) (ticks_of l + 1) ≡ true = le-leb (2 ^ l.level) (ticks_of l + 1) (omega (arith, ending)) in
        let second : (length l.parts == 1) ≡ true = grind (arith, nat_tests, one) in
        ap₂ (λ a b. a && (nat_le 2 1 || b)) first second

    due-two : (l : Slots P Item) → 2 ^ l.level ≤ ticks_of l + 2 → is_due 2 l ≡ true
    due-two l soon = ap (λ a. a && (nat_le 2 2 || (length l.parts == 1))) (le-leb (2 ^ l.level) (ticks_of l + 2) soon)

    pub begins-was_due : (l l' next : Slots P Item) → IsBelow contents profile 1 l next → Advances l l'
        → one_if (will_begin l' next) ≤ one_if (is_due 1 l)
    begins-was_due l l' next h advances =
        less_true (will_begin l' next) (is_due 1 l)
        (⊎_elim (λ off. inl off) (λ due. inr (due-one l due.0 due.1)) (begins-due l l' next h advances))

    one_tick : {l l' : Slots P Item} → Advances l l' → ticks_of l' ≤ ticks_of l + 1
    one_tick (stays parts ticks) = ticks
    one_tick (arrives fresh parts none ending) = omega (arith, none)

    pub soon-was_due : (l l' next : Slots P Item) → IsBelow contents profile 1 l next → Advances l l' → l'.level ≡ l.level
        → one_if (may_begin l' next) ≤ one_if (is_due 2 l)
    soon-was_due l l' next h advances level =
        or_true (will_begin l' next) (nat_le (2 ^ l'.level) (ticks_of l' + 1)) (is_due 2 l)
        (λ on. ⊎_elim (λ off. let wrong : false ≡ true = sym off ∙ on in absurd cc) (λ due. due-two l (omega (arith, due.1))) (begins-due l l' next h advances))
        (λ on. due-two l (omega (arith, le-from (2 ^ l'.level) (ticks_of l' + 1) on, ap (λ k. 2 ^ k) level, one_tick advances)))

    pub quiet-walked : (l l' : Slots P Item) (above : List (Slots P Item)) → Advances l l' → l'.level ≡ l.level → IsQuietAbove 2 l above
        → IsQuietSoon l' above
    quiet-walked l l' (next ∷ above) advances level quiet = quiet
    quiet-walked l l' [] advances level quiet = of (nat_le (2 ^ l'.level) (ticks_of l' + 1)) refl
      where
        of : (b : Bool) → nat_le (2 ^ l'.level) (ticks_of l' + 1) ≡ b → nat_le (2 ^ l'.level) (ticks_of l' + 1) ≡ false
        of false is = is
        of true is =
            let due : is_due 2 l ≡ true = due-two l (omega (arith, le-from (2 ^ l'.level) (ticks_of l' + 1) is, ap (λ k. 2 ^ k) level, one_tick advances)) in
            let wrong : false ≡ true = sym quiet ∙ due in absurd cc

    pub now-was_due : (l l' : Slots P Item) (above : List (Slots P Item))
        → ((next : Slots P Item) (rest : List (Slots P Item)) → above ≡ next ∷ rest → IsBelow contents profile 1 l next) → Advances l l'
        → (k : ℕ) → now_at k l' above ≤ due_at 1 k (l ∷ above)
    now-was_due l l' [] h advances k = omega arith
    now-was_due l l' (next ∷ above) h advances k =
        let below = h next above refl in
        let first : (if k == next.level then one_if (will_begin l' next) else 0) ≤ (if k == l.level + 1 then one_if (is_due 1 l) else 0) =
        subst (λ n. (if k == n then one_if (will_begin l' next) else 0) ≤ (if k == l.level + 1 then one_if (is_due 1 l) else 0)) (sym below.next_level)
        (both_if (k == (l.level + 1)) (one_if (will_begin l' next)) (one_if (is_due 1 l)) (begins-was_due l l' next below advances)) in
        omega (arith, first)

    pub soon-walked : (l l' : Slots P Item) (above : List (Slots P Item))
        → ((next : Slots P Item) (rest : List (Slots P Item)) → above ≡ next ∷ rest → IsBelow contents profile 1 l next) → Advances l l'
        → l'.level ≡ l.level → (k : ℕ) → soon_at k l' above ≤ due_at 2 k (l ∷ above)
    soon-walked l l' [] h advances level k =
        let ahead = nat_le (2 ^ l'.level) (ticks_of l' + 1) in
        let less : one_if ahead ≤ one_if (is_due 2 l) = or_true false ahead (is_due 2 l) (λ on. absurd cc)
        (λ on. due-two l (omega (arith, le-from (2 ^ l'.level) (ticks_of l' + 1) on, ap (λ k. 2 ^ k) level, one_tick advances))) in
        let first : (if k == l'.level + 1 then one_if ahead else 0) ≤ (if k == l.level + 1 then one_if (is_due 2 l) else 0) =
        subst (λ n. (if k == n + 1 then one_if ahead else 0) ≤ (if k == l.level + 1 then one_if (is_due 2 l) else 0)) (sym level)
        (both_if (k == (l.level + 1)) (one_if ahead) (one_if (is_due 2 l)) less) in
        omega (arith, first)
    soon-walked l l' (next ∷ above) h advances level k =
        let below = h next above refl in
        let first : (if k == next.level then one_if (may_begin l' next) else 0) ≤ (if k == l.level + 1 then one_if (is_due 2 l) else 0) =
        subst (λ n. (if k == n then one_if (may_begin l' next) else 0) ≤ (if k == l.level + 1 then one_if (is_due 2 l) else 0)) (sym below.next_level)
        (both_if (k == (l.level + 1)) (one_if (may_begin l' next)) (one_if (is_due 2 l)) (soon-was_due l l' next below advances level)) in
        omega (arith, first)

module _ {P Item : Type 0} (lower lower' l : Slots P Item) (next : l.level ≡ lower.level + 1) (level : lower'.level ≡ lower.level)
    (ticks : ticks_of lower' ≡ ticks_of lower) (two : will_begin lower l ≡ true → 2 ≤ length lower'.parts) where
  left_one : (b : Bool) → will_begin lower l ≡ b → one_if (is_due 1 lower') + one_if (will_begin lower l) ≤ one_if (may_begin lower l)
  left_one true is =
      let many : (length lower'.parts == 1) ≡ false = grind (arith, nat_tests, two is) in
      let off : is_due 1 lower' ≡ false = ap (λ b. nat_le (2 ^ lower'.level) (ticks_of lower' + 1) && (nat_le 2 1 || b)) many
      ∙ and-false (nat_le (2 ^ lower'.level) (ticks_of lower' + 1)) in
      let on : may_begin lower l ≡ true = ap (λ b. b || nat_le (2 ^ lower.level) (ticks_of lower + 1)) is in
      omega (arith, ap one_if off, ap one_if is, ap one_if on)
  left_one false is =
      let same : nat_le (2 ^ lower'.level) (ticks_of lower' + 1) ≡ nat_le (2 ^ lower.level) (ticks_of lower + 1) =
      ap₂ (λ j n. nat_le (2 ^ j) (n + 1)) level ticks in
      let on : may_begin lower l ≡ nat_le (2 ^ lower.level) (ticks_of lower + 1) = ap (λ b. b || nat_le (2 ^ lower.level) (ticks_of lower + 1)) is in
      let less : one_if (is_due 1 lower') ≤ one_if (nat_le (2 ^ lower'.level) (ticks_of lower' + 1)) =
      and_less (nat_le (2 ^ lower'.level) (ticks_of lower' + 1)) (nat_le 2 1 || (length lower'.parts == 1)) in
      omega (arith, ap one_if is, ap one_if on, ap one_if same, less)

  -- where a construction begins two parts stay below, which aren't due in the next tick
  pub visit-left : (k : ℕ) → (if k == lower'.level + 1 then one_if (is_due 1 lower') else 0) + (if k == l.level then one_if (will_begin lower l) else 0)
      ≤ (if k == l.level then one_if (may_begin lower l) else 0)
  visit-left k =
      let same : l.level ≡ lower'.level + 1 = next ∙ ap (λ n. n + 1) (sym level) in
      subst (λ n. (if k == n then one_if (is_due 1 lower') else 0) + (if k == l.level then one_if (will_begin lower l) else 0)
      ≤ (if k == l.level then one_if (may_begin lower l) else 0)) same
      (three (k == l.level) (one_if (is_due 1 lower')) (one_if (will_begin lower l)) (one_if (may_begin lower l)) (left_one (will_begin lower l) refl))
    where
      three : (b : Bool) (m n o : ℕ) → m + n ≤ o → (if b then m else 0) + (if b then n else 0) ≤ (if b then o else 0)
      three true m n o le = le
      three false m n o le = omega arith

Keeps-then : (a b c : Stored) → KeepsBoth a b → KeepsBoth b c → KeepsBoth a c
Keeps-then a b c h k = record {
  builders = λ n. k.builders n ∙ h.builders n;
  tables = λ n. k.tables n ∙ h.tables n;
}

module _ {P Item : Type 0} (lower l lower' l' : Slots P Item) (above : List (Slots P Item)) (store store' : Stored)
    (v : Visits lower l store lower' l' store') (now : (k : ℕ) → now_at k l' above ≤ due_at 1 k (l ∷ above)) where
  pub ready_above : AreReady lower (l ∷ above) store → AreReady l' above store'
  ready_above ready = record {
    builders = λ k. omega (arith, ready.builders k, v.takes k, now k);
    tables = λ k. omega (arith, ready.tables k, v.takes_tables k, now k);
    quiet = λ next rest is. subst (IsQuietAbove 1 l) is (ready.quiet l above refl);
    lent = record {
      builders = λ k. omega (arith, ready.lent.builders k, v.trades.builders k);
      tables = λ k. omega (arith, ready.lent.tables k, v.trades.tables k);
    };
  }

module _ {P Item : Type 0} (lower l lower' l' : Slots P Item) (above : List (Slots P Item)) (store store' : Stored)
    (v : Visits lower l store lower' l' store')
    (now : (k : ℕ) → now_at k l' above ≤ due_at 1 k (l ∷ above)) (soon : (k : ℕ) → soon_at k l' above ≤ due_at 2 k (l ∷ above))
    (left : (k : ℕ) → (if k == lower'.level + 1 then one_if (is_due 1 lower') else 0) + (if k == l.level then one_if (will_begin lower l) else 0)
    ≤ (if k == l.level then one_if (may_begin lower l) else 0))
    (quiet : IsQuietAbove 2 l above → IsQuietSoon l' above) where
  pub walks_above : (l'' : Slots P Item) (above'' : List (Slots P Item)) (store'' : Stored) → Walks l' above store' l'' above'' store''
      → Walks lower (l ∷ above) store lower' (l'' ∷ above'') store''
  walks_above l'' above'' store'' w = record {
    trades = record {
      keeps = Keeps-then store store' store'' v.trades.keeps w.trades.keeps;
      builders = λ k. omega (arith, v.trades.builders k, w.trades.builders k);
      tables = λ k. omega (arith, v.trades.tables k, w.trades.tables k);
    };
    takes = λ k. omega (arith, v.takes k, w.takes k, now k);
    takes_tables = λ k. omega (arith, v.takes_tables k, w.takes_tables k, now k);
    stays = λ k. omega (arith, v.takes k, w.stays k, soon k, left k);
    stays_tables = λ k. omega (arith, v.takes_tables k, w.stays_tables k, soon k, left k);
    quiet = λ none. w.quiet (quiet none);
  }

-- above the highest level there is nothing to do
pub walks_none : {P Item : Type 0} (lower : Slots P Item) (store : Stored) → Walks lower [] store lower [] store
walks_none lower store = record {
  trades = record { keeps = record { builders = λ k. refl; tables = λ k. refl }; builders = λ k. refl; tables = λ k. refl };
  takes = λ k. omega arith;
  takes_tables = λ k. omega arith;
  stays = λ k. omega (arith, here k);
  stays_tables = λ k. omega (arith, here k);
  quiet = λ none. ap (λ b. b && (nat_le 2 1 || (length lower.parts == 1))) none;
}
  where
    here : (k : ℕ) → (if k == lower.level + 1 then one_if (is_due 1 lower) else 0)
        ≤ (if k == lower.level + 1 then one_if (nat_le (2 ^ lower.level) (ticks_of lower + 1)) else 0)
    here k = both_if (k == (lower.level + 1)) (one_if (is_due 1 lower)) (one_if (nat_le (2 ^ lower.level) (ticks_of lower + 1)))
        (and_less (nat_le (2 ^ lower.level) (ticks_of lower + 1)) (nat_le 2 1 || (length lower.parts == 1)))

-- of one level there are so many
here : (k m : ℕ) → (if k == k then m else 0) ≡ m
here k m = let same : (k == k) ≡ true = grind (arith, nat_tests) in ap (λ b. if b then m else 0) same

-- one less of a level
one_less : (k m' : ℕ) {i j m : ℕ} → j ≡ i → m ≡ m' + 1 → (if k == i then m else 0) ≡ (if k == j then m' else 0) + one_if (k == i)
one_less k m' {i} {j} {m} same less = subst (λ n. (if k == i then m else 0) ≡ (if k == n then m' else 0) + one_if (k == i)) (sym same) (of (k == i))
  where
    of : (b : Bool) → (if b then m else 0) ≡ (if b then m' else 0) + one_if b
    of true = less
    of false = refl

-- levels and a store through several calls
module _ {P Item : Type 0} where
  pub Trades-same : (levels : List (Slots P Item)) (store : Stored) → Trades levels store levels store
  Trades-same levels store = record { keeps = record { builders = λ k. refl; tables = λ k. refl }; builders = λ k. refl; tables = λ k. refl }

  pub Trades-then : {a b c : List (Slots P Item)} {r s t : Stored} → Trades a r b s → Trades b s c t → Trades a r c t
  Trades-then {a} {b} {c} {r} {s} {t} h k = record {
    keeps = Keeps-then r s t h.keeps k.keeps;
    builders = λ n. omega (arith, h.builders n, k.builders n);
    tables = λ n. omega (arith, h.tables n, k.tables n);
  }

  -- what was lent is, and what the levels have more
  pub AreLent-on : {a b : List (Slots P Item)} {r s : Stored} → Trades a r b s → AreLent a r → AreLent b s
  AreLent-on h lent = record {
    builders = λ n. omega (arith, h.builders n, lent.builders n);
    tables = λ n. omega (arith, h.tables n, lent.tables n);
  }

  -- what is to begin finds a room
  pub room_now : (lower l : Slots P Item) (above : List (Slots P Item)) (store : Stored) → AreReady lower (l ∷ above) store → will_begin lower l ≡ true
      → HasRoom l.level store
  room_now lower l above store ready on = record {
    builder = omega (arith, ready.builders l.level, here l.level (one_if (will_begin lower l)), ap one_if on);
    tables = omega (arith, ready.tables l.level, here l.level (one_if (will_begin lower l)), ap one_if on);
  }

  pub will_begin-on : (lower l : Slots P Item) → 2 ≤ length lower.parts → l.construction ≡ None → will_begin lower l ≡ true
  will_begin-on lower l two none = ap₂ (λ b o. b && not (is_some o)) (le-leb 2 (length lower.parts) two) none

  pub runs-one : (l : Slots P Item) → is_some l.construction ≡ true → runs_in l ≡ 1
  runs-one l is = ap one_if is

  pub runs-none : (l : Slots P Item) → l.construction ≡ None → runs_in l ≡ 0
  runs-none l none = ap (λ o. one_if (is_some o)) none

  module _ {lower l : Slots P Item} {above : List (Slots P Item)} {store : Stored} (lent : AreLent (lower ∷ l ∷ above) store) where
    pub lent-pair : AreLent (lower ∷ l ∷ []) store
    lent-pair = record { builders = λ k. omega (arith, lent.builders k); tables = λ k. omega (arith, lent.tables k) }

    -- the parts of the lower level, and the tables of what is under construction into the upper one
    pub lent-parts : length lower.parts ≤ lent_at lower.level store.builders
    lent-parts = omega (arith, lent.builders lower.level, here lower.level (used_in lower))

    pub lent-tables : is_some l.construction ≡ true → 0 < lent_at l.level store.tables
    lent-tables is = omega (arith, lent.tables l.level, here l.level (runs_in l), runs-one l is)

  -- a part is published: its tables come back, and what its two sources were made of
  module _ (contents : P → Contents Item) {lower l lower' l' : Slots P Item} (p : IsPublication contents l lower l' lower')
      (runs : is_some l.construction ≡ true) where
    fewer : used_in lower ≡ used_in lower' + 2
    fewer = omega (arith, ap used_in p.retired, ap (λ v. length v.parts) p.retired, ap (λ v. runs_in v) p.retired)

    as_many : used_in l' ≡ used_in l
    as_many = omega (arith, ap (λ v. length v.parts) p.arrived, length-append l.parts (p.fresh ∷ []), runs-one l runs, runs-none l' (ap (λ v. v.construction) p.arrived))

    same_below : lower'.level ≡ lower.level
    same_below = ap (λ v. v.level) (sym p.retired)

    same_level : l'.level ≡ l.level
    same_level = ap (λ v. v.level) p.arrived

    two_fewer : (k : ℕ) → (if k == lower'.level then used_in lower' else 0) + one_if (k == lower.level) + one_if (k == lower.level)
        ≡ (if k == lower.level then used_in lower else 0)
    two_fewer k =
        subst (λ n. (if k == n then used_in lower' else 0) + one_if (k == lower.level) + one_if (k == lower.level) ≡ (if k == lower.level then used_in lower else 0))
        (sym same_below) (of (k == lower.level))
      where
        of : (b : Bool) → (if b then used_in lower' else 0) + one_if b + one_if b ≡ (if b then used_in lower else 0)
        of true = omega (arith, fewer)
        of false = refl

    used_above : (k : ℕ) → (if k == l'.level then used_in l' else 0) ≡ (if k == l.level then used_in l else 0)
    used_above k = ap₂ (λ n m. if k == n then m else 0) same_level as_many

    runs_below : (k : ℕ) → (if k == lower'.level then runs_in lower' else 0) ≡ (if k == lower.level then runs_in lower else 0)
    runs_below k = ap (λ v. if k == v.level then runs_in v else 0) (sym p.retired)

    runs_above : (k : ℕ) → (if k == l'.level then runs_in l' else 0) + one_if (k == l.level) ≡ (if k == l.level then runs_in l else 0)
    runs_above k =
        subst (λ n. (if k == n then runs_in l' else 0) + one_if (k == l.level) ≡ (if k == l.level then runs_in l else 0)) (sym same_level) (of (k == l.level))
      where
        of : (b : Bool) → (if b then runs_in l' else 0) + one_if b ≡ (if b then runs_in l else 0)
        of true = omega (arith, runs-one l runs, runs-none l' (ap (λ v. v.construction) p.arrived))
        of false = refl

    pub less-published : (k : ℕ) → used_at k (lower' ∷ l' ∷ []) ≤ used_at k (lower ∷ l ∷ [])
    less-published k = omega (arith, two_fewer k, used_above k)

    pub less_built-published : (k : ℕ) → built_at k (lower' ∷ l' ∷ []) ≤ built_at k (lower ∷ l ∷ [])
    less_built-published k = omega (arith, runs_below k, runs_above k)

    pub trades-published : {r s t u : Stored} → TakesTables l.level r s → TakesPart lower.level s t → TakesPart lower.level t u
        → Trades (lower ∷ l ∷ []) r (lower' ∷ l' ∷ []) u
    trades-published {r} {s} {t} {u} tables first second = record {
      keeps = record {
        builders = λ k. second.builders.keeps k ∙ first.builders.keeps k ∙ ap (held_at k) tables.builders;
        tables = λ k. ap (held_at k) second.tables ∙ ap (held_at k) first.tables ∙ tables.tables.keeps k;
      };
      builders = λ k. omega (
        arith,
        second.builders.lent k,
        first.builders.lent k,
        ap (lent_at k) tables.builders,
        two_fewer k,
        used_above k,
      );
      tables = λ k. omega (
        arith,
        ap (lent_at k) second.tables,
        ap (lent_at k) first.tables,
        tables.tables.lent k,
        runs_below k,
        runs_above k,
      );
    }

  -- A construction takes its tick: it begins in a room that is lent where none ran, and else it goes on.
  module _ (lower l mid : Slots P Item) (r s : Stored) (level : mid.level ≡ l.level) (parts : mid.parts ≡ l.parts) (runs : is_some mid.construction ≡ true)
      (two : 2 ≤ length lower.parts) (begun : l.construction ≡ None → LendsRoom l.level r s) (running : is_some l.construction ≡ true → s ≡ r) where
    abbrev more : ℕ → ℕ
    more k = if k == l.level then one_if (will_begin lower l) else 0

    -- so much more is lent
    record LendsMore : Type 0 where
      keeps : KeepsBoth r s
      builders : (k : ℕ) → lent_at k s.builders ≡ lent_at k r.builders + more k
      tables : (k : ℕ) → lent_at k s.tables ≡ lent_at k r.tables + more k
      runs_more : one_if (is_some l.construction) + one_if (will_begin lower l) ≡ 1

    on_two : will_begin lower l ≡ not (is_some l.construction)
    on_two = let both : nat_le 2 (length lower.parts) ≡ true = le-leb 2 (length lower.parts) two in ap (λ b. b && not (is_some l.construction)) both

    lends_more : (b : Bool) → is_some l.construction ≡ b → LendsMore
    lends_more true is =
        let off : will_begin lower l ≡ false = on_two ∙ ap not is in
        let none : (k : ℕ) → more k ≡ 0 = λ k. ap (λ b. if k == l.level then one_if b else 0) off ∙ nothing (k == l.level) (one_if false) refl in
        record {
          keeps = record { builders = λ k. ap (λ v. held_at k v.builders) (running is); tables = λ k. ap (λ v. held_at k v.tables) (running is) };
          builders = λ k. omega (arith, ap (λ v. lent_at k v.builders) (running is), none k);
          tables = λ k. omega (arith, ap (λ v. lent_at k v.tables) (running is), none k);
          runs_more = omega (arith, ap one_if is, ap one_if off);
        }
      where
        nothing : (b : Bool) (m : ℕ) → m ≡ 0 → (if b then m else 0) ≡ 0
        nothing true m none = none
        nothing false m none = refl
    lends_more false is =
        let on : will_begin lower l ≡ true = on_two ∙ ap not is in
        let room = begun (not_some l.construction is) in
        let one : (k : ℕ) → more k ≡ one_if (k == l.level) = λ k. ap (λ b. if k == l.level then one_if b else 0) on in
        record {
          keeps = record { builders = room.builders.keeps; tables = room.tables.keeps };
          builders = λ k. omega (arith, room.builders.lent k, one k);
          tables = λ k. omega (arith, room.tables.lent k, one k);
          runs_more = omega (arith, ap one_if is, ap one_if on);
        }

    runs_on : (k : ℕ) → (if k == mid.level then runs_in mid else 0) ≡ (if k == l.level then runs_in l else 0) + more k
    runs_on k =
        subst (λ n. (if k == n then runs_in mid else 0) ≡ (if k == l.level then runs_in l else 0) + more k) (sym level) (of (k == l.level))
      where
        of : (b : Bool) → (if b then runs_in mid else 0) ≡ (if b then runs_in l else 0) + (if b then one_if (will_begin lower l) else 0)
        of true = omega (arith, runs-one mid runs, (lends_more (is_some l.construction) refl).runs_more)
        of false = refl

    used_on : (k : ℕ) → (if k == mid.level then used_in mid else 0) ≡ (if k == l.level then used_in l else 0) + more k
    used_on k =
        subst (λ n. (if k == n then used_in mid else 0) ≡ (if k == l.level then used_in l else 0) + more k) (sym level) (of (k == l.level))
      where
        of : (b : Bool) → (if b then used_in mid else 0) ≡ (if b then used_in l else 0) + (if b then one_if (will_begin lower l) else 0)
        of true = omega (arith, ap length parts, runs-one mid runs, (lends_more (is_some l.construction) refl).runs_more)
        of false = refl

    pub trades-begun : Trades (lower ∷ l ∷ []) r (lower ∷ mid ∷ []) s
    trades-begun =
        let h = lends_more (is_some l.construction) refl in
        record {
          keeps = h.keeps;
          builders = λ k. omega (arith, h.builders k, used_on k);
          tables = λ k. omega (arith, h.tables k, runs_on k);
        }

    -- and then it may end
    pub visits-of : {lower' l' : Slots P Item} {t : Stored} → Trades (lower ∷ mid ∷ []) s (lower' ∷ l' ∷ []) t
        → ((k : ℕ) → used_at k (lower' ∷ l' ∷ []) ≤ used_at k (lower ∷ mid ∷ [])) → ((k : ℕ) → built_at k (lower' ∷ l' ∷ []) ≤ built_at k (lower ∷ mid ∷ []))
        → Visits lower l r lower' l' t
    visits-of {lower'} {l'} {t} trades less less_built =
        let whole = Trades-then trades-begun trades in
        record {
          trades = whole;
          takes = λ k. omega (arith, whole.keeps.builders k, whole.builders k, less k, used_on k);
          takes_tables = λ k. omega (arith, whole.keeps.tables k, whole.tables k, less_built k, runs_on k);
        }

  -- where fewer than two parts stand below, nothing is done
  pub visits-idle : (lower l : Slots P Item) (store : Stored) → Visits lower l store lower l store
  visits-idle lower l store = record { trades = Trades-same (lower ∷ l ∷ []) store; takes = λ k. omega arith; takes_tables = λ k. omega arith }

  -- what a level gives back: the room of its construction, or a part
  module _ (l l' : Slots P Item) {r s : Stored} (level : l'.level ≡ l.level) (less : used_in l ≡ used_in l' + 1) where
    pub trades-room : runs_in l ≡ runs_in l' + 1 → TakesRoom l.level r s → Trades (l ∷ []) r (l' ∷ []) s
    trades-room ends back = record {
      keeps = record { builders = back.builders.keeps; tables = back.tables.keeps };
      builders = λ k. omega (arith, back.builders.lent k, one_less k (used_in l') level less);
      tables = λ k. omega (arith, back.tables.lent k, one_less k (runs_in l') level ends);
    }

    pub trades-part : runs_in l ≡ runs_in l' → TakesPart l.level r s → Trades (l ∷ []) r (l' ∷ []) s
    trades-part same back = record {
      keeps = record { builders = back.builders.keeps; tables = λ k. ap (held_at k) back.tables };
      builders = λ k. omega (arith, back.builders.lent k, one_less k (used_in l') level less);
      tables = λ k. omega (arith, ap (lent_at k) back.tables, ap₂ (λ n m. if k == n then m else 0) level (sym same));
    }

  pub lent-of : {l : Slots P Item} {r : Stored} → AreLent (l ∷ []) r → (used_in l ≤ lent_at l.level r.builders) × (runs_in l ≤ lent_at l.level r.tables)
  lent-of {l} {r} lent = (omega (arith, lent.builders l.level, here l.level (used_in l)), omega (arith, lent.tables l.level, here l.level (runs_in l)))

  -- a level that has nothing
  pub trades-none : (l l' : Slots P Item) (s : Stored) → l' ≡ l → Trades (l ∷ []) s (l' ∷ []) s
  trades-none l l' s same = subst (λ v. Trades (l ∷ []) s (v ∷ []) s) (sym same) (Trades-same (l ∷ []) s)
