-- The clocks of levels through a tick.
use Rattle.std.proofs.Common.{◌≡◌, ℕ, ◌+◌, ◌^◌, ◌≤◌, ◌∙◌, Option, Some, None, true, List, [], ◌∷◌, map, refl, sym, ap, ap₂, subst, arith}
use Rattle.std.specs.Option.{option_map, option_map_or, is_some}
use Rattle.partial_build.specs.Construction.{Construction}
use Rattle.log_levels.specs.Slots.{Slots, ticks_of, clock_of, work_of}
use Rattle.log_levels.specs.Neighbours.{TakesTick, begins, goes_on, ends}
use Rattle.log_levels.specs.Towers.{TakeTicks}
use Rattle.log_levels.specs.Marking.{AreNoted}

module _ {Item : Type 0} where
  abbrev clock : Option (Construction Item) → Option ℕ
  clock o = option_map (λ c. c.ticks) o

  abbrev time : Option (Construction Item) → ℕ
  time o = option_map_or (λ c. c.ticks) o 0

  -- a construction that runs took one tick
  pub TakesTick-more : (level : ℕ) (o o' : Option (Construction Item)) → is_some o' ≡ true → time o' ≡ time o + 1 → TakesTick level (clock o) (clock o')
  TakesTick-more level o None runs ticked = absurd cc
  TakesTick-more level None (Some c') runs ticked = begins refl (ap Some (omega (arith, ticked)))
  TakesTick-more level (Some c) (Some c') runs ticked = goes_on c.ticks refl (ap Some (omega (arith, ticked)))

  -- it took its last tick
  pub TakesTick-last : (level : ℕ) (o : Option (Construction Item)) → 2 ^ level ≡ time o + 1 → 2 ≤ 2 ^ level → TakesTick level (clock o) None
  TakesTick-last level None ended two = absurd (omega (arith, ended, two))
  TakesTick-last level (Some c) ended two = ends c.ticks refl (omega (arith, ended)) refl

  abbrev but_waiting : Construction Item → Construction Item
  but_waiting c = record c { waiting = [] }

  -- what doesn't see the items that wait
  pub seen : {A : Type 0} (f : Construction Item → A) (d : A) → ((c : Construction Item) → f (but_waiting c) ≡ f c) → (o o' : Option (Construction Item))
      → option_map but_waiting o' ≡ option_map but_waiting o → option_map_or f o' d ≡ option_map_or f o d
  seen f d blind None None same = refl
  seen f d blind None (Some c') same = absurd cc
  seen f d blind (Some c) None same = absurd cc
  seen f d blind (Some c) (Some c') same = let e : but_waiting c' ≡ but_waiting c = cc in sym (blind c') ∙ ap f e ∙ blind c

module _ {P Item : Type 0} where
  -- levels with these numbers and clocks take their ticks
  pub TakeTicks-from : (old mid new : List (Slots P Item)) → map (λ l. l.level) mid ≡ map (λ l. l.level) old → map clock_of mid ≡ map clock_of old
      → TakeTicks mid new → TakeTicks old new
  TakeTicks-from [] [] new numbers clocks h = h
  TakeTicks-from [] (m ∷ mid) new numbers clocks h = absurd cc
  TakeTicks-from (l ∷ old) [] new numbers clocks h = absurd cc
  TakeTicks-from (l ∷ old) (m ∷ mid) [] numbers clocks h = h
  TakeTicks-from (l ∷ old) (m ∷ mid) (n ∷ new) numbers clocks h =
      let level : m.level ≡ l.level = cc in
      let levels : map (λ v. v.level) mid ≡ map (λ v. v.level) old = cc in
      let clock : clock_of m ≡ clock_of l = cc in
      let others : map clock_of mid ≡ map clock_of old = cc in (
        subst (λ o. TakesTick l.level o (clock_of n)) clock (subst (λ k. TakesTick k (clock_of m) (clock_of n)) level h.0),
        TakeTicks-from old mid new levels others h.1,
      )

  -- the same construction but for what waits
  module _ (l l' : Slots P Item) (same : work_of l' ≡ work_of l) where
    pub same_ticks : ticks_of l' ≡ ticks_of l
    same_ticks = seen (λ c. c.ticks) 0 (λ c. refl) l.construction l'.construction same

    pub same_clock : clock_of l' ≡ clock_of l
    same_clock = by l.construction l'.construction same
      where
        by : (o o' : Option (Construction Item)) → option_map but_waiting o' ≡ option_map but_waiting o → clock o' ≡ clock o
        by None None e = refl
        by None (Some c') e = absurd cc
        by (Some c) None e = absurd cc
        by (Some c) (Some c') e = let one : but_waiting c' ≡ but_waiting c = cc in ap (λ v. Some v.ticks) one

    pub same_runs : is_some l'.construction ≡ is_some l.construction
    same_runs = by l.construction l'.construction same
      where
        by : (o o' : Option (Construction Item)) → option_map but_waiting o' ≡ option_map but_waiting o → is_some o' ≡ is_some o
        by None None e = refl
        by None (Some c') e = absurd cc
        by (Some c) None e = absurd cc
        by (Some c) (Some c') e = refl

  pub clocks-worked : (old new : List (Slots P Item)) → map work_of new ≡ map work_of old → map clock_of new ≡ map clock_of old
  clocks-worked [] [] same = refl
  clocks-worked [] (n ∷ new) same = absurd cc
  clocks-worked (l ∷ old) [] same = absurd cc
  clocks-worked (l ∷ old) (n ∷ new) same =
      let head : work_of n ≡ work_of l = cc in
      let rest : map work_of new ≡ map work_of old = cc in ap₂ (λ o os. o ∷ os) (same_clock l n head) (clocks-worked old new rest)

  pub work-noted : (above above' : List (Slots P Item)) → AreNoted above above' → map work_of above' ≡ map work_of above
  work-noted [] above' noted = ap (map work_of) noted
  work-noted (l ∷ rest) above' noted = ap (map work_of) noted.1 ∙ ap (λ o. o ∷ map work_of rest) noted.3
