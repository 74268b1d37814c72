-- The turns that are left of constructions, through a tick.
use Rattle.std.proofs.Common.{◌≡◌, ◌==◌, ℕ, ◌+◌, ◌<◌, ◌∙◌, ◌-◌, ◌*◌, ◌^◌, ◌≤◌, Bool, true, false, if◌then◌else◌, Option, Some, None, List, [], ◌∷◌, length, map, refl, sym, ap, ap₂, subst, arith}
use Rattle.std.proofs.lemmas.Bool.Decides.{nat_tests}
use Rattle.std.specs.Option.{option_map_or, is_some}
use Rattle.builder_trait.specs.Builders.{PartProfile}
use Rattle.builder_trait.specs.Parts.{Contents}
use Rattle.partial_build.specs.Construction.{Construction, AreTaken, Builds, IsBegun, IsPaid, IsOnTime, read_of, turns_left}
use Rattle.partial_build.specs.Quota.{quota}
use Rattle.partial_build.proofs.Clock.{none_left, turns_left-sealed, turns_left-open}
use Rattle.log_levels.specs.Slots.{Slots, work_of, most_turns, open_turns, all_turns, saved_by, left_in, due_in, saved_in}
use Rattle.log_levels.specs.Levels.{due_of, saved_of}
use Rattle.log_levels.proofs.Clocks.{seen}
use Rattle.log_levels.proofs.Publishing.{higher}

-- a seal: the items that are read and those that are put take a turn each
sealed : (read read' items left turns most : ℕ) → read + items ≤ left + turns → read + most ≤ read' + left + (most - items) + turns
sealed read read' items left turns most paid = omega (arith, paid)

-- no more is saved than might be
few_saved : (b : Bool) (turns items : ℕ) → (if b then turns - items else 0) ≤ turns
few_saved true turns items = omega arith
few_saved false turns items = omega arith

module _ {Item : Type 0} (profile : PartProfile Item) where
  -- a tick of a construction is paid
  pub paid-ticked : (turns : ℕ) (c c' : Construction Item) → c'.level ≡ c.level → IsPaid turns c c' → AreTaken profile turns c c'
      → turns_left profile c ≤ turns_left profile c' + saved_by (open_turns profile c) (Some c') + turns
  paid-ticked turns c c' level paid taken = by c.part.is_sealed c'.part.is_sealed refl refl
    where
      by : (b b' : Bool) → c.part.is_sealed ≡ b → c'.part.is_sealed ≡ b'
          → turns_left profile c ≤ turns_left profile c' + saved_by (open_turns profile c) (Some c') + turns
      by true b' is is' = omega (arith, taken.exact is)
      by false false is is' =
          let most : 2 ^ (c'.level - 1) * (profile.slope * c'.level + profile.base) ≡ 2 ^ (c.level - 1) * (profile.slope * c.level + profile.base) =
          ap (λ k. 2 ^ (k - 1) * (profile.slope * k + profile.base)) level in
          omega (arith, turns_left-open profile c is, turns_left-open profile c' is', most, paid.read)
      by false true is is' =
          let most = 2 ^ (c.level - 1) * (profile.slope * c.level + profile.base) in
          let items = length c'.part.contents.items in
          let saved : saved_by (open_turns profile c) (Some c') ≡ most - items = ap₂ (λ b b'. if b' then (if b then 0 else most) - items else 0) is is' in
          subst (λ n. turns_left profile c ≤ turns_left profile c' + n + turns) (sym saved)
          (subst (λ n. n ≤ turns_left profile c' + (most - items) + turns) (sym (turns_left-open profile c is))
          (subst (λ n. c.merge.left + most ≤ n + (most - items) + turns) (sym (turns_left-sealed profile c' is'))
          (sealed c.merge.left c'.merge.left items c'.part.left turns most (paid.made is is'))))

  -- all turns of a construction that begins in a tick are those that were left of it right before
  all_by : (none : Bool) (reads left most turns : ℕ) → (reads == 0) ≡ none → (0 < reads → reads + most ≤ left + turns)
      → (if reads == 0 then 0 else reads + most) ≤ left + turns
  all_by true reads left most turns is paid = subst (λ b. (if b then 0 else reads + most) ≤ left + turns) (sym is) (omega arith)
  all_by false reads left most turns is paid =
      subst (λ b. (if b then 0 else reads + most) ≤ left + turns) (sym is) (paid (grind (arith, nat_tests, is)))

  -- a first tick is paid
  pub paid-first : (turns : ℕ) (c c' : Construction Item) (a b : Contents Item) → c'.level ≡ c.level → IsPaid turns c c' → AreTaken profile turns c c'
      → IsBegun c → Builds profile c a b → Builds profile c' a b
      → all_turns profile c' ≤ turns_left profile c' + saved_by (most_turns profile c') (Some c') + turns
  paid-first turns c c' a b level paid taken fresh builds builds' =
      all_by (c'.merge.left + read_of c' == 0) (c'.merge.left + read_of c') (turns_left profile c' + saved_by (most_turns profile c') (Some c')) (most_turns profile c') turns refl (λ some.
      let same : c'.merge.left + read_of c' ≡ c.merge.left = omega (arith, builds.merges.to_go, builds'.merges.to_go, fresh.unread) in
      let unsealed : c.part.is_sealed ≡ false = fresh.unsealed (omega (arith, some, same)) in
      let most : most_turns profile c' ≡ most_turns profile c = ap (λ k. 2 ^ (k - 1) * (profile.slope * k + profile.base)) level in
      let was : open_turns profile c ≡ most_turns profile c' = ap (λ b. if b then 0 else most_turns profile c) unsealed ∙ sym most in
      let ticked = subst (λ n. turns_left profile c ≤ turns_left profile c' + saved_by n (Some c') + turns) was (paid-ticked turns c c' level paid taken) in
      omega (arith, ticked, turns_left-open profile c unsealed, most, same))

  -- no turn is left once all ticks are done
  pub left-ended : (c : Construction Item) → 2 ^ c.level ≤ c.ticks → IsOnTime profile c → turns_left profile c ≡ 0
  left-ended c ended on_time =
      none_left (2 ^ (c.level - 1)) c.ticks (quota profile.slope profile.base c.level) (turns_left profile c) on_time.in_time
      (omega (arith, ended, higher (c.level - 1) c.level (omega arith)))

  saved-gone : (turns : ℕ) (now : Option (Construction Item)) → saved_by turns now ≤ turns
  saved-gone turns None = omega arith
  saved-gone turns (Some c) = few_saved c.part.is_sealed turns (length c.part.contents.items)

  module _ {P : Type 0} where
    -- where no construction runs, none is left
    pub left_in-none : (l : Slots P Item) → l.construction ≡ None → left_in profile l ≡ 0
    left_in-none l none = ap (λ o. option_map_or (turns_left profile) o 0) none

    -- of one that runs that is due which is left
    pub due_in-runs : (old new : Slots P Item) → is_some old.construction ≡ true → due_in profile old new ≡ left_in profile old
    due_in-runs old new runs = by old.construction runs
      where
        by : (o : Option (Construction Item)) → is_some o ≡ true
            → option_map_or (turns_left profile) o (option_map_or (all_turns profile) new.construction 0) ≡ option_map_or (turns_left profile) o 0
        by None runs = absurd cc
        by (Some c) runs = refl

    -- where nothing has changed that is due which is left
    pub due_in-same : (old new : Slots P Item) → new.construction ≡ old.construction → due_in profile old new ≡ left_in profile new
    due_in-same old new same =
        subst (λ o. option_map_or (turns_left profile) o (option_map_or (all_turns profile) new.construction 0) ≡ left_in profile new) same (by new.construction)
      where
        by : (o : Option (Construction Item)) → option_map_or (turns_left profile) o (option_map_or (all_turns profile) o 0) ≡ option_map_or (turns_left profile) o 0
        by None = refl
        by (Some c) = refl

    -- nothing is due where none runs
    pub due_in-none : (old new : Slots P Item) → old.construction ≡ None → new.construction ≡ None → due_in profile old new ≡ 0
    due_in-none old new none none' =
        ap (λ o. option_map_or (turns_left profile) o (option_map_or (all_turns profile) new.construction 0)) none
        ∙ ap (λ o. option_map_or (all_turns profile) o 0) none'

    -- as much is saved at least where a construction that ran is gone
    pub saved_in-gone : (old mid new : Slots P Item) → is_some old.construction ≡ true → new.construction ≡ None → saved_in profile old mid ≤ saved_in profile old new
    saved_in-gone old mid new runs none = subst (λ o. saved_in profile old mid ≤ saved_by (turns new) o) (sym none) (by old.construction runs)
      where
        turns : Slots P Item → ℕ
        turns now = option_map_or (open_turns profile) old.construction (option_map_or (most_turns profile) now.construction 0)

        by : (o : Option (Construction Item)) → is_some o ≡ true
            → saved_by (option_map_or (open_turns profile) o (option_map_or (most_turns profile) mid.construction 0)) mid.construction
            ≤ option_map_or (open_turns profile) o (option_map_or (most_turns profile) new.construction 0)
        by None runs = absurd cc
        by (Some c) runs = saved-gone (open_turns profile c) mid.construction

    -- nothing of a level's work was done
    due_in-worked : (l l' new : Slots P Item) → work_of l' ≡ work_of l → due_in profile l' new ≡ due_in profile l new
    due_in-worked l l' new same = seen (turns_left profile) (option_map_or (all_turns profile) new.construction 0) (λ c. refl) l.construction l'.construction same

    saved_in-worked : (l l' new : Slots P Item) → work_of l' ≡ work_of l → saved_in profile l' new ≡ saved_in profile l new
    saved_in-worked l l' new same =
        ap (λ n. saved_by n new.construction)
        (seen (open_turns profile) (option_map_or (most_turns profile) new.construction 0) (λ c. refl) l.construction l'.construction same)

    pub due_of-worked : (old mid new : List (Slots P Item)) → map work_of mid ≡ map work_of old → due_of profile mid new ≡ due_of profile old new
    due_of-worked [] [] new same = refl
    due_of-worked [] (m ∷ mid) new same = absurd cc
    due_of-worked (l ∷ old) [] new same = absurd cc
    due_of-worked (l ∷ old) (m ∷ mid) [] same = refl
    due_of-worked (l ∷ old) (m ∷ mid) (n ∷ new) same =
        let head : work_of m ≡ work_of l = cc in
        let rest : map work_of mid ≡ map work_of old = cc in
        ap₂ (λ a b. a + b) (due_in-worked l m n head) (due_of-worked old mid new rest)

    pub saved_of-worked : (old mid new : List (Slots P Item)) → map work_of mid ≡ map work_of old → saved_of profile mid new ≡ saved_of profile old new
    saved_of-worked [] [] new same = refl
    saved_of-worked [] (m ∷ mid) new same = absurd cc
    saved_of-worked (l ∷ old) [] new same = absurd cc
    saved_of-worked (l ∷ old) (m ∷ mid) [] same = refl
    saved_of-worked (l ∷ old) (m ∷ mid) (n ∷ new) same =
        let head : work_of m ≡ work_of l = cc in
        let rest : map work_of mid ≡ map work_of old = cc in
        ap₂ (λ a b. a + b) (saved_in-worked l m n head) (saved_of-worked old mid new rest)
