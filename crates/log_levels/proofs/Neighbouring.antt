-- Neighbouring levels through a tick.
use Rattle.std.proofs.Common.{◌≡◌, ℕ, suc, ◌+◌, ◌*◌, ◌^◌, ◌<◌, ◌≤◌, ◌&&◌, ◌∙◌, Bool, Option, [], ◌∷◌, ◌++◌, Some, None, true, false, not, length, drop, nat_le, refl, ap, ap₂, sym, subst, arith}
use Rattle.std.specs.Option.{option_map, option_map_or, is_some}
use Rattle.std.proofs.lemmas.Bool.Decides.{nat_tests}
use Rattle.std.proofs.lemmas.Nat.{pow_pos}
use Rattle.query_laws.proofs.Permutations.{Permuted-refl}
use Rattle.builder_trait.specs.Builders.{PartProfile}
use Rattle.builder_trait.specs.Parts.{Contents}
use Rattle.partial_build.specs.Construction.{Builds}
use Rattle.log_levels.specs.Slots.{Slots, ticks_of, waiting_in, clock_of, weight_in, live_in, items_in}
use Rattle.part_store.specs.Store.{Stored}
use Rattle.log_levels.specs.Trades.{will_begin, Begins}
use Rattle.log_levels.specs.Neighbours.{IsBelow, IsVisited, IsConstructionOf, IsFed, stays, arrives, IsPublication, TakesTick, rests}
use Rattle.log_levels.proofs.Clocks.{TakesTick-more, TakesTick-last}
use Rattle.log_levels.proofs.Distinct.{IsPartOf-refl}
use Rattle.log_levels.proofs.Publishing.{doubled, live-published, items-published, weight-published}

pub none_ticks : {P Item : Type 0} (l : Slots P Item) → l.construction ≡ None → ticks_of l ≡ 0
none_ticks l none = ap (λ o. option_map_or (λ c. c.ticks) o 0) none

pub none_waiting : {P Item : Type 0} (l : Slots P Item) → l.construction ≡ None → waiting_in l ≡ 0
none_waiting l none = ap (λ o. option_map_or (λ c. length c.waiting) o 0) none

pub not_some : {A : Type 0} (o : Option A) → is_some o ≡ false → o ≡ None
not_some None none = refl
not_some (Some x) none = absurd cc

-- where a construction is to begin, two parts stand below, and none runs
pub will_begin-both : {P Item : Type 0} (lower l : Slots P Item) → will_begin lower l ≡ true → (2 ≤ length lower.parts) × (l.construction ≡ None)
will_begin-both lower l on =
    let h = both (nat_le 2 (length lower.parts)) (is_some l.construction) on in (le-from h.0, not_some l.construction h.1)
  where
    both : (a b : Bool) → (a && not b) ≡ true → (a ≡ true) × (b ≡ false)
    both true false is = (refl, refl)
    both true true is = absurd cc
    both false b is = absurd cc

    le-from : {n : ℕ} → nat_le 2 n ≡ true → 2 ≤ n
    le-from is = grind (arith, nat_tests, is)

-- a construction that begins has no ticks, and nothing waits in it
pub begun-idle : {P Item : Type 0} {l mid : Slots P Item} {r s : Stored} → (l.construction ≡ None → Begins l r mid s)
    → (is_some l.construction ≡ true → (mid ≡ l) × (s ≡ r)) → (ticks_of mid ≡ ticks_of l) × (waiting_in mid ≡ waiting_in l)
begun-idle {P} {Item} {l} {mid} {r} {s} begun running = of (is_some l.construction) refl
  where
    of : (b : Bool) → is_some l.construction ≡ b → (ticks_of mid ≡ ticks_of l) × (waiting_in mid ≡ waiting_in l)
    of true is = (ap ticks_of (running is).0, ap waiting_in (running is).0)
    of false is =
        let none = not_some l.construction is in
        ((begun none).ticks ∙ sym (none_ticks l none), (begun none).waiting ∙ sym (none_waiting l none))

module _ {P Item : Type 0} (contents : P → Contents Item) (profile : PartProfile Item) where
  pub fed_by : (lower mid : Slots P Item) {a b : P} → lower.parts ≡ a ∷ b ∷ drop 2 lower.parts
      → IsConstructionOf contents profile a b mid → IsFed contents profile lower mid
  fed_by lower mid {a} {b} are h x y rest others c is =
      let same : a ∷ b ∷ drop 2 lower.parts ≡ x ∷ y ∷ rest = sym are ∙ others in
      let first : a ≡ x = cc in
      let second : b ≡ y = cc in
      let built : P → P → Type 0 = λ p q. Builds profile c (contents p) (contents q) in
      subst (λ p. built p y) first (subst (λ p. built a p) second (h c is))

  -- where the level below has fewer than two parts, nothing is done
  pub visited-idle : {lower old : Slots P Item} → IsBelow contents profile 0 lower old → length lower.parts < 2
      → IsVisited contents profile old lower old lower
  visited-idle {lower} {old} h few = record {
    below = record {
      next_level = h.next_level;
      few = h.few;
      idle = h.idle;
      fed = h.fed;
      early = h.early;
      clock = λ two. absurd (omega (arith, few, two));
    };
    advances = stays refl (omega arith);
    ticked = rests (ap (option_map (λ c. c.ticks)) (h.idle few)) (ap (option_map (λ c. c.ticks)) (h.idle few));
    live = Permuted-refl (live_in contents old ++ live_in contents lower);
    items = IsPartOf-refl (items_in contents old ++ items_in contents lower);
    weight = refl;
    stay = λ on. (will_begin-both lower old on).0;
  }

  module _ {old lower mid : Slots P Item} (h : IsBelow contents profile 0 lower old) (two : 2 ≤ length lower.parts)
      (same : mid.parts ≡ old.parts) (level : mid.level ≡ old.level) (ticked : ticks_of mid ≡ ticks_of old + 1) where
    -- a construction took its tick, and isn't at its end
    pub visited-ticked : is_some mid.construction ≡ true → IsFed contents profile lower mid → ticks_of mid < 2 ^ mid.level
        → IsVisited contents profile old lower mid lower
    visited-ticked runs fed early = record {
      below = record {
        next_level = level ∙ h.next_level;
        few = h.few;
        idle = λ less. absurd (omega (arith, two, less));
        fed = fed;
        early = early;
        clock = λ _. omega (arith, h.clock two, ticked);
      };
      advances = stays same (omega (arith, ticked));
      ticked = TakesTick-more old.level old.construction mid.construction runs ticked;
      live = rw same (Permuted-refl (live_in contents old ++ live_in contents lower));
      items = rw same (IsPartOf-refl (items_in contents old ++ items_in contents lower));
      weight = ap₂ (λ n k. n * 2 ^ k + weight_in lower) (ap length same) level;
      stay = λ _. two;
    }

    -- it was at its end, and its part was published
    pub visited-published : (new lower' : Slots P Item) → 2 ^ old.level ≡ ticks_of mid → IsPublication contents mid lower new lower'
        → IsVisited contents profile old lower new lower'
    visited-published new lower' ended p = record {
      below = record {
        next_level = ap (λ l. l.level) p.arrived ∙ level ∙ h.next_level ∙ ap (λ l. l.level + 1) p.retired;
        few = omega (arith, h.few, fewer);
        idle = λ _. none;
        fed = λ a b rest _ c some. absurd cc;
        early = omega (arith, none_ticks new none, powers);
        clock = λ more. absurd (omega (arith, more, h.few, fewer));
      };
      advances = arrives p.fresh (ap (λ l. l.parts) p.arrived ∙ ap (λ ps. ps ++ p.fresh ∷ []) same) (none_ticks new none) (ended ∙ ticked);
      ticked = subst (TakesTick old.level (clock_of old)) (sym (ap (option_map (λ c. c.ticks)) none))
          (TakesTick-last old.level old.construction (ended ∙ ticked) bigger);
      live = rw (← same) (live-published contents p);
      items = rw (← same) (items-published contents p);
      weight = weight-published contents p (level ∙ h.next_level)
          ∙ ap₂ (λ n k. n * 2 ^ k + weight_in lower) (ap length same) level;
      stay = λ on. absurd (omega (arith, ended, ticked, none_ticks old (will_begin-both lower old on).1, bigger));
    }
      where
        fewer : length lower.parts ≡ suc (suc (length lower'.parts))
        fewer = ap (λ l. length l.parts) p.retired

        none : new.construction ≡ None
        none = ap (λ l. l.construction) p.arrived

        powers : 0 < 2 ^ new.level
        powers = pow_pos new.level

        bigger : 2 ≤ 2 ^ old.level
        bigger = subst (λ k. 2 ≤ 2 ^ k) (sym h.next_level) (omega (arith, doubled lower.level, pow_pos lower.level))
