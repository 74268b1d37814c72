-- The levels that two ticks may want, and what they may take.
use Rattle.std.proofs.Common.{◌≡◌, ◌==◌, ℕ, zero, suc, ◌+◌, ◌-◌, ◌*◌, ◌^◌, ◌<◌, ◌≤◌, ◌&&◌, ◌∙◌, Bool, true, false, List, [], ◌∷◌, ◌++◌, Some, None, length, if◌then◌else◌, nat_le, ⊎_elim, Result, Ok, Err, IfOk, slice_get, get_or, refl, ap, sym, subst, arith, append_assoc}
use Rattle.std.proofs.Math.Nat.{mul-le-mul_right}
use Rattle.std.proofs.lemmas.Bool.{cases_lt}
use Rattle.std.proofs.lemmas.Bool.Decides.{nat_tests}
use Rattle.std.proofs.lemmas.List.{append-nil, length-append}
use Rattle.std.proofs.lemmas.Nat.{pow_pos}
use Rattle.std.proofs.lemmas.List.Elements.{All-append, All-cons, All-nil, All-push}
use Rattle.query_laws.specs.Orders.{AllStampsDiffer}
use Rattle.builder_trait.specs.Parts.{Contents}
use Rattle.builder_trait.specs.Builders.{PartProfile}
use Rattle.part_store.specs.Shelves.{one_if}
use Rattle.log_levels.specs.Slots.{Slots, IsIdle, ticks_of, weight_in, live_in, items_in}
use Rattle.log_levels.specs.Levels.{weight_of, parts_of, live_items, all_items}
use Rattle.log_levels.specs.Neighbours.{IsPunctual}
use Rattle.log_levels.specs.Towers.{IsTower, AreAllLevels}
use Rattle.log_levels.specs.Trades.{is_due, due_at, wanted_at, IsQuietAbove, IsQuiet}
use Rattle.log_method.specs.Stack.{AreInPlace, IsStack}
use Rattle.log_method.specs.Preparing.{AreKept, AreEnough, IsKept, forecast_of}
use Rattle.log_levels.proofs.Publishing.{doubled}
use Rattle.log_levels.proofs.Neighbouring.{none_ticks}

module _ {P Item : Type 0} where
  -- a level without parts
  abbrev pub unused : ℕ → Slots P Item
  unused n = record { level = n; parts = []; construction = None }

  AreKept-refl : (levels : List (Slots P Item)) → AreKept levels levels
  AreKept-refl levels = record { added = []; are = sym (append-nil levels); idle = All-nil IsIdle }

  AreKept-then : (a b c : List (Slots P Item)) → AreKept a b → AreKept b c → AreKept a c
  AreKept-then a b c h k = record {
    added = h.added ++ k.added;
    are = k.are ∙ ap (λ ls. ls ++ k.added) h.are ∙ append_assoc a h.added k.added;
    idle = All-append IsIdle h.added k.added h.idle k.idle;
  }

  AreKept-added : (levels : List (Slots P Item)) (n : ℕ) → AreKept levels (levels ++ unused n ∷ [])
  AreKept-added levels n = record {
    added = unused n ∷ [];
    are = refl;
    idle = All-cons IsIdle (unused n) [] (record { no_parts = refl; no_construction = refl }) (All-nil IsIdle);
  }

  -- into level 0 no construction begins
  pub none_at_zero : (n : ℕ) (levels : List (Slots P Item)) → due_at n 0 levels ≡ 0
  none_at_zero n [] = refl
  none_at_zero n (l ∷ above) =
      let other : (0 == (l.level + 1)) ≡ false = grind (arith, nat_tests) in rw other (omega (arith, none_at_zero n above))

  -- nor into the lowest of some levels
  pub none_below : (n from k : ℕ) (levels : List (Slots P Item)) → AreInPlace from levels → k ≤ from → due_at n k levels ≡ 0
  none_below n from k [] h low = refl
  none_below n from k (l ∷ above) h low =
      let other : (k == (l.level + 1)) ≡ false = grind (arith, nat_tests, h.0, low) in
      rw other (omega (arith, none_below n (from + 1) k above h.1 (omega (arith, low))))

  -- above a level one may begin where a part may arrive there
  pub due_above : (n from place k : ℕ) (levels : List (Slots P Item)) (l : Slots P Item) → AreInPlace from levels → place < length levels
      → l ≡ get_or levels place l → k ≡ from + place + 1 → due_at n k levels ≡ one_if (is_due n l)
  due_above n from place k [] l h within is at = absurd (omega (arith, within))
  due_above n from zero k (x ∷ above) l h within is at =
      let here : (k == (x.level + 1)) ≡ true = grind (arith, nat_tests, h.0, at) in
      rw here (omega (arith, none_below n (from + 1) k above h.1 (omega (arith, at)), ap (λ v. one_if (is_due n v)) is))
  due_above n from (suc place) k (x ∷ above) l h within is at =
      let other : (k == (x.level + 1)) ≡ false = grind (arith, nat_tests, h.0, at) in
      rw other (omega (arith, due_above n (from + 1) place k above l h.1 (omega (arith, within)) is (omega (arith, at))))

  -- and further up none
  pub none_past : (n from k : ℕ) (levels : List (Slots P Item)) → AreInPlace from levels → from + length levels < k → due_at n k levels ≡ 0
  none_past n from k [] h high = refl
  none_past n from k (l ∷ above) h high =
      let other : (k == (l.level + 1)) ≡ false = grind (arith, nat_tests, h.0, high) in
      rw other (omega (arith, none_past n (from + 1) k above h.1 (omega (arith, high))))

  -- nor above the highest, where that is quiet
  quiet_past : (n from k : ℕ) (l : Slots P Item) (above : List (Slots P Item)) → AreInPlace from (l ∷ above) → IsQuietAbove n l above
      → from + length (l ∷ above) ≤ k → due_at n k (l ∷ above) ≡ 0
  quiet_past n from k l [] h quiet high = rw quiet (never (k == (l.level + 1)))
    where
      never : (b : Bool) → (if b then 0 else 0) + 0 ≡ 0
      never true = omega arith
      never false = omega arith
  quiet_past n from k l (next ∷ above) h quiet high =
      let other : (k == (l.level + 1)) ≡ false = grind (arith, nat_tests, h.0, high) in
      rw other (omega (arith, quiet_past n (from + 1) k next above h.1 quiet (omega (arith, high))))

  quiet_highest : (lower : Slots P Item) (above : List (Slots P Item)) (highest : Slots P Item)
      → slice_get (lower ∷ above) (length above) ≡ Some highest → is_due 2 highest ≡ false → IsQuietAbove 2 lower above
  quiet_highest lower [] highest is quiet = let same : lower ≡ highest = cc in ap (is_due 2) same ∙ quiet
  quiet_highest lower (next ∷ above) highest is quiet = quiet_highest next above highest is quiet

  pub enough_highest : (levels : List (Slots P Item)) (highest : Slots P Item) → slice_get levels (length levels - 1) ≡ Some highest
      → is_due 2 highest ≡ false → IsQuiet 2 levels
  enough_highest [] highest is quiet = absurd cc
  enough_highest (lower ∷ above) highest is quiet =
      let last : suc (length above) - 1 ≡ length above = omega arith in
      quiet_highest lower above highest (subst (λ n. slice_get (lower ∷ above) n ≡ Some highest) last is) quiet

  not_due : (l : Slots P Item) → (2 ^ l.level ≤ ticks_of l + 2 → ⊥) → is_due 2 l ≡ false
  not_due l late = let off : nat_le (2 ^ l.level) (ticks_of l + 2) ≡ false = grind (arith, nat_tests, late) in ap (λ b. b && true) off

  -- what two ticks may take of a level: of level 0 a builder for each item
  pub wanted_lowest : (k : ℕ) (levels : List (Slots P Item)) → k ≡ 0 → 2 ≡ wanted_at 2 k levels
  wanted_lowest k levels lowest = rw lowest (omega (arith, none_at_zero 2 levels))

  -- above another level one where a part may arrive there
  pub wanted_above : (k : ℕ) (levels : List (Slots P Item)) (l : Slots P Item) → AreInPlace 0 levels → (k ≡ 0 → ⊥)
      → k - 1 < length levels → l ≡ get_or levels (k - 1) l → wanted_at 2 k levels ≡ one_if (is_due 2 l)
  wanted_above k levels l places above within is =
      let other : (k == 0) ≡ false = grind (arith, nat_tests, above) in
      rw other (omega (arith, due_above 2 0 (k - 1) k levels l places within is (omega (arith, above))))

  -- and above all levels none
  pub wanted_past : (k : ℕ) (levels : List (Slots P Item)) → AreInPlace 0 levels → (k ≡ 0 → ⊥) → length levels ≤ k - 1
      → 0 ≡ wanted_at 2 k levels
  wanted_past k levels places above high =
      let other : (k == 0) ≡ false = grind (arith, nat_tests, above) in
      rw other (omega (arith, none_past 2 0 k levels places (omega (arith, above, high))))

  -- the weight of constructions, with one level more
  pub forecast_due : (l : Slots P Item) (above : List (Slots P Item)) (number rest : ℕ) → l.level ≡ number → is_due 2 l ≡ true
      → rest ≡ forecast_of above → rest + 2 * 2 ^ number ≡ forecast_of (l ∷ above)
  forecast_due l above number rest level due is =
      rw due (omega (arith, is, doubled l.level, ap (λ k. 2 ^ k) level))

  pub forecast_not_due : (l : Slots P Item) (above : List (Slots P Item)) (rest : ℕ) → is_due 2 l ≡ false
      → rest ≡ forecast_of above → rest ≡ forecast_of (l ∷ above)
  forecast_not_due l above rest late is = rw late (omega (arith, is))

pub when_ok : {A E p q : Type 0} (r : Result A E) → (p → q) → IfOk r (λ _. p) → IfOk r (λ _. q)
when_ok (Ok x) f h = f h
when_ok (Err e) f h = tt

module _ {P Item : Type 0} (contents : P → Contents Item) where
  module _ (profile : PartProfile Item) where
    in_place_above : (from : ℕ) (lower : Slots P Item) (above : List (Slots P Item)) → lower.level + 1 ≡ from → IsTower contents profile lower above
        → AreInPlace from above
    in_place_above from lower [] is h = tt
    in_place_above from lower (next ∷ above) is h =
        (h.0.next_level ∙ is, in_place_above (from + 1) next above (omega (arith, h.0.next_level, is)) h.1)

    -- the levels of a stack are at the places of their numbers
    pub in_place : (levels : List (Slots P Item)) → AreAllLevels contents profile levels → AreInPlace 0 levels
    in_place [] h = tt
    in_place (lowest ∷ above) h = (h.0, in_place_above 1 lowest above (omega (arith, h.0)) h.2)

    pub quiet_enough : (levels : List (Slots P Item)) → AreAllLevels contents profile levels → length levels ≤ 32 → IsQuiet 2 levels
        → AreEnough levels
    quiet_enough [] h few quiet = absurd quiet
    quiet_enough (lowest ∷ above) h few quiet = record {
      quiet = quiet;
      within = λ k high. quiet_past 2 0 k lowest above (in_place (lowest ∷ above) h) quiet (omega (arith, few, high));
    }

    -- a construction into level 31 wants two parts of the weight 2^30
    quiet_light : (below : ℕ) (lower : Slots P Item) (above : List (Slots P Item)) → IsTower contents profile lower above
        → lower.level + length above ≡ 31 → (1 ≤ ticks_of lower → 2 ^ lower.level ≤ below) → below + weight_of (lower ∷ above) < 2 ^ 31
        → IsQuietAbove 2 lower above
    quiet_light below lower [] tower highest paid light =
        let last : lower.level ≡ 31 = omega (arith, highest) in
        let wide : 2 ^ lower.level ≡ 2 ^ 31 = ap (λ k. 2 ^ k) last in
        not_due lower (λ due. ⊎_elim
        (λ none. absurd (omega (arith, none, wide, due)))
        (λ some. absurd (omega (arith, paid some, wide, light)))
        (cases_lt (ticks_of lower) 1))
    quiet_light below lower (next ∷ above) tower highest paid light =
        let h = tower.0 in
        quiet_light (below + weight_in lower) next above tower.1 (omega (arith, highest, h.next_level))
        (λ some. ⊎_elim
        (λ less. absurd (omega (arith, some, none_ticks next (h.idle less))))
        (λ two. heavy below (length lower.parts) (2 ^ lower.level) (2 ^ next.level) two (ap (λ k. 2 ^ k) h.next_level ∙ doubled lower.level))
        (cases_lt (length lower.parts) 2))
        (omega (arith, light))
      where
        heavy : (b n w u : ℕ) → 2 ≤ n → u ≡ 2 * w → u ≤ b + n * w
        heavy b n w u two double = let product : 2 * w ≤ n * w = mul-le-mul_right w two in omega (arith, product, double)

    pub enough_light : (levels : List (Slots P Item)) → AreAllLevels contents profile levels → length levels ≡ 32 → weight_of levels < 2 ^ 31
        → IsQuiet 2 levels
    enough_light [] h all light = absurd (omega (arith, all))
    enough_light (lowest ∷ above) h all light =
        quiet_light 0 lowest above h.2 (omega (arith, h.0, all)) (λ some. absurd (omega (arith, some, none_ticks lowest h.1))) (omega (arith, light))

    tower-added : (lower : Slots P Item) (above : List (Slots P Item)) (n : ℕ) → n ≡ lower.level + length above + 1
        → IsTower contents profile lower above → IsTower contents profile lower (above ++ unused n ∷ [])
    tower-added lower [] n next tower = (
      record {
        next_level = omega (arith, next);
        few = omega (arith, tower);
        idle = λ less. refl;
        fed = λ a b rest are c is. absurd cc;
        early = pow_pos n;
        clock = λ two. absurd (omega (arith, two, tower));
      },
      omega arith,
    )
    tower-added lower (l ∷ above) n next tower =
        (tower.0, tower-added l above n (omega (arith, next, tower.0.next_level)) tower.1)

    all_levels-added : (levels : List (Slots P Item)) (n : ℕ) → n ≡ length levels → AreAllLevels contents profile levels
        → AreAllLevels contents profile (levels ++ unused n ∷ [])
    all_levels-added [] n next h = (next, refl, omega arith)
    all_levels-added (lowest ∷ above) n next h = (h.0, h.1, tower-added lowest above n (omega (arith, next, h.0)) h.2)

  same-added : (levels : List (Slots P Item)) (n : ℕ)
      → (live_items contents (levels ++ unused n ∷ []) ≡ live_items contents levels)
      × (all_items contents (levels ++ unused n ∷ []) ≡ all_items contents levels)
      × (weight_of (levels ++ unused n ∷ []) ≡ weight_of levels) × (parts_of (levels ++ unused n ∷ []) ≡ parts_of levels)
  same-added [] n = (refl, refl, omega arith, omega arith)
  same-added (l ∷ above) n =
      let rest = same-added above n in (
        ap (λ xs. xs ++ live_in contents l) rest.0,
        ap (λ xs. xs ++ items_in contents l) rest.1,
        ap (λ m. weight_in l + m) rest.2,
        ap (λ m. length l.parts + m) rest.3,
      )

  pub IsKept-added : (levels : List (Slots P Item)) (n : ℕ) → n ≡ length levels → n < 32
      → IsKept contents levels (levels ++ unused n ∷ [])
  IsKept-added levels n next less =
      let same = same-added levels n in
      record {
        each = AreKept-added levels n;
        same = record { live = same.0; items = same.1; weight = same.2; parts = same.3 };
        levels = λ profile. all_levels-added profile levels n next;
        punctual = λ profile h. All-push (IsPunctual profile) levels (unused n) h (λ c is. absurd cc);
        few = λ few. omega (arith, less, next, length-append levels (unused n ∷ []));
      }

  pub IsKept-refl : (levels : List (Slots P Item)) → IsKept contents levels levels
  IsKept-refl levels = record {
    each = AreKept-refl levels;
    same = record { live = refl; items = refl; weight = refl; parts = refl };
    levels = λ profile h. h;
    punctual = λ profile h. h;
    few = λ h. h;
  }

  pub IsKept-then : {a b c : List (Slots P Item)} → IsKept contents a b → IsKept contents b c
      → IsKept contents a c
  IsKept-then {a} {b} {c} h k = record {
    each = AreKept-then a b c h.each k.each;
    same = record {
      live = k.same.live ∙ h.same.live;
      items = k.same.items ∙ h.same.items;
      weight = k.same.weight ∙ h.same.weight;
      parts = k.same.parts ∙ h.same.parts;
    };
    levels = λ profile l. k.levels profile (h.levels profile l);
    punctual = λ profile l. k.punctual profile (h.punctual profile l);
    few = λ l. k.few (h.few l);
  }

  pub IsStack-kept : {profile : PartProfile Item} {old new : List (Slots P Item)} → IsStack contents profile (record { levels = old })
      → IsKept contents old new → IsStack contents profile (record { levels = new })
  IsStack-kept {profile} {old} {new} h k = record {
    levels = k.levels profile h.levels;
    punctual = k.punctual profile h.punctual;
    apart = subst (AllStampsDiffer profile.stamp) (sym k.same.items) h.apart;
    light = omega (arith, h.light, k.same.weight);
    small = omega (arith, h.small, k.same.weight, ap length k.same.items);
    few = k.few h.few;
  }
