-- The clock of a construction: what is left is done in time.
use Rattle.std.proofs.Common.{◌≡◌, ℕ, zero, suc, ◌+◌, ◌-◌, ◌*◌, ◌^◌, ◌<◌, ◌≤◌, ◌==◌, ◌⊎◌, ◌/◌, ⊎_elim, Bool, true, false, min, refl, sym, ap, ◌∙◌, arith, subst, List, length, if◌then◌else◌}
use Rattle.std.proofs.Math.Nat.{pow-suc}
use Rattle.std.proofs.lemmas.List.{length-replicate}
use Rattle.std.proofs.lemmas.Bool.{cases_lt}
use Rattle.std.proofs.lemmas.Bool.Decides.{nat_tests}
use Rattle.partial_build.specs.Quota.{quota}
use Rattle.builder_trait.specs.Builders.{PartProfile}
use Rattle.builder_trait.specs.Parts.{Contents}
use Rattle.partial_build.specs.NewPart.{Growth, IsAllLive}
use Rattle.partial_build.specs.Construction.{Construction, IsUnderConstruction, turns_left}

pub twice : (level : ℕ) → 1 ≤ level → 2 ^ level ≡ 2 * 2 ^ (level - 1)
twice zero least = absurd (omega arith)
twice (suc n) least =
    let here : n ≡ suc n - 1 = omega arith in
    let same : 2 ^ n ≡ 2 ^ (suc n - 1) = ap (λ k. 2 ^ k) here in omega (arith, pow-suc 2 n, same)

fits_half : (left h s : ℕ) → left ≤ 2 * (2 * h) → left + h * s ≤ h * (s + 4)
fits_half left h s few = omega arith

module _ (slope base level : ℕ) (least : 1 ≤ level) where
  pub quota_is : quota slope base level ≡ slope * level + base + 4
  quota_is =
      let some : (level == 0) ≡ false = grind (arith, nat_tests) in
      ap (λ b. if b then base / 2 + 2 else slope * level + base + 4) some

  -- the sources, and the most that a builder may have to do, take half of the ticks
  pub in_time-begun : (left : ℕ) → left ≤ 2 * 2 ^ level
      → left + 2 ^ (level - 1) * (slope * level + base) ≤ (2 ^ (level - 1) - 0) * quota slope base level
  in_time-begun left few =
      let half = 2 ^ (level - 1) in
      let s = slope * level + base in
      subst (λ q. left + half * s ≤ (half - 0) * q) (sym quota_is)
      (subst (λ h. left + half * s ≤ h * (s + 4)) (omega arith) (fits_half left half s (omega (arith, few, twice level least))))

  -- the builder has no more to do than it may
  pub within_half : (left : ℕ) → 2 * left ≤ 2 ^ level * (slope * level + base) → left ≤ 2 ^ (level - 1) * (slope * level + base)
  within_half left bounded =
      let half = twice level least in
      let as_halves : 2 ^ level * (slope * level + base) ≡ 2 * 2 ^ (level - 1) * (slope * level + base) = ap (λ n. n * (slope * level + base)) half in
      omega (arith, bounded, as_halves)

-- a tick later
pub in_time-ticked : (half ticks q before after : ℕ) → before ≤ (half - ticks) * q → (after + q ≤ before) ⊎ (after ≡ 0)
    → after ≤ (half - (ticks + 1)) * q
in_time-ticked half ticks q before after in_time =
    ⊎_elim
    (λ full. ⊎_elim
    (λ less.
    let one_more : half - ticks ≡ half - (ticks + 1) + 1 = omega arith in
    let split : (half - ticks) * q ≡ (half - (ticks + 1) + 1) * q = ap (λ n. n * q) one_more in
    omega (arith, full, in_time, split))
    (λ past.
    let none : half - ticks ≡ 0 = omega arith in
    let nothing : (half - ticks) * q ≡ 0 * q = ap (λ n. n * q) none in
    omega (arith, full, in_time, nothing))
    (cases_lt ticks half))
    (λ ended. omega (arith, ended))

-- once half of the ticks are done nothing is left
pub none_left : (half ticks q left : ℕ) → left ≤ (half - ticks) * q → half ≤ ticks → left ≡ 0
none_left half ticks q left in_time past =
    let none : half - ticks ≡ 0 = omega arith in
    let nothing : (half - ticks) * q ≡ 0 * q = ap (λ n. n * q) none in
    omega (arith, in_time, nothing)

-- after a tick, which marks two where the part is built, or all where fewer wait
pub record IsTicked (half ticks q after waiting : ℕ) : Type 0 where
  pub in_time : after ≤ (half - (ticks + 1)) * q
  pub few_waiting : waiting ≤ ticks + 1
  pub few_to_come : waiting ≤ 2 * half - (ticks + 1)

pub IsTicked-paid : (half ticks q before after w w' m : ℕ) → ticks < 2 * half → before ≤ (half - ticks) * q → w ≤ ticks + 1 → w ≤ 2 * half - ticks + 1
    → (after + q ≤ before) ⊎ (after ≡ 0) → w' + m ≡ w → (after ≡ 0 → m ≡ min 2 w) → IsTicked half ticks q after w'
IsTicked-paid half ticks q before after w w' m early in_time few_waiting few_to_come paid drained marks =
    let later : after ≤ (half - (ticks + 1)) * q = in_time-ticked half ticks q before after in_time paid in
    ⊎_elim
    (λ less. record { in_time = later; few_waiting = omega arith; few_to_come = omega arith })
    (λ past.
    let ended : after ≡ 0 = none_left half (ticks + 1) q after later (omega arith) in
    let two : m ≡ min 2 w = marks ended in
    record { in_time = later; few_waiting = omega arith; few_to_come = omega arith })
    (cases_lt ticks half)

module _ {Item : Type 0} (profile : PartProfile Item) (c : Construction Item) where
  pub turns_left-sealed : c.part.is_sealed ≡ true → turns_left profile c ≡ c.merge.left + c.part.left
  turns_left-sealed closed =
      ap (λ b. c.merge.left + (if b then c.part.left else 2 ^ (c.level - 1) * (profile.slope * c.level + profile.base))) closed

  pub turns_left-open : c.part.is_sealed ≡ false → turns_left profile c ≡ c.merge.left + 2 ^ (c.level - 1) * (profile.slope * c.level + profile.base)
  turns_left-open open_still =
      ap (λ b. c.merge.left + (if b then c.part.left else 2 ^ (c.level - 1) * (profile.slope * c.level + profile.base))) open_still

module _ {Item : Type 0} {profile : PartProfile Item} {room : ℕ} {c : Construction Item} (h : IsUnderConstruction profile room c) where
  -- a part that is built has no turn left, and one without turns is built
  pub built_ended : c.part.is_built ≡ true → turns_left profile c ≡ 0
  built_ended is_so =
      let read : c.merge.left ≡ 0 = by c.merge.left refl in
      omega (arith, turns_left-sealed profile c (h.sealed read), read, h.built is_so)
    where
      by : (n : ℕ) → c.merge.left ≡ n → c.merge.left ≡ 0
      by zero is = is
      by (suc n) is = let no : c.part.is_built ≡ false = (h.unsealed (omega arith)).1 in absurd cc

  pub ended_built : turns_left profile c ≡ 0 → c.part.is_built ≡ true
  ended_built ended =
      let read : c.merge.left ≡ 0 = omega (arith, ended) in
      by c.part.is_built refl read
    where
      by : (b : Bool) → c.part.is_built ≡ b → c.merge.left ≡ 0 → c.part.is_built ≡ true
      by true is read = is
      by false is read =
          let some : 0 < c.part.left = h.to_turn is (h.sealed read) in
          absurd (omega (arith, ended, turns_left-sealed profile c (h.sealed read)))

-- the puts have ended
pub IsUnderConstruction-sealed : {Item : Type 0} {profile : PartProfile Item} {room : ℕ} (c : Construction Item) → 1 ≤ c.level → c.level < 32 → c.ticks ≤ 2 ^ c.level
    → c.part.contents.at_level ≡ c.level → IsAllLive c.part.contents → 2 ^ (c.level - 1) + 1 ≤ room → c.merge.capacity ≡ 2 ^ (c.level - 1)
    → c.merge.left ≡ 0 → c.part.is_sealed ≡ true → c.part.is_built ≡ (c.part.left == 0)
    → turns_left profile c ≤ (2 ^ (c.level - 1) - c.ticks) * quota profile.slope profile.base c.level
    → length c.waiting ≤ c.ticks + 1 → length c.waiting ≤ 2 ^ c.level - c.ticks + 1 → IsUnderConstruction profile room c
IsUnderConstruction-sealed c least most ticks_few at_level live wide as_wide ended closed built in_time few_waiting few_to_come = record {
  least = least;
  most = most;
  ticks_few = ticks_few;
  at_level = at_level;
  flagged = ap length live ∙ length-replicate (length c.part.contents.items) true;
  wide = wide;
  as_wide = as_wide;
  fresh = λ unbuilt. live;
  sealed = λ read. closed;
  unsealed = λ some. absurd (omega arith);
  to_turn = λ unbuilt sealed. let none : (c.part.left == 0) ≡ false = sym built ∙ unbuilt in grind (arith, nat_tests);
  built = λ is_so. let none : (c.part.left == 0) ≡ true = sym built ∙ is_so in grind (arith, nat_tests);
  in_time = in_time;
  few_waiting = few_waiting;
  few_to_come = few_to_come;
}

-- an item that waited is marked in the part, which is built
pub IsUnderConstruction-marked : {Item : Type 0} {profile : PartProfile Item} {room : ℕ} {c : Construction Item} → IsUnderConstruction profile room c
    → c.part.is_built ≡ true → (contents : Contents Item) (part : Growth Item) (waiting : List Item) → part ≡ record c.part { contents = contents }
    → contents.at_level ≡ c.part.contents.at_level → length contents.flags ≡ length contents.items → length waiting ≤ length c.waiting
    → IsUnderConstruction profile room (record c { part = part; waiting = waiting })
IsUnderConstruction-marked {profile = profile} {room = room} {c = c} h built contents part waiting is level flagged fewer =
    subst (λ p. IsUnderConstruction profile room (record c { part = p; waiting = waiting })) (sym is) (record {
      least = h.least;
      most = h.most;
      ticks_few = h.ticks_few;
      at_level = level ∙ h.at_level;
      flagged = flagged;
      wide = h.wide;
      as_wide = h.as_wide;
      fresh = λ unbuilt. absurd cc;
      sealed = h.sealed;
      unsealed = h.unsealed;
      to_turn = h.to_turn;
      built = h.built;
      in_time = h.in_time;
      few_waiting = omega (arith, fewer, h.few_waiting);
      few_to_come = omega (arith, fewer, h.few_to_come);
    })
