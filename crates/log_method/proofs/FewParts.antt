-- How many parts levels have, by their weight.
use Rattle.std.proofs.Common.{ℕ, suc, ◌+◌, ◌-◌, ◌*◌, ◌^◌, ◌<◌, ◌≤◌, Bool, true, false, List, [], ◌∷◌, All, length, if◌then◌else◌, ⊎_elim, arith}
use Rattle.std.proofs.lemmas.Bool.{cases_lt}
use Rattle.std.proofs.lemmas.List.Elements.{All-cons, All-nil}
use Rattle.builder_trait.specs.Builders.{PartProfile}
use Rattle.builder_trait.specs.Parts.{Contents, has_stamp, live_of}
use Rattle.log_levels.specs.Slots.{Slots, asked_in}
use Rattle.log_levels.specs.Levels.{weight_of, parts_of, live_items, parts_asked}
use Rattle.log_method.specs.Height.{HaveAtMost}
use Rattle.log_levels.specs.Level.{IsOfLevel}
use Rattle.log_levels.specs.Towers.{IsTower, AreAllLevels}
use Rattle.log_levels.proofs.MarkedLevels.{light_level}
use Rattle.log_levels.proofs.Publishing.{higher}

unless : (b : Bool) (n m : ℕ) → n ≤ m → (if b then 0 else n) ≤ m
unless true n m few = omega arith
unless false n m few = few

-- a level of at most three parts, below those with at most three for each level up to g
counted : (n k g above : ℕ) → n ≤ 3 → (0 < n → k ≤ g) → above ≤ 3 * (g + 1 - (k + 1)) → n + above ≤ 3 * (g + 1 - k)
counted n k g above few low rest = ⊎_elim
    (λ some. omega (arith, few, low some, rest))
    (λ none. omega (arith, none, rest))
    (cases_lt 0 n)

module _ {P Item : Type 0} (contents : P → Contents Item) where
  asked_in-few : (stamp : Item → ℕ) (s : ℕ) (ps : List P) → asked_in contents stamp s ps ≤ length ps
  asked_in-few stamp s [] = omega arith
  asked_in-few stamp s (p ∷ ps) =
      omega (arith, unless (has_stamp stamp s (live_of (contents p))) (asked_in contents stamp s ps) (length ps) (asked_in-few stamp s ps))

  -- no part is asked twice
  pub parts_asked-few : (stamp : Item → ℕ) (s : ℕ) (levels : List (Slots P Item)) → parts_asked contents stamp s levels ≤ parts_of levels
  parts_asked-few stamp s [] = omega arith
  parts_asked-few stamp s (l ∷ above) =
      omega (
        arith,
        parts_asked-few stamp s above,
        unless (has_stamp stamp s (live_items contents above)) (asked_in contents stamp s l.parts) (length l.parts) (asked_in-few stamp s l.parts),
      )

  -- a part has as many items as its level allows, and its level weighs no more than all
  small_level : (l : Slots P Item) (g rest : ℕ) → All (λ p. IsOfLevel l.level (contents p)) l.parts → length l.parts * 2 ^ l.level + rest < 2 ^ (g + 1)
      → All (λ p. length (contents p).items ≤ 2 ^ g) l.parts
  small_level l g rest of_level light k p within =
      let low : l.level ≤ g = light_level (length l.parts) l.level g rest (omega (arith, within)) light in
      omega (arith, (of_level k p within).fits, higher l.level g low)

  pub parts-small : (levels : List (Slots P Item)) → All (λ l. All (λ p. IsOfLevel l.level (contents p)) l.parts) levels → (g : ℕ)
      → weight_of levels < 2 ^ (g + 1) → HaveAtMost contents (2 ^ g) levels
  parts-small [] of_level g light = All-nil (λ l. All (λ p. length (contents p).items ≤ 2 ^ g) l.parts)
  parts-small (l ∷ above) of_level g light = All-cons (λ l. All (λ p. length (contents p).items ≤ 2 ^ g) l.parts) l above
      (small_level l g (weight_of above) (of_level 0 l (omega arith)) light)
      (parts-small above (λ k d within. of_level (suc k) d (omega (arith, within))) g (omega (arith, light)))

  module _ (profile : PartProfile Item) where
    tower-few : (l : Slots P Item) (above : List (Slots P Item)) → IsTower contents profile l above → (g : ℕ)
        → weight_of (l ∷ above) < 2 ^ (g + 1) → parts_of (l ∷ above) ≤ 3 * (g + 1 - l.level)
    tower-few l [] tower g light =
        counted (length l.parts) l.level g 0 (omega (arith, tower)) (λ some. light_level (length l.parts) l.level g 0 some light) (omega arith)
    tower-few l (next ∷ above) tower g light =
        let h = tower.0 in
        let lighter : weight_of (next ∷ above) < 2 ^ (g + 1) = omega (arith, light) in
        let rest : parts_of (next ∷ above) ≤ 3 * (g + 1 - (l.level + 1)) =
        omega (arith, tower-few next above tower.1 g lighter, h.next_level) in
        counted (length l.parts) l.level g (parts_of (next ∷ above)) h.few
        (λ some. light_level (length l.parts) l.level g (weight_of (next ∷ above)) some light) rest

    tower-three : (l : Slots P Item) (above : List (Slots P Item)) → IsTower contents profile l above → All (λ v. length v.parts ≤ 3) (l ∷ above)
    tower-three l [] tower = All-cons (λ v. length v.parts ≤ 3) l [] (omega (arith, tower)) (All-nil (λ v. length v.parts ≤ 3))
    tower-three l (next ∷ above) tower =
        All-cons (λ v. length v.parts ≤ 3) l (next ∷ above) tower.0.few (tower-three next above tower.1)

    -- no level has more than three
    pub three : (levels : List (Slots P Item)) → AreAllLevels contents profile levels → All (λ v. length v.parts ≤ 3) levels
    three [] h = All-nil (λ v. length v.parts ≤ 3)
    three (lowest ∷ above) h = tower-three lowest above h.2

    -- at most three of each level, and none is of a level above that of the weight
    pub parts-few : (levels : List (Slots P Item)) → AreAllLevels contents profile levels → (g : ℕ) → weight_of levels < 2 ^ (g + 1)
        → parts_of levels ≤ 3 * (g + 1)
    parts-few [] h g light = omega arith
    parts-few (lowest ∷ above) h g light = omega (arith, tower-few lowest above h.2 g light, h.0)
