-- Two neighbouring levels, where an item of the lower one is marked as dead.
use Rattle.std.proofs.Common.{◌≡◌, ℕ, ◌+◌, ◌≤◌, ◌∙◌, Option, Some, None, List, [], ◌∷◌, length, refl, sym, ap, subst, arith}
use Rattle.std.specs.Option.{option_map, is_some}
use Rattle.builder_trait.specs.Builders.{PartProfile}
use Rattle.builder_trait.specs.Parts.{Contents, marked}
use Rattle.partial_build.specs.Construction.{Builds}
use Rattle.log_levels.specs.Slots.{Slots, ticks_of}
use Rattle.log_levels.specs.Neighbours.{IsConstructionOf, IsFed}
use Rattle.log_levels.specs.Towers.{IsTower}
use Rattle.log_levels.specs.Marking.{IsLiveIn, Lacks, AreMarkedAt, nowhere, here, later, AreNoted}
use Rattle.log_levels.proofs.Clocks.{same_ticks, same_runs}
use Rattle.log_levels.proofs.Marks.{unmarked, length-marked}
use Rattle.log_levels.proofs.Neighbouring.{not_some}
use Rattle.log_levels.proofs.Towers.{below-kept}

module _ {P Item : Type 0} (contents : P → Contents Item) (profile : PartProfile Item) (x : Item) where
  -- what a note of the item does to the construction into a level, where the item was live at a place of the level below
  pub record Noted (place : Option ℕ) (next next' : Slots P Item) : Type 0 where
    pub stays : ((k : ℕ) → place ≡ Some k → 2 ≤ k) → (a b : P) → IsConstructionOf contents profile a b next
        → IsConstructionOf contents profile a b next'
    pub of_a : place ≡ Some 0 → (a b a' : P) → IsLiveIn (contents a) x → contents a' ≡ marked profile.stamp (profile.stamp x) (contents a)
        → IsConstructionOf contents profile a b next → IsConstructionOf contents profile a' b next'
    pub of_b : place ≡ Some 1 → (a b b' : P) → IsLiveIn (contents b) x → contents b' ≡ marked profile.stamp (profile.stamp x) (contents b)
        → IsConstructionOf contents profile a b next → IsConstructionOf contents profile a b' next'

  -- a part in which the item isn't live is as it was
  keeps_a : (a b a' : P) (l : Slots P Item) → contents a' ≡ marked profile.stamp (profile.stamp x) (contents a) → Lacks profile.stamp (profile.stamp x) (contents a)
      → IsConstructionOf contents profile a b l → IsConstructionOf contents profile a' b l
  keeps_a a b a' l same lacks built c is =
      let h = built c is in
      subst (λ p. Builds profile c p (contents b)) (sym (unmarked contents profile.stamp x a a' same h.valid.flagged lacks)) h

  keeps_b : (a b b' : P) (l : Slots P Item) → contents b' ≡ marked profile.stamp (profile.stamp x) (contents b) → Lacks profile.stamp (profile.stamp x) (contents b)
      → IsConstructionOf contents profile a b l → IsConstructionOf contents profile a b' l
  keeps_b a b b' l same lacks built c is =
      let h = built c is in
      subst (λ p. Builds profile c (contents a) p) (sym (unmarked contents profile.stamp x b b' same h.other_valid.flagged lacks)) h

  far : (place : Option ℕ) (k : ℕ) → option_map (λ m. m + 1) (option_map (λ m. m + 1) place) ≡ Some k → 2 ≤ k
  far None k is = absurd cc
  far (Some m) k is = let e : m + 1 + 1 ≡ k = cc in omega (arith, e)

  pub fed-marked : (place : Option ℕ) (parts parts' : List P) (l l' next next' : Slots P Item) → AreMarkedAt contents profile.stamp x place parts parts'
      → l.parts ≡ parts → l'.parts ≡ parts' → Noted place next next' → IsFed contents profile l next → IsFed contents profile l' next'
  fed-marked place parts parts' l l' next next' nowhere was now h fed a b rest are = let wrong : [] ≡ a ∷ b ∷ rest = sym now ∙ are in absurd cc
  fed-marked place parts parts' l l' next next' (here p p' ps live same lacks) was now h fed a b rest are =
      let whole : p' ∷ ps ≡ a ∷ b ∷ rest = sym now ∙ are in
      let first : p' ≡ a = cc in
      let others : ps ≡ b ∷ rest = cc in
      h.of_a refl p b a live (ap contents (sym first) ∙ same) (fed p b rest (was ∙ ap (λ l. p ∷ l) others))
  fed-marked place parts parts' l l' next next' (later inner p p' ps ps' lacks same nowhere) was now h fed a b rest are =
      let wrong : p' ∷ [] ≡ a ∷ b ∷ rest = sym now ∙ are in absurd cc
  fed-marked place parts parts' l l' next next' (later inner p p' ps ps' lacks same (here q q' qs live same' lacks')) was now h fed a b rest are =
      let whole : p' ∷ q' ∷ qs ≡ a ∷ b ∷ rest = sym now ∙ are in
      let first : p' ≡ a = cc in
      let second : q' ≡ b = cc in
      keeps_a p b a next' (ap contents (sym first) ∙ same) lacks
      (h.of_b refl p q b live (ap contents (sym second) ∙ same') (fed p q qs was))
  fed-marked place parts parts' l l' next next' (later inner p p' ps ps' lacks same (later deeper q q' qs qs' lacks' same' more)) was now h fed a b rest are =
      let whole : p' ∷ q' ∷ qs' ≡ a ∷ b ∷ rest = sym now ∙ are in
      let first : p' ≡ a = cc in
      let second : q' ≡ b = cc in
      keeps_a p b a next' (ap contents (sym first) ∙ same) lacks
      (keeps_b p q b next' (ap contents (sym second) ∙ same') lacks' (h.stays (far deeper) p q (fed p q qs was)))

  -- the level above has the same parts and ticks
  tower-upper : (l l' : Slots P Item) (above : List (Slots P Item)) → l'.level ≡ l.level → l'.parts ≡ l.parts → ticks_of l' ≡ ticks_of l
      → IsTower contents profile l above → IsTower contents profile l' above
  tower-upper l l' [] level parts ticks tower = omega (arith, tower, ap length parts)
  tower-upper l l' (next ∷ above) level parts ticks tower = (
    below-kept contents profile l l' next next tower.0 level (ap length parts) (omega (arith, ticks)) refl (λ none. none) refl
        (λ a b rest are. tower.0.fed a b rest (sym parts ∙ are)),
    tower.1,
  )

  -- the levels above a level whose parts were marked
  pub tower-marked : {place : Option ℕ} (l l' : Slots P Item) (above above' : List (Slots P Item)) → AreMarkedAt contents profile.stamp x place l.parts l'.parts
      → l'.level ≡ l.level → ticks_of l' ≡ ticks_of l → AreNoted above above'
      → ((next next' : Slots P Item) (rest : List (Slots P Item)) → above ≡ next ∷ rest → above' ≡ next' ∷ rest → Noted place next next')
      → IsTower contents profile l above → IsTower contents profile l' above'
  tower-marked l l' [] above' parts level ticks noted how tower =
      subst (IsTower contents profile l') (sym noted) (omega (arith, tower, length-marked contents profile.stamp x parts))
  tower-marked {place} l l' (next ∷ rest) above' parts level ticks noted how tower =
      let next' = noted.0 in
      let same_level : next'.level ≡ next.level = ap (λ v. v.level) noted.2 in
      subst (IsTower contents profile l') (sym noted.1) (
        below-kept contents profile l l' next next' tower.0 level (length-marked contents profile.stamp x parts) (omega (arith, ticks)) same_level
            (λ none. not_some next'.construction (same_runs next next' noted.3 ∙ ap is_some none)) (same_ticks next next' noted.3)
            (fed-marked place l.parts l'.parts l l' next next' parts refl refl (how next next' rest refl noted.1) tower.0.fed),
        tower-upper next next' rest same_level (ap (λ v. v.parts) noted.2) (same_ticks next next' noted.3) tower.1,
      )
