-- The lists of a level.
use Rattle.std.proofs.Common.{◌≡◌, ℕ, ◌+◌, ◌<◌, ◌≤◌, Option, Some, None, List, [], ◌∷◌, ◌++◌, ◌∙◌, length, take, drop, All, arith, ap, sym, subst}
use Rattle.std.proofs.lemmas.List.{length_push, take_at}
use Rattle.std.proofs.lemmas.List.Elements.{All-push}
use Rattle.builder_trait.specs.Parts.{Contents}
use Rattle.partial_build.specs.Construction.{Construction}
use Rattle.log_levels.specs.Level.{AreHeld, IsLevel, IsOfLevel}

pub length-rest : {X : Type 0} (xs : List X) → 0 < length xs → length (drop 1 xs) + 1 ≡ length xs
length-rest [] some = absurd (omega (arith, some))
length-rest (x ∷ xs) some = omega arith

module _ {X : Type 0} {IsOne : X → Type 0} {most : ℕ} {room : ℕ} where
  pub AreHeld-push : (xs : List X) (x : X) {ys : List X} {room' : ℕ} → ys ≡ xs ++ x ∷ [] → room' ≡ room → AreHeld IsOne most xs room → IsOne x
      → length xs < most → AreHeld IsOne most ys room'
  AreHeld-push xs x same as_wide h one less = record {
    each = subst (All IsOne) (sym same) (All-push IsOne xs x h.each one);
    few = omega (arith, less, ap length same, length_push xs x);
    place = omega (arith, h.place, as_wide);
  }

  -- one entry was taken out
  pub AreHeld-fewer : (xs : List X) {ys : List X} {room' : ℕ} → All IsOne ys → length ys ≤ length xs → room' ≡ room → AreHeld IsOne most xs room
      → AreHeld IsOne most ys room'
  AreHeld-fewer xs each fewer as_wide h = record {
    each = each;
    few = omega (arith, h.few, fewer);
    place = omega (arith, h.place, as_wide);
  }

module _ {P Item : Type 0} {contents : P → Contents Item} {level : ℕ} {parts : List P} {room : ℕ} {construction : Option (Construction Item)}
    (h : IsLevel contents level parts room construction) where
  -- the same level with other parts, or with another construction
  pub IsLevel-holding : {parts' : List P} {room' : ℕ} → AreHeld (λ p. IsOfLevel level (contents p)) 3 parts' room'
      → IsLevel contents level parts' room' construction
  IsLevel-holding held = record { most = h.most; parts_held = held; builds = h.builds }

  pub IsLevel-building : (c : Construction Item) → c.level ≡ level → IsLevel contents level parts room (Some c)
  IsLevel-building c same = record {
    most = h.most;
    parts_held = h.parts_held;
    builds = λ c' is. let e : c ≡ c' = cc in ap (λ v. v.level) (sym e) ∙ same;
  }

  pub IsLevel-built : {construction' : Option (Construction Item)} → construction' ≡ None → IsLevel contents level parts room construction'
  IsLevel-built none = record {
    most = h.most;
    parts_held = h.parts_held;
    builds = λ c is. let wrong : None ≡ Some c = sym none ∙ is in absurd cc;
  }

-- a slice of a whole list was written
pub written : {A : Type 0} (n : ℕ) (old new : List A) → n ≡ length old → length new ≡ length old → take n (new ++ drop (length new) old) ≡ new
written n old new same as_long = take_at new (drop (length new) old) n (as_long ∙ sym same)
