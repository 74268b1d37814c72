-- The items of two neighbouring levels, where a part is published.
use Rattle.std.proofs.Common.{◌≡◌, ℕ, suc, ◌+◌, ◌*◌, ◌^◌, ◌≤◌, ◌∙◌, None, List, [], ◌∷◌, ◌++◌, length, get_or, drop, refl, ap, ap₂, sym, subst, arith, append_assoc}
use Rattle.std.specs.List.{flat_map}
use Rattle.std.proofs.lemmas.Grind.{pow_more}
use Rattle.std.proofs.Math.Pow.{pow_mono}
use Rattle.std.proofs.lemmas.List.{flat_map_more, length-append}
use Rattle.query_laws.specs.Permuted.{Permuted}
use Rattle.query_laws.proofs.Permutations.{Permuted-append_left, Permuted-append_right}
use Rattle.builder_trait.specs.Parts.{Contents, live_of}
use Rattle.log_levels.specs.Slots.{Slots, IsPartOf, weight_in, live_in, items_in}
use Rattle.log_levels.specs.Neighbours.{IsPublication}
use Rattle.log_levels.proofs.Distinct.{IsPartOf-append, IsPartOf-front, IsPartOf-refl}

pub none_of : {A : Type 0} (xs : List A) → length xs ≤ 0 → xs ≡ []
none_of [] few = refl
none_of (x ∷ xs) few = absurd (omega (arith, few))

pub two_oldest : {P : Type 0} (xs : List P) → 2 ≤ length xs → (a : P) × (b : P) × (rest : List P) × (xs ≡ a ∷ b ∷ rest)
two_oldest [] two = absurd (omega (arith, two))
two_oldest (a ∷ []) two = absurd (omega (arith, two))
two_oldest (a ∷ b ∷ rest) two = (a, b, rest, refl)

-- a list is told by its first two entries and the rest, where they were read one by one
pub are_oldest : {P : Type 0} (xs : List P) {held : List P} {a b : P} → held ≡ xs → 2 ≤ length held
    → a ≡ get_or held 0 a → b ≡ get_or held 1 b → xs ≡ a ∷ b ∷ drop 2 xs
are_oldest {P} xs {held} {a} {b} same two first second = subst (λ l. l ≡ a ∷ b ∷ drop 2 l) same (told held two first second)
  where
    told : (l : List P) → 2 ≤ length l → a ≡ get_or l 0 a → b ≡ get_or l 1 b → l ≡ a ∷ b ∷ drop 2 l
    told [] two' at at' = absurd (omega (arith, two'))
    told (x ∷ []) two' at at' = absurd (omega (arith, two'))
    told (x ∷ y ∷ rest) two' at at' = ap₂ (λ p q. p ∷ q ∷ rest) (sym at) (sym at')

pub doubled : (n : ℕ) → 2 ^ (n + 1) ≡ 2 * 2 ^ n
doubled n = omega (arith, pow_more 2 n)

-- the items of the two oldest parts are among those of all
pub oldest_items : {P A : Type 0} (f : P → List A) (xs : List P) (a b : P) → xs ≡ a ∷ b ∷ drop 2 xs → IsPartOf (f a ++ f b) (flat_map f xs)
oldest_items f xs a b are =
    let rest = flat_map f (drop 2 xs) in
    subst (IsPartOf (f a ++ f b)) (append_assoc (f a) (f b) rest ∙ ap (flat_map f) (sym are)) (IsPartOf-front (f a ++ f b) rest)

balanced : (n m w : ℕ) → (n + 1) * (2 * w) + m * w ≡ n * (2 * w) + suc (suc m) * w
balanced n m w = omega arith

module _ {P Item : Type 0} (contents : P → Contents Item) {old lower new lower' : Slots P Item}
    (h : IsPublication contents old lower new lower') where
  -- the lists of both levels, whatever they tell of each part
  of_parts : (f : P → List Item) (R : List Item → List Item → Type 0)
      → R (flat_map f old.parts ++ (f h.fresh ++ flat_map f lower'.parts)) (flat_map f old.parts ++ ((f h.first ++ f h.second) ++ flat_map f lower'.parts))
      → R (flat_map f new.parts ++ flat_map f lower'.parts) (flat_map f old.parts ++ flat_map f lower.parts)
  of_parts f R related =
      let upper : flat_map f new.parts ++ flat_map f lower'.parts ≡ flat_map f old.parts ++ (f h.fresh ++ flat_map f lower'.parts) =
      ap (λ l. flat_map f l.parts ++ flat_map f lower'.parts) h.arrived ∙ ap (λ l. l ++ flat_map f lower'.parts) (sym (flat_map_more f [] old.parts h.fresh))
      ∙ append_assoc (flat_map f old.parts) (f h.fresh) (flat_map f lower'.parts) in
      let under : flat_map f lower.parts ≡ (f h.first ++ f h.second) ++ flat_map f lower'.parts =
      ap (λ l. flat_map f l.parts) h.retired ∙ sym (append_assoc (f h.first) (f h.second) (flat_map f lower'.parts)) in
      subst (λ l. R l (flat_map f old.parts ++ flat_map f lower.parts)) (sym upper)
      (subst (λ l. R (flat_map f old.parts ++ (f h.fresh ++ flat_map f lower'.parts)) (flat_map f old.parts ++ l)) (sym under) related)

  pub live-published : Permuted (live_in contents new ++ live_in contents lower') (live_in contents old ++ live_in contents lower)
  live-published =
      of_parts (λ p. live_of (contents p)) (λ xs ys. Permuted xs ys)
      (Permuted-append_right (live_in contents old) (Permuted-append_left (live_in contents lower') h.live))

  pub items-published : IsPartOf (items_in contents new ++ items_in contents lower') (items_in contents old ++ items_in contents lower)
  items-published =
      let f : P → List Item = λ p. (contents p).items in
      let rest = items_in contents lower' in
      of_parts f (λ xs ys. IsPartOf xs ys)
      (IsPartOf-append (items_in contents old) (items_in contents old) (f h.fresh ++ rest) ((f h.first ++ f h.second) ++ rest)
      (IsPartOf-refl (items_in contents old)) (IsPartOf-append (f h.fresh) (f h.first ++ f h.second) rest rest h.items (IsPartOf-refl rest)))

  pub weight-published : old.level ≡ lower.level + 1 → weight_in new + weight_in lower' ≡ weight_in old + weight_in lower
  weight-published above =
      let n = length old.parts in
      let m = length lower'.parts in
      let w = 2 ^ lower.level in
      let one_more : length new.parts ≡ n + 1 = ap (λ l. length l.parts) h.arrived ∙ length-append old.parts (h.fresh ∷ []) in
      let two_fewer : length lower.parts ≡ suc (suc m) = ap (λ l. length l.parts) h.retired in
      let double : 2 ^ (lower.level + 1) ≡ 2 * w = doubled lower.level in
      let upper : 2 ^ new.level ≡ 2 * w = ap (λ k. 2 ^ k) (ap (λ l. l.level) h.arrived ∙ above) ∙ double in
      let upper' : 2 ^ old.level ≡ 2 * w = ap (λ k. 2 ^ k) above ∙ double in
      let under : 2 ^ lower'.level ≡ w = ap (λ l. 2 ^ l.level) (sym h.retired) in
      ap₂ (λ a b. a + b) (ap₂ (λ a b. a * b) one_more upper) (ap (λ a. m * a) under)
      ∙ balanced n m w
      ∙ sym (ap₂ (λ a b. a + b) (ap (λ a. n * a) upper') (ap (λ a. a * w) two_fewer))

pub higher : (k g : ℕ) → k ≤ g → 2 ^ k ≤ 2 ^ g
higher k g few = pow_mono few

module _ {P Item : Type 0} (contents : P → Contents Item) where
  -- a part arrived where the construction was taken, and two parts were retired one by one
  pub publication-of : {old taken new lower lower₁ lower₂ : Slots P Item} (first second fresh : P) (rest : List P)
      → lower.parts ≡ first ∷ second ∷ rest → taken ≡ record old { construction = None } → new ≡ record taken { parts = taken.parts ++ fresh ∷ [] }
      → lower₁ ≡ record lower { parts = drop 1 lower.parts } → lower₂ ≡ record lower₁ { parts = drop 1 lower₁.parts }
      → Permuted (live_of (contents fresh)) (live_of (contents first) ++ live_of (contents second))
      → IsPartOf (contents fresh).items ((contents first).items ++ (contents second).items) → IsPublication contents old lower new lower₂
  publication-of {old} {taken} {new} {lower} {lower₁} {lower₂} first second fresh rest are took came once twice live items =
      let gone : lower₂ ≡ record lower { parts = drop 1 (drop 1 lower.parts) } = twice ∙ ap {A = Slots P Item} (λ v. record v { parts = drop 1 v.parts }) once in
      record {
        fresh = fresh;
        first = first;
        second = second;
        arrived = came ∙ ap {A = Slots P Item} (λ v. record v { parts = v.parts ++ fresh ∷ [] }) took;
        retired = ap (λ ps. record lower { parts = ps }) (are ∙ ap (λ ps. first ∷ second ∷ drop 1 (drop 1 ps)) (sym are))
            ∙ ap {A = Slots P Item} (λ v. record v { parts = first ∷ second ∷ v.parts }) (sym gone);
        live = live;
        items = items;
      }
