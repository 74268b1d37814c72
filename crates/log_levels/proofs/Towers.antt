-- The levels above one, through a tick.
use Rattle.std.proofs.Common.{◌≡◌, ℕ, ◌+◌, ◌-◌, ◌*◌, ◌^◌, ◌<◌, ◌≤◌, ◌∙◌, true, false, List, [], ◌∷◌, ◌++◌, Some, None, length, ⊎_elim, refl, ap, ap₂, sym, subst, arith, append_assoc}
use Rattle.std.specs.List.{flat_map}
use Rattle.std.specs.Option.{option_map_or}
use Rattle.std.proofs.lemmas.Bool.{cases_lt}
use Rattle.std.proofs.lemmas.List.{flat_map_more, length-append}
use Rattle.query_laws.specs.Permuted.{Permuted, composed}
use Rattle.query_laws.proofs.Permutations.{Permuted-append_comm, Permuted-append_left, Permuted-append_right}
use Rattle.builder_trait.specs.Builders.{PartProfile}
use Rattle.builder_trait.specs.Parts.{Contents}
use Rattle.log_levels.specs.Slots.{Slots, IsPartOf, ticks_of, weight_in, live_in, items_in}
use Rattle.log_levels.specs.Levels.{weight_of, live_items, all_items}
use Rattle.log_levels.specs.Neighbours.{IsBelow, IsVisited, IsFed, Advances, stays, arrives}
use Rattle.log_levels.specs.Towers.{IsTower, IsHalfway, AreAllLevels}
use Rattle.log_levels.specs.Trades.{IsQuietAbove}
use Rattle.log_levels.proofs.Distinct.{IsPartOf-refl, IsPartOf-append, IsPartOf-then, IsPartOf-front}
use Rattle.log_levels.proofs.Publishing.{doubled}
use Rattle.log_levels.proofs.Neighbouring.{none_ticks}
use Rattle.log_levels.proofs.Trading.{due-one}

module _ {P Item : Type 0} (contents : P → Contents Item) (profile : PartProfile Item) where
  -- no part arrives at a full level
  pub place : (l : Slots P Item) (above : List (Slots P Item)) → IsTower contents profile l above → ticks_of l + 1 ≡ 2 ^ l.level
      → length l.parts < 3
  place l [] tower ending = omega (arith, tower)
  place l (next ∷ above) tower ending =
      let h = tower.0 in
      ⊎_elim (λ less. less)
      (λ full.
      let three : length l.parts ≡ 3 = omega (arith, full, h.few) in
      let once : (length l.parts - 2) * 2 ^ l.level ≡ 2 ^ l.level = ap (λ n. (n - 2) * 2 ^ l.level) three ∙ omega arith in
      let twice : 2 ^ next.level ≡ 2 * 2 ^ l.level = ap (λ k. 2 ^ k) h.next_level ∙ doubled l.level in
      absurd (omega (arith, once, twice, ending, h.early, h.clock (omega (arith, full)))))
      (cases_lt (length l.parts) 3)

  -- what the two oldest parts are, where another one arrived
  fed-pushed : (parts : List P) (fresh : P) (l l' next : Slots P Item) → l.parts ≡ parts → l'.parts ≡ parts ++ fresh ∷ []
      → (length parts < 2 → next.construction ≡ None) → IsFed contents profile l next → IsFed contents profile l' next
  fed-pushed [] fresh l l' next same pushed idle fed a b rest are c is = let wrong : fresh ∷ [] ≡ a ∷ b ∷ rest = sym pushed ∙ are in absurd cc
  fed-pushed (x ∷ []) fresh l l' next same pushed idle fed a b rest are c is =
      let none : next.construction ≡ None = idle (omega arith) in let wrong : Some c ≡ None = sym is ∙ none in absurd cc
  fed-pushed (x ∷ y ∷ parts) fresh l l' next same pushed idle fed a b rest are c is =
      let both : x ∷ y ∷ (parts ++ fresh ∷ []) ≡ a ∷ b ∷ rest = sym pushed ∙ are in
      let first : x ≡ a = cc in
      let second : y ≡ b = cc in
      fed a b parts (same ∙ ap₂ (λ p q. p ∷ q ∷ parts) first second) c is

  -- the lower level has as many parts, and isn't further on; the upper one has the same ticks, and runs if it did
  pub below-kept : {ahead ahead' : ℕ} (lower lower' l l' : Slots P Item) → IsBelow contents profile ahead lower l → lower'.level ≡ lower.level
      → length lower'.parts ≡ length lower.parts → ticks_of lower' + ahead' ≤ ticks_of lower + ahead → l'.level ≡ l.level
      → (l.construction ≡ None → l'.construction ≡ None) → ticks_of l' ≡ ticks_of l → IsFed contents profile lower' l'
      → IsBelow contents profile ahead' lower' l'
  below-kept lower lower' l l' h under as_long later level idle ticks fed =
      let weight : (length lower'.parts - 2) * 2 ^ lower'.level ≡ (length lower.parts - 2) * 2 ^ lower.level = ap₂ (λ n k. (n - 2) * 2 ^ k) as_long under in
      record {
        next_level = level ∙ h.next_level ∙ ap (λ k. k + 1) (sym under);
        few = omega (arith, as_long, h.few);
        idle = λ less. idle (h.idle (omega (arith, less, as_long)));
        fed = fed;
        early = omega (arith, h.early, ticks, ap (λ k. 2 ^ k) level);
        clock = λ two. omega (arith, weight, later, ticks, h.clock (omega (arith, two, as_long)));
      }

  pub halfway-from_tower : (l l' : Slots P Item) (above : List (Slots P Item)) → IsTower contents profile l above → IsQuietAbove 1 l above
      → Advances l l' → l'.level ≡ l.level → IsHalfway contents profile l' above
  halfway-from_tower l l' [] tower quiet (stays parts ticks) level = subst (λ ps. length ps < 2) (sym parts) tower
  halfway-from_tower l l' [] tower quiet (arrives fresh parts none ending) level =
      let longer : length l'.parts ≡ length l.parts + 1 = ap length parts ∙ length-append l.parts (fresh ∷ []) in
      ⊎_elim (λ less. omega (arith, less, longer))
      (λ some. let wrong : false ≡ true = sym quiet ∙ due-one contents profile l (omega (arith, some, tower)) ending in absurd cc)
      (cases_lt (length l.parts) 1)
  halfway-from_tower l l' (next ∷ above) tower quiet (stays parts ticks) level =
      let h = tower.0 in
      let as_long : length l'.parts ≡ length l.parts = ap length parts in (
        below-kept l l' next next h level as_long (omega (arith, ticks)) refl (λ none. none) refl (λ a b rest are. h.fed a b rest (sym parts ∙ are)),
        tower.1,
      )
  halfway-from_tower l l' (next ∷ above) tower quiet (arrives fresh parts none ending) level =
      let h = tower.0 in
      let longer : length l'.parts ≡ length l.parts + 1 = ap length parts ∙ length-append l.parts (fresh ∷ []) in
      let fits : length l.parts < 3 = place l (next ∷ above) tower (sym ending) in (
        record {
          next_level = h.next_level ∙ ap (λ k. k + 1) (sym level);
          few = omega (arith, longer, fits);
          idle = λ less. h.idle (omega (arith, less, longer));
          fed = fed-pushed l.parts fresh l l' next refl parts h.idle h.fed;
          early = h.early;
          clock = λ two. ⊎_elim
              (λ less.
              let both : length l'.parts ≡ 2 = omega (arith, two, less, longer) in
              let nothing : (length l'.parts - 2) * 2 ^ l'.level ≡ 0 = ap (λ n. (n - 2) * 2 ^ l'.level) both ∙ omega arith in
              omega (arith, nothing, none))
              (λ more.
              let three : length l'.parts ≡ 3 = omega (arith, more, fits, longer) in
              let once : (length l'.parts - 2) * 2 ^ l'.level ≡ 2 ^ l.level =
              ap₂ (λ n k. (n - 2) * 2 ^ k) three level ∙ omega arith in
              omega (arith, once, none, ending, h.clock more))
              (cases_lt (length l.parts) 2);
        },
        tower.1,
      )

  pub first_below : (l : Slots P Item) (above : List (Slots P Item)) → IsTower contents profile l above → (next : Slots P Item) (rest : List (Slots P Item))
      → above ≡ next ∷ rest → IsBelow contents profile 1 l next
  first_below l above tower next rest is = (subst (IsTower contents profile l) is tower).0

  -- the lower level's parts may change above, not the construction
  pub below-same : {ahead : ℕ} (lower l l' : Slots P Item) → IsBelow contents profile ahead lower l → l'.level ≡ l.level
      → l'.construction ≡ l.construction → IsBelow contents profile ahead lower l'
  below-same lower l l' h level same =
      below-kept lower lower l l' h refl refl (omega arith) level (λ none. same ∙ none) (ap (λ o. option_map_or (λ c. c.ticks) o 0) same)
      (λ a b rest are c is. h.fed a b rest are c (sym same ∙ is))

regrouped : {A : Type 0} (xs ys zs ys' zs' : List A) → Permuted (ys' ++ zs') (ys ++ zs) → Permuted ((xs ++ ys') ++ zs') ((xs ++ ys) ++ zs)
regrouped xs ys zs ys' zs' p = rw (append_assoc xs ys' zs', append_assoc xs ys zs) (Permuted-append_right xs p)

regrouped-part : {A : Type 0} (xs ys zs ys' zs' : List A) → IsPartOf (ys' ++ zs') (ys ++ zs) → IsPartOf ((xs ++ ys') ++ zs') ((xs ++ ys) ++ zs)
regrouped-part xs ys zs ys' zs' p =
    rw (append_assoc xs ys' zs', append_assoc xs ys zs) (IsPartOf-append xs xs (ys' ++ zs') (ys ++ zs) (IsPartOf-refl xs) p)

weighed : (l l' o n r r' m : ℕ) → n + l' ≡ o + l → m + r' ≡ n + r → l' + (m + r') ≡ l + (o + r)
weighed l l' o n r r' m first second = omega (arith, first, second)

module _ {P Item : Type 0} (contents : P → Contents Item) (profile : PartProfile Item)
    {old lower new lower' : Slots P Item} (h : IsVisited contents profile old lower new lower') (above : List (Slots P Item)) where
  pub live-walked : (rest : List (Slots P Item)) → Permuted (live_items contents rest) (live_items contents (new ∷ above))
      → Permuted (live_items contents (lower' ∷ rest)) (live_items contents (lower ∷ old ∷ above))
  live-walked rest p =
      composed (Permuted-append_left (live_in contents lower') p)
      (regrouped (live_items contents above) (live_in contents old) (live_in contents lower) (live_in contents new) (live_in contents lower') h.live)

  visited-part : IsPartOf (all_items contents (lower' ∷ new ∷ above)) (all_items contents (lower ∷ old ∷ above))
  visited-part =
      regrouped-part (all_items contents above) (items_in contents old) (items_in contents lower) (items_in contents new) (items_in contents lower') h.items

  pub items-walked : (rest : List (Slots P Item)) → IsPartOf (all_items contents rest) (all_items contents (new ∷ above))
      → IsPartOf (all_items contents (lower' ∷ rest)) (all_items contents (lower ∷ old ∷ above))
  items-walked rest p =
      IsPartOf-then (all_items contents (lower' ∷ rest)) (all_items contents (lower' ∷ new ∷ above)) (all_items contents (lower ∷ old ∷ above))
      (IsPartOf-append (all_items contents rest) (all_items contents (new ∷ above)) (items_in contents lower') (items_in contents lower') p
      (IsPartOf-refl (items_in contents lower'))) visited-part

  pub part_of_rest : IsPartOf (all_items contents (new ∷ above)) (all_items contents (lower ∷ old ∷ above))
  part_of_rest =
      IsPartOf-then (all_items contents (new ∷ above)) (all_items contents (lower' ∷ new ∷ above)) (all_items contents (lower ∷ old ∷ above))
      (IsPartOf-front (all_items contents (new ∷ above)) (items_in contents lower')) visited-part

  pub weight-walked : (new' : Slots P Item) (above' : List (Slots P Item)) → weight_of (new' ∷ above') ≡ weight_of (new ∷ above)
      → weight_of (lower' ∷ new' ∷ above') ≡ weight_of (lower ∷ old ∷ above)
  weight-walked new' above' same =
      weighed (weight_in lower) (weight_in lower') (weight_in old) (weight_in new) (weight_of above) (weight_of above') (weight_in new') h.weight same

  pub weight-rest : weight_of (new ∷ above) ≤ weight_of (lower ∷ old ∷ above)
  weight-rest = lighter (weight_in lower) (weight_in lower') (weight_in old) (weight_in new) (weight_of above) h.weight
    where
      lighter : (l l' o n r : ℕ) → n + l' ≡ o + l → n + r ≤ l + (o + r)
      lighter l l' o n r same = omega (arith, same)

-- the items of one more part
pub arrived : {P A : Type 0} (f : P → List A) (parts : List P) {parts' : List P} (xs : List A) {old : List A} (p : P) → parts' ≡ parts ++ p ∷ []
    → xs ++ flat_map f parts ≡ old → Permuted (xs ++ flat_map f parts') (f p ++ old)
arrived f parts {parts'} xs {old} p pushed same =
    subst (λ l. Permuted l (f p ++ old)) (flat_map_more f xs parts p ∙ ap (λ ps. xs ++ flat_map f ps) (sym pushed))
    (subst (λ l. Permuted ((xs ++ flat_map f parts) ++ f p) (f p ++ l)) same (Permuted-append_comm (xs ++ flat_map f parts) (f p)))

module _ {P Item : Type 0} (contents : P → Contents Item) (profile : PartProfile Item)
    (lowest : Slots P Item) (above : List (Slots P Item)) (h : AreAllLevels contents profile (lowest ∷ above)) where
  pub at_once : 2 ^ lowest.level ≡ ticks_of lowest + 1
  at_once = omega (arith, ap (λ k. 2 ^ k) h.0, none_ticks lowest h.1)

  pub weight-pushed : (lowest' : Slots P Item) (p : P) → lowest'.parts ≡ lowest.parts ++ p ∷ [] → lowest'.level ≡ lowest.level
      → weight_of (lowest' ∷ above) ≡ weight_of (lowest ∷ above) + 1
  weight-pushed lowest' p parts level =
      let one : 2 ^ lowest.level ≡ 1 = ap (λ k. 2 ^ k) h.0 in
      let n = length lowest.parts in
      let longer : length lowest'.parts ≡ n + 1 = ap length parts ∙ length-append lowest.parts (p ∷ []) in
      let first : weight_in lowest' ≡ n + 1 = ap₂ (λ m w. m * w) longer (ap (λ k. 2 ^ k) level ∙ one) ∙ omega arith in
      let second : weight_in lowest ≡ n = ap (λ w. n * w) one ∙ omega arith in
      sum (weight_in lowest') (weight_in lowest) n (weight_of above) first second
    where
      sum : (a b n r : ℕ) → a ≡ n + 1 → b ≡ n → a + r ≡ b + r + 1
      sum a b n r first second = omega (arith, first, second)
