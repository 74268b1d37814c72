-- An item that is marked as dead in one of several levels.
use Rattle.std.proofs.Common.{◌≡◌, ◌≢◌, ℕ, zero, suc, ◌+◌, ◌*◌, ◌^◌, ◌<◌, ◌≤◌, ◌==◌, ◌||◌, ◌∙◌, Bool, true, false, not, cond, if◌then◌else◌, Option, Some, List, [], ◌∷◌, ◌++◌, length, get_or, take, nat_lt, Contains, slice_get, refl, sym, ap, subst, arith}
use Rattle.std.specs.List.{flat_map, items_where_true}
use Rattle.std.specs.Option.{is_some, option_map_or}
use Rattle.std.proofs.lemmas.Bool.Decides.{nat_tests}
use Rattle.std.proofs.lemmas.List.Elements.{Contains-append_left}
use Rattle.std.proofs.lemmas.List.Folds.{list_any_none}
use Rattle.std.proofs.lemmas.Option.{get_or_from_slice_get, slice_get-get_or, slice_get_read}
use Rattle.query_laws.specs.Permuted.{nothing, same_head, composed}
use Rattle.query_laws.proofs.Permutations.{Permuted-middle, Permuted-refl}
use Rattle.query_laws.specs.Orders.{AllStampsDiffer}
use Rattle.builder_trait.specs.Builders.{PartProfile}
use Rattle.builder_trait.specs.Parts.{Contents, OwnsStamp, has_stamp, without, live_of}
use Rattle.ordered_merge.proofs.Fronts.{All-permuted}
use Rattle.partial_build.proofs.Stamps.{same_place}
use Rattle.log_levels.specs.Slots.{Slots, IsPartOf, live_in, items_in, asked_in, read_by}
use Rattle.log_levels.specs.Levels.{live_items, all_items, parts_asked}
use Rattle.log_levels.specs.Neighbours.{stays}
use Rattle.log_levels.specs.Towers.{IsTower, AreLevels, AreAllLevels, AreHalfway}
use Rattle.log_levels.specs.Trades.{IsQuiet}
use Rattle.log_levels.specs.Marking.{AreMarkedAt, AreNoted, IsSameBelow, read_into, noted_above}
use Rattle.log_levels.proofs.Clocks.{same_runs}
use Rattle.log_levels.proofs.Distinct.{AllStampsDiffer-part, IsPartOf-append, IsPartOf-permuted, none_same}
use Rattle.log_levels.proofs.Publishing.{doubled, higher}
use Rattle.log_levels.proofs.Marks.{stands, without-lacking, lacking-first, first-marked}
use Rattle.log_levels.proofs.Towers.{below-same, halfway-from_tower}

module _ {P Item : Type 0} where
  -- what sees of a construction only whether there is one
  pub same-noted : {A : Type 0} (f : List (Slots P Item) → A)
      → ((l l' : Slots P Item) (rest : List (Slots P Item)) → l' ≡ record l { construction = l'.construction }
      → is_some l'.construction ≡ is_some l.construction → f (l' ∷ rest) ≡ f (l ∷ rest))
      → (above above' : List (Slots P Item)) → AreNoted above above' → f above' ≡ f above
  same-noted f sees [] above' noted = ap f noted
  same-noted f sees (l ∷ rest) above' noted = ap f noted.1 ∙ sees l noted.0 rest noted.2 (same_runs l noted.0 noted.3)

  module _ (contents : P → Contents Item) (profile : PartProfile Item) where
    pub tower-over : (l : Slots P Item) (above above' : List (Slots P Item)) → IsTower contents profile l above
        → AreLevels contents profile above' → IsSameBelow above above' → IsTower contents profile l above'
    tower-over l [] above' tower levels same = subst (IsTower contents profile l) (sym same) tower
    tower-over l (next ∷ rest) above' tower levels same =
        subst (IsTower contents profile l) (sym same.2) (
          below-same contents profile l next same.0 tower.0 (ap (λ v. v.level) same.3) (ap (λ v. v.construction) same.3),
          subst (AreLevels contents profile) same.2 levels,
        )

    pub levels_from_tower : (l : Slots P Item) (above : List (Slots P Item)) → IsTower contents profile l above
        → AreLevels contents profile above
    levels_from_tower l [] tower = tt
    levels_from_tower l (next ∷ above) tower = tower.1

-- what a test of two numbers says
test_same : (a : ℕ) → (a == a) ≡ true
test_same a = grind (arith, nat_tests)

test_other : (a b : ℕ) → a ≢ b → (a == b) ≡ false
test_other a b e = grind (arith, nat_tests)

-- where one list has the stamp, the other hasn't
none_beside : {Item : Type 0} (stamp : Item → ℕ) (s : ℕ) (xs ys : List Item) → AllStampsDiffer stamp (xs ++ ys) → has_stamp stamp s xs ≡ true
    → has_stamp stamp s ys ≡ false
none_beside stamp s xs ys apart on =
    let at = stands stamp s xs on in
    list_any_none (λ y. stamp y == s) ys (λ k d within. test_other (stamp (get_or ys k d)) s (λ same.
    none_same stamp xs ys apart at.0 at.1 at.2 k d within (same ∙ sym at.3)))

module _ {Item : Type 0} where
  live_part : (flags : List Bool) (xs : List Item) → IsPartOf (items_where_true flags xs) xs
  live_part [] xs = (xs, Permuted-refl xs)
  live_part (flag ∷ flags) [] = ([], nothing)
  live_part (true ∷ flags) (x ∷ xs) = let rest = live_part flags xs in (rest.0, same_head x rest.1)
  live_part (false ∷ flags) (x ∷ xs) =
      let rest = live_part flags xs in
      (x ∷ rest.0, composed (Permuted-middle (items_where_true flags xs) x rest.0) (same_head x rest.1))

  -- an item of a list in which stamps differ is the only one with its stamp
  owned : (stamp : Item → ℕ) (xs : List Item) (x : Item) → AllStampsDiffer stamp xs → Contains xs x → OwnsStamp stamp x xs
  owned stamp xs x apart at k d within same =
      let found : slice_get xs at.0 ≡ Some x = slice_get_read xs (length xs) at.0 x refl at.1 (sym at.2) in
      let equal : k ≡ at.0 = same_place stamp xs apart k at.0 (get_or xs k d) x (slice_get-get_or xs k d within) found same in
      ap (λ n. get_or xs n d) equal ∙ get_or_from_slice_get xs at.0 x d found

  without-one : (stamp : Item → ℕ) (xs : List Item) (x : Item) → AllStampsDiffer stamp xs → (k : ℕ) → k < length xs → get_or xs k x ≡ x
      → length (without stamp (stamp x) xs) + 1 ≡ length xs
  without-one stamp [] x apart k within at = absurd (omega (arith, within))
  without-one stamp (y ∷ xs) x apart zero within at =
      let on : (stamp y == stamp x) ≡ true = ap (λ z. stamp z == stamp x) at ∙ test_same (stamp x) in
      let none = none_beside stamp (stamp x) (y ∷ []) xs apart (ap (λ b. b || false) on) in
      ap (λ b. length (cond (not b) (y ∷ without stamp (stamp x) xs) (without stamp (stamp x) xs)) + 1) on
      ∙ ap (λ l. length l + 1) (without-lacking stamp (stamp x) xs none) ∙ omega arith
  without-one stamp (y ∷ xs) x apart (suc k) within at =
      let inside : k < length xs = omega (arith, within) in
      let off : (stamp y == stamp x) ≡ false = test_other (stamp y) (stamp x)
      (λ same. apart zero (suc k) x (omega arith) (omega (arith, inside)) (same ∙ sym (ap stamp at))) in
      let rest = without-one stamp xs x (λ i j d below end. apart (suc i) (suc j) d (omega (arith, below)) (omega (arith, end))) k inside at in
      let kept : length (without stamp (stamp x) (y ∷ xs)) ≡ suc (length (without stamp (stamp x) xs)) =
      ap (λ b. length (cond (not b) (y ∷ without stamp (stamp x) xs) (without stamp (stamp x) xs))) off in
      omega (arith, kept, rest)

  module _ {P : Type 0} (contents : P → Contents Item) where
    live_parts : (ps : List P) → IsPartOf (flat_map (λ p. live_of (contents p)) ps) (flat_map (λ p. (contents p).items) ps)
    live_parts [] = ([], nothing)
    live_parts (p ∷ ps) =
        IsPartOf-append (live_of (contents p)) (contents p).items (flat_map (λ q. live_of (contents q)) ps) (flat_map (λ q. (contents q).items) ps)
        (live_part (contents p).flags (contents p).items) (live_parts ps)

    live_levels : (levels : List (Slots P Item)) → IsPartOf (live_items contents levels) (all_items contents levels)
    live_levels [] = ([], nothing)
    live_levels (l ∷ above) =
        IsPartOf-append (live_items contents above) (all_items contents above) (live_in contents l) (items_in contents l) (live_levels above) (live_parts l.parts)

    module _ (stamp : Item → ℕ) where
      -- the item lives above, so it isn't in the level
      pub lacks-below : (s : ℕ) (l : Slots P Item) (above : List (Slots P Item)) → AllStampsDiffer stamp (all_items contents above ++ items_in contents l)
          → has_stamp stamp s (live_items contents above) ≡ true → has_stamp stamp s (live_in contents l) ≡ false
      lacks-below s l above apart =
          none_beside stamp s (live_items contents above) (live_in contents l)
          (AllStampsDiffer-part stamp (live_items contents above ++ live_in contents l) (all_items contents above ++ items_in contents l)
          (live_levels (l ∷ above)) apart)

      pub parts_asked-above : (s : ℕ) (l : Slots P Item) (above : List (Slots P Item)) → has_stamp stamp s (live_items contents above) ≡ true
          → parts_asked contents stamp s (l ∷ above) ≡ parts_asked contents stamp s above
      parts_asked-above s l above on = ap (λ b. parts_asked contents stamp s above + (if b then 0 else asked_in contents stamp s l.parts)) on ∙ omega arith

      pub parts_asked-both : (s : ℕ) (l : Slots P Item) (above : List (Slots P Item)) → has_stamp stamp s (live_items contents above) ≡ false
          → parts_asked contents stamp s (l ∷ above) ≡ parts_asked contents stamp s above + asked_in contents stamp s l.parts
      parts_asked-both s l above off = ap (λ b. parts_asked contents stamp s above + (if b then 0 else asked_in contents stamp s l.parts)) off

    -- a live item is the only one with its stamp, dead ones included
    pub owned_live : (stamp : Item → ℕ) (levels : List (Slots P Item)) (x : Item) → AllStampsDiffer stamp (all_items contents levels)
        → Contains (live_items contents levels) x → OwnsStamp stamp x (all_items contents levels)
    owned_live stamp levels x apart live =
        let part = live_levels levels in
        let whole = live_items contents levels ++ part.0 in
        All-permuted (λ y. stamp y ≡ stamp x → y ≡ x) part.1
        (owned stamp whole x (AllStampsDiffer-part stamp whole (all_items contents levels) (IsPartOf-permuted whole part.1) apart)
        (Contains-append_left (live_items contents levels) part.0 x live))

    -- the deleted item is one
    pub one_fewer : (stamp : Item → ℕ) (levels : List (Slots P Item)) (x : Item) → AllStampsDiffer stamp (all_items contents levels)
        → Contains (live_items contents levels) x → length (without stamp (stamp x) (live_items contents levels)) + 1 ≡ length (live_items contents levels)
    one_fewer stamp levels x apart live =
        without-one stamp (live_items contents levels) x
        (AllStampsDiffer-part stamp (live_items contents levels) (all_items contents levels) (live_levels levels) apart) live.0 live.1 live.2

    module _ (profile : PartProfile Item) where
      pub levels-from_all : (levels : List (Slots P Item)) → AreAllLevels contents profile levels → AreLevels contents profile levels
      levels-from_all [] h = tt
      levels-from_all (l ∷ above) h = h.2

      pub halfway-marked : (levels levels' : List (Slots P Item)) → AreAllLevels contents profile levels → 0 < length levels → IsSameBelow levels levels'
          → AreLevels contents profile levels' → IsQuiet 1 levels' → AreHalfway contents profile levels'
      halfway-marked [] levels' h some same tower quiet = absurd (omega (arith, some))
      halfway-marked (l ∷ above) levels' h some same tower quiet =
          let l' = same.0 in
          subst (AreHalfway contents profile) (sym same.2) (
            ap (λ v. v.level) same.3 ∙ h.0,
            ap (λ v. v.construction) same.3 ∙ h.1,
            halfway-from_tower contents profile l' l' same.1 (subst (AreLevels contents profile) same.2 tower) (subst (IsQuiet 1) same.2 quiet)
                (stays refl (omega arith)) refl,
          )

pub some_live : {P Item : Type 0} (contents : P → Contents Item) (levels : List (Slots P Item)) (x : Item) → Contains (live_items contents levels) x
    → 0 < length levels
some_live contents [] x live = absurd (omega (arith, live.1))
some_live contents (l ∷ above) x live = omega arith

-- a level with a part isn't above the weight
pub light_level : (n k g rest : ℕ) → 0 < n → n * 2 ^ k + rest < 2 ^ (g + 1) → k ≤ g
light_level n k g rest some light =
    let once : 2 ^ k ≤ n * 2 ^ k = grind (arith, some) in
    grind (arith, light, once, higher (g + 1) k)

-- a level with two parts is below it
pub light_below : (n k g rest : ℕ) → 2 ≤ n → n * 2 ^ k + rest < 2 ^ (g + 1) → k + 1 ≤ g
light_below n k g rest two light =
    let twice : 2 * 2 ^ k ≤ n * 2 ^ k = grind (arith, two) in
    light_level 1 (k + 1) g rest (omega arith) (omega (arith, light, twice, doubled k))

pub AreNoted-refl : {P Item : Type 0} (levels : List (Slots P Item)) → AreNoted levels levels
AreNoted-refl [] = refl
AreNoted-refl (l ∷ above) = (l, refl, refl, refl)

module _ {P Item : Type 0} (before : Item → Item → Bool) (x : Item) where
  -- marks of parts don't change what a construction has read
  pub read_into-same : (above above' : List (Slots P Item)) → IsSameBelow above above' → read_into before x above' ≡ read_into before x above
  read_into-same [] above' same = ap (read_into before x) same
  read_into-same (l ∷ above) above' same = ap (read_into before x) same.2 ∙ ap (read_by before x) same.3

  module _ (contents : P → Contents Item) (stamp : Item → ℕ) where
    noted-where : (b : Bool) (l : Slots P Item) (above : List (Slots P Item)) → has_stamp stamp (stamp x) (flat_map (λ p. live_of (contents p)) (take 2 l.parts)) ≡ b
        → noted_above before x contents stamp l above ≡ (if b then read_into before x above else 0)
    noted-where b l above is = ap (λ v. if v then read_into before x above else 0) is

    -- the item doesn't live in the level
    pub noted-lacking : (l : Slots P Item) (above : List (Slots P Item)) → has_stamp stamp (stamp x) (live_in contents l) ≡ false
        → noted_above before x contents stamp l above ≡ 0
    noted-lacking l above off = noted-where false l above (lacking-first contents stamp (stamp x) 2 l.parts off)

    -- it lives in the part at a place
    pub noted-at : {place : Option ℕ} (l l' : Slots P Item) (above : List (Slots P Item)) → AreMarkedAt contents stamp x place l.parts l'.parts
        → noted_above before x contents stamp l above ≡ (if option_map_or (λ k. nat_lt k 2) place false then read_into before x above else 0)
    noted-at {place} l l' above marked = noted-where (option_map_or (λ k. nat_lt k 2) place false) l above (first-marked contents stamp x marked 2)
