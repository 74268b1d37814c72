-- What the mark of an item does to the flags and to the live items.
use Rattle.std.proofs.Common.{◌≡◌, ◌≢◌, ℕ, zero, suc, ◌+◌, ◌<◌, ◌≤◌, ◌==◌, Bool, true, false, not, ◌&&◌, ◌||◌, cond, IsTrue, List, [], ◌∷◌, length, map, set, get_or, refl, sym, ap, ◌∙◌, arith, subst, add-one, Some, slice_get, All, ⊎_elim}
use Rattle.std.specs.List.{zip, items_where_true}
use Rattle.std.proofs.lemmas.Bool.{cases_lt}
use Rattle.std.proofs.lemmas.Bool.Decides.{nat_tests}
use Rattle.std.proofs.lemmas.Option.{slice_get_within, get_or_from_slice_get, same_Some}
use Rattle.std.proofs.lemmas.List.Elements.{All-head, All-tail}
use Rattle.query_laws.specs.Orders.{IsStrictTotalOrder}
use Rattle.query_laws.specs.declared.item.Order.{Order}
use Rattle.query_laws.specs.declared.item.Order.TheVariants.{First}
use Rattle.builder_trait.specs.Parts.{Contents, IsPart, IsRising, OwnsStamp, has_stamp, without, marked, live_of}

-- a test of two numbers that are, or aren't, the same
test_same : (a b : ℕ) → a ≡ b → (a == b) ≡ true
test_same a b e = grind (arith, nat_tests)

test_other : (a b : ℕ) → a ≢ b → (a == b) ≡ false
test_other a b e = grind (arith, nat_tests)

not_dead : (b : Bool) → (b && not false) ≡ b
not_dead true = refl
not_dead false = refl

dead_now : (b : Bool) → (b && not true) ≡ false
dead_now true = refl
dead_now false = refl

module _ {Item : Type 0} (stamp : Item → ℕ) (dead : ℕ) where
  -- the flags after the mark
  abbrev pub fallen : List Item → List Bool → List Bool
  fallen xs flags = map (λ held. held.1 && not (stamp held.0 == dead)) (zip xs flags)

  -- the live items after it are those without the stamp, whatever the items are
  head_kept : (test : Bool) (flag : Bool) (x : Item) (flags : List Bool) (xs : List Item)
      → items_where_true ((flag && not test) ∷ flags) (x ∷ xs) ≡ cond (flag && not test) (x ∷ items_where_true flags xs) (items_where_true flags xs)
  head_kept true true x flags xs = refl
  head_kept true false x flags xs = refl
  head_kept false true x flags xs = refl
  head_kept false false x flags xs = refl

  pub items-fallen : (xs : List Item) (flags : List Bool)
      → items_where_true (fallen xs flags) xs ≡ without stamp dead (items_where_true flags xs)
  items-fallen [] [] = refl
  items-fallen [] (flag ∷ flags) = refl
  items-fallen (x ∷ xs) [] = refl
  items-fallen (x ∷ xs) (true ∷ flags) =
      head_kept (stamp x == dead) true x (fallen xs flags) xs
      ∙ ap (λ l. cond (not (stamp x == dead)) (x ∷ l) l) (items-fallen xs flags)
  items-fallen (x ∷ xs) (false ∷ flags) = items-fallen xs flags

  -- flags that stay
  pub marked-same : (part : Contents Item) → fallen part.items part.flags ≡ part.flags → part ≡ marked stamp dead part
  marked-same part same = ap (λ l. record part { flags = l }) (sym same)

  -- no item has the stamp: nothing changes, and no live item has it
  pub fallen_none : (xs : List Item) (flags : List Bool) → length flags ≡ length xs → All (λ x. stamp x ≢ dead) xs → fallen xs flags ≡ flags
  fallen_none [] [] e h = refl
  fallen_none [] (flag ∷ flags) e h = absurd (omega arith)
  fallen_none (x ∷ xs) [] e h = absurd (omega arith)
  fallen_none (x ∷ xs) (flag ∷ flags) e h =
      let test : (stamp x == dead) ≡ false = test_other (stamp x) dead (All-head (λ y. stamp y ≢ dead) x xs h) in
      let here : (flag && not (stamp x == dead)) ≡ flag = ap (λ b. flag && not b) test ∙ not_dead flag in
      ap (λ b. b ∷ fallen xs flags) here
      ∙ ap (λ l. flag ∷ l) (fallen_none xs flags (omega arith) (All-tail (λ y. stamp y ≢ dead) x xs h))

  pub has_stamp_none : (xs : List Item) (flags : List Bool) → All (λ x. stamp x ≢ dead) xs → has_stamp stamp dead (items_where_true flags xs) ≡ false
  has_stamp_none xs [] h = refl
  has_stamp_none [] (flag ∷ flags) h = refl
  has_stamp_none (x ∷ xs) (true ∷ flags) h =
      let test : (stamp x == dead) ≡ false = test_other (stamp x) dead (All-head (λ y. stamp y ≢ dead) x xs h) in
      ap (λ b. b || has_stamp stamp dead (items_where_true flags xs)) test
      ∙ has_stamp_none xs flags (All-tail (λ y. stamp y ≢ dead) x xs h)
  has_stamp_none (x ∷ xs) (false ∷ flags) h = has_stamp_none xs flags (All-tail (λ y. stamp y ≢ dead) x xs h)

  -- the item with the stamp stands at one place, and no other has it
  pub record StandsOnlyAt (xs : List Item) (k : ℕ) : Type 0 where
    pub within : k < length xs
    pub here : (d : Item) → stamp (get_or xs k d) ≡ dead
    pub alone : (j : ℕ) (d : Item) → j < length xs → j ≢ k → stamp (get_or xs j d) ≢ dead

  -- its flag falls, and no other
  pub fallen_at : (xs : List Item) (flags : List Bool) (k : ℕ) → length flags ≡ length xs → StandsOnlyAt xs k → fallen xs flags ≡ set flags k false
  fallen_at [] flags k e only = absurd (omega (arith, only.within))
  fallen_at (x ∷ xs) [] k e only = absurd (omega arith)
  fallen_at (x ∷ xs) (flag ∷ flags) zero e only =
      let test : (stamp x == dead) ≡ true = test_same (stamp x) dead (only.here x) in
      let others : All (λ y. stamp y ≢ dead) xs = λ j d below. only.alone (suc j) d (omega arith) (λ same. cc) in
      ap (λ b. b ∷ fallen xs flags) (ap (λ b. flag && not b) test ∙ dead_now flag)
      ∙ ap (λ l. false ∷ l) (fallen_none xs flags (omega arith) others)
  fallen_at (x ∷ xs) (flag ∷ flags) (suc k) e only =
      let test : (stamp x == dead) ≡ false = test_other (stamp x) dead (only.alone 0 x (omega arith) (λ same. cc)) in
      ap (λ b. b ∷ fallen xs flags) (ap (λ b. flag && not b) test ∙ not_dead flag)
      ∙ ap (λ l. flag ∷ l) (fallen_at xs flags k (omega arith) (record {
        within = omega (arith, only.within);
        here = only.here;
        alone = λ j d below other. only.alone (suc j) d (omega arith) (λ same. other (omega arith));
      }))

  -- it is among the live items where its flag stands
  pub has_stamp_at : (xs : List Item) (flags : List Bool) (k : ℕ) (flag : Bool) → slice_get flags k ≡ Some flag → StandsOnlyAt xs k
      → has_stamp stamp dead (items_where_true flags xs) ≡ flag
  has_stamp_at xs [] k b at only = absurd cc
  has_stamp_at [] (flag ∷ flags) k b at only = absurd (omega (arith, only.within))
  has_stamp_at (x ∷ xs) (true ∷ flags) zero b at only =
      let test : (stamp x == dead) ≡ true = test_same (stamp x) dead (only.here x) in
      ap (λ c. c || has_stamp stamp dead (items_where_true flags xs)) test ∙ same_Some true b at
  has_stamp_at (x ∷ xs) (false ∷ flags) zero b at only =
      let others : All (λ y. stamp y ≢ dead) xs = λ j d below. only.alone (suc j) d (omega arith) (λ same. cc) in
      has_stamp_none xs flags others ∙ same_Some false b at
  has_stamp_at (x ∷ xs) (true ∷ flags) (suc k) b at only =
      let test : (stamp x == dead) ≡ false = test_other (stamp x) dead (only.alone 0 x (omega arith) (λ same. cc)) in
      ap (λ c. c || has_stamp stamp dead (items_where_true flags xs)) test
      ∙ has_stamp_at xs flags k b at (record {
        within = omega (arith, only.within);
        here = only.here;
        alone = λ j d below other. only.alone (suc j) d (omega arith) (λ same. other (omega arith));
      })
  has_stamp_at (x ∷ xs) (false ∷ flags) (suc k) b at only =
      has_stamp_at xs flags k b at (record {
        within = omega (arith, only.within);
        here = only.here;
        alone = λ j d below other. only.alone (suc j) d (omega arith) (λ same. other (omega arith));
      })

-- a flag that is as it was written before
pub set_same : (flags : List Bool) (k : ℕ) (flag : Bool) → slice_get flags k ≡ Some flag → set flags k flag ≡ flags
set_same [] k b at = absurd cc
set_same (flag ∷ flags) zero b at = ap (λ c. c ∷ flags) (sym (same_Some flag b at))
set_same (flag ∷ flags) (suc k) b at = ap (λ l. flag ∷ l) (set_same flags k b at)

module _ {Item : Type 0} where
  -- one live item fewer, where a flag falls
  pub length-one_dead : (flags : List Bool) (xs : List Item) (k : ℕ) → slice_get flags k ≡ Some true → k < length xs
      → length (items_where_true (set flags k false) xs) + 1 ≡ length (items_where_true flags xs)
  length-one_dead [] xs k at within = absurd cc
  length-one_dead (flag ∷ flags) [] k at within = absurd (omega arith)
  length-one_dead (true ∷ flags) (x ∷ xs) zero at within = add-one (length (items_where_true flags xs))
  length-one_dead (false ∷ flags) (x ∷ xs) zero at within = absurd cc
  length-one_dead (true ∷ flags) (x ∷ xs) (suc k) at within = omega (arith, length-one_dead flags xs k at (omega arith))
  length-one_dead (false ∷ flags) (x ∷ xs) (suc k) at within = length-one_dead flags xs k at (omega arith)

  -- in a rising list the owner of a stamp stands only at its place
  pub StandsOnlyAt-rising : {stamp : Item → ℕ} {before : Item → Item → Bool} (order : IsStrictTotalOrder stamp before) (xs : List Item) (k : ℕ) (x : Item)
      → IsRising before xs → OwnsStamp stamp x xs → slice_get xs k ≡ Some x → StandsOnlyAt stamp (stamp x) xs k
  StandsOnlyAt-rising {stamp} {before} order xs k x rising owns at = record {
    within = slice_get_within xs k x at;
    here = λ d. ap stamp (get_or_from_slice_get xs k x d at);
    alone = λ j d below other same.
        let is : get_or xs j d ≡ x = owns j d below same in
        let itself : get_or xs k d ≡ x = get_or_from_slice_get xs k x d at in
        let no : before x x ≡ false = order.irreflexive x in
        ⊎_elim
        (λ earlier.
        let both : IsTrue (before x x) = subst (λ y. IsTrue (before y x)) is (subst (λ y. IsTrue (before (get_or xs j d) y)) itself
        (rising j k d earlier (slice_get_within xs k x at))) in absurd cc)
        (λ later.
        let both : IsTrue (before x x) = subst (λ y. IsTrue (before y x)) itself (subst (λ y. IsTrue (before (get_or xs k d) y)) is
        (rising k j d (later_than j k other later) below)) in absurd cc)
        (cases_lt j k);
  }
    where
      later_than : (j k : ℕ) → j ≢ k → k ≤ j → k < j
      later_than j k other later = omega arith

module _ {Item : Type 0} (stamp : Item → ℕ) (item : Item) {part now : Contents Item} (view : part ≡ now) where
  -- what the mark makes of a part, by the flags after it
  module _ {flags : List Bool} (falls : fallen stamp (stamp item) part.items part.flags ≡ flags) where
    pub marked-to : record part { flags = flags } ≡ marked stamp (stamp item) now
    marked-to = ap (λ l. record part { flags = l }) (sym falls) ∙ ap (marked stamp (stamp item)) view

    pub live-to : items_where_true flags part.items ≡ without stamp (stamp item) (live_of now)
    live-to =
        ap (λ l. items_where_true l part.items) (sym falls) ∙ items-fallen stamp (stamp item) part.items part.flags
        ∙ ap (λ p. without stamp (stamp item) (live_of p)) view

  -- the mark of an item that has a place: its flag falls, and it is found where that flag stood
  module _ {before : Order → Item → Item → Bool} (order : IsStrictTotalOrder stamp (before First)) (valid : IsPart before part)
      (owns : OwnsStamp stamp item now.items) (k : ℕ) (here : slice_get part.items k ≡ Some item) where
    only_here : StandsOnlyAt stamp (stamp item) part.items k
    only_here =
        StandsOnlyAt-rising order part.items k item valid.rising (subst (λ p. OwnsStamp stamp item p.items) (sym view) owns) here

    pub fallen_here : fallen stamp (stamp item) part.items part.flags ≡ set part.flags k false
    fallen_here = fallen_at stamp (stamp item) part.items part.flags k valid.flagged only_here

    pub found_here : (flag : Bool) → slice_get part.flags k ≡ Some flag → flag ≡ has_stamp stamp (stamp item) (live_of now)
    found_here flag at =
        sym (has_stamp_at stamp (stamp item) part.items part.flags k flag at only_here)
        ∙ ap (λ p. has_stamp stamp (stamp item) (live_of p)) view
