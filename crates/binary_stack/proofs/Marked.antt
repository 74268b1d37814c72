-- An item that is marked as dead in one of several levels.
use Rattle.std.proofs.Common.{◌≡◌, ◌≢◌, ℕ, zero, suc, ◌+◌, ◌*◌, ◌<◌, ◌≤◌, ◌==◌, ◌||◌, ◌∙◌, Bool, true, false, not, cond, Option, Some, List, [], ◌∷◌, ◌++◌, length, get_or, All, Contains, slice_get, refl, sym, ap, ap₂, subst, arith}
use Rattle.std.proofs.lemmas.Bool.Decides.{nat_tests}
use Rattle.std.proofs.lemmas.List.{get_or_append_left, get_or-append-add, length-append}
use Rattle.std.proofs.lemmas.List.Elements.{All-cons, All-head, All-tail, Contains-append_left, filter-append}
use Rattle.std.proofs.lemmas.List.Folds.{Any-from_list_any, list_any-append, list_any_none}
use Rattle.std.proofs.lemmas.Option.{get_or_from_slice_get, slice_get-get_or, slice_get_read}
use Rattle.query_laws.specs.Orders.{AllStampsDiffer}
use Rattle.builder_trait.specs.Parts.{Contents, OwnsStamp, has_stamp, without, marked, live_of}
use Rattle.ordered_merge.proofs.Fronts.{All-permuted}
use Rattle.binary_stack.specs.Levels.{weight_of, live_in, items_in, live_items, all_items, HaveAtMost, AreLevels, IsSameLevel, AreSameLevels, AreMarked}
use Rattle.binary_stack.specs.Charge.{charge_at, charge_of}
use Rattle.binary_stack.proofs.Distinct.{AllStampsDiffer-part, AllStampsDiffer-swap, IsPartOf-permuted, none_same}
use Rattle.binary_stack.proofs.Levels.{live_levels}

test_same : (a : ℕ) → (a == a) ≡ true
test_same a = grind (arith, nat_tests)

test_other : (a b : ℕ) → a ≢ b → (a == b) ≡ false
test_other a b e = grind (arith, nat_tests)

told_same : (a b : ℕ) → (a == b) ≡ true → a ≡ b
told_same a b e = grind (arith, nat_tests)

both_off : (a b : Bool) → (a || b) ≡ false → (a ≡ false) × (b ≡ false)
both_off true b off = absurd cc
both_off false b off = (refl, off)

module _ {A : Type 0} (Q : A → Type 0) where
  pub All-first : (xs ys : List A) → All Q (xs ++ ys) → All Q xs
  All-first xs ys h = λ k d within. subst Q (get_or_append_left xs ys d k within) (h k d (omega (arith, within, length-append xs ys)))

  pub All-second : (xs ys : List A) → All Q (xs ++ ys) → All Q ys
  All-second xs ys h = λ k d within. subst Q (get_or-append-add xs ys k d) (h (length xs + k) d (omega (arith, within, length-append xs ys)))

module _ {Item : Type 0} (stamp : Item → ℕ) (s : ℕ) where
  pub has_stamp-append : (xs ys : List Item) → has_stamp stamp s (xs ++ ys) ≡ (has_stamp stamp s xs || has_stamp stamp s ys)
  has_stamp-append = list_any-append (λ x. stamp x == s)

  pub without-append : (xs ys : List Item) → without stamp s (xs ++ ys) ≡ without stamp s xs ++ without stamp s ys
  without-append = filter-append (λ x. not (stamp x == s))

  -- no item has the stamp
  pub without-lacking : (xs : List Item) → has_stamp stamp s xs ≡ false → without stamp s xs ≡ xs
  without-lacking [] off = refl
  without-lacking (x ∷ xs) off =
      let here = both_off (stamp x == s) (has_stamp stamp s xs) off in
      ap (λ b. cond (not b) (x ∷ without stamp s xs) (without stamp s xs)) here.0 ∙ ap (λ l. x ∷ l) (without-lacking xs here.1)

  -- an item that has it
  stands : (xs : List Item) → has_stamp stamp s xs ≡ true → (k : ℕ) × (x : Item) × (slice_get xs k ≡ Some x) × (stamp x ≡ s)
  stands xs on =
      let at = Any-from_list_any (λ x. stamp x == s) xs on in
      (at.0, at.1, slice_get_read xs (length xs) at.0 at.1 refl at.2 (sym at.3), told_same (stamp at.1) s at.4)

  -- where one list has the stamp, the other hasn't
  none_beside : (xs ys : List Item) → AllStampsDiffer stamp (xs ++ ys) → has_stamp stamp s xs ≡ true → has_stamp stamp s ys ≡ false
  none_beside xs ys apart on =
      let at = stands xs on in
      list_any_none (λ y. stamp y == s) ys (λ k d within. test_other (stamp (get_or ys k d)) s (λ same.
      none_same stamp xs ys apart at.0 at.1 at.2 k d within (same ∙ sym at.3)))

  pub fewer-without : (xs : List Item) → length (without stamp s xs) ≤ length xs
  fewer-without [] = omega arith
  fewer-without (x ∷ xs) = by (not (stamp x == s)) (fewer-without xs)
    where
      by : (b : Bool) → length (without stamp s xs) ≤ length xs → length (cond b (x ∷ without stamp s xs) (without stamp s xs)) ≤ length (x ∷ xs)
      by true few = omega (arith, few)
      by false few = omega (arith, few)

module _ {Item : Type 0} where
  same_place : (stamp : Item → ℕ) (xs : List Item) → AllStampsDiffer stamp xs → (k l : ℕ) (x y : Item) → slice_get xs k ≡ Some x → slice_get xs l ≡ Some y
      → k < length xs → l < length xs → stamp x ≡ stamp y → k ≡ l
  same_place stamp xs apart k l x y at_x at_y within within_other same =
      let is_x : get_or xs k x ≡ x = get_or_from_slice_get xs k x x at_x in
      let is_y : get_or xs l x ≡ y = get_or_from_slice_get xs l y x at_y in
      let not_before : k < l → ⊥ = λ less. apart k l x less within_other (ap stamp is_x ∙ same ∙ sym (ap stamp is_y)) in
      let not_after : l < k → ⊥ = λ less. apart l k x less within (ap stamp is_y ∙ sym same ∙ sym (ap stamp is_x)) in
      omega arith

  -- an item of a list in which stamps differ is the only one with its stamp
  owned : (stamp : Item → ℕ) (xs : List Item) (x : Item) → AllStampsDiffer stamp xs → Contains xs x → OwnsStamp stamp x xs
  owned stamp xs x apart at k d within same =
      let found : slice_get xs at.0 ≡ Some x = slice_get_read xs (length xs) at.0 x refl at.1 (sym at.2) in
      let equal : k ≡ at.0 = same_place stamp xs apart k at.0 (get_or xs k d) x (slice_get-get_or xs k d within) found within at.1 same in
      ap (λ n. get_or xs n d) equal ∙ get_or_from_slice_get xs at.0 x d found

  without-one : (stamp : Item → ℕ) (xs : List Item) (x : Item) → AllStampsDiffer stamp xs → (k : ℕ) → k < length xs → get_or xs k x ≡ x
      → length (without stamp (stamp x) xs) + 1 ≡ length xs
  without-one stamp [] x apart k within at = absurd (omega (arith, within))
  without-one stamp (y ∷ xs) x apart zero within at =
      let on : (stamp y == stamp x) ≡ true = ap (λ z. stamp z == stamp x) at ∙ test_same (stamp x) in
      let none = none_beside stamp (stamp x) (y ∷ []) xs apart (ap (λ b. b || false) on) in
      ap (λ b. length (cond (not b) (y ∷ without stamp (stamp x) xs) (without stamp (stamp x) xs)) + 1) on
      ∙ ap (λ l. length l + 1) (without-lacking stamp (stamp x) xs none) ∙ omega arith
  without-one stamp (y ∷ xs) x apart (suc k) within at =
      let inside : k < length xs = omega (arith, within) in
      let off : (stamp y == stamp x) ≡ false = test_other (stamp y) (stamp x)
      (λ same. apart zero (suc k) x (omega arith) (omega (arith, inside)) (same ∙ sym (ap stamp at))) in
      let rest = without-one stamp xs x (λ i j d below end. apart (suc i) (suc j) d (omega (arith, below)) (omega (arith, end))) k inside at in
      let kept : length (without stamp (stamp x) (y ∷ xs)) ≡ suc (length (without stamp (stamp x) xs)) =
      ap (λ b. length (cond (not b) (y ∷ without stamp (stamp x) xs) (without stamp (stamp x) xs))) off in
      omega (arith, kept, rest)

module _ {P Item : Type 0} (contents : P → Contents Item) where
  pub IsSameLevel-refl : (l : Option P) → IsSameLevel contents l l
  IsSameLevel-refl l = record { parts = refl; items = refl; live = omega arith }

  -- a part in which items with a stamp died
  pub IsSameLevel-marked : (stamp : Item → ℕ) (s : ℕ) (p p' : P) → contents p' ≡ marked stamp s (contents p)
      → live_of (contents p') ≡ without stamp s (live_of (contents p)) → IsSameLevel contents (Some p) (Some p')
  IsSameLevel-marked stamp s p p' dead live = record {
    parts = refl;
    items = ap (λ part. part.items) dead;
    live = omega (arith, ap length live, fewer-without stamp s (live_of (contents p)));
  }

  -- the levels above a level in which nothing was marked
  pub same-above : (l : Option P) (above new : List (Option P)) → AreSameLevels contents above new → AreSameLevels contents (l ∷ above) (l ∷ new)
  same-above l above new same = (IsSameLevel-refl l, same)

  pub all-same : (old new : List (Option P)) → AreSameLevels contents old new → all_items contents new ≡ all_items contents old
  all-same [] [] same = refl
  all-same [] (l' ∷ new) same = absurd same
  all-same (l ∷ old) [] same = absurd same
  all-same (l ∷ old) (l' ∷ new) same = ap₂ (λ xs ys. xs ++ ys) same.0.items (all-same old new same.1)

  pub weight-same : (old new : List (Option P)) → AreSameLevels contents old new → weight_of new ≡ weight_of old
  weight-same [] [] same = refl
  weight-same [] (l' ∷ new) same = absurd same
  weight-same (l ∷ old) [] same = absurd same
  weight-same (l ∷ old) (l' ∷ new) same = omega (arith, same.0.parts, weight-same old new same.1)

  pub length-same : (old new : List (Option P)) → AreSameLevels contents old new → length new ≡ length old
  length-same [] [] same = refl
  length-same [] (l' ∷ new) same = absurd same
  length-same (l ∷ old) [] same = absurd same
  length-same (l ∷ old) (l' ∷ new) same = ap suc (length-same old new same.1)

  pub levels-same : (old new : List (Option P)) (i : ℕ) → AreSameLevels contents old new → AreLevels contents i old → AreLevels contents i new
  levels-same [] [] i same h = tt
  levels-same [] (l' ∷ new) i same h = absurd same
  levels-same (l ∷ old) [] i same h = absurd same
  levels-same (l ∷ old) (l' ∷ new) i same h = (omega (arith, h.0, ap length same.0.items), levels-same old new (i + 1) same.1 h.1)

  abbrev AtMost : ℕ → Option P → Type 0
  AtMost n l = length (items_in contents l) ≤ n

  pub sizes-same : (old new : List (Option P)) (m : ℕ) → AreSameLevels contents old new → HaveAtMost contents m old → HaveAtMost contents m new
  sizes-same [] [] m same h = h
  sizes-same [] (l' ∷ new) m same h = absurd same
  sizes-same (l ∷ old) [] m same h = absurd same
  sizes-same (l ∷ old) (l' ∷ new) m same h =
      All-cons (AtMost m) l' new (omega (arith, All-head (AtMost m) l old h, ap length same.0.items))
      (sizes-same old new m same.1 (All-tail (AtMost m) l old h))

  pub charge-same : (slope base : ℕ) (old new : List (Option P)) (i : ℕ) → AreSameLevels contents old new
      → charge_of slope base i new ≡ charge_of slope base i old
  charge-same slope base [] [] i same = refl
  charge-same slope base [] (l' ∷ new) i same = absurd same
  charge-same slope base (l ∷ old) [] i same = absurd same
  charge-same slope base (l ∷ old) (l' ∷ new) i same =
      ap₂ (λ n rest. n * charge_at slope base i + rest) (weight-same (l ∷ old) (l' ∷ new) same) (charge-same slope base old new (i + 1) same.1)

  module _ (stamp : Item → ℕ) where
    -- the item lives above, so it isn't in the level
    pub lacks-below : (s : ℕ) (l : Option P) (above : List (Option P)) → AllStampsDiffer stamp (all_items contents (l ∷ above))
        → has_stamp stamp s (live_items contents above) ≡ true → has_stamp stamp s (live_in contents l) ≡ false
    lacks-below s l above apart =
        none_beside stamp s (live_items contents above) (live_in contents l)
        (AllStampsDiffer-swap stamp (live_in contents l) (live_items contents above)
        (AllStampsDiffer-part stamp (live_items contents (l ∷ above)) (all_items contents (l ∷ above)) (live_levels contents (l ∷ above)) apart))

    -- a live item is the only one with its stamp, dead ones included
    pub owned_live : (levels : List (Option P)) (x : Item) → AllStampsDiffer stamp (all_items contents levels)
        → Contains (live_items contents levels) x → OwnsStamp stamp x (all_items contents levels)
    owned_live levels x apart live =
        let part = live_levels contents levels in
        let whole = live_items contents levels ++ part.0 in
        All-permuted (λ y. stamp y ≡ stamp x → y ≡ x) part.1
        (owned stamp whole x (AllStampsDiffer-part stamp whole (all_items contents levels) (IsPartOf-permuted whole part.1) apart)
        (Contains-append_left (live_items contents levels) part.0 x live))

    -- the deleted item is one
    pub one_fewer : (levels : List (Option P)) (x : Item) → AllStampsDiffer stamp (all_items contents levels)
        → Contains (live_items contents levels) x → length (without stamp (stamp x) (live_items contents levels)) + 1 ≡ length (live_items contents levels)
    one_fewer levels x apart live =
        without-one stamp (live_items contents levels) x
        (AllStampsDiffer-part stamp (live_items contents levels) (all_items contents levels) (live_levels contents levels) apart) live.0 live.1 live.2

    module _ (s : ℕ) (l : Option P) (above new : List (Option P)) where
      -- the item was found above
      pub AreMarked-above : AllStampsDiffer stamp (all_items contents (l ∷ above)) → has_stamp stamp s (live_items contents above) ≡ true
          → AreMarked contents stamp s above new → AreMarked contents stamp s (l ∷ above) (l ∷ new)
      AreMarked-above apart on h = record {
        live = ap₂ (λ xs ys. xs ++ ys) (sym (without-lacking stamp s (live_in contents l) (lacks-below s l above apart on))) h.live
            ∙ sym (without-append stamp s (live_in contents l) (live_items contents above));
        same = same-above l above new h.same;
      }

      -- it was looked for here too
      pub AreMarked-both : (l' : Option P) → live_in contents l' ≡ without stamp s (live_in contents l) → IsSameLevel contents l l'
          → AreMarked contents stamp s above new → AreMarked contents stamp s (l ∷ above) (l' ∷ new)
      AreMarked-both l' here same h = record {
        live = ap₂ (λ xs ys. xs ++ ys) here h.live ∙ sym (without-append stamp s (live_in contents l) (live_items contents above));
        same = (same, h.same);
      }
