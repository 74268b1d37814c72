-- Levels that give back a part of the highest one that has any.
use Rattle.std.proofs.Common.{◌≡◌, ◌==◌, ℕ, ◌+◌, ◌-◌, ◌<◌, ◌∙◌, Bool, true, false, List, [], ◌∷◌, Option, Some, None, if◌then◌else◌, nat_lt, length, refl, ap, sym, arith}
use Rattle.std.proofs.lemmas.Bool.Decides.{nat_tests}
use Rattle.part_store.specs.Shelves.{one_if}
use Rattle.part_store.specs.Store.{Stored}
use Rattle.std.specs.Option.{is_some}
use Rattle.partial_build.specs.Construction.{Construction}
use Rattle.log_levels.specs.Slots.{Slots, IsIdle}
use Rattle.log_levels.specs.Trades.{used_in, used_at, AreLent, Trades}
use Rattle.log_method.specs.Retired.{used_of, GivesOneBack}

module _ {P Item : Type 0} where
  used_none : (k : ℕ) (levels : List (Slots P Item)) → used_of levels ≡ 0 → used_at k levels ≡ 0
  used_none k [] none = refl
  used_none k (l ∷ above) none =
      let here : used_in l ≡ 0 = omega (arith, none) in rw here (unless (k == l.level) (used_none k above (omega (arith, none))))
    where
      unless : (b : Bool) {n : ℕ} → n ≡ 0 → (if b then 0 else 0) + n ≡ 0
      unless true none = omega (arith, none)
      unless false none = omega (arith, none)

  -- there is no level
  pub gives_none : (levels : List (Slots P Item)) → used_of levels ≡ 0 → GivesOneBack levels levels
  gives_none levels none = record { one = omega (arith, none); at = λ some. absurd (omega (arith, none, some)) }

  -- a part of a level above is given back
  pub gives_above : (l : Slots P Item) (above above' : List (Slots P Item)) → 0 < used_of above → GivesOneBack above above'
      → GivesOneBack (l ∷ above) (l ∷ above')
  gives_above l above above' some h = record {
    one = omega (arith, some, h.one);
    at = λ all k.
        let up : nat_lt 0 (used_of above) ≡ true = grind (arith, nat_tests, some) in
        rw up (omega (arith, h.at some k));
  }

  -- a part of the lowest of these levels is given back, since none above has any
  pub gives_here : (l l' : Slots P Item) (above above' : List (Slots P Item)) → used_of above ≡ 0 → used_of above' ≡ 0 → l'.level ≡ l.level
      → used_in l' ≡ used_in l - 1 → GivesOneBack (l ∷ above) (l' ∷ above')
  gives_here l l' above above' none none' level one = record {
    one = omega (arith, none, none', one);
    at = λ all k.
        let up : nat_lt 0 (used_of above) ≡ false = grind (arith, nat_tests, none) in
        let less : used_in l' + 1 ≡ used_in l = omega (arith, one, none, all) in
        rw (up, level) (at_level (k == l.level) (used_in l) (used_in l') (used_at k above) (used_at k above') less (used_none k above none) (used_none k above' none'));
  }
    where
      at_level : (b : Bool) (m m' n n' : ℕ) → m' + 1 ≡ m → n ≡ 0 → n' ≡ 0 → (if b then m' else 0) + n' + one_if b ≡ (if b then m else 0) + n
      at_level true m m' n n' less none none' = omega (arith, less, none, none')
      at_level false m m' n n' less none none' = omega (arith, none, none')

  -- what levels above one have is lent, as what all have
  pub lent_above : (l : Slots P Item) (above : List (Slots P Item)) (store : Stored) → AreLent (l ∷ above) store → AreLent above store
  lent_above l above store h = record { builders = λ k. omega (arith, h.builders k); tables = λ k. omega (arith, h.tables k) }

  -- and so is what that one has, after moves of those above
  pub lent_here : (l : Slots P Item) (above above' : List (Slots P Item)) (store store' : Stored) → Trades above store above' store'
      → AreLent (l ∷ above) store → AreLent (l ∷ []) store'
  lent_here l above above' store store' moves h = record {
    builders = λ k. omega (arith, moves.builders k, h.builders k);
    tables = λ k. omega (arith, moves.tables k, h.tables k);
  }

  pub moves_above : (l : Slots P Item) (above above' : List (Slots P Item)) (store store' : Stored) → Trades above store above' store'
      → Trades (l ∷ above) store (l ∷ above') store'
  moves_above l above above' store store' moves = record {
    keeps = moves.keeps;
    builders = λ k. omega (arith, moves.builders k);
    tables = λ k. omega (arith, moves.tables k);
  }

  -- moves of levels, and then of the one below
  pub moves_both : (l l' : Slots P Item) (above above' : List (Slots P Item)) (a b c : Stored) → Trades above a above' b
      → Trades (l ∷ []) b (l' ∷ []) c → Trades (l ∷ above) a (l' ∷ above') c
  moves_both l l' above above' a b c h k = record {
    keeps = record {
      builders = λ n. k.keeps.builders n ∙ h.keeps.builders n;
      tables = λ n. k.keeps.tables n ∙ h.keeps.tables n;
    };
    builders = λ n. omega (arith, h.builders n, k.builders n);
    tables = λ n. omega (arith, h.tables n, k.tables n);
  }

  pub moves_none : (levels : List (Slots P Item)) (store : Stored) → Trades levels store levels store
  moves_none levels store = record {
    keeps = record { builders = λ k. refl; tables = λ k. refl };
    builders = λ k. refl;
    tables = λ k. refl;
  }

  -- whether no part is left
  pub idle_all : (l : Slots P Item) (above : List (Slots P Item)) → IsIdle l → (used_of above == 0) ≡ (used_of (l ∷ above) == 0)
  idle_all l above idle =
      let none : used_in l ≡ 0 = omega (arith, ap length idle.no_parts, ap (λ o. one_if (is_some o)) idle.no_construction) in
      ap (λ n. n == 0) (omega (arith, none))

  pub busy_one : (l : Slots P Item) (above : List (Slots P Item)) → (IsIdle l → ⊥) → false ≡ (used_of (l ∷ above) == 0)
  busy_one l above busy =
      let some : 0 < used_in l =
      used_some l.parts l.construction (λ no_parts no_construction. busy (record { no_parts = no_parts; no_construction = no_construction })) in
      grind (arith, nat_tests, some)
    where
      used_some : (ps : List P) (o : Option (Construction Item)) → (ps ≡ [] → o ≡ None → ⊥) → 0 < length ps + one_if (is_some o)
      used_some [] None both = absurd (both refl refl)
      used_some [] (Some x) both = omega arith
      used_some (p ∷ ps) o both = omega arith

pub some_left : (n : ℕ) {b : Bool} → b ≡ nat_lt 0 n → b ≡ true → 0 < n
some_left n is left = grind (arith, nat_tests, sym is ∙ left)

pub none_left : (n : ℕ) {b : Bool} → b ≡ nat_lt 0 n → b ≡ false → n ≡ 0
none_left n is left = grind (arith, nat_tests, sym is ∙ left)

-- a level says whether it gave a part back
module _ (b : Bool) (m m' : ℕ) (one : m' + one_if b ≡ m) (none : b ≡ false → m ≡ 0) where
  pub given_one : m' ≡ m - 1
  given_one = of b one none
    where
      of : (b : Bool) → m' + one_if b ≡ m → (b ≡ false → m ≡ 0) → m' ≡ m - 1
      of true one none = omega (arith, one)
      of false one none = omega (arith, one, none refl)

  pub given_if : (n : ℕ) → n ≡ 0 → b ≡ nat_lt 0 (m + n)
  given_if n nothing = of b one none
    where
      of : (b : Bool) → m' + one_if b ≡ m → (b ≡ false → m ≡ 0) → b ≡ nat_lt 0 (m + n)
      of true one none = grind (arith, nat_tests, one, nothing)
      of false one none = grind (arith, nat_tests, none refl, nothing)
