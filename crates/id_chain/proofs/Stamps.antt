-- Stamps that rise along a chain, for callers.
use Rattle.std.proofs.Common.{◌≡◌, ℕ, ◌+◌, ◌≤◌, List, [], ◌∷◌, ◌++◌, Some, filter, nat_lt, refl, arith}
use Rattle.std.proofs.lemmas.Bool.Decides.{nat_tests}
use Rattle.std.proofs.lemmas.Grind.{common_steps}
use Rattle.id_chain.specs.Chain.{Entry, is_linked, item_at, before}
use Rattle.id_chain.specs.StampsRise.{StampsRise}

module _ {I : Type 0} (stamp : I → ℕ) where
  pub StampsRise-lower : (low from : ℕ) (es : List (Entry I)) (high : ℕ) → low ≤ from → StampsRise stamp from es high → StampsRise stamp low es high
  StampsRise-lower low from [] high le rise = omega arith
  StampsRise-lower low from (e ∷ es) high le rise = (omega (arith, rise.0), rise.1)

  -- an entry with a later stamp goes to the end
  pub StampsRise-append : (low : ℕ) (es : List (Entry I)) (high : ℕ) (e : Entry I) → high ≤ stamp e.item → StampsRise stamp low es high
      → StampsRise stamp low (es ++ e ∷ []) (stamp e.item + 1)
  StampsRise-append low [] high e le rise = (omega arith, omega arith)
  StampsRise-append low (x ∷ es) high e le rise = (rise.0, StampsRise-append (stamp x.item + 1) es high e le rise.1)

  -- an entry taken out leaves them rising
  pub StampsRise-without : (low : ℕ) (front : List (Entry I)) (e : Entry I) (back : List (Entry I)) (high : ℕ) → StampsRise stamp low (front ++ e ∷ back) high
      → StampsRise stamp low (front ++ back) high
  StampsRise-without low [] e back high rise = StampsRise-lower low (stamp e.item + 1) back high (omega (arith, rise.0)) rise.1
  StampsRise-without low (x ∷ front) e back high rise = (rise.0, StampsRise-without (stamp x.item + 1) front e back high rise.1)

  -- no stamp is below a number that they rise from
  none_below : (bound low : ℕ) (es : List (Entry I)) (high : ℕ) → bound ≤ low → StampsRise stamp low es high → filter (λ e. nat_lt (stamp e.item) bound) es ≡ []
  none_below bound low [] high le rise = refl
  none_below bound low (e ∷ es) high le rise =
      let rest = none_below bound (stamp e.item + 1) es high (omega (arith, rise.0)) rise.1 in
      grind (arith, nat_tests, common_steps, rise.0, rest)

  item_at-above : (handle low : ℕ) (item : I) (es : List (Entry I)) (high : ℕ) → StampsRise stamp low es high → item_at handle es ≡ Some item → low ≤ stamp item
  item_at-above handle low item [] high rise is = absurd (cc)
  item_at-above handle low item (e ∷ es) high rise is = grind (arith, nat_tests, rise.0, item_at-above handle (stamp e.item + 1) item es high rise.1)

  -- the entries before a handle are those of a smaller stamp
  pub before-by_stamp : (low high handle : ℕ) (item : I) (es : List (Entry I)) → StampsRise stamp low es high → item_at handle es ≡ Some item
      → before handle es ≡ filter (λ e. nat_lt (stamp e.item) (stamp item)) es
  before-by_stamp low high handle item [] rise is = refl
  before-by_stamp low high handle item (e ∷ es) rise is =
      grind (
        arith,
        nat_tests,
        common_steps,
        rise.0,
        none_below (stamp item) (stamp e.item + 1) es high,
        item_at-above handle (stamp e.item + 1) item es high rise.1,
        before-by_stamp (stamp e.item + 1) high handle item es rise.1,
      )

  -- one entry is before another exactly where its stamp is smaller
  pub is_before-by_stamp : (low high handle other : ℕ) (item other_item : I) (es : List (Entry I)) → StampsRise stamp low es high → item_at handle es ≡ Some item → item_at other es ≡ Some other_item
      → is_linked other (before handle es) ≡ nat_lt (stamp other_item) (stamp item)
  is_before-by_stamp low high handle other item other_item [] rise is other_is = absurd (cc)
  is_before-by_stamp low high handle other item other_item (e ∷ es) rise is other_is =
      grind (
        arith,
        nat_tests,
        common_steps,
        rise.0,
        item_at-above handle (stamp e.item + 1) item es high rise.1,
        item_at-above other (stamp e.item + 1) other_item es high rise.1,
        is_before-by_stamp (stamp e.item + 1) high handle other item other_item es rise.1,
      )
