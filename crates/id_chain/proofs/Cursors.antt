-- What lies before a handle, where entries come and go.
use Rattle.std.proofs.Common.{◌≡◌, ◌≢◌, ℕ, true, false, List, [], ◌∷◌, ◌++◌, Option, None, Some, refl, sym, ap, ◌∙◌, arith}
use Rattle.std.proofs.lemmas.Bool.Decides.{nat_tests}
use Rattle.std.proofs.lemmas.Grind.{common_steps}
use Rattle.id_chain.specs.Chain.{Entry, is_linked, HandlesDiffer, item_at, before, after, up_to, IsCursor, before_cursor, without_handle, first_handle, last_handle}
use Rattle.id_chain.proofs.Entries.{is_linked-append, first_handle-linked, last_handle-linked}

module _ {I : Type 0} where
  -- what is linked before or after a handle is linked
  before-linked : (handle other : ℕ) (es : List (Entry I)) → is_linked other (before handle es) ≡ true → is_linked other es ≡ true
  before-linked handle other [] linked = linked
  before-linked handle other (e ∷ es) linked = grind (arith, nat_tests, before-linked handle other es)

  after-linked : (handle other : ℕ) (es : List (Entry I)) → is_linked other (after handle es) ≡ true → is_linked other es ≡ true
  after-linked handle other [] linked = linked
  after-linked handle other (e ∷ es) linked = grind (arith, nat_tests, after-linked handle other es)

  -- the neighbours of a handle are linked
  next-linked : (handle next : ℕ) (es : List (Entry I)) → first_handle (after handle es) ≡ Some next → is_linked next es ≡ true
  next-linked handle next es is = after-linked handle next es (first_handle-linked (after handle es) next is)

  pub IsCursor_next : (handle : ℕ) (es : List (Entry I)) (next : Option ℕ) → next ≡ first_handle (after handle es) → IsCursor next es
  IsCursor_next handle es None is = tt
  IsCursor_next handle es (Some next) is = next-linked handle next es (sym is)

  pub IsCursor_prev : (handle : ℕ) (es : List (Entry I)) (prev : Option ℕ) → prev ≡ last_handle (before handle es) → IsCursor prev es
  IsCursor_prev handle es None is = tt
  IsCursor_prev handle es (Some prev) is = before-linked handle prev es (last_handle-linked (before handle es) prev (sym is))

  -- before the next handle there is what is before a handle, and its entry
  before_first : (first : ℕ) (es : List (Entry I)) → first_handle es ≡ Some first → before first es ≡ []
  before_first first [] is = refl
  before_first first (e ∷ es) is = grind (arith, nat_tests)

  before-next : (handle next : ℕ) (es : List (Entry I)) → HandlesDiffer es → first_handle (after handle es) ≡ Some next → before next es ≡ up_to handle es
  before-next handle next [] differ is = refl
  before-next handle next (e ∷ es) differ is =
      grind (arith, nat_tests, common_steps, differ.0, first_handle-linked es next, before_first next es, next-linked handle next es, before-next handle next es differ.1)

  -- where there is no next one, the entries up to a handle are all
  up_to-end : (handle : ℕ) (es : List (Entry I)) → first_handle (after handle es) ≡ None → up_to handle es ≡ es
  up_to-end handle [] is = refl
  up_to-end handle (e ∷ []) is = grind (arith, nat_tests, common_steps)
  up_to-end handle (e ∷ f ∷ es) is = grind (arith, nat_tests, common_steps, up_to-end handle (f ∷ es))

  pub before_cursor_next : (handle : ℕ) (es : List (Entry I)) (next : Option ℕ) → HandlesDiffer es → next ≡ first_handle (after handle es) → before_cursor next es ≡ up_to handle es
  before_cursor_next handle es None differ is = sym (up_to-end handle es (sym is))
  before_cursor_next handle es (Some next) differ is = before-next handle next es differ (sym is)

  pub up_to_split : (handle : ℕ) (item : I) (es : List (Entry I)) → item_at handle es ≡ Some item → up_to handle es ≡ before handle es ++ record { handle = handle; item = item } ∷ []
  up_to_split handle item [] is = absurd (cc)
  up_to_split handle item (e ∷ es) is = grind (arith, nat_tests, common_steps, up_to_split handle item es)

  -- an unlinked entry leaves what is before another handle, but for itself
  pub before-without : (handle other : ℕ) (es : List (Entry I)) → other ≢ handle → before other (without_handle handle es) ≡ without_handle handle (before other es)
  before-without handle other [] apart = refl
  before-without handle other (e ∷ es) apart = grind (arith, nat_tests, common_steps, before-without handle other es)

  pub without_handle-other : (handle : ℕ) (es : List (Entry I)) → is_linked handle es ≡ false → without_handle handle es ≡ es
  without_handle-other handle [] none = refl
  without_handle-other handle (e ∷ es) none = grind (arith, nat_tests, common_steps, without_handle-other handle es)

  without_handle-up_to : (handle : ℕ) (es : List (Entry I)) → without_handle handle (up_to handle es) ≡ before handle es
  without_handle-up_to handle [] = refl
  without_handle-up_to handle (e ∷ es) = let rest = without_handle-up_to handle es in grind (arith, nat_tests, common_steps, rest)

  -- a handle isn't linked after itself
  after-other : (handle : ℕ) (es : List (Entry I)) → HandlesDiffer es → is_linked handle (after handle es) ≡ false
  after-other handle [] differ = refl
  after-other handle (e ∷ es) differ = let rest = after-other handle es differ.1 in grind (arith, nat_tests, rest, differ.0)

  pub unlinked-without : (handle : ℕ) (es : List (Entry I)) → HandlesDiffer es → is_linked handle (without_handle handle es) ≡ false
  unlinked-without handle [] differ = refl
  unlinked-without handle (e ∷ es) differ = let rest = unlinked-without handle es differ.1 in grind (arith, nat_tests, common_steps, rest, differ.0)

  pub others-without : (handle other : ℕ) (es : List (Entry I)) → other ≢ handle
      → (is_linked other (without_handle handle es) ≡ is_linked other es) × (item_at other (without_handle handle es) ≡ item_at other es)
  others-without handle other [] apart = (refl, refl)
  others-without handle other (e ∷ es) apart =
      let rest = others-without handle other es apart in
      (grind (arith, nat_tests, common_steps, rest.0), grind (arith, nat_tests, common_steps, rest.1))

  pub after-without : (handle other : ℕ) (es : List (Entry I)) → HandlesDiffer es → other ≢ handle → after other (without_handle handle es) ≡ without_handle handle (after other es)
  after-without handle other [] differ apart = refl
  after-without handle other (e ∷ es) differ apart =
      let rest = after-without handle other es differ.1 apart in
      grind (arith, nat_tests, common_steps, rest, differ.0, after-linked other handle es, without_handle-other handle (after other es))

  -- a cursor at an unlinked entry goes on to the next one: what was before it is before that one
  pub next-without : (handle : ℕ) (es : List (Entry I)) → HandlesDiffer es
      → IsCursor (first_handle (after handle es)) (without_handle handle es) × (before_cursor (first_handle (after handle es)) (without_handle handle es) ≡ before handle es)
  next-without handle es differ = go (first_handle (after handle es)) refl
    where
      go : (next : Option ℕ) → first_handle (after handle es) ≡ next → IsCursor next (without_handle handle es) × (before_cursor next (without_handle handle es) ≡ before handle es)
      go None is = (tt, ap (without_handle handle) (sym (up_to-end handle es is)) ∙ without_handle-up_to handle es)
      go (Some next) is =
          let linked = first_handle-linked (after handle es) next is in
          let none = after-other handle es differ in
          let apart : next ≢ handle = λ same. grind (arith, nat_tests) in (
            (others-without handle next es apart).0 ∙ next-linked handle next es is,
            before-without handle next es apart ∙ ap (without_handle handle) (before-next handle next es differ is) ∙ without_handle-up_to handle es,
          )

  -- an appended entry comes after every cursor
  pub before-append : (handle : ℕ) (es : List (Entry I)) (e : Entry I) → is_linked handle es ≡ true → before handle (es ++ e ∷ []) ≡ before handle es
  before-append handle [] e linked = absurd (cc)
  before-append handle (x ∷ es) e linked = grind (arith, nat_tests, common_steps, before-append handle es e)

  pub after-append : (handle : ℕ) (es : List (Entry I)) (e : Entry I) → is_linked handle es ≡ true → after handle (es ++ e ∷ []) ≡ after handle es ++ e ∷ []
  after-append handle [] e linked = absurd (cc)
  after-append handle (x ∷ es) e linked = grind (arith, nat_tests, common_steps, after-append handle es e)

  pub others-append : (handle : ℕ) (es : List (Entry I)) (e : Entry I) → is_linked handle es ≡ true
      → (is_linked handle (es ++ e ∷ []) ≡ true) × (item_at handle (es ++ e ∷ []) ≡ item_at handle es)
  others-append handle [] e linked = absurd (cc)
  others-append handle (x ∷ es) e linked =
      (grind (arith, nat_tests, common_steps, is_linked-append), grind (arith, nat_tests, common_steps, others-append handle es e))

  pub linked-append : (es : List (Entry I)) (e : Entry I) → is_linked e.handle (es ++ e ∷ []) ≡ true
  linked-append es e = grind (arith, nat_tests, is_linked-append e.handle es (e ∷ []))
