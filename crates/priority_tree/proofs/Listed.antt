-- Identifiers of the entries that pass a test, one list after another.
use Rattle.std.proofs.Common.{◌≡◌, ℕ, ◌+◌, ◌<◌, ◌≤◌, Bool, true, false, cond, ◌&&◌, ◌||◌, ◌==◌, IsTrue, List, [], ◌∷◌, ◌++◌, length, refl, sym, ap, ◌∙◌, arith, subst, inl, inr, append-nil, append_assoc, length-append}
use Rattle.std.specs.Prelude.{nat_le, nat_lt}
use Rattle.std.specs.List.{filter}
use Rattle.std.proofs.lemmas.Bool.Decides.{nat_tests}
use Rattle.std.proofs.lemmas.List.{map-append}
use Rattle.std.proofs.lemmas.List.Elements.{filter-append}
use Rattle.priority_tree.specs.declared.entry.Entry.{Entry}
use Rattle.priority_tree.specs.declared.strip.Strip.{Strip}
use Rattle.priority_tree.specs.Entries.{IsAmong, IsOver, comes_first}
use Rattle.priority_tree.specs.Strips.{is_in, is_hit, ids_of}
use Rattle.priority_tree.proofs.StripLemmas.{filter_none}

module _ (test : Entry → Bool) where
  ids_both : (es fs : List Entry) → ids_of (filter test (es ++ fs)) ≡ ids_of (filter test es) ++ ids_of (filter test fs)
  ids_both es fs = ap ids_of (filter-append test es fs) ∙ map-append (λ (e : Entry). e.id) (filter test es) (filter test fs)

  pub listed_none : (t : List ℕ) (es : List Entry) → filter test es ≡ [] → t ≡ t ++ ids_of (filter test es)
  listed_none t es none = sym (ap (λ l. t ++ ids_of l) none ∙ append-nil t)

  pub listed_both : (old mid new : List ℕ) (es fs all : List Entry) → all ≡ es ++ fs → mid ≡ old ++ ids_of (filter test es) → new ≡ mid ++ ids_of (filter test fs)
      → new ≡ old ++ ids_of (filter test all)
  listed_both old mid new es fs all is first second =
      second ∙ ap (λ l. l ++ ids_of (filter test fs)) first ∙ append_assoc old (ids_of (filter test es)) (ids_of (filter test fs))
      ∙ ap (λ l. old ++ l) (sym (ids_both es fs)) ∙ ap (λ l. old ++ ids_of (filter test l)) (sym is)

  pub listed_halves : (old here mid new : List ℕ) (e : Entry) (es fs all : List Entry) → all ≡ e ∷ (es ++ fs) → here ≡ old ++ ids_of (filter test (e ∷ []))
      → mid ≡ here ++ ids_of (filter test es) → new ≡ mid ++ ids_of (filter test fs) → new ≡ old ++ ids_of (filter test all)
  listed_halves old here mid new e es fs all is at first second =
      listed_both old here new (e ∷ []) (es ++ fs) all is at (listed_both here mid new es fs (es ++ fs) refl first second)

  pub counted_halves : (e : Entry) (es fs all : List Entry) → all ≡ e ∷ (es ++ fs)
      → length (filter test all) ≡ length (filter test (e ∷ [])) + (length (filter test es) + length (filter test fs))
  counted_halves e es fs all is =
      ap (λ l. length (filter test l)) is ∙ ap length (filter-append test (e ∷ []) (es ++ fs) ∙ ap (λ l. filter test (e ∷ []) ++ l) (filter-append test es fs))
      ∙ length-append (filter test (e ∷ [])) (filter test es ++ filter test fs) ∙ ap (λ n. length (filter test (e ∷ [])) + n) (length-append (filter test es) (filter test fs))

-- none of the entries that another one is over is higher
over_among : (x e : Entry) (es : List Entry) → IsOver x es → IsAmong e es → IsTrue (comes_first x e)
over_among x e [] h among = absurd among
over_among x e (f ∷ fs) h (inl is) = subst (λ (y : Entry). IsTrue (comes_first x y)) (sym is) h.0
over_among x e (f ∷ fs) h (inr among) = over_among x e fs h.1 among

no_higher : (x e : Entry) → IsTrue (comes_first x e) → e.y ≤ x.y
no_higher x e h = by x.y e.y x.id e.id h
  where
    by : (a b i j : ℕ) → (nat_lt b a || ((a == b) && nat_le i j)) ≡ true → b ≤ a
    by a b i j h = grind (arith, nat_tests)

too_low : (b : Bool) (y z w : ℕ) → w ≤ z → z < y → (b && nat_le y w) ≡ false
too_low b y z w le less = grind (arith, nat_tests)

pub low_hits : (strip : Strip) (y : ℕ) (x : Entry) (es all : List Entry) → all ≡ x ∷ es → IsOver x es → x.y < y → filter (is_hit strip y) all ≡ []
low_hits strip y x es all is over less =
    ap (filter (is_hit strip y)) is ∙ filter_none (is_hit strip y) (x ∷ es) each
  where
    each : (e : Entry) → IsAmong e (x ∷ es) → is_hit strip y e ≡ false
    each e (inl same) = too_low (is_in strip e) y x.y e.y (omega (arith, ap (λ (z : Entry). z.y) same)) less
    each e (inr among) = too_low (is_in strip e) y x.y e.y (no_higher x e (over_among x e es over among)) less

-- a point in the strip that is high enough is a hit
hit_alone : (b : Bool) (y z : ℕ) (x : Entry) → b ≡ true → y ≤ z → length (cond (b && nat_le y z) (x ∷ []) []) ≡ 1
hit_alone b y z x is le = grind (arith, nat_tests)

pub cut_or_hit : (strip : Strip) (y c : ℕ) (x : Entry) → (is_in strip x ≡ false → 1 ≤ c) → y ≤ x.y → 1 ≤ c + length (filter (is_hit strip y) (x ∷ []))
cut_or_hit strip y c x cut high = by (is_in strip x) refl
  where
    by : (b : Bool) → is_in strip x ≡ b → 1 ≤ c + length (filter (is_hit strip y) (x ∷ []))
    by true is = omega (arith, hit_alone (is_in strip x) y x.y x is high)
    by false is = omega (arith, cut is)

-- what the test of a height means
pub higher : (y z : ℕ) → nat_le y z ≡ true → y ≤ z
higher y z is = grind (arith, nat_tests)

pub lower : (y z : ℕ) → nat_le y z ≡ false → z < y
lower y z is = grind (arith, nat_tests)
