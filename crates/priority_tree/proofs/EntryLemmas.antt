-- Laws of entries: which of them comes first, and which are among some.
use Rattle.std.proofs.Common.{◌≡◌, Bool, true, false, cond, IsTrue, List, [], ◌∷◌, ◌++◌, Option, Some, None, refl, sym, inl, inr, ◌⊎◌, subst}
use Rattle.std.specs.List.{AllByRecursion}
use Rattle.query_laws.specs.Permuted.{Permuted, nothing, same_head, swapped_heads, composed}
use Rattle.map_questions.specs.QuestionLaws.{IsTotalOrder-higher_le}
use Rattle.map_questions.specs.FirstFewLaws.{reflexive, otherwise}
use Rattle.priority_tree.specs.declared.entry.Entry.{Entry}
use Rattle.priority_tree.specs.Entries.{peak_of, comes_first, first_of, IsAmong, IsOver, IsFront}

pub comes_first-itself : (a : Entry) → IsTrue (comes_first a a)
comes_first-itself a = reflexive IsTotalOrder-higher_le (peak_of a)

pub comes_first-transitive : (a b c : Entry) → IsTrue (comes_first a b) → IsTrue (comes_first b c) → IsTrue (comes_first a c)
comes_first-transitive a b c h k = IsTotalOrder-higher_le.transitive (peak_of a) (peak_of b) (peak_of c) h k

pub comes_first-otherwise : (a b : Entry) → comes_first a b ≡ false → IsTrue (comes_first b a)
comes_first-otherwise a b h = otherwise IsTotalOrder-higher_le (peak_of a) (peak_of b) h

-- ---- among some

pub IsAmong-first : (e : Entry) (xs ys : List Entry) → IsAmong e xs → IsAmong e (xs ++ ys)
IsAmong-first e [] ys h = absurd h
IsAmong-first e (x ∷ xs) ys (inl is) = inl is
IsAmong-first e (x ∷ xs) ys (inr h) = inr (IsAmong-first e xs ys h)

pub IsAmong-second : (e : Entry) (xs ys : List Entry) → IsAmong e ys → IsAmong e (xs ++ ys)
IsAmong-second e [] ys h = h
IsAmong-second e (x ∷ xs) ys h = inr (IsAmong-second e xs ys h)

pub IsAmong-cases : (e : Entry) (xs ys : List Entry) → IsAmong e (xs ++ ys) → IsAmong e xs ⊎ IsAmong e ys
IsAmong-cases e [] ys h = inr h
IsAmong-cases e (x ∷ xs) ys (inl is) = inl (inl is)
IsAmong-cases e (x ∷ xs) ys (inr h) = elim (IsAmong-cases e xs ys h) [ inl l ↦ inl (inr l) | inr r ↦ inr r ]

pub IsAmong-Permuted : (e : Entry) {xs ys : List Entry} → Permuted xs ys → IsAmong e xs → IsAmong e ys
IsAmong-Permuted e nothing h = h
IsAmong-Permuted e (same_head x p) (inl is) = inl is
IsAmong-Permuted e (same_head x p) (inr h) = inr (IsAmong-Permuted e p h)
IsAmong-Permuted e (swapped_heads x y xs) (inl is) = inr (inl is)
IsAmong-Permuted e (swapped_heads x y xs) (inr (inl is)) = inl is
IsAmong-Permuted e (swapped_heads x y xs) (inr (inr h)) = inr (inr h)
IsAmong-Permuted e (composed p q) h = IsAmong-Permuted e q (IsAmong-Permuted e p h)

-- ---- over some

module _ {A : Type 0} (P : A → Type 0) where
  pub each-append : (xs ys : List A) → AllByRecursion P xs → AllByRecursion P ys → AllByRecursion P (xs ++ ys)
  each-append [] ys h k = k
  each-append (x ∷ xs) ys h k = (h.0, each-append xs ys h.1 k)

  pub each-first : (xs ys : List A) → AllByRecursion P (xs ++ ys) → AllByRecursion P xs
  each-first [] ys h = tt
  each-first (x ∷ xs) ys h = (h.0, each-first xs ys h.1)

  pub each-second : (xs ys : List A) → AllByRecursion P (xs ++ ys) → AllByRecursion P ys
  each-second [] ys h = h
  each-second (x ∷ xs) ys h = each-second xs ys h.1

  pub each-Permuted : {xs ys : List A} → Permuted xs ys → AllByRecursion P xs → AllByRecursion P ys
  each-Permuted nothing h = h
  each-Permuted (same_head x p) h = (h.0, each-Permuted p h.1)
  each-Permuted (swapped_heads x y xs) h = (h.1.0, (h.0, h.1.1))
  each-Permuted (composed p q) h = each-Permuted q (each-Permuted p h)

-- none of two lists comes before the entry, or none of the same in another order
abbrev over_by : Entry → Entry → Type 0
over_by e x = IsTrue (comes_first e x)

pub IsOver-append : (e : Entry) (xs ys : List Entry) → IsOver e xs → IsOver e ys → IsOver e (xs ++ ys)
IsOver-append e xs ys h k = each-append (over_by e) xs ys h k

pub IsOver-Permuted : (e : Entry) {xs ys : List Entry} → Permuted xs ys → IsOver e xs → IsOver e ys
IsOver-Permuted e p h = each-Permuted (over_by e) p h

pub IsOver-before : (a b : Entry) (es : List Entry) → IsTrue (comes_first a b) → IsOver b es → IsOver a es
IsOver-before a b [] h k = tt
IsOver-before a b (x ∷ xs) h k = (comes_first-transitive a b x h k.0, IsOver-before a b xs h k.1)

-- ---- the first

front_of_both : (b : Bool) (x y : Entry) (xs ys : List Entry) → comes_first x y ≡ b → IsAmong x xs → IsOver x xs → IsAmong y ys → IsOver y ys
    → IsFront (cond b (Some x) (Some y)) (xs ++ ys)
front_of_both true x y xs ys is in_first over_first in_second over_second =
    (IsAmong-first x xs ys in_first, each-append (over_by x) xs ys over_first (IsOver-before x y ys is over_second))
front_of_both false x y xs ys is in_first over_first in_second over_second =
    (IsAmong-second y xs ys in_second, each-append (over_by y) xs ys (IsOver-before y x xs (comes_first-otherwise x y is) over_first) over_second)

pub IsFront-first_of : (a b : Option Entry) (xs ys : List Entry) → IsFront a xs → IsFront b ys → IsFront (first_of a b) (xs ++ ys)
IsFront-first_of None b xs ys h k = subst (λ (l : List Entry). IsFront b (l ++ ys)) (sym h) k
IsFront-first_of (Some x) None xs ys h k =
    (IsAmong-first x xs ys h.0, each-append (over_by x) xs ys h.1 (subst (λ (l : List Entry). IsOver x l) (sym k) tt))
IsFront-first_of (Some x) (Some y) xs ys h k = front_of_both (comes_first x y) x y xs ys refl h.0 h.1 k.0 k.1
