-- Laws of live entries: each has a place of its own, and one of them dies.
use Rattle.std.proofs.Common.{◌≡◌, ◌≢◌, ℕ, zero, suc, ◌+◌, ◌<◌, ◌≤◌, Bool, true, false, cond, not, ◌==◌, List, [], ◌∷◌, Some, slice_get, set, refl, sym, ap, ◌∙◌, arith, inl, inr, subst}
use Rattle.std.specs.List.{AllByRecursion, filter}
use Rattle.std.proofs.lemmas.Bool.Decides.{nat_tests}
use Rattle.query_laws.specs.Permuted.{Permuted, nothing, same_head, swapped_heads, composed}
use Rattle.query_laws.proofs.Permutations.{Permuted-sym, Permuted-filter}
use Rattle.map_shapes.specs.declared.point.Point.{Point}
use Rattle.priority_tree.specs.declared.entry.Entry.{Entry}
use Rattle.priority_tree.specs.Entries.{IsAmong}
use Rattle.priority_tree.specs.Live.{entry_at, live_entries}
use Rattle.priority_tree.proofs.EntryLemmas.{each-Permuted}

-- ---- places

abbrev from : ℕ → Entry → Type 0
from k e = k ≤ e.place

each_weaker : (k l : ℕ) (es : List Entry) → k ≤ l → AllByRecursion (from l) es → AllByRecursion (from k) es
each_weaker k l [] le h = tt
each_weaker k l (e ∷ es) le h = (omega (arith, h.0), each_weaker k l es le h.1)

places_from : (k : ℕ) (flags : List Bool) (points : List Point) → AllByRecursion (from k) (live_entries k flags points)
places_from k [] points = tt
places_from k (true ∷ flags) [] = tt
places_from k (false ∷ flags) [] = tt
places_from k (true ∷ flags) (p ∷ points) = (omega arith, each_weaker k (suc k) (live_entries (suc k) flags points) (omega arith) (places_from (suc k) flags points))
places_from k (false ∷ flags) (p ∷ points) = each_weaker k (suc k) (live_entries (suc k) flags points) (omega arith) (places_from (suc k) flags points)

among_from : (k : ℕ) (es : List Entry) (x : Entry) → AllByRecursion (from k) es → IsAmong x es → k ≤ x.place
among_from k [] x h among = absurd among
among_from k (e ∷ es) x h (inl is) = omega (arith, h.0, ap (λ (z : Entry). z.place) is)
among_from k (e ∷ es) x h (inr among) = among_from k es x h.1 among

-- ---- a live entry is that of the point at its place

same_some : (p q : Point) → Some q ≡ Some p → q ≡ p
same_some p q e = cc

pub live_known : (k : ℕ) (flags : List Bool) (points : List Point) (x : Entry) (j : ℕ) (p : Point) → IsAmong x (live_entries k flags points)
    → k + j ≡ x.place → slice_get points j ≡ Some p → x ≡ entry_at x.place p
live_known k [] points x j p among at there = absurd among
live_known k (true ∷ flags) [] x j p among at there = absurd among
live_known k (false ∷ flags) [] x j p among at there = absurd among
live_known k (true ∷ flags) (q ∷ points) x zero p (inl is) at there =
    let place : x.place ≡ k = ap (λ (z : Entry). z.place) is in
    is ∙ ap (λ (r : Point). entry_at k r) (same_some p q there) ∙ ap (λ (n : ℕ). entry_at n p) (sym place)
live_known k (true ∷ flags) (q ∷ points) x zero p (inr among) at there =
    absurd (omega (arith, at, among_from (suc k) (live_entries (suc k) flags points) x (places_from (suc k) flags points) among))
live_known k (true ∷ flags) (q ∷ points) x (suc j) p (inl is) at there = absurd (omega (arith, at, ap (λ (z : Entry). z.place) is))
live_known k (true ∷ flags) (q ∷ points) x (suc j) p (inr among) at there = live_known (suc k) flags points x j p among (omega arith) there
live_known k (false ∷ flags) (q ∷ points) x zero p among at there =
    absurd (omega (arith, at, among_from (suc k) (live_entries (suc k) flags points) x (places_from (suc k) flags points) among))
live_known k (false ∷ flags) (q ∷ points) x (suc j) p among at there = live_known (suc k) flags points x j p among (omega arith) there

pub live_among : (k : ℕ) (flags : List Bool) (points : List Point) (j : ℕ) (p : Point) → slice_get flags j ≡ Some true → slice_get points j ≡ Some p
    → IsAmong (entry_at (k + j) p) (live_entries k flags points)
live_among k [] points j p live there = cc
live_among k (b ∷ flags) [] j p live there = cc
live_among k (true ∷ flags) (q ∷ points) zero p live there =
    inl (ap (λ (r : Point). entry_at (k + 0) r) (sym (same_some p q there)) ∙ ap (λ (n : ℕ). entry_at n q) (omega arith))
live_among k (false ∷ flags) (q ∷ points) zero p live there = cc
live_among k (true ∷ flags) (q ∷ points) (suc j) p live there =
    inr (subst (λ (n : ℕ). IsAmong (entry_at n p) (live_entries (suc k) flags points)) (omega arith) (live_among (suc k) flags points j p live there))
live_among k (false ∷ flags) (q ∷ points) (suc j) p live there =
    subst (λ (n : ℕ). IsAmong (entry_at n p) (live_entries (suc k) flags points)) (omega arith) (live_among (suc k) flags points j p live there)

-- ---- one dies

abbrev other : ℕ → Entry → Bool
other k e = not (e.place == k)

other_of : (k n : ℕ) → n ≢ k → not (n == k) ≡ true
other_of k n differs = grind (arith, nat_tests, differs)

not_other : (k n : ℕ) → n ≡ k → not (n == k) ≡ false
not_other k n same = grind (arith, nat_tests, same)

kept_later : (k l : ℕ) (es : List Entry) → k < l → AllByRecursion (from l) es → filter (other k) es ≡ es
kept_later k l [] less h = refl
kept_later k l (e ∷ es) less h =
    ap (λ b. cond b (e ∷ filter (other k) es) (filter (other k) es)) (other_of k e.place (λ is. absurd (omega (arith, h.0, is)))) ∙ ap (λ l. e ∷ l) (kept_later k l es less h.1)

pub live_without : (k : ℕ) (flags : List Bool) (points : List Point) (j at : ℕ) → k + j ≡ at → slice_get flags j ≡ Some true
    → filter (other at) (live_entries k flags points) ≡ live_entries k (set flags j false) points
live_without k [] points j at is live = cc
live_without k (true ∷ flags) [] zero at is live = refl
live_without k (false ∷ flags) [] zero at is live = refl
live_without k (true ∷ flags) [] (suc j) at is live = refl
live_without k (false ∷ flags) [] (suc j) at is live = refl
live_without k (true ∷ flags) (q ∷ points) zero at is live =
    ap (λ b. cond b (entry_at k q ∷ filter (other at) (live_entries (suc k) flags points)) (filter (other at) (live_entries (suc k) flags points)))
    (not_other at k (omega (arith, is)))
    ∙ kept_later at (suc k) (live_entries (suc k) flags points) (omega (arith, is)) (places_from (suc k) flags points)
live_without k (false ∷ flags) (q ∷ points) zero at is live = kept_later at (suc k) (live_entries (suc k) flags points) (omega (arith, is)) (places_from (suc k) flags points)
live_without k (true ∷ flags) (q ∷ points) (suc j) at is live =
    ap (λ b. cond b (entry_at k q ∷ filter (other at) (live_entries (suc k) flags points)) (filter (other at) (live_entries (suc k) flags points)))
    (other_of at k (λ same. absurd (omega (arith, is, same))))
    ∙ ap (λ l. entry_at k q ∷ l) (live_without (suc k) flags points j at (omega (arith, is)) live)
live_without k (false ∷ flags) (q ∷ points) (suc j) at is live = live_without (suc k) flags points j at (omega (arith, is)) live

-- no two of these have the same place
abbrev IsDistinct : List Entry → Type 0
IsDistinct [] = Unit {0}
IsDistinct (e ∷ es) = AllByRecursion (λ x. x.place ≢ e.place) es × IsDistinct es

distinct-Permuted : {xs ys : List Entry} → Permuted xs ys → IsDistinct xs → IsDistinct ys
distinct-Permuted nothing h = h
distinct-Permuted (same_head x p) h = (each-Permuted (λ (y : Entry). y.place ≢ x.place) p h.0, distinct-Permuted p h.1)
distinct-Permuted (swapped_heads x y xs) h = ((λ is. h.0.0 (sym is), h.1.0), (h.0.1, h.1.1))
distinct-Permuted (composed p q) h = distinct-Permuted q (distinct-Permuted p h)

each_differs : (k l : ℕ) (es : List Entry) → k < l → AllByRecursion (from l) es → AllByRecursion (λ x. x.place ≢ k) es
each_differs k l [] less h = tt
each_differs k l (e ∷ es) less h = (λ is. absurd (omega (arith, h.0, is)), each_differs k l es less h.1)

live_distinct : (k : ℕ) (flags : List Bool) (points : List Point) → IsDistinct (live_entries k flags points)
live_distinct k [] points = tt
live_distinct k (true ∷ flags) [] = tt
live_distinct k (false ∷ flags) [] = tt
live_distinct k (true ∷ flags) (p ∷ points) =
    (each_differs k (suc k) (live_entries (suc k) flags points) (omega arith) (places_from (suc k) flags points), live_distinct (suc k) flags points)
live_distinct k (false ∷ flags) (p ∷ points) = live_distinct (suc k) flags points

kept_others : (k : ℕ) (es : List Entry) → AllByRecursion (λ x. x.place ≢ k) es → filter (other k) es ≡ es
kept_others k [] h = refl
kept_others k (e ∷ es) h =
    ap (λ b. cond b (e ∷ filter (other k) es) (filter (other k) es)) (other_of k e.place h.0) ∙ ap (λ l. e ∷ l) (kept_others k es h.1)

-- so what is left is what is live then
pub Permuted-died : (e : Entry) (new old : List Entry) (flags : List Bool) (points : List Point) → Permuted (e ∷ new) old → Permuted old (live_entries 0 flags points)
    → slice_get flags e.place ≡ Some true → Permuted new (live_entries 0 (set flags e.place false) points)
Permuted-died e new old flags points taken all live =
    let p : Permuted (e ∷ new) (live_entries 0 flags points) = composed taken all in
    let distinct : IsDistinct (e ∷ new) = distinct-Permuted (Permuted-sym p) (live_distinct 0 flags points) in
    let head : filter (other e.place) (e ∷ new) ≡ filter (other e.place) new =
    ap (λ b. cond b (e ∷ filter (other e.place) new) (filter (other e.place) new)) (not_other e.place e.place refl) in
    subst (λ (l : List Entry). Permuted l (live_entries 0 (set flags e.place false) points)) (head ∙ kept_others e.place new distinct.0)
    (subst (λ (l : List Entry). Permuted (filter (other e.place) (e ∷ new)) l) (live_without 0 flags points e.place e.place (omega arith) live)
    (Permuted-filter (other e.place) p))

-- there is a point at the place of a live entry
pub live_point : (k : ℕ) (flags : List Bool) (points : List Point) (x : Entry) → IsAmong x (live_entries k flags points)
    → (p : Point) × (j : ℕ) × (k + j ≡ x.place) × (slice_get points j ≡ Some p)
live_point k [] points x among = absurd among
live_point k (true ∷ flags) [] x among = absurd among
live_point k (false ∷ flags) [] x among = absurd among
live_point k (true ∷ flags) (q ∷ points) x (inl is) = (q, 0, omega (arith, ap (λ (z : Entry). z.place) is), refl)
live_point k (true ∷ flags) (q ∷ points) x (inr among) =
    let found = live_point (suc k) flags points x among in (found.0, suc found.1, omega (arith, found.2), found.3)
live_point k (false ∷ flags) (q ∷ points) x among =
    let found = live_point (suc k) flags points x among in (found.0, suc found.1, omega (arith, found.2), found.3)
