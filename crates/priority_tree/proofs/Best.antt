-- The best of some entries.
use Rattle.std.proofs.Common.{◌≡◌, Bool, true, false, cond, not, IsTrue, List, [], ◌∷◌, ◌++◌, map, Option, Some, None, refl, sym, ap, ◌∙◌}
use Rattle.std.specs.Prelude.{MatchOption, slice_get}
use Rattle.std.specs.List.{AllByRecursion, filter}
use Rattle.std.specs.Option.{option_to_list}
use Rattle.std.proofs.lemmas.Bool.{both_ways}
use Rattle.std.proofs.lemmas.List.{map-append}
use Rattle.std.proofs.lemmas.List.Elements.{filter-append}
use Rattle.query_laws.proofs.Permutations.{Permuted-sym}
use Rattle.map_model.specs.Found.{insert_by, sorted_by}
use Rattle.map_shapes.specs.declared.peak.Peak.{Peak}
use Rattle.map_shapes.specs.Found.{higher_le}
use Rattle.map_questions.specs.FirstFew.{first, first_of_both}
use Rattle.map_questions.specs.FirstFewLaws.{IsDecomposable-first, Permuted-sorted_by}
use Rattle.map_questions.specs.QuestionLaws.{IsTotalOrder-higher_le}
use Rattle.query_laws.specs.Decomposable.{IsDecomposable}
use Rattle.priority_tree.specs.declared.entry.Entry.{Entry}
use Rattle.priority_tree.specs.Entries.{peak_of, best_of, IsOver}
use Rattle.priority_tree.proofs.EntryLemmas.{each-Permuted}

laws : IsDecomposable (first higher_le) (first_of_both higher_le) None (λ a. Unit {0})
laws = IsDecomposable-first IsTotalOrder-higher_le

abbrev join : Option Peak → Option Peak → Option Peak
join a b = first_of_both higher_le a b

module _ (test : Entry → Bool) where
  -- of two lists, one after the other
  pub joined_both : (t : Option Peak) (es fs : List Entry)
      → join (join t (best_of (filter test es))) (best_of (filter test fs)) ≡ join t (best_of (filter test (es ++ fs)))
  joined_both t es fs =
      laws.associative t (best_of (filter test es)) (best_of (filter test fs)) tt tt tt
      ∙ ap (join t) (sym (ap (first higher_le) (ap (map peak_of) (filter-append test es fs) ∙ map-append peak_of (filter test es) (filter test fs))
      ∙ laws.of_both (map peak_of (filter test es)) (map peak_of (filter test fs))))

  pub joined_none : (t : Option Peak) (es : List Entry) → filter test es ≡ [] → t ≡ join t (best_of (filter test es))
  joined_none t es none = sym (ap (λ l. join t (best_of l)) none ∙ laws.neutral t tt)

abbrev over : Peak → Peak → Type 0
over p q = IsTrue (higher_le p q)

-- a peak before which none comes is the first
put_in : (p : Peak) (qs : List Peak) → AllByRecursion (over p) qs → slice_get (insert_by higher_le p qs) 0 ≡ Some p
put_in p [] h = refl
put_in p (q ∷ qs) h = ap (λ b. slice_get (cond b (p ∷ q ∷ qs) (q ∷ insert_by higher_le p qs)) 0) h.0

first_over : (p : Peak) (ps : List Peak) → AllByRecursion (over p) ps → first higher_le (p ∷ ps) ≡ Some p
first_over p ps h = put_in p (sorted_by higher_le ps) (each-Permuted (over p) (Permuted-sym (Permuted-sorted_by IsTotalOrder-higher_le ps)) h)

over_front : (p : Peak) (qs : List Peak) → AllByRecursion (over p) qs → AllByRecursion (over p) (option_to_list (slice_get qs 0))
over_front p [] h = tt
over_front p (q ∷ qs) h = (h.0, tt)

over_first : (p : Peak) (ps : List Peak) → AllByRecursion (over p) ps → AllByRecursion (over p) (option_to_list (first higher_le ps))
over_first p ps h = over_front p (sorted_by higher_le ps) (each-Permuted (over p) (Permuted-sym (Permuted-sorted_by IsTotalOrder-higher_le ps)) h)

over_kept : (p : Peak) (e : Entry) (es : List Entry) (b : Bool) → over p (peak_of e) → AllByRecursion (over p) (map peak_of es)
    → AllByRecursion (over p) (map peak_of (cond b (e ∷ es) es))
over_kept p e es true h k = (h, k)
over_kept p e es false h k = k

-- what is over entries is over those that pass a test
over_filtered : (p : Peak) (test : Entry → Bool) (es : List Entry) → AllByRecursion (λ x. over p (peak_of x)) es → AllByRecursion (over p) (map peak_of (filter test es))
over_filtered p test [] h = tt
over_filtered p test (e ∷ es) h = over_kept p e (filter test es) (test e) h.0 (over_filtered p test es h.1)

over_better : (p : Peak) (e : Entry) (es : List Entry) → over p (peak_of e) → IsOver e es → AllByRecursion (λ x. over p (peak_of x)) es
over_better p e [] h k = tt
over_better p e (x ∷ xs) h k = (IsTotalOrder-higher_le.transitive p (peak_of e) (peak_of x) h k.0, over_better p e xs h k.1)

-- where the first of some is in the strip, it is the best there
pub best_here : (test : Entry → Bool) (e : Entry) (es : List Entry) → test e ≡ true → IsOver e es → best_of (filter test (e ∷ es)) ≡ Some (peak_of e)
best_here test e es passes is_over =
    ap (λ b. best_of (cond b (e ∷ filter test es) (filter test es))) passes
    ∙ first_over (peak_of e) (map peak_of (filter test es)) (over_filtered (peak_of e) test es is_over)

-- where it doesn't come before the best so far, none of them does
best_stays : (b : Peak) (test : Entry → Bool) (es : List Entry) → AllByRecursion (λ x. over b (peak_of x)) es → join (Some b) (best_of (filter test es)) ≡ Some b
best_stays b test es h = first_over b (option_to_list (best_of (filter test es))) (over_first b (map peak_of (filter test es)) (over_filtered b test es h))

not_false : (b : Bool) → not b ≡ false → b ≡ true
not_false true h = refl
not_false false h = absurd (both_ways true h refl)

pub joined_worse : (test : Entry → Bool) (t : Option Peak) (beats : Bool) (e : Entry) (es : List Entry)
    → MatchOption t (IsTrue beats) (λ best. beats ≡ not (higher_le best (peak_of e))) → beats ≡ false → IsOver e es
    → t ≡ join t (best_of (filter test (e ∷ es)))
joined_worse test None beats e es is worse is_over = absurd (both_ways beats worse is)
joined_worse test (Some b) beats e es is worse is_over =
    let before : over b (peak_of e) = not_false (higher_le b (peak_of e)) (sym is ∙ worse) in
    sym (best_stays b test (e ∷ es) (before, over_better b e es before is_over))

-- ---- what a walk joins

-- where the first point is in the strip
pub joined_here : (test : Entry → Bool) (old new : Option Peak) (peak : Peak) (e : Entry) (es all : List Entry) → all ≡ e ∷ es → IsOver e es → test e ≡ true
    → peak ≡ peak_of e → new ≡ join old (Some peak) → new ≡ join old (best_of (filter test all))
joined_here test old new peak e es all is is_over passes peak_is joined =
    joined ∙ ap (λ (q : Peak). join old (Some q)) peak_is ∙ ap (join old) (sym (best_here test e es passes is_over)) ∙ ap (λ l. join old (best_of (filter test l))) (sym is)

-- where it isn't, its halves one after the other
pub joined_halves : (test : Entry → Bool) (old mid new : Option Peak) (e : Entry) (es fs all : List Entry) → all ≡ e ∷ (es ++ fs) → test e ≡ false
    → mid ≡ join old (best_of (filter test es)) → new ≡ join mid (best_of (filter test fs)) → new ≡ join old (best_of (filter test all))
joined_halves test old mid new e es fs all is fails first second =
    second ∙ ap (λ t. join t (best_of (filter test fs))) first ∙ joined_both test old es fs
    ∙ ap (λ b. join old (best_of (cond b (e ∷ filter test (es ++ fs)) (filter test (es ++ fs))))) (sym fails)
    ∙ ap (λ l. join old (best_of (filter test l))) (sym is)

-- where it is no better than the best so far
pub joined_no_better : (test : Entry → Bool) (t : Option Peak) (beats : Bool) (e : Entry) (es all : List Entry) → all ≡ e ∷ es → IsOver e es
    → MatchOption t (IsTrue beats) (λ best. beats ≡ not (higher_le best (peak_of e))) → beats ≡ false → t ≡ join t (best_of (filter test all))
joined_no_better test t beats e es all is is_over match worse =
    joined_worse test t beats e es match worse is_over ∙ ap (λ l. join t (best_of (filter test l))) (sym is)

-- the slots of a leaf one after another
pub joined_slots : (test : Entry → Bool) (old mid new : Option Peak) (es fs all : List Entry) → all ≡ es ++ fs
    → mid ≡ join old (best_of (filter test es)) → new ≡ join mid (best_of (filter test fs)) → new ≡ join old (best_of (filter test all))
joined_slots test old mid new es fs all is first second =
    second ∙ ap (λ t. join t (best_of (filter test fs))) first ∙ joined_both test old es fs ∙ ap (λ l. join old (best_of (filter test l))) (sym is)

-- where the first of all is no better than the best so far
pub joined_all_worse : (test : Entry → Bool) (t : Option Peak) (beats : Bool) (e : Entry) (es : List Entry) → IsOver e es
    → MatchOption t (IsTrue beats) (λ best. beats ≡ not (higher_le best (peak_of e))) → beats ≡ false → t ≡ join t (best_of (filter test es))
joined_all_worse test None beats e es is_over is worse = absurd (both_ways beats worse is)
joined_all_worse test (Some b) beats e es is_over is worse =
    let before : over b (peak_of e) = not_false (higher_le b (peak_of e)) (sym is ∙ worse) in
    sym (best_stays b test es (over_better b e es before is_over))
