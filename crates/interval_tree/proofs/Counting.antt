-- How many segments lie over a place: those that have begun, less those that have ended.
use Rattle.std.proofs.Common.{◌≡◌, ℕ, zero, suc, ◌+◌, ◌≤◌, Bool, true, false, cond, nat_le, nat_lt, ◌&&◌, List, [], ◌∷◌, length, map, take, refl, sym, ap, ◌∙◌, arith, get_or, min, ◌-◌, ◌^◌}
use Rattle.std.specs.List.{count_by, filter, items_where_true}
use Rattle.std.proofs.lemmas.Bool.Decides.{nat_tests}
use Rattle.std.proofs.lemmas.List.{length-map}
use Rattle.std.proofs.lemmas.List.Sums.{sum_by-cons, length-filter}
use Rattle.query_laws.proofs.Permutations.{Permuted-filter, Permuted-length}
use Rattle.weak_delete.specs.declared.place.Place.{Place}
use Rattle.weak_delete.specs.Places.{is_live}
use Rattle.builder_trait.specs.Parts.{Contents, IsPart, live_of}
use Rattle.builder_trait.specs.Rebuilding.{flags_reordered}
use Rattle.builder_trait.proofs.RebuildingLemmas.{length-reordered, length-places}
use Rattle.map_model.specs.Shape.{is_stabbed}
use Rattle.map_model.specs.State.{Item}
use Rattle.map_shapes.specs.Segment.{item_of_segment}
use Rattle.map_questions.specs.Questions.{stab_count}
use Rattle.map_shapes.specs.declared.segment.Segment.{Segment}
use Rattle.interval_tree.specs.Rows.{before, count_place, lives_of, lives_reordered}
use Rattle.interval_tree.specs.Queries.{is_over, has_begun, has_ended, hits, IsCut}
use Rattle.interval_tree.specs.QuestionLaws.{stabbed}
use Rattle.interval_tree.proofs.Hits.{kept-cut}
use Rattle.interval_tree.proofs.Orders.{Permuted-reordered}

-- as many places of a front are live as segments of it
counted : (flags : List Bool) (xs : List Segment) (k : ℕ) → length flags ≡ length xs
    → count_by is_live (take k (map count_place flags)) ≡ length (items_where_true (take k flags) (take k xs))
counted [] [] zero e = refl
counted [] [] (suc k) e = refl
counted [] (x ∷ xs) k e = absurd (omega arith)
counted (flag ∷ flags) [] k e = absurd (omega arith)
counted (flag ∷ flags) (x ∷ xs) zero e = refl
counted (true ∷ flags) (x ∷ xs) (suc k) e =
    omega (arith, sum_by-cons (λ (p : Place). cond (is_live p) 1 0) (count_place true) (take k (map count_place flags)), counted flags xs k (omega arith))
counted (false ∷ flags) (x ∷ xs) (suc k) e =
    omega (arith, sum_by-cons (λ (p : Place). cond (is_live p) 1 0) (count_place false) (take k (map count_place flags)), counted flags xs k (omega arith))

-- some segment
no_segment : Segment
no_segment = record { id = 0; lo = 0; hi = 0; y = 0; stamp = 0; ordered = omega arith }

module _ (x : ℕ) (part : Contents Segment) (valid : IsPart before part) where
  -- the live ones that have begun
  pub count-begun : (k : ℕ) → IsCut (has_begun x) part.items k → count_by is_live (take k (lives_of part)) ≡ length (filter (has_begun x) (live_of part))
  count-begun k cut = counted part.flags part.items k valid.flagged ∙ ap length (kept-cut (has_begun x) part.flags part.items k valid.flagged cut)

  -- the live ones that have ended
  pub count-ended : (k : ℕ) → IsCut (has_ended x) part.reordered k
      → count_by is_live (take k (lives_reordered part)) ≡ length (filter (has_ended x) (live_of part))
  count-ended k cut =
      let flagged : length (flags_reordered part) ≡ length part.reordered =
      omega (arith, length-map part.places (λ p. get_or part.flags p false), length-places valid, length-reordered valid) in
      counted (flags_reordered part) part.reordered k flagged
      ∙ ap length (kept-cut (has_ended x) (flags_reordered part) part.reordered k flagged cut)
      ∙ Permuted-length (Permuted-filter (has_ended x) (Permuted-reordered part valid no_segment))

-- one of a list more, where a test passes
one_more : (b : Bool) (s : Segment) (ss : List Segment) → length (cond b (s ∷ ss) ss) ≡ cond b 1 0 + length ss
one_more true s ss = omega arith
one_more false s ss = omega arith

-- a segment that has ended has begun
told_apart : (x lo hi : ℕ) → lo ≤ hi → cond (nat_le lo x && nat_le x hi) 1 0 + cond (nat_lt hi x) 1 0 ≡ cond (nat_le lo x) 1 0
told_apart x lo hi ordered = grind (arith, nat_tests)

pub count-over : (x : ℕ) (ss : List Segment)
    → length (filter (is_over x) ss) + length (filter (has_ended x) ss) ≡ length (filter (has_begun x) ss)
count-over x [] = refl
count-over x (s ∷ ss) =
    omega (
      arith,
      told_apart x s.lo s.hi s.ordered,
      one_more (is_over x s) s (filter (is_over x) ss),
      one_more (has_ended x s) s (filter (has_ended x) ss),
      one_more (has_begun x s) s (filter (has_begun x) ss),
      count-over x ss,
    )

-- the value of the question
pub stab_count-is : (x : ℕ) (part : Contents Segment) → stab_count x (live_of part) ≡ min (length (hits x part)) (2 ^ 64 - 1)
stab_count-is x part =
    ap (λ n. min n (2 ^ 64 - 1))
    (sym (length-filter (λ (item : Item). is_stabbed x item.shape) (map item_of_segment (live_of part))) ∙ stabbed x (live_of part))

-- a place for each segment
pub length-lives_of : (part : Contents Segment) → length part.flags ≡ length part.items → length (lives_of part) ≡ length part.items
length-lives_of part flagged = length-map part.flags count_place ∙ flagged

pub length-lives_reordered : (part : Contents Segment) → length part.places ≡ length part.items → length (lives_reordered part) ≡ length part.items
length-lives_reordered part placed =
    length-map (flags_reordered part) count_place ∙ length-map part.places (λ p. get_or part.flags p false) ∙ placed
