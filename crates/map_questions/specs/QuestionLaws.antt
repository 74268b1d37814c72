-- That the questions are decomposable.
use Rattle.std.proofs.Common.{◌≡◌, ℕ, Bool, List, [], ◌∷◌, map, take, cond, refl, ap, ◌∙◌, arith, slice_get, None}
use Rattle.std.specs.List.Sorted.{IsNonDecreasing}
use Rattle.std.specs.Option.{option_map}
use Rattle.std.specs.Prelude.{nat_le, IsTrue, ◌⊎◌}
use Rattle.std.proofs.lemmas.Bool.Decides.{nat_tests}
use Rattle.std.proofs.lemmas.Grind.{common_steps}
use Rattle.std.proofs.lemmas.List.{take-map}
use Rattle.query_laws.specs.Decomposable.{IsDecomposable}
use Rattle.query_laws.specs.Sums.{capped_add, FitsU64, IsDecomposable-capped_sum}
use Rattle.map_model.specs.Shape.{is_between, is_above, is_stabbed, is_met, squared_distance, height_of}
use Rattle.map_model.specs.Found.{insert_by, sorted_by, Found}
use Rattle.map_shapes.specs.declared.peak.Peak.{Peak}
use Rattle.map_shapes.specs.Found.{found_from, peak_from, nearer_le, higher_le}
use Rattle.map_shapes.specs.Point.{item_of}
use Rattle.map_shapes.specs.Segment.{item_of_segment}
use Rattle.map_shapes.specs.Ascending.{sorted_union}
use Rattle.map_shapes.specs.AscendingLaws.{IsDecomposable-sorted_ids, sorted_ids-sorted_by}
use Rattle.map_shapes.specs.QuestionLaws.{IsDecomposable-filter, IsDecomposable-map}
use Rattle.map_questions.specs.AnswerLaws.{IsDecomposable-same}
use Rattle.map_questions.specs.FirstFew.{IsTotalOrder, IsFirstFew, first_few, first_few_of_both, first, first_of_both}
use Rattle.map_questions.specs.FirstFewLaws.{IsDecomposable-first_few, IsDecomposable-first}
use Rattle.map_questions.specs.Questions.{near, near_k, above, top, stab, stab_count, crossed, cross_count}

-- ---- the two orders are total

nearer-total : (a b : Found) → IsTrue (nearer_le a b) ⊎ IsTrue (nearer_le b a)
nearer-total a b = grind (arith, nat_tests)

nearer-transitive : (a b c : Found) → IsTrue (nearer_le a b) → IsTrue (nearer_le b c) → IsTrue (nearer_le a c)
nearer-transitive a b c h k = grind (arith, nat_tests)

nearer-dist : (a b : Found) → IsTrue (nearer_le a b) → IsTrue (nearer_le b a) → a.dist ≡ b.dist
nearer-dist a b h k = grind (arith, nat_tests)

nearer-id : (a b : Found) → IsTrue (nearer_le a b) → IsTrue (nearer_le b a) → a.id ≡ b.id
nearer-id a b h k = grind (arith, nat_tests)

pub IsTotalOrder-nearer_le : IsTotalOrder nearer_le
IsTotalOrder-nearer_le = record {
  total = nearer-total;
  transitive = nearer-transitive;
  antisymmetric = λ a b h k. λ i. record { dist = nearer-dist a b h k i; id = nearer-id a b h k i };
}

higher-total : (a b : Peak) → IsTrue (higher_le a b) ⊎ IsTrue (higher_le b a)
higher-total a b = grind (arith, nat_tests)

higher-transitive : (a b c : Peak) → IsTrue (higher_le a b) → IsTrue (higher_le b c) → IsTrue (higher_le a c)
higher-transitive a b c h k = grind (arith, nat_tests)

higher-y : (a b : Peak) → IsTrue (higher_le a b) → IsTrue (higher_le b a) → a.y ≡ b.y
higher-y a b h k = grind (arith, nat_tests)

higher-id : (a b : Peak) → IsTrue (higher_le a b) → IsTrue (higher_le b a) → a.id ≡ b.id
higher-id a b h k = grind (arith, nat_tests)

pub IsTotalOrder-higher_le : IsTotalOrder higher_le
IsTotalOrder-higher_le = record {
  total = higher-total;
  transitive = higher-transitive;
  antisymmetric = λ a b h k. λ i. record { y = higher-y a b h k i; id = higher-id a b h k i };
}

-- ---- entries of another form are sorted as they were

module _ {A B : Type 0} (f : A → B) (le : B → B → Bool) where
  insert_by-map : (x : A) (xs : List A) → insert_by le (f x) (map f xs) ≡ map f (insert_by (λ a b. le (f a) (f b)) x xs)
  insert_by-map x [] = refl
  insert_by-map x (y ∷ ys) = grind (arith, common_steps, insert_by-map x ys)

  sorted_by-map : (xs : List A) → sorted_by le (map f xs) ≡ map f (sorted_by (λ a b. le (f a) (f b)) xs)
  sorted_by-map [] = refl
  sorted_by-map (x ∷ xs) = ap (insert_by le (f x)) (sorted_by-map xs) ∙ insert_by-map x (sorted_by (λ a b. le (f a) (f b)) xs)

  first_few-map : (k : ℕ) (xs : List A) → first_few le k (map f xs) ≡ map f (first_few (λ a b. le (f a) (f b)) k xs)
  first_few-map k xs = ap (take k) (sorted_by-map xs) ∙ take-map f k (sorted_by (λ a b. le (f a) (f b)) xs)

  front-map : (xs : List A) → slice_get (map f xs) 0 ≡ option_map f (slice_get xs 0)
  front-map [] = refl
  front-map (x ∷ xs) = refl

  first-map : (xs : List A) → first le (map f xs) ≡ option_map f (first (λ a b. le (f a) (f b)) xs)
  first-map xs = ap (λ ys. slice_get ys 0) (sorted_by-map xs) ∙ front-map (sorted_by (λ a b. le (f a) (f b)) xs)

-- ---- the questions

pub IsDecomposable-near : (x y : ℕ) → IsDecomposable (near x y) (first_of_both nearer_le) None (λ a. Unit {0})
IsDecomposable-near x y =
    IsDecomposable-map item_of (IsDecomposable-map (λ item. record { dist = squared_distance x y item.shape; id = item.id })
    (IsDecomposable-same (first-map found_from nearer_le) (λ a b. refl)
    (IsDecomposable-map found_from (IsDecomposable-first IsTotalOrder-nearer_le))))

pub IsDecomposable-near_k : (k x y : ℕ) → IsDecomposable (near_k k x y) (first_few_of_both nearer_le k) [] (IsFirstFew nearer_le k)
IsDecomposable-near_k k x y =
    IsDecomposable-map item_of (IsDecomposable-map (λ item. record { dist = squared_distance x y item.shape; id = item.id })
    (IsDecomposable-same (first_few-map found_from nearer_le k) (λ a b. refl)
    (IsDecomposable-map found_from (IsDecomposable-first_few IsTotalOrder-nearer_le k))))

pub IsDecomposable-top : (x1 x2 : ℕ) → IsDecomposable (top x1 x2) (first_of_both higher_le) None (λ a. Unit {0})
IsDecomposable-top x1 x2 =
    IsDecomposable-map item_of (IsDecomposable-filter (λ item. is_between x1 x2 item.shape)
    (IsDecomposable-map (λ item. record { y = height_of item.shape; id = item.id })
    (IsDecomposable-same (first-map peak_from higher_le) (λ a b. refl)
    (IsDecomposable-map peak_from (IsDecomposable-first IsTotalOrder-higher_le)))))

-- identifiers in ascending order, as the definitions put them
IsDecomposable-ascending : IsDecomposable (sorted_by nat_le) sorted_union [] IsNonDecreasing
IsDecomposable-ascending = IsDecomposable-same sorted_ids-sorted_by (λ a b. refl) IsDecomposable-sorted_ids

pub IsDecomposable-above : (x1 x2 y : ℕ) → IsDecomposable (above x1 x2 y) sorted_union [] IsNonDecreasing
IsDecomposable-above x1 x2 y =
    IsDecomposable-map item_of (IsDecomposable-filter (λ item. is_above x1 x2 y item.shape)
    (IsDecomposable-map (λ item. item.id) IsDecomposable-ascending))

pub IsDecomposable-stab : (x : ℕ) → IsDecomposable (stab x) sorted_union [] IsNonDecreasing
IsDecomposable-stab x =
    IsDecomposable-map item_of_segment (IsDecomposable-filter (λ item. is_stabbed x item.shape)
    (IsDecomposable-map (λ item. item.id) IsDecomposable-ascending))

pub IsDecomposable-stab_count : (x : ℕ) → IsDecomposable (stab_count x) capped_add 0 FitsU64
IsDecomposable-stab_count x =
    IsDecomposable-map item_of_segment (IsDecomposable-capped_sum (λ item. cond (is_stabbed x item.shape) 1 0))

pub IsDecomposable-crossed : (x y1 y2 : ℕ) → IsDecomposable (crossed x y1 y2) sorted_union [] IsNonDecreasing
IsDecomposable-crossed x y1 y2 =
    IsDecomposable-map item_of_segment (IsDecomposable-filter (λ item. is_met x y1 y2 item.shape)
    (IsDecomposable-map (λ item. item.id) IsDecomposable-ascending))

pub IsDecomposable-cross_count : (x y1 y2 : ℕ) → IsDecomposable (cross_count x y1 y2) capped_add 0 FitsU64
IsDecomposable-cross_count x y1 y2 =
    IsDecomposable-map item_of_segment (IsDecomposable-capped_sum (λ item. cond (is_met x y1 y2 item.shape) 1 0))
