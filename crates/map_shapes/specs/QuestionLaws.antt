-- That the questions about points are decomposable.
use Rattle.std.specs.Prelude.{Bool, List, [], map, filter}
use Rattle.std.specs.List.Sorted.{IsNonDecreasing}
use Rattle.std.proofs.Common.{ap, ◌∙◌, cond}
use Rattle.std.proofs.lemmas.List.{map-append}
use Rattle.std.proofs.lemmas.List.Elements.{filter-append}
use Rattle.query_laws.specs.Decomposable.{IsDecomposable}
use Rattle.query_laws.specs.Sums.{capped_add, FitsU64, IsDecomposable-capped_sum}
use Rattle.map_shapes.specs.declared.rect.Rect.{Rect}
use Rattle.map_shapes.specs.Ascending.{sorted_union}
use Rattle.map_shapes.specs.AscendingLaws.{IsDecomposable-sorted_ids}
use Rattle.map_shapes.specs.Questions.{is_in, count_in, weight_in, ids_in}

-- a question put to the items that pass a test
pub IsDecomposable-filter : {Item Answer : Type 0} {value : List Item → Answer} {join : Answer → Answer → Answer} {unit : Answer}
    {lawful : Answer → Type 0} (p : Item → Bool) → IsDecomposable value join unit lawful
    → IsDecomposable (λ xs. value (filter p xs)) join unit lawful
IsDecomposable-filter {value = value} p laws = record {
  value_lawful = λ xs. laws.value_lawful (filter p xs);
  join_lawful = laws.join_lawful;
  of_nothing = laws.of_nothing;
  of_both = λ xs ys. ap value (filter-append p xs ys) ∙ laws.of_both (filter p xs) (filter p ys);
  associative = laws.associative;
  commutative = laws.commutative;
  neutral = laws.neutral;
}

-- a question put to what a function gives of each item
pub IsDecomposable-map : {Item Entry Answer : Type 0} {value : List Entry → Answer} {join : Answer → Answer → Answer} {unit : Answer}
    {lawful : Answer → Type 0} (f : Item → Entry) → IsDecomposable value join unit lawful
    → IsDecomposable (λ xs. value (map f xs)) join unit lawful
IsDecomposable-map {value = value} f laws = record {
  value_lawful = λ xs. laws.value_lawful (map f xs);
  join_lawful = laws.join_lawful;
  of_nothing = laws.of_nothing;
  of_both = λ xs ys. ap value (map-append f xs ys) ∙ laws.of_both (map f xs) (map f ys);
  associative = laws.associative;
  commutative = laws.commutative;
  neutral = laws.neutral;
}

pub IsDecomposable-count_in : (rect : Rect) → IsDecomposable (count_in rect) capped_add 0 FitsU64
IsDecomposable-count_in rect = IsDecomposable-capped_sum (λ p. cond (is_in rect p) 1 0)

pub IsDecomposable-weight_in : (rect : Rect) → IsDecomposable (weight_in rect) capped_add 0 FitsU64
IsDecomposable-weight_in rect = IsDecomposable-filter (is_in rect) (IsDecomposable-capped_sum (λ p. p.w))

pub IsDecomposable-ids_in : (rect : Rect) → IsDecomposable (ids_in rect) sorted_union [] IsNonDecreasing
IsDecomposable-ids_in rect = IsDecomposable-filter (is_in rect) (IsDecomposable-map (λ p. p.id) IsDecomposable-sorted_ids)
