-- Decomposable questions in other words, and with answers of another form.
use Rattle.std.proofs.Common.{◌≡◌, List, sym, ap, ◌∙◌, subst}
use Rattle.query_laws.specs.Decomposable.{IsDecomposable}
use Rattle.query_laws.proofs.Values.{unit_lawful}

-- the same answers and the same way to join them, in other words
pub IsDecomposable-same : {Item Answer : Type 0} {value value' : List Item → Answer} {join join' : Answer → Answer → Answer} {unit : Answer}
    {lawful : Answer → Type 0} → ((xs : List Item) → value xs ≡ value' xs) → ((a b : Answer) → join a b ≡ join' a b)
    → IsDecomposable value join unit lawful → IsDecomposable value' join' unit lawful
IsDecomposable-same {value = value} {value'} {join} {join'} {unit} {lawful} same_value same_join laws =
    subst (λ (j : _ → _ → _). IsDecomposable value' j unit lawful) (λ i a b. same_join a b i)
    (subst (λ (v : List _ → _). IsDecomposable v join unit lawful) (λ i xs. same_value xs i) laws)

-- answers of another form, which stand for the lawful ones
pub IsDecomposable-through : {Item A B : Type 0} {value : List Item → A} {join : A → A → A} {unit : A} {lawful : A → Type 0} (to : A → B) (from : B → A)
    → IsDecomposable value join unit lawful → ((b : B) → lawful (from b)) → ((a : A) → lawful a → from (to a) ≡ a) → ((b : B) → to (from b) ≡ b)
    → IsDecomposable (λ xs. to (value xs)) (λ a b. to (join (from a) (from b))) (to unit) (λ b. Unit {0})
IsDecomposable-through {value = value} {join} {unit} to from laws is_lawful back forth = record {
  value_lawful = λ xs. tt;
  join_lawful = λ a b h k. tt;
  of_nothing = ap to laws.of_nothing;
  of_both = λ xs ys.
      ap to (laws.of_both xs ys)
      ∙ sym (ap (λ a. to (join a (from (to (value ys))))) (back (value xs) (laws.value_lawful xs))
      ∙ ap (λ b. to (join (value xs) b)) (back (value ys) (laws.value_lawful ys)));
  associative = λ a b c h k l.
      ap (λ d. to (join d (from c))) (back (join (from a) (from b)) (laws.join_lawful (from a) (from b) (is_lawful a) (is_lawful b)))
      ∙ ap to (laws.associative (from a) (from b) (from c) (is_lawful a) (is_lawful b) (is_lawful c))
      ∙ sym (ap (λ d. to (join (from a) d)) (back (join (from b) (from c)) (laws.join_lawful (from b) (from c) (is_lawful b) (is_lawful c))));
  commutative = λ a b h k. ap to (laws.commutative (from a) (from b) (is_lawful a) (is_lawful b));
  neutral = λ a h.
      ap (λ d. to (join (from a) d)) (back unit (unit_lawful laws)) ∙ ap to (laws.neutral (from a) (is_lawful a)) ∙ forth a;
}
