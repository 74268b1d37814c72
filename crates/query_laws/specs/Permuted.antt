-- Lists with the same items: a relation by cases, since std's word has no lemmas on filters.
use Rattle.std.specs.Prelude.{List, [], ◌∷◌}

-- the second list has the items of the first, each as often, in some order
pub data Permuted {A : Type 0} : List A → List A → Type 0 where
  nothing : Permuted [] []
  same_head : (x : A) {xs ys : List A} → Permuted xs ys → Permuted (x ∷ xs) (x ∷ ys)
  swapped_heads : (x y : A) (xs : List A) → Permuted (x ∷ y ∷ xs) (y ∷ x ∷ xs)
  composed : {xs ys zs : List A} → Permuted xs ys → Permuted ys zs → Permuted xs zs
