-- Numbers in ascending order. Two lists are joined by sorting both together: it says the same as a merge, and its laws are those of sorting.
use Rattle.std.specs.Prelude.{ℕ, List, [], ◌∷◌, ◌++◌, nat_le, if◌then◌else◌}

-- a number put before the first one that isn't less
abbrev pub insert_sorted : ℕ → List ℕ → List ℕ
insert_sorted x [] = x ∷ []
insert_sorted x (y ∷ ys) = if nat_le x y then x ∷ y ∷ ys else y ∷ insert_sorted x ys

-- the same numbers, in ascending order
abbrev pub sorted_ids : List ℕ → List ℕ
sorted_ids [] = []
sorted_ids (x ∷ xs) = insert_sorted x (sorted_ids xs)

-- the numbers of two lists together, in ascending order
abbrev pub sorted_union : List ℕ → List ℕ → List ℕ
sorted_union a b = sorted_ids (a ++ b)
