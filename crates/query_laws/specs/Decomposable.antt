-- Decomposable searching problems, after Bentley and Saxe 1980.
use Rattle.std.specs.Prelude.{◌≡◌, List, [], ◌++◌}

-- The answer over a list is made by `join` from the answers over its parts. Among the lawful answers `join` is associative
-- and commutative with `unit`, the answer over nothing.
pub record IsDecomposable {Item Answer : Type 0} (value : List Item → Answer) (join : Answer → Answer → Answer)
    (unit : Answer) (lawful : Answer → Type 0) : Type 0 where
  pub value_lawful : (xs : List Item) → lawful (value xs)
  pub join_lawful : (a b : Answer) → lawful a → lawful b → lawful (join a b)
  pub of_nothing : value [] ≡ unit
  pub of_both : (xs ys : List Item) → value (xs ++ ys) ≡ join (value xs) (value ys)
  pub associative : (a b c : Answer) → lawful a → lawful b → lawful c → join (join a b) c ≡ join a (join b c)
  pub commutative : (a b : Answer) → lawful a → lawful b → join a b ≡ join b a
  pub neutral : (a : Answer) → lawful a → join a unit ≡ a
