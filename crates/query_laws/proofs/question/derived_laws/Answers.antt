use Rattle.query_laws.proofs.Permutations.{Permuted-from_IsPermutation}
use Rattle.query_laws.proofs.Values.{value-IsPermutation, value-flat_map, value-flat_map_Permuted, value-middle}
use Rattle.query_laws.proofs.question.derived_laws.Goals as goal

pub returns : goal.returns
returns g c =
    let laws = g.met.Q.Question.decomposable in record {
      any_order = λ q. value-IsPermutation (laws q);
      of_several = λ q. value-flat_map (laws q) (λ xs. xs);
      several_in_any_order = λ q parts others p.
          value-flat_map_Permuted (laws q) (λ xs. xs) (Permuted-from_IsPermutation parts others p);
      one_taken_out = λ q. value-middle (laws q);
    }
