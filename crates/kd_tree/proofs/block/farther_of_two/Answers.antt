use Rattle.query_laws.proofs.Permutations.{Permuted-refl, Permuted-sym, Permuted-from_IsPermutation}
use Rattle.kd_tree.proofs.block.farther_of_two.Goals as goal

pub returns-then-blocks-first : goal.returns-then-blocks-first
returns-then-blocks-first c = Permuted-sym (Permuted-from_IsPermutation c.args.blocks.now c.swap.new.self c.swap.ensures.permutation)

pub returns-else-blocks-first : goal.returns-else-blocks-first
returns-else-blocks-first c = Permuted-refl c.args.blocks.now
