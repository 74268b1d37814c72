use Rattle.std.proofs.Common.{◌≡◌, ◌==◌, ◌++◌, ◌∷◌, [], ◌∙◌, true, false}
use Rattle.log_method.specs.Retired.{used_of}
use Rattle.global_rebuild.specs.Retiring.{with_retired}
use Rattle.global_rebuild.proofs.Retiring.{with-some, with-none}
use Rattle.global_rebuild.proofs.index.swap.Goals as goal

pub returns-then-not-is_empty-clause-swapped : goal.returns-then-not-is_empty-clause-swapped
returns-then-not-is_empty-clause-swapped g c r is =
    let stack : c.replace.new.dest ≡ r.stack = cc in
    let same : c.retire-old.result ≡ c.args.main.now = c.retire-old.ensures ∙ c.replace.ensures.value in
    let some : (used_of c.retire-old.result.levels == 0) ≡ false = cc in
    let all : c.args.retired.now.items ++ c.retire-old.result ∷ [] ≡ with_retired c.args.retired.now.items c.args.main.now =
    with-some c.args.retired.now.items c.args.main.now c.retire-old.result same some in (stack, c.push_reserved.ensures.items ∙ all)

pub returns-else-not-is_empty-clause-swapped : goal.returns-else-not-is_empty-clause-swapped
returns-else-not-is_empty-clause-swapped g c r is =
    let stack : c.replace.new.dest ≡ r.stack = cc in
    let same : c.retire-old.result ≡ c.args.main.now = c.retire-old.ensures ∙ c.replace.ensures.value in
    let none : (used_of c.retire-old.result.levels == 0) ≡ true = cc in
    (stack, with-none c.args.retired.now.items c.args.main.now c.retire-old.result same none)
