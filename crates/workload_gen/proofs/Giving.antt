-- A script gives its commands one by one.
use Rattle.std.proofs.Common.{◌≡◌, ◌∙◌, ◌+◌, ◌<◌, zero, suc, ap, ap₂, sym, subst, refl, ℕ, Bool, true, List, [], ◌∷◌, length, Some, arith}
use Rattle.map_model.specs.Command.{Command}
use Rattle.map_model.specs.Line as lines
use Rattle.map_model.specs.Version.{One}
use Rattle.script_lang.specs.declared.command.Command as script
use Rattle.script_lang.specs.Command.{command_of}
use Rattle.workload_gen.specs.Made.{Between, round, rounds_from, made_script, to_come, GivesCommand}

-- the next round's command is given
pub gives_round : (is_begun : Bool) (rounds left : ℕ) (b after : Between) (given : script.Command) (before : List Command)
    → is_begun ≡ true → rounds ≡ suc left → to_come is_begun rounds b ≡ before
    → command_of given ≡ (round b).command → lines.IsCommand One (command_of given) → after ≡ (round b).after
    → GivesCommand before (Some given) (to_come is_begun left after)
gives_round is_begun rounds left b after given before begun is view command lawful stands =
    let list : (round b).command ∷ rounds_from left (round b).after ≡ before =
    ap (λ (n : ℕ). rounds_from n b) (sym is) ∙ ap (λ (t : Bool). to_come t rounds b) (sym begun) ∙ view in
    let rest : to_come is_begun left after ≡ rounds_from left (round b).after =
    ap₂ (λ (t : Bool) (x : Between). to_come t left x) begun stands in
    subst (λ (l : List Command). GivesCommand l (Some given) (to_come is_begun left after)) list
    (command, lawful, rest)

pub shorter : (before after : List Command) (given : script.Command) → GivesCommand before (Some given) after → length after < length before
shorter [] after given gives = absurd gives
shorter (c ∷ commands) after given gives =
    let same : length after ≡ length commands = ap length gives.2 in
    omega (arith, same)

rounds_length : (n : ℕ) (b : Between) → length (rounds_from n b) ≡ n
rounds_length zero b = refl
rounds_length (suc n) b = ap suc (rounds_length n (round b).after)

pub script_length : (seed size : ℕ) → length (made_script seed size) ≡ size + 1
script_length seed size = ap suc (rounds_length size _) ∙ omega arith
