use Rattle.std.proofs.Common.{rules, List, ℕ, ◌++◌, take, ap, ◌∙◌, arith}
use Rattle.script_lang.specs.Front.{longest_front}
use Rattle.map_session.proofs.Underway.{filled_front}
use Rattle.map_session.proofs.line_start.LineStart.push.Goals as goal

pub returns : goal.returns
returns c =
    let old = c.self.inside.front.items in
    c.append.ensures ∙ filled_front longest_front c.min-kept.result old c.args.bytes.now (first_of (omega arith, search rules)) (first_of (omega arith, search rules)) ∙ ap (λ (l : List ℕ). take longest_front (l ++ c.args.bytes.now)) c.self.view_is
