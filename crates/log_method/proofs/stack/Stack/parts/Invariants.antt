use Rattle.std.proofs.Common.{◌≡◌, ◌*◌, ◌≤◌, All, length, sum_by, take}
use Rattle.log_levels.specs.Level.{IsOfLevel}
use Rattle.log_method.proofs.stack.Stack.parts.Given as goal

abbrev pub invariant-loop-level : goal.invariant-loop-level
invariant-loop-level g l = record {
  parts : l.parts ≡ sum_by (λ v. length v.parts) (take l.level-index l.self.levels);
  few : l.parts ≤ 3 * l.level-index;
  of_level : All (λ v. All (λ p. IsOfLevel v.level (g.B.Part.Part.contents p)) v.parts) (take l.level-index l.self.levels);
}
