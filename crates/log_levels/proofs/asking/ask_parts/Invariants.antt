use Rattle.std.proofs.Common.{◌≡◌, ◌+◌, length, sum_by, take}
use Rattle.std.specs.List.{flat_map}
use Rattle.query_laws.specs.StepLedger.{Consults}
use Rattle.builder_trait.specs.Parts.{live_of}
use Rattle.log_levels.proofs.asking.ask_parts.Given as goal

abbrev pub invariant-loop-part : goal.invariant-loop-part
invariant-loop-part g l = record {
  parts_asked : l.asking ≡ record l.initial.asking {
    so_far = g.Q.Question.join l.initial.asking.question l.initial.asking.so_far
        (g.Q.Question.value l.initial.asking.question (flat_map (λ p. live_of (g.P.Part.contents p)) (take l.part-index l.parts)));
    parts = l.initial.asking.parts + l.part-index;
    live = l.initial.asking.live + length (flat_map (λ p. live_of (g.P.Part.contents p)) (take l.part-index l.parts));
  };
  lawful : g.Q.Question.lawful l.initial.asking.question l.asking.so_far;
  consulted : l.steps.consulted ≡ l.initial.steps.consulted + l.part-index;
  spent : Consults l.initial.steps l.steps l.part-index (sum_by (g.P.Answers.ask_touches l.initial.asking.question) (take l.part-index l.parts));
}
