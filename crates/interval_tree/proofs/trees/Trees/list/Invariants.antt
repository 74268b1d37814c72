use Rattle.std.proofs.Common.{◌≡◌, ◌+◌, ◌-◌, ◌*◌, ◌^◌, ◌<◌, ◌≤◌, ◌++◌, ℕ, length, map}
use Rattle.query_laws.specs.StepLedger.{Spends}
use Rattle.interval_tree.specs.Queries.{hits_before}
use Rattle.interval_tree.proofs.trees.Trees.list.Given as goal

-- the live segments over x at places before `from` are listed, each for one search
abbrev pub invariant-loop-next : goal.invariant-loop-next
invariant-loop-next g l = record {
  ordered : l.from ≤ l.to;
  listed : l.tally ≡ l.initial.tally ++ map (λ s. s.id) (hits_before l.x l.segments l.from);
  read : 0 < length l.segments.items → l.fn.steps.touches < l.steps.touches;
  cost : (h : ℕ) → length l.segments.items ≤ 2 ^ h
      → Spends l.fn.steps l.steps 0 0 (h + 1 + length (hits_before l.x l.segments l.from) * (6 * (h + 2) + 1));
}

abbrev pub decreases-loop-next : goal.decreases-loop-next
decreases-loop-next g l = l.to - l.from
