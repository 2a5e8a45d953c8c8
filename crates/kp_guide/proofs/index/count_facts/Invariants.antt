use Rattle.kp_guide.specs.Waiting.{AreCounts, unreached_before}
use Rattle.kp_guide.proofs.index.count_facts.Given as goal

-- the facts so far have counted
abbrev pub invariant-loop-fact : goal.invariant-loop-fact
invariant-loop-fact l = AreCounts l.index.rules.items (unreached_before l.costs l.fact) l.counts
