use Rattle.std.proofs.Common.{◌≡◌, drop, fold}
use Rattle.kp_guide.specs.CostTables.{with_fact}
use Rattle.kp_guide.proofs.rules.add_new.Given as goal

abbrev pub invariant-loop-fact : goal.invariant-loop-fact
invariant-loop-fact l = fold with_fact l.facts.keys (drop l.fact-index l.more) ≡ fold with_fact l.initial.facts.keys l.more
