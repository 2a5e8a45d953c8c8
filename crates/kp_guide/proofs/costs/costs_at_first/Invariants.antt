use Rattle.std.proofs.Common.{◌≡◌, map, take}
use Rattle.kp_classic.specs.States.{has}
use Rattle.kp_guide.specs.CostTables.{first_cost}
use Rattle.kp_guide.proofs.costs.costs_at_first.Given as goal

-- the costs of the facts so far
abbrev pub invariant-loop-fact : goal.invariant-loop-fact
invariant-loop-fact l = l.costs.items ≡ map (first_cost (has l.state.hold)) (take l.fact-index l.facts)
