use Rattle.std.proofs.Common.{◌≡◌}
use Rattle.kp_classic.specs.States.{has, holding_among}
use Rattle.kp_classic.proofs.said.held.Given as goal

-- the facts so far
abbrev pub invariant-loop-fact : goal.invariant-loop-fact
invariant-loop-fact l = l.facts ≡ holding_among l.fact (has l.state.hold)
