use Rattle.std.proofs.Common.{◌≡◌, ◌++◌, drop}
use Rattle.kp_guide.specs.Waiting.{needs_of}
use Rattle.kp_guide.proofs.index.needs_of.Given as goal

-- with what is left it comes to the whole
abbrev pub invariant-loop-rule : goal.invariant-loop-rule
invariant-loop-rule l = l.counts.items ++ needs_of (drop l.rule-index l.rules) ≡ needs_of l.rules
