use Rattle.std.proofs.Common.{◌≡◌, ◌++◌, drop}
use Rattle.kp_run_messages.specs.Coverage.{uncovered_lines}
use Rattle.kp_run_messages.proofs.coverage.put_uncovered.Given as goal

-- with what is left comes the whole
abbrev pub invariant-loop-target : goal.invariant-loop-target
invariant-loop-target l = l.out.items ++ uncovered_lines l.atoms (drop l.target-index l.targets) ≡ l.fn.out.items ++ uncovered_lines l.atoms l.targets
