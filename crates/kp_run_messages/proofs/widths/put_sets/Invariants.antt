use Rattle.std.proofs.Common.{◌≡◌, ◌++◌, drop}
use Rattle.kp_run_messages.specs.Widths.{set_lines}
use Rattle.kp_run_messages.proofs.widths.put_sets.Given as goal

-- with what is left comes the whole
abbrev pub invariant-loop-set : goal.invariant-loop-set
invariant-loop-set l = l.out.items ++ set_lines l.title l.atoms (drop l.set-index l.sets) ≡ l.fn.out.items ++ set_lines l.title l.atoms l.sets
