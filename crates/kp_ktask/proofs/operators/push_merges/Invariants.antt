use Rattle.std.proofs.Common.{◌≡◌, ◌++◌, drop}
use Rattle.kp_law_ktask.specs.Task.{merge_ops_from}
use Rattle.kp_ktask.proofs.operators.push_merges.Given as goal

-- with the merges that are left come all
abbrev pub invariant-loop-merge : goal.invariant-loop-merge
invariant-loop-merge l = l.row ++ merge_ops_from l.atoms l.number (drop l.merge-index l.merges) ≡ l.fn.row ++ merge_ops_from l.atoms 0 l.merges
