use Rattle.std.proofs.Common.{drop, map}
use Rattle.kp_law_texts.proofs.Public.{LeavesToPut}
use Rattle.kp_write.specs.Written.{op}
use Rattle.kp_write.specs.Named.{named_op}
use Rattle.kp_law_ktask.specs.Task.{merge_ops_from}
use Rattle.kp_ktask_texts.proofs.domain.put_merges.Given as goal

abbrev pub invariant-loop-merge : goal.invariant-loop-merge
invariant-loop-merge l = LeavesToPut l.fn.out.items l.out.items op (map (named_op l.facts) (merge_ops_from l.atoms l.number (drop l.merge-index l.merges))) (map (named_op l.facts) (merge_ops_from l.atoms 0 l.merges))
