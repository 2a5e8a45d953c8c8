use Rattle.std.proofs.Common.{drop, map}
use Rattle.kp_law_texts.proofs.Public.{LeavesToPut}
use Rattle.kp_write.specs.Written.{op}
use Rattle.kp_write.specs.Named.{named_op}
use Rattle.kp_law_ktask.specs.Task.{op_of}
use Rattle.kp_ktask_texts.proofs.domain.put_actions.Given as goal

abbrev pub invariant-loop-action : goal.invariant-loop-action
invariant-loop-action l = LeavesToPut l.fn.out.items l.out.items op (map (named_op l.facts) (map (op_of l.atoms l.tags) (drop l.action-index l.actions))) (map (named_op l.facts) (map (op_of l.atoms l.tags) l.actions))
