use Rattle.std.proofs.Common.{◌%◌, arith}
use Rattle.kp_clash_exclusive.proofs.Small.{ones}
use Rattle.kp_clash_exclusive.proofs.joined.left_by_pre.Goals as goal

pub returns-then-pre-gt8 : goal.returns-then-pre-gt8
returns-then-pre-gt8 c = λ q _ _. ones (q % 64) (omega arith)

pub returns-else-pre-gt8 : goal.returns-else-pre-gt8
returns-else-pre-gt8 c = λ q e none. c.leave.ensures q e none (ones (q % 64) (omega arith))
