use Rattle.std.proofs.Common.{subst}
use Rattle.kp_names.specs.View.{lifted_view}
use Rattle.kp_ground.specs.Grounded.{IsGrounded, RefusesGround, StopsGround}
use Rattle.kp_run_classical.proofs.Counted.{is_of_atoms}
use Rattle.kp_run_classical.proofs.Ended.{over_ends, within_ends}
use Rattle.kp_run_classical.proofs.posing.on_certain.Goals as goal

-- it is within the limits, so it speaks of its atoms alone
pub on_ground-requires-clause-of_atoms : goal.on_ground-requires-clause-of_atoms
on_ground-requires-clause-of_atoms c =
    let l = lifted_view c.args.lifted.now in
    is_of_atoms l c.in-Ok.made (subst (λ m. IsGrounded l m c.in-Ok.made) c.classical.ensures c.in-Ok.ensures)

-- it is larger than a limit allows
pub returns-in-Err : goal.returns-in-Err
returns-in-Err c =
    let l = lifted_view c.args.lifted.now in
    over_ends l c.in-Err.stop c.ended_by.result
    (λ r is. subst (λ m. RefusesGround l m r) c.classical.ensures (subst (λ s. StopsGround l c.classical.result s) is c.in-Err.ensures))
    c.ended_by.ensures

-- it is within the limits
pub returns-in-Ok : goal.returns-in-Ok
returns-in-Ok c =
    let l = lifted_view c.args.lifted.now in
    let here = subst (λ m. IsGrounded l m c.in-Ok.made) c.classical.ensures c.in-Ok.ensures in
    within_ends l c.in-Ok.made c.on_ground.result here c.on_ground.ensures
