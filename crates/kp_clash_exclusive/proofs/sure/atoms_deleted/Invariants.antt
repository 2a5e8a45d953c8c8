use Rattle.kp_clash_exclusive.specs.Left.{AreDeleted}
use Rattle.kp_clash_exclusive.proofs.sure.atoms_deleted.Given as goal

-- the action deletes those that are set so far
abbrev pub invariant-loop-effect : goal.invariant-loop-effect
invariant-loop-effect l = AreDeleted l.words l.action
