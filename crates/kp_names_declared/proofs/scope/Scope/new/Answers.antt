use Rattle.kp_names_declared.proofs.InnermostVariables.{none_kept}
use Rattle.kp_names_declared.proofs.scope.Scope.new.Goals as goal

pub invariant_of-result : goal.invariant_of-result
invariant_of-result c = none_kept c.new.result.items c.new-2.result.entries c.new.ensures.items c.new-2.ensures.empty
