use Rattle.std.proofs.Common.{sym, subst}
use Rattle.kp_classic.specs.Fits.{IsFit}
use Rattle.kp_classic.specs.Grounded.{DoesTheSame}
use Rattle.kp_classic.proofs.OfGround.{task_fits, task_does_the_same}
use Rattle.kp_classic.proofs.grounded.task_of.Goals as goal

-- each part is that of the definition
pub returns-clause-value : goal.returns-clause-value
returns-clause-value c = cc (c.in_ok-facts.ensures.names, c.in_ok-facts.ensures.init, c.in_ok-goal.ensures.goal, c.in_ok-goal.ensures.ops)

pub returns-clause-fit : goal.returns-clause-fit
returns-clause-fit c = subst IsFit (sym (returns-clause-value c)) (task_fits c.args.ground.now c.args.initial.now c.requires.of_atoms)

pub returns-clause-same : goal.returns-clause-same
returns-clause-same c = subst (DoesTheSame c.args.ground.now c.args.initial.now) (sym (returns-clause-value c)) (task_does_the_same c.args.ground.now c.args.initial.now c.requires.of_atoms c.requires.one_state)
