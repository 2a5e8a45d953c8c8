use Rattle.kp_classic.proofs.States.{empty_holds}
use Rattle.kp_classic.proofs.state.State.empty.Goals as goal

pub returns-clause-none : goal.returns-clause-none
returns-clause-none c = empty_holds _ c.args.facts c.in_ok-new.ensures
