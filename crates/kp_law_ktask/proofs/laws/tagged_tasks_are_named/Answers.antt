use Rattle.kp_law_ktask.proofs.Named.{tasks_are_named}
use Rattle.kp_law_ktask.proofs.laws.tagged_tasks_are_named.Goals as goal

pub returns : goal.returns
returns c = tasks_are_named
