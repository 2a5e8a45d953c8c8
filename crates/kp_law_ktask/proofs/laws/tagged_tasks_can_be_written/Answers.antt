use Rattle.kp_law_ktask.proofs.Named.{tasks_can_be_written}
use Rattle.kp_law_ktask.proofs.laws.tagged_tasks_can_be_written.Goals as goal

pub returns : goal.returns
returns c = tasks_can_be_written
