use Rattle.kp_law_ktask.proofs.Whole.{tasks_are_tasks}
use Rattle.kp_law_ktask.proofs.laws.tagged_tasks_are_tasks.Goals as goal

pub returns : goal.returns
returns c = tasks_are_tasks
