use Rattle.kp_names_semantics.proofs.PlainGoals.{goals_plain}
use Rattle.kp_names_semantics.proofs.laws.goals_have_no_equality.Goals as goal

pub returns : goal.returns
returns c = goals_plain
