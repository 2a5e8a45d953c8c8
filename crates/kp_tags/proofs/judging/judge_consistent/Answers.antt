use Rattle.kp_tags.specs.Answers.{RefusesMerge}
use Rattle.kp_tags.proofs.judging.judge_consistent.Goals as goal

pub returns-in-Invalid : goal.returns-in-Invalid
returns-in-Invalid c = RefusesMerge.invalid c.in-Invalid.state c.requires.consistent (rw c.in-Invalid.is at c.in_ok-valid.ensures)
