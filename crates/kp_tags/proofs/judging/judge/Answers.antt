use Rattle.kp_tags.specs.Answers.{RefusesMerge}
use Rattle.kp_tags.proofs.judging.judge.Goals as goal

pub returns-in_ok-as_number-in-Some : goal.returns-in_ok-as_number-in-Some
returns-in_ok-as_number-in-Some c = rw c.in_ok-as_number-in-Some.ensures (RefusesMerge.inconsistent c.in-Some.place (rw (c.in-Some.is, c.slice.ensures) at c.first_inconsistent.ensures))
