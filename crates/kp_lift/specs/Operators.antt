-- Which numbers a lifted list of operators has.
use Rattle.std.specs.Prelude.{◌≡◌, true, length, nat_lt}
use Rattle.std.specs.List.{list_all}
use Rattle.kp_classic.specs.declared.task.Task.{Task}
use Rattle.kp_lift.specs.declared.lifting.Lifting.{Lifting}
use Rattle.kp_lift.specs.declared.lifting.Lifting.TheVariants.{Lifted, Unlifted}

-- where a list lifts, each number is that of an operator of the task
abbrev pub AreOperators : Task → Lifting → Type 0
AreOperators task (Lifted ops) = list_all (λ n. nat_lt n (length task.ops)) ops ≡ true
AreOperators task (Unlifted k l) = Unit {0}
