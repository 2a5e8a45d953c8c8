-- The number with which the program ends.
use Rattle.std.specs.Prelude.{ℕ}
use Rattle.kp_run_outcome.specs.declared.status.Status.{Status}
use Rattle.kp_run_outcome.specs.declared.status.Status.TheVariants as status

-- the number of a status
abbrev pub number_of : Status → ℕ
number_of status.Done = 0
number_of status.Negative = 1
number_of status.Usage = 2
number_of (status.Refused refused) = 3
number_of status.Spent = 4
number_of status.ReadFault = 5
number_of status.WriteFault = 6
number_of status.Memory = 7
