-- Searches by the estimate `added`.
use Rattle.kp_classic.specs.declared.task.Task.{Task}
use Rattle.kp_classic.specs.Fits.{IsFit}
use Rattle.kp_classic.specs.States.{has}
use Rattle.kp_guide.proofs.Public.{added_exists, added_is_one}
use Rattle.kp_search.specs.Estimates.{HasEstimates, HasOneEstimate}
use Rattle.kp_search.specs.Ends.{by_added}
use Rattle.kp_search.specs.Laws.{HasOneEndByAdded, HasSomeEndByAdded}
use Rattle.kp_search.proofs.OneEnd.{same_end}
use Rattle.kp_search.proofs.SomeEnd.{some_end}

pub one_estimate : (t : Task) → HasOneEstimate t (by_added t)
one_estimate t = record { one = λ s a b same p q. added_is_one t (has s.hold) a b p q }

pub estimates : (t : Task) → IsFit t → HasEstimates t (by_added t)
estimates t fit = record { some = λ s same. added_exists t (has s.hold) fit }

pub one_end_by_added : HasOneEndByAdded
one_end_by_added t budget a b p q = same_end t (by_added t) (one_estimate t) budget a b p q

pub some_end_by_added : HasSomeEndByAdded
some_end_by_added t budget fit = some_end t (by_added t) (estimates t fit) budget
