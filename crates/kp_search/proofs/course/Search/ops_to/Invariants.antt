use Rattle.kp_search.specs.Turns.{IsBehind}
use Rattle.kp_search.proofs.course.Search.ops_to.Given as goal

abbrev pub invariant-back : goal.invariant-back
invariant-back l = IsBehind l.task l.self l.number l.at l.back.items

abbrev pub decreases-back : goal.decreases-back
decreases-back l = l.at
