use Rattle.kp_clauses.specs.Rests.{AreRests}
use Rattle.kp_clauses.proofs.rests.put_rests_at.Given as goal

abbrev pub invariant-loop-s : goal.invariant-loop-s
invariant-loop-s l = AreRests l.clauses l.e l.lit l.rests
