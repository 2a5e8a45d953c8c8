use Rattle.kp_clauses.specs.Rests.{AreRests}
use Rattle.kp_clauses.proofs.rests.put_rests.Given as goal

abbrev pub invariant-loop-spots : goal.invariant-loop-spots
invariant-loop-spots l = AreRests l.clauses l.e l.lit l.rests
