use Rattle.kp_search.specs.Scratch.{AreOf}
use Rattle.kp_search.specs.Turns.{IsAt, work}
use Rattle.kp_search.proofs.course.Search.take_turns.Given as goal

abbrev pub invariant-turns : goal.invariant-turns
invariant-turns g l = AreOf l.task l.scratch × IsAt l.task (g.E.Estimator.may_answer l.guide l.task) l.budget l.self

abbrev pub decreases-turns : goal.decreases-turns
decreases-turns g l = work l.task l.budget l.self
