use Rattle.kp_search.proofs.Turning.{ends_without, known, took}
use Rattle.kp_search.proofs.course.Search.turn.Goals as goal

pub load-requires-clause-known : goal.load-requires-clause-known
load-requires-clause-known g c = known c.args.task.now c.requires.fit (g.E.Estimator.may_answer c.args.guide.now c.args.task.now) c.args.budget c.args.self.now c.take.new.self c.in-Some.key c.requires.at c.in-Some.ensures.some

-- no entry waits
pub returns-in-None-clause-ends : goal.returns-in-None-clause-ends
returns-in-None-clause-ends g c = ends_without c.args.task.now c.requires.fit (g.E.Estimator.may_answer c.args.guide.now c.args.task.now) c.args.budget c.args.self.now c.requires.at c.in-None.ensures.none

pub visit-requires-clause-taken : goal.visit-requires-clause-taken
visit-requires-clause-taken g c =
    took c.args.task.now c.requires.fit (g.E.Estimator.may_answer c.args.guide.now c.args.task.now) c.args.budget c.args.self.now c.take.new.self c.in-Some.key c.requires.at c.in-Some.ensures.some c.load.new.state c.load.ensures.state
