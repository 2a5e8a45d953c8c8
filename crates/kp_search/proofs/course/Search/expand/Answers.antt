use Rattle.std.proofs.Common.{rules}
use Rattle.kp_search.proofs.Turning.{at_expanded, kept_asked, kept_facts, stays_at}
use Rattle.kp_search.proofs.course.Search.expand.Goals as goal

-- its state was taken before
pub returns-then-not-branch-clause-at : goal.returns-then-not-branch-clause-at
returns-then-not-branch-clause-at g c =
    stays_at c.args.task.now c.requires.fit (g.E.Estimator.may_answer c.args.guide.now c.args.task.now) c.args.budget c.args.key c.args.state.now c.args.self.now c.keep.new.self c.requires.taken
    c.in_ok-keep.field-0 c.if-not-branch.true c.in_ok-keep.ensures

pub spread-requires-clause-table : goal.spread-requires-clause-table
spread-requires-clause-table g c =
    kept_facts c.args.task.now c.requires.fit (g.E.Estimator.may_answer c.args.guide.now c.args.task.now) c.args.budget c.args.key c.args.state.now c.args.self.now c.keep.new.self c.requires.taken
    c.in_ok-keep.field-0 c.if-not-branch.false c.in_ok-keep.ensures

pub spread-requires-clause-asked : goal.spread-requires-clause-asked
spread-requires-clause-asked g c =
    kept_asked c.args.task.now c.requires.fit (g.E.Estimator.may_answer c.args.guide.now c.args.task.now) c.args.budget c.args.key c.args.state.now c.args.self.now c.keep.new.self c.requires.taken
    c.in_ok-keep.field-0 c.if-not-branch.false c.in_ok-keep.ensures

-- the course has the entry expanded
pub returns-clause-at : goal.returns-clause-at
returns-clause-at g c =
    at_expanded c.args.task.now c.requires.fit (g.E.Estimator.may_answer c.args.guide.now c.args.task.now) c.args.budget c.args.key _ c.args.state.now c.args.self.now c.keep.new.self c.spread.new.self c.requires.taken c.requires.no_goal c.requires.room (search rules)
    c.in_ok-keep.field-0 c.if-not-branch.false c.in_ok-keep.ensures c.in_ok-spread.ensures.spreads c.in_ok-spread.ensures.table c.in_ok-spread.ensures.estimates
