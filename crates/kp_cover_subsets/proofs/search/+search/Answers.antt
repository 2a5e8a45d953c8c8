use Rattle.std.proofs.Common.{◌-◌, arith}
use Rattle.kp_cover_subsets.proofs.Searching.{found_here, not_here, popped_is}
use Rattle.kp_cover_subsets.proofs.search.+search.Goals as goal

pub returns-then-branch : goal.returns-then-branch
returns-then-branch g t c = found_here (g.T.Test.passes c.args.test.now) c.args.n c.args.k (c.args.k - 1) c.args.from c.loop-i.i c.args.chosen.now.items c.loop-i.chosen.items c.push.new.self.items (omega (arith, c.if-k-eq0.false)) c.loop-i.invariant c.loop-i-test.true c.in_ok-push.ensures.items _ _ c.if-branch.true c.in_ok-search.ensures

pub loop-i-preserved : goal.loop-i-preserved
loop-i-preserved g t c = not_here (g.T.Test.passes c.args.test.now) c.args.n c.args.k (c.args.k - 1) c.args.from c.loop-i.i c.args.chosen.now.items c.loop-i.chosen.items c.push.new.self.items (omega (arith, c.if-k-eq0.false)) c.loop-i.invariant c.loop-i-test.true c.in_ok-push.ensures.items _ _ c.pop.new.self.items c.if-branch.false c.in_ok-search.ensures (popped_is _ c.search.new.chosen.items _ c.loop-i.i _ c.search.new.chosen.ok.0 c.pop.ensures.rest)
