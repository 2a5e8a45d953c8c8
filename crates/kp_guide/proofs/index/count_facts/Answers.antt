use Rattle.std.proofs.Common.{◌≡◌, length, sym, subst, arith}
use Rattle.kp_guide.specs.Waiting.{AreCounts, unreached_before}
use Rattle.kp_guide.proofs.Noting.{counts_begin, counts_end}
use Rattle.kp_guide.proofs.index.count_facts.Goals as goal

-- no fact has counted so far
pub loop-fact-init : goal.loop-fact-init
loop-fact-init c = subst (AreCounts c.args.index.now.rules.items (unreached_before c.args.costs.now 0)) (sym c.requires.counts) (counts_begin c.args.index.now.rules.items c.args.costs.now)

-- all facts have
pub returns : goal.returns
returns c =
    let index = c.args.index.now in
    let all : c.loop-fact.fact ≡ length index.users.items = omega arith in
    counts_end index.rules.items c.args.costs.now c.loop-fact.counts (length index.users.items) index.fit
    (subst (λ n. AreCounts index.rules.items (unreached_before c.args.costs.now n) c.loop-fact.counts) all c.loop-fact.invariant)
