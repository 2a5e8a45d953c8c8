use Rattle.kp_cover.proofs.Deciding.{covered_by_empty, covered_by_merge}
use Rattle.kp_cover.proofs.covering.is_covered.Goals as goal

pub returns-then-meets : goal.returns-then-meets
returns-then-meets c = covered_by_empty c.args.relevance.now c.args.primes.now c.args.table.now c.clauses-whole.ensures.whole c.args.target c.in_ok-clauses.clauses c.in_ok-clauses.ensures c.meets.result (rw c.slice.ensures at c.meets.ensures) c.if-meets.true

pub returns : goal.returns
returns c = covered_by_merge c.args.relevance.now c.args.primes.now c.args.table.now c.clauses-whole.ensures.whole c.args.target c.in_ok-clauses.clauses c.in_ok-clauses.ensures c.meets.result (rw c.slice.ensures at c.meets.ensures) c.if-meets.false c.in_ok-covered.covered (rw c.slice-2.ensures at c.in_ok-covered.ensures)
