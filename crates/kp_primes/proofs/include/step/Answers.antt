use Rattle.kp_primes.proofs.Spreading.{spread_apart, spread_free}
use Rattle.kp_primes.proofs.Growing.{fresh_over}
use Rattle.kp_primes.proofs.include.step.Goals as goal

-- what is put in later is too much
pub returns-in-Over : goal.returns-in-Over
returns-in-Over c = fresh_over c.args.primes.now c.args.news.now c.args.lit c.args.limit c.requires.there (rw (c.in-Over.is, c.new-fresh.ensures) at c.in_ok-entry.ensures)

pub from_sieve-requires : goal.from_sieve-requires
from_sieve-requires c = rw (rw (c.in-In.is, c.new-fresh.ensures) at c.in_ok-entry.ensures) (spread_apart c.args.primes.now c.args.news.now c.args.lit)

pub merge-requires : goal.merge-requires
merge-requires c = rw (c.from_sieve.ensures, rw (c.in-In.is, c.new-fresh.ensures) at c.in_ok-entry.ensures) (spread_free c.args.primes.now c.args.news.now c.args.lit c.requires.there)
