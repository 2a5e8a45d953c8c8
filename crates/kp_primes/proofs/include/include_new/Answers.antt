use Rattle.kp_primes.proofs.Growing.{start_new, walked_free}
use Rattle.kp_primes.proofs.include.include_new.Goals as goal

-- a clause that isn't idle is new
pub walk-requires-clause-new : goal.walk-requires-clause-new
walk-requires-clause-new c = rw (c.slice.ensures.value, c.in_ok-news.ensures) (start_new c.args.primes.now c.args.c.now c.slice.ensures.ascending c.requires.new)

-- no prime implicate is within what comes of it
pub put_in-requires-clause-free : goal.put_in-requires-clause-free
put_in-requires-clause-free c =
    let walked = rw c.in-In.is at c.in_ok-entry.ensures in
    rw (walked, c.slice.ensures.value, c.in_ok-news.ensures) (walked_free c.args.primes.now c.args.c.now c.slice.ensures.ascending c.requires.new)
