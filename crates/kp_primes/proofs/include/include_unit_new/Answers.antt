use Rattle.std.proofs.Common.{[], ◌∷◌}
use Rattle.kp_primes.proofs.Spreading.{spread_free}
use Rattle.kp_primes.proofs.Growing.{unit_has, unit_free}
use Rattle.kp_primes.proofs.include.include_unit_new.Goals as goal

pub merge-requires : goal.merge-requires
merge-requires c =
    rw (c.in_ok-fresh.ensures, c.in_ok-news.ensures, c.requires.unit)
    (spread_free c.args.primes.now ((c.args.lit ∷ []) ∷ []) c.args.lit (unit_has c.args.lit))

-- a clause that isn't idle brings what is new
pub put_in-requires-clause-free : goal.put_in-requires-clause-free
put_in-requires-clause-free c =
    rw (c.in_ok-merge.ensures, c.in_ok-fresh.ensures, c.in_ok-news.ensures, c.requires.unit)
    (unit_free c.args.primes.now c.args.lit c.requires.new)
