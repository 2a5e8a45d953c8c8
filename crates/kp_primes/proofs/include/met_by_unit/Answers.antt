use Rattle.std.proofs.Common.{[], ◌∷◌, ◌∙◌}
use Rattle.kp_primes.proofs.Spreading.{spread_apart}
use Rattle.kp_primes.proofs.Growing.{unit_spread}
use Rattle.kp_primes.proofs.include.met_by_unit.Goals as goal

-- the unit is the one new clause
pub from_sieve-requires : goal.from_sieve-requires
from_sieve-requires c =
    rw (rw (c.requires.unit, c.requires.news, c.new-fresh.ensures) at c.in_ok-meet_all.ensures ∙ unit_spread c.args.primes.now c.args.lit)
    (spread_apart c.args.primes.now ((c.args.lit ∷ []) ∷ []) c.args.lit)
