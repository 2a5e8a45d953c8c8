use Rattle.kp_primes.specs.Held.{formula}
use Rattle.kp_cover.proofs.Inside.{all_inside}
use Rattle.kp_cover.proofs.tags.valid.Goals as goal

-- they are told to be valid
pub returns-then-branch : goal.returns-then-branch
returns-then-branch c = (rw c.slice.ensures at c.in_ok-are_soon_valid.ensures) c.if-branch.true

pub returns-in-Some : goal.returns-in-Some
returns-in-Some c = rw (c.in-Some.is, c.slice-2.ensures) at c.in_ok-state.ensures

pub returns-in-None : goal.returns-in-None
returns-in-None c = all_inside (formula c.args.primes.now) c.args.tags.now (rw (c.in-None.is, c.slice-2.ensures) at c.in_ok-state.ensures)
