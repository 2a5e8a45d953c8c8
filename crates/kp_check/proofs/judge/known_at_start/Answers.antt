use Rattle.kp_primes.specs.Held.{formula}
use Rattle.kp_check.proofs.Asking.{closed_in_each}
use Rattle.kp_check.proofs.judge.known_at_start.Goals as goal

pub returns-in-Some : goal.returns-in-Some
returns-in-Some c =
    let closed = rw (c.in-Some.is, c.new.ensures) at c.in_ok-known.ensures in
    closed_in_each c.args.primes.now.atoms (formula c.args.primes.now) c.in-Some.known closed.1
