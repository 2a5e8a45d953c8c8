use Rattle.kp_primes.specs.Held.{formula}
use Rattle.kp_tags.proofs.Closed.{row_is}
use Rattle.kp_tags.proofs.rows.row.Goals as goal

pub returns-in-Some : goal.returns-in-Some
returns-in-Some c =
    let closed = rw c.in-Some.is at c.in_ok-closure.ensures in
    row_is c.args.primes.now.atoms (formula c.args.primes.now) c.args.tag.now c.in_ok-lits.lits c.in-Some.closure c.row_with.result c.in_ok-lits.ensures c.requires.ascending c.row_with.ensures.lits c.row_with.ensures.closure c.row_with.ensures.ascending closed.1
