use Rattle.kp_primes.specs.Held.{formula}
use Rattle.kp_check.proofs.Grounded.{ground_of}
use Rattle.kp_check.proofs.Marking.{marks_are}
use Rattle.kp_check.proofs.judge.marks_of.Goals as goal

pub returns : goal.returns
returns c =
    let n = c.args.primes.now.atoms in
    rw (c.in_ok-marks.ensures, c.in_ok-from.ensures, c.atoms.ensures) (marks_are n c.in_ok-known.known c.args.ground.now (formula c.args.primes.now) (ground_of n c.args.ground.now c.requires.number c.requires.ground) c.in_ok-known.ensures c.args.steps.now c.requires.inside)
