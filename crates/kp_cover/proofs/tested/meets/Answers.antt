use Rattle.std.proofs.Common.{◌∙◌}
use Rattle.kp_primes.proofs.Public.{consistent_exact}
use Rattle.kp_cover.proofs.Closures.{meets_is}
use Rattle.kp_cover.proofs.tested.meets.Goals as goal

pub returns-in-Some : goal.returns-in-Some
returns-in-Some c = c.meets_all.ensures ∙ meets_is c.args.primes.now c.clauses-whole.ensures.whole c.args.clauses.now c.args.tag.now c.in-Some.set c.requires.clauses (rw c.in-Some.is at c.in_ok-closed.ensures).1

pub returns-in-None : goal.returns-in-None
returns-in-None c = absurd ((rw c.in-None.is at c.in_ok-closed.ensures) ((consistent_exact c.args.primes.now c.clauses-whole.ensures.whole c.args.tag.now).0 c.requires.fine))
