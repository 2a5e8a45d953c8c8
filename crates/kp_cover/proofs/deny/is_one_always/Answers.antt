use Rattle.std.proofs.Common.{◌∙◌, sym}
use Rattle.kp_primes.specs.Held.{formula}
use Rattle.kp_cover.proofs.Denying.{one_within}
use Rattle.kp_cover.proofs.deny.is_one_always.Goals as goal

-- what the empty tag entails is known
pub returns-in-Some : goal.returns-in-Some
returns-in-Some c e = one_within c.args.primes.now.atoms (formula c.args.primes.now) c.in-Some.always c.args.tags.now (rw (c.in-Some.is, c.new.ensures) at c.in_ok-always.ensures).1 (sym c.is_one_within.ensures ∙ e)
