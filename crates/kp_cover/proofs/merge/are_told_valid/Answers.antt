use Rattle.kp_primes.specs.Held.{formula}
use Rattle.kp_cover.proofs.Denying.{valid_is}
use Rattle.kp_cover.proofs.merge.are_told_valid.Goals as goal

pub returns : goal.returns
returns c = valid_is c.args.primes.now.atoms (formula c.args.primes.now) c.args.tags.now c.in_ok-answer.answer c.says_valid.result c.in_ok-answer.ensures c.says_valid.ensures
