use Rattle.kp_relevance.proofs.Lonely.{lone_answers}
use Rattle.kp_relevance.proofs.relevance.no_clauses.Goals as goal

pub returns : goal.returns
returns c = rw c.new.ensures (lone_answers c.args.relevance.now c.args.primes.now c.args.target c.clauses-clauses.ensures.whole c.requires.below c.requires.lone)
