use Rattle.kp_primes.specs.Held.{formula}
use Rattle.kp_tags.proofs.Faults.{used_consistent}
use Rattle.kp_tags.proofs.accepting.table.Goals as goal

pub rows-requires : goal.rows-requires
rows-requires c = rw c.requires.used (used_consistent (formula c.args.primes.now) c.args.merges.now c.clauses-clauses.ensures.whole.has_model c.requires.acceptable)
