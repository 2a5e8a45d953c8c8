use Rattle.std.proofs.Common.{◌+◌, ◌*◌}
use Rattle.kp_primes_first_model.specs.Known.{undecided}
use Rattle.kp_primes_first_model.proofs.finding.+find.Given as goal

-- the atoms that are still to be decided
abbrev pub decreases-find : goal.decreases-find
decreases-find g l = 3 * undecided l.tag l.primes.now.atoms + 2

abbrev pub decreases-find_either_way : goal.decreases-find_either_way
decreases-find_either_way g l = 3 * undecided l.tag l.primes.now.atoms + 1

abbrev pub decreases-find_absent : goal.decreases-find_absent
decreases-find_absent g l = 3 * undecided l.tag.now l.primes.now.atoms

abbrev pub decreases-find_present : goal.decreases-find_present
decreases-find_present g l = 3 * undecided l.tag l.primes.now.atoms
