use Rattle.std.proofs.Common.{fold}
use Rattle.kp_names_declared.specs.Steps.{with_name, under}
use Rattle.kp_names_declared.proofs.ChainsOfNames.{IsMet}
use Rattle.kp_names_declared.proofs.under.Under.add_to.Given as goal

-- with the names that are still met come all
abbrev pub invariant-names : goal.invariant-names
invariant-names l = IsMet l.links l.kind l.at l.names (fold with_name l.fn.names (under l.self l.kind))

abbrev pub decreases-names : goal.decreases-names
decreases-names l = l.at
