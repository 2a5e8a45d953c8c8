use Rattle.std.proofs.Common.{◌≡◌, ◌++◌, drop}
use Rattle.kp_init.specs.Initial.{no_two}
use Rattle.kp_init.proofs.one_of.add_all_pairs.Given as goal

-- with the literals that are left come all
abbrev pub invariant-loop-place : goal.invariant-loop-place
invariant-loop-place l = l.clauses ++ no_two (drop l.place l.lits) ≡ l.fn.clauses ++ no_two l.lits
