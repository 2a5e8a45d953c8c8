use Rattle.std.proofs.Common.{◌≡◌, ◌++◌, drop}
use Rattle.kp_law_ktask.specs.Task.{numbers}
use Rattle.kp_ktask.proofs.numbers.push_numbers.Given as goal

-- with the literals that are left come all
abbrev pub invariant-loop-lit : goal.invariant-loop-lit
invariant-loop-lit l = l.row ++ numbers l.atoms l.tag (drop l.lit-index l.lits) ≡ l.fn.row ++ numbers l.atoms l.tag l.lits
