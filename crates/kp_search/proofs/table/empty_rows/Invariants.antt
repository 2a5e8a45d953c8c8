use Rattle.std.proofs.Common.{◌≡◌, length}
use Rattle.std.specs.List.{AllByRecursion}
use Rattle.kp_classic.specs.States.{FactSet}
use Rattle.kp_search.proofs.table.empty_rows.Given as goal

abbrev pub invariant-loop : goal.invariant-loop
invariant-loop l = (length l.rows.items ≡ l.counter) × AllByRecursion (λ (s : FactSet). s.facts ≡ l.facts) l.rows.items
