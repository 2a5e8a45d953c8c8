-- Where a list of operators leads.
use Rattle.std.specs.Prelude.{ℕ, if◌then◌else◌, List, Option, Some, None, length}
use Rattle.kp_classic.specs.declared.task.Task.{Task}
use Rattle.kp_classic.specs.States.{FactSet, fact_set_of}
use Rattle.kp_classic.specs.Steps.{start, runs, holding_after}

-- the state at the end of the operators, from the start; none where one of them isn't applicable in its turn
abbrev pub state_at_end : Task → List ℕ → Option FactSet
state_at_end t ns = if runs t (start t) ns then Some (fact_set_of (length t.facts) (holding_after t (start t) ns)) else None
