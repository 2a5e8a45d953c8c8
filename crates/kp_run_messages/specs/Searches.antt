-- How it is printed that a search found no plan, or that its budget is spent.
use Rattle.std.specs.Prelude.{List, ◌++◌, ℕ, codes}
use Rattle.kp_base.specs.declared.lit.Lit.{Lit}
use Rattle.kp_run_messages.specs.Coverage.{completeness_line}
use Rattle.kp_plans_spelling.specs.Spelling.{number_line}

-- that there is no plan; of a classical problem nothing more is told
abbrev pub no_plan_line : List ℕ
no_plan_line = codes "no plan\n"

-- that a translation has no plan, and whether its table is complete: then the given problem has none either
abbrev pub no_plan_text : List Lit → List ℕ
no_plan_text uncovered = no_plan_line ++ completeness_line uncovered

-- that the budget is spent, and how many states were expanded
abbrev pub spent_text : ℕ → List ℕ
spent_text expanded = number_line (codes "spent ") expanded
