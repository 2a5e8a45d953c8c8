-- How it is printed that a plan doesn't work from every initial state.
use Rattle.std.specs.Prelude.{List, ◌++◌, ◌+◌, ℕ, Option, Some, None, codes, decimal}
use Rattle.kp_base.specs.declared.ground.GroundName.{GroundName}
use Rattle.kp_base.specs.declared.lit.AtomId.{AtomId}
use Rattle.kp_base.specs.declared.lit.Lit.{Lit}
use Rattle.kp_plans_spelling.specs.Spelling.{literal_text}
use Rattle.kp_run_messages.specs.Refusals.{state_line}

-- where a plan fails, at a step or at the goal, and the literal that is missing there; steps are counted from 1
abbrev pub failing_line : List GroundName → Option ℕ → Lit → List ℕ
failing_line atoms None l = codes "goal " ++ (literal_text atoms l ++ codes "\n")
failing_line atoms (Some before) l = codes "step " ++ (decimal (before + 1) ++ (codes " " ++ (literal_text atoms l ++ codes "\n")))

-- the state from which it fails, and where
abbrev pub counterexample_text : List GroundName → List AtomId → Option ℕ → Lit → List ℕ
counterexample_text atoms state step l = codes "no\n" ++ (state_line atoms state ++ failing_line atoms step l)
