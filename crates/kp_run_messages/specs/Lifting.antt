-- How it is printed that a plan doesn't lift: no plan of the written files comes to it.
use Rattle.std.specs.Prelude.{List, ◌++◌, ℕ, Option, codes}
use Rattle.kp_base.specs.declared.ground.GroundName.{GroundName}
use Rattle.kp_base.specs.declared.lit.Lit.{Lit}
use Rattle.kp_run_messages.specs.Counterexamples.{failing_line}

-- that it doesn't lift, and where
abbrev pub unlifted_text : List GroundName → Option ℕ → Lit → List ℕ
unlifted_text atoms step l = codes "unlifted\n" ++ failing_line atoms step l
