-- How it is printed whether a table is complete.
use Rattle.std.specs.Prelude.{List, [], ◌∷◌, ◌++◌, ℕ, codes}
use Rattle.kp_base.specs.declared.ground.GroundName.{GroundName}
use Rattle.kp_base.specs.declared.lit.Lit.{Lit}
use Rattle.kp_plans_spelling.specs.Spelling.{literal_text}

-- `complete` where no target is uncovered, and else `incomplete`
abbrev pub completeness_line : List Lit → List ℕ
completeness_line [] = codes "complete\n"
completeness_line (l ∷ ls) = codes "incomplete\n"

-- targets that aren't covered, each on a line of its own
abbrev pub uncovered_lines : List GroundName → List Lit → List ℕ
uncovered_lines atoms [] = []
uncovered_lines atoms (l ∷ ls) = codes "uncovered " ++ (literal_text atoms l ++ (codes "\n" ++ uncovered_lines atoms ls))

-- the one, and then the others
abbrev pub coverage_text : List GroundName → List Lit → List ℕ
coverage_text atoms uncovered = completeness_line uncovered ++ uncovered_lines atoms uncovered
