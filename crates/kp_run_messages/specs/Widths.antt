-- How the width of a problem is printed, and a target that is over the bound.
use Rattle.std.specs.Prelude.{List, [], ◌∷◌, ◌++◌, ℕ, length, codes}
use Rattle.kp_base.specs.declared.ground.GroundName.{GroundName}
use Rattle.kp_base.specs.declared.lit.Lit.{Lit}
use Rattle.kp_width.specs.declared.report.WidthRow.{WidthRow}
use Rattle.kp_width.specs.Rows.{greatest_width}
use Rattle.kp_plans_spelling.specs.Spelling.{literal_text, literals_text, number_line}
use Rattle.kp_run_messages.specs.Refusals.{target_line}

-- sets of literals, each on a line of its own under a title
abbrev pub set_lines : List ℕ → List GroundName → List (List Lit) → List ℕ
set_lines title atoms [] = []
set_lines title atoms (set ∷ sets) = title ++ (literals_text atoms set ++ (codes "\n" ++ set_lines title atoms sets))

-- the tags of a row, unless it has no clauses
abbrev pub tag_lines : List GroundName → List (List Lit) → List (List Lit) → List ℕ
tag_lines atoms [] tags = []
tag_lines atoms (c ∷ cs) tags = set_lines (codes "tag") atoms tags

-- the line of a target and of its width
abbrev pub width_line : List GroundName → Lit → ℕ → List ℕ
width_line atoms target width = codes "target " ++ (literal_text atoms target ++ number_line (codes " width ") width)

-- the lines of a row: its target, its clauses and their tags
abbrev pub row_lines : List GroundName → WidthRow → List ℕ
row_lines atoms row = width_line atoms row.target (length row.clauses) ++ (set_lines (codes "clause") atoms row.clauses ++ tag_lines atoms row.clauses row.tags)

-- the lines of rows
abbrev pub rows_lines : List GroundName → List WidthRow → List ℕ
rows_lines atoms [] = []
rows_lines atoms (row ∷ rows) = row_lines atoms row ++ rows_lines atoms rows

-- the width of a problem, and its rows
abbrev pub width_text : List GroundName → List WidthRow → List ℕ
width_text atoms rows = number_line (codes "width ") (greatest_width rows) ++ rows_lines atoms rows

-- the bound, and the target that is over it
abbrev pub over_text : List GroundName → ℕ → Lit → List ℕ
over_text atoms bound target = number_line (codes "over ") bound ++ target_line atoms target
