-- The counts of a translation, as they are printed.
use Rattle.std.specs.Prelude.{ℕ, List, ◌++◌, length, codes}
use Rattle.kp_base.specs.declared.ground.Ground.{Ground}
use Rattle.kp_base.specs.declared.ground.TagTable.{TagTable}
use Rattle.kp_plans_spelling.specs.Spelling.{number_line}
use Rattle.kp_law_ktask.specs.Task.{task_of}

-- how many atoms, actions, tags, merges and facts there are
abbrev pub counts_of : Ground → TagTable → List ℕ
counts_of g table =
    number_line (codes "atoms ") (length g.atoms)
    ++ (number_line (codes "actions ") (length g.actions)
    ++ (number_line (codes "tags ") (length table.tags)
    ++ (number_line (codes "merges ") (length table.merges)
    ++ number_line (codes "facts ") (length (task_of g table).facts))))
