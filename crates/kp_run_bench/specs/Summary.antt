-- The summary of a run on a generated problem.
use Rattle.std.specs.Prelude.{ℕ, List, ◌++◌, codes}
use Rattle.kp_base.specs.declared.ground.Ground.{Ground}
use Rattle.kp_base.specs.declared.ground.TagTable.{TagTable}
use Rattle.kp_base.specs.declared.lit.Lit.{Lit}
use Rattle.kp_ktask_texts.specs.Translations.{translation_with}
use Rattle.kp_run_messages.specs.Coverage.{coverage_text}
use Rattle.kp_plans_spelling.specs.Spelling.{number_line}
use Rattle.kp_words.specs.Asked.{Asked}
use Rattle.kp_words.specs.Options.{family_word}

-- the line of a word under a title
abbrev pub word_line : List ℕ → List ℕ → List ℕ
word_line title word = title ++ (word ++ codes "\n")

-- the family and the size; the counts of the translation, and whether the table is complete; how many steps the plan has, and how many states were expanded; and that the plan passed its check
abbrev pub summary_text : Asked → Ground → TagTable → List Lit → ℕ → ℕ → List ℕ
summary_text c g table uncovered steps expanded =
    word_line (codes "family ") (family_word c.family) ++ (number_line (codes "n ") c.size
    ++ ((translation_with g table).counts ++ (coverage_text g.atoms uncovered
    ++ (number_line (codes "steps ") steps ++ (number_line (codes "expanded ") expanded ++ codes "check yes\n")))))
