-- What `merges` comes to.
use Rattle.std.specs.Prelude.{◌≡◌, List, [], ℕ}
use Rattle.kp_base.specs.declared.ground.Ground.{Ground}
use Rattle.kp_base.specs.declared.ground.TagTable.{TagTable}
use Rattle.kp_base.specs.declared.limits.Mode.{Mode}
use Rattle.kp_tree_grammar.specs.declared.tree.Word.{Word}
use Rattle.kp_tree_grammar.specs.Trees as trees
use Rattle.kp_law_translation.specs.OfTrees.{ground_of, initial_of}
use Rattle.kp_tags_files.specs.Printed.{merges_of, merges_text}
use Rattle.kp_run_outcome.specs.declared.outcome.Outcome.{Outcome}
use Rattle.kp_run_outcome.specs.Printing.{prints}
use Rattle.kp_words.specs.Asked.{of_mode, Asked}
use Rattle.kp_run_prepare.specs.Prepared.{Comes}
use Rattle.kp_run_inputs.specs.SourceTables.{ComesByTable}

-- the merges of a table are printed
abbrev pub MergesGround : Ground → TagTable → Outcome → Type 0
MergesGround g table o = o ≡ prints (merges_text g.atoms (merges_of table))

-- two trees have these merges in a mode
abbrev pub MergesTrees : Mode → trees.Domain Word → trees.Problem Word → Outcome → Type 0
MergesTrees mode d p o = ComesByTable (ground_of d p) (initial_of d p) (of_mode mode) [] (MergesGround (ground_of d p)) o

-- two texts have these merges in a mode
abbrev pub MergesTexts : Asked → List ℕ → List ℕ → Outcome → Type 0
MergesTexts c domain problem o = Comes c.implicates domain problem (MergesTrees c.mode) o
