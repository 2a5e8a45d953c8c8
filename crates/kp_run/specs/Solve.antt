-- What `solve` comes to.
use Rattle.std.specs.Prelude.{List, ℕ}
use Rattle.kp_tree_grammar.specs.declared.tree.Word.{Word}
use Rattle.kp_tree_grammar.specs.Trees as trees
use Rattle.kp_law_translation.specs.OfTrees.{ground_of, initial_of}
use Rattle.kp_run_outcome.specs.declared.outcome.Outcome.{Outcome}
use Rattle.kp_words.specs.Asked.{source_of, Asked}
use Rattle.kp_run_prepare.specs.Prepared.{Comes}
use Rattle.kp_run_inputs.specs.SourceTables.{ComesByTable}
use Rattle.kp_run_solve.specs.Solving.{SolvesGround}

-- two trees are solved to this, with the table of the command's source; `merges` has the text of its file of merges, if it names one
abbrev pub SolvesTrees : Asked → List (List ℕ) → trees.Domain Word → trees.Problem Word → Outcome → Type 0
SolvesTrees c merges d p o = ComesByTable (ground_of d p) (initial_of d p) (source_of c) merges (SolvesGround c.classical c.budget (ground_of d p) (initial_of d p)) o

-- two texts are solved to this
abbrev pub SolvesTexts : Asked → List ℕ → List ℕ → List (List ℕ) → Outcome → Type 0
SolvesTexts c domain problem merges o = Comes c.implicates domain problem (SolvesTrees c merges) o
