-- What `classical` comes to.
use Rattle.std.specs.Prelude.{List, ℕ}
use Rattle.kp_tree_grammar.specs.declared.tree.Word.{Word}
use Rattle.kp_tree_grammar.specs.Trees as trees
use Rattle.kp_law_translation.specs.OfTrees.{ground_of}
use Rattle.kp_run_outcome.specs.declared.outcome.Outcome.{Outcome}
use Rattle.kp_words.specs.Asked.{Asked}
use Rattle.kp_run_classical.specs.Classical.{ComesClassical, task_of as classical_task}
use Rattle.kp_run_solve.specs.Solving.{SolvesClassical}

-- two classical trees are solved to this
abbrev pub ClassicalTrees : Asked → trees.Domain Word → trees.Problem Word → Outcome → Type 0
ClassicalTrees c d p o = SolvesClassical c.budget (ground_of d p) (classical_task d p) o

-- two classical texts are solved to this
abbrev pub ClassicalTexts : Asked → List ℕ → List ℕ → Outcome → Type 0
ClassicalTexts c domain problem o = ComesClassical domain problem (ClassicalTrees c) o
