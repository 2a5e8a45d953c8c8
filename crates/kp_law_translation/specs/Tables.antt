-- Tables of tags and merges for two trees.
use Rattle.std.specs.Prelude.{◌<◌, ◌≤◌, ◌^◌, ◌*◌, ℕ, List, length}
use Rattle.std.specs.List.{AllByRecursion}
use Rattle.kp_base.specs.declared.ground.TagTable.{TagTable}
use Rattle.kp_base.specs.Entailed.{IsTable, AreValid}
use Rattle.kp_base.specs.Machine.{one_tag_table}
use Rattle.kp_tree_grammar.specs.declared.tree.Word.{Word}
use Rattle.kp_tree_grammar.specs.Trees.{Domain, Problem}
use Rattle.kp_names_semantics.specs.Plans.{HasProblem}
use Rattle.kp_names_semantics.specs.Numbering.{numbered_problem}
use Rattle.kp_ground_semantics.specs.Weights.{total_weight}
use Rattle.kp_write.specs.Grounds.{IsOfAtom}
use Rattle.kp_law_ktask.specs.Task.{task_of}
use Rattle.kp_law_ktask.specs.Weight.{weight_of}
use Rattle.kp_law_ktask.specs.Writable.{IsWritableTask}
use Rattle.kp_law_translation.specs.OfTrees.{ground_of, initial_of, start_of}

-- the table of the empty tag alone, with its closure
abbrev pub empty_tag : Domain Word → Problem Word → TagTable
empty_tag d p = one_tag_table (start_of d p)

-- a table for two trees: it is right, its merges are valid and have ground atoms as their targets, and tags and merges can be counted
pub record IsTableFor (d : Domain Word) (p : Problem Word) (table : TagTable) : Type 0 where
  pub right : IsTable (ground_of d p) (initial_of d p) table
  pub valid : AreValid (initial_of d p) table
  pub targets : AllByRecursion (λ m. IsOfAtom (ground_of d p).atoms m.target) table.merges
  pub tags_fit : length table.tags < 2 ^ 64
  pub merges_fit : length table.merges < 2 ^ 64

-- ---- laws

-- where two texts have a problem, its ground problem can be written with each such table
abbrev pub TablesCanBeWritten : Type 0
TablesCanBeWritten = (domain_text problem_text : List ℕ) (x : HasProblem domain_text problem_text) (table : TagTable) → IsTableFor x.domain x.problem table → IsWritableTask (ground_of x.domain x.problem) table

-- the table of the empty tag alone is one
abbrev pub EmptyTagIsTable : Type 0
EmptyTagIsTable = (d : Domain Word) (p : Problem Word) → IsTableFor d p (empty_tag d p)

-- with it alone a task weighs at most twice what the instances do
abbrev pub EmptyTagsAreLight : Type 0
EmptyTagsAreLight = (d : Domain Word) (p : Problem Word) → weight_of (task_of (ground_of d p) (empty_tag d p)) ≤ 2 * total_weight (numbered_problem d p)
