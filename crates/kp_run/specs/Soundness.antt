-- What a translation that ended with Done is good for.
use Rattle.std.specs.Prelude.{◌≡◌, ℕ, List, Some}
use Rattle.std.specs.FinMap.{get}
use Rattle.kp_base.specs.declared.ground.TagTable.{TagTable}
use Rattle.kp_base.specs.Planning.{IsClashFree, AreValid}
use Rattle.kp_tree_grammar.specs.declared.tree.Word.{Word}
use Rattle.kp_tree_grammar.specs.Trees.{Domain, Problem}
use Rattle.kp_names_semantics.specs.Plans.{HasProblem}
use Rattle.kp_names_semantics.specs.Initial.{HasInitialState}
use Rattle.kp_names_semantics.specs.Strip.{PlansStrip}
use Rattle.kp_law_translation.specs.OfTrees.{ground_of, initial_of}
use Rattle.kp_outside.specs.Outside.{FileMap}
use Rattle.kp_run_outcome.specs.Ends.{AreHeld}
use Rattle.kp_run_inputs.specs.SourceTables.{HasTable}
use Rattle.kp_words.specs.Asked.{Source, Asked, source_of}
use Rattle.kp_words.specs.Command.{file_of, if_named}

-- a source has a table for two trees, on the text of its file of merges if it names one; and each merge of the table is valid
pub record HasValidMerges (before : FileMap) (source : Source) (d : Domain Word) (p : Problem Word) : Type 0 where
  pub merges : List (List ℕ)
  pub merges_held : AreHeld (Some before) (if_named (file_of source)) merges
  pub table : TagTable
  pub has_table : HasTable (ground_of d p) (initial_of d p) source merges table
  pub valid : AreValid (initial_of d p) table

-- Before the command the two input names hold a domain and a problem with at least one initial state, in which no action clashes, and every merge of the source is valid. After it the two output names hold files of which each plan strips to a plan of the input files.
pub record IsSound (before after : FileMap) (c : Asked) : Type 0 where
  pub domain : List ℕ
  pub problem : List ℕ
  pub domain_out : List ℕ
  pub problem_out : List ℕ
  pub domain_held : get before c.domain ≡ Some domain
  pub problem_held : get before c.problem ≡ Some problem
  pub has_problem : HasProblem domain problem
  pub initial_state : HasInitialState has_problem.problem
  pub no_clash : IsClashFree (ground_of has_problem.domain has_problem.problem) (initial_of has_problem.domain has_problem.problem)
  pub merges : HasValidMerges before (source_of c) has_problem.domain has_problem.problem
  pub domain_put : get after c.domain_out ≡ Some domain_out
  pub problem_put : get after c.problem_out ≡ Some problem_out
  pub plans : PlansStrip domain_out problem_out domain problem
