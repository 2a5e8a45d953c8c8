-- The plans of two classical texts are what reaches the goal of their task.
use Rattle.std.specs.Prelude.{◌≡◌, ◌↔◌, ℕ, List, true, Some, map}
use Rattle.kp_tree_grammar.specs.declared.tree.Word.{Word}
use Rattle.kp_tree_grammar.specs.Trees.{Domain, Problem}
use Rattle.kp_names_semantics.specs.Steps.{Step}
use Rattle.kp_names_semantics.specs.Plans.{IsPlan}
use Rattle.kp_base.specs.ActionNames.{action_name}
use Rattle.kp_classic.specs.Steps.{start, succeeds}
use Rattle.kp_law_translation.specs.OfTrees.{ground_of}
use Rattle.kp_run_prepare.specs.Texts.{HaveTrees}
use Rattle.kp_run_classical.specs.Classical.{IsClassicalProblem, task_of}

-- the operators succeed from the start of the task of two trees
abbrev pub Succeeds : Domain Word → Problem Word → List ℕ → Type 0
Succeeds d p ns = succeeds (task_of d p) (start (task_of d p)) ns ≡ true

-- the actions of these numbers have the names of these steps
abbrev pub HaveNames : Domain Word → Problem Word → List ℕ → List Step → Type 0
HaveNames d p ns steps = map (action_name (ground_of d p)) ns ≡ map Some steps

-- operators whose actions have the names of these steps succeed exactly where the steps are a plan
abbrev pub SuccessesArePlans : Type 0
SuccessesArePlans = (domain problem : List ℕ) (d : Domain Word) (p : Problem Word) → HaveTrees domain problem d p → IsClassicalProblem d p → (ns : List ℕ) (steps : List Step) → HaveNames d p ns steps → Succeeds d p ns ↔ IsPlan domain problem steps

-- operators that succeed have actions with names
abbrev pub SuccessesHaveNames : Type 0
SuccessesHaveNames = (d : Domain Word) (p : Problem Word) (ns : List ℕ) → Succeeds d p ns → (steps : List Step) × HaveNames d p ns steps

-- and the steps of a plan are the names of operators that succeed
abbrev pub PlansAreSuccesses : Type 0
PlansAreSuccesses = (domain problem : List ℕ) (d : Domain Word) (p : Problem Word) → HaveTrees domain problem d p → IsClassicalProblem d p → (steps : List Step) → IsPlan domain problem steps → (ns : List ℕ) × HaveNames d p ns steps × Succeeds d p ns
