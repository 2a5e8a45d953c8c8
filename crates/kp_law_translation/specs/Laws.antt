-- The plans of what is written for two trees, or two texts, and a table of tags and merges: they strip to plans of these, and with a complete table each plan of these is the strip of one.
use Rattle.std.specs.Prelude.{◌≡◌, ℕ, true, List, Some, map}
use Rattle.kp_base.specs.declared.ground.TagTable.{TagTable}
use Rattle.kp_base.specs.Planning.{IsOfItsAtoms, NeverClashes, IsComplete, action_name}
use Rattle.kp_law_tagged_machine.specs.Lifts.{lift_of}
use Rattle.kp_tree_grammar.specs.declared.tree.Word.{Word}
use Rattle.kp_tree_grammar.specs.Trees.{Domain, Problem}
use Rattle.kp_names_semantics.specs.Problems.{HasNoFault, Step, HasProblem, HasInitialState, strip, StripsToSolution, PlansStrip, is_plain_goal}
use Rattle.kp_names_semantics.specs.Plans.{IsPlan}
use Rattle.kp_law_ktask.specs.Writable.{IsWritableTask}
use Rattle.kp_law_ktask.specs.Accepted.{IsAccepted}
use Rattle.kp_law_translation.specs.OfTrees.{ground_of, initial_of}
use Rattle.kp_law_translation.specs.Tables.{IsTableFor}
use Rattle.kp_law_translation.specs.Written.{translation_of}

-- the table is one for the trees, with which their ground problem can be written, and nothing clashes
pub record IsSafelyWritten (d : Domain Word) (p : Problem Word) (table : TagTable) : Type 0 where
  pub writable : IsWritableTask (ground_of d p) table
  pub table_for : IsTableFor d p table
  pub no_clash : NeverClashes (ground_of d p) (initial_of d p)

-- ---- laws

-- each plan of what is written for such trees and table strips to a list that solves their problem
abbrev pub WrittenPlansStripToSolutions : Type 0
WrittenPlansStripToSolutions = (d : Domain Word) (p : Problem Word) (table : TagTable) → HasNoFault d p → is_plain_goal p.goal ≡ true → IsSafelyWritten d p table → (steps : List Step) → IsPlan (translation_of d p table).domain (translation_of d p table).problem steps → StripsToSolution d p steps

-- where two texts have a problem and nothing clashes, each plan of what is written for it with such a table strips to a plan of the texts
abbrev pub TranslationsAreSound : Type 0
TranslationsAreSound = (domain problem : List ℕ) (x : HasProblem domain problem) (table : TagTable) → IsTableFor x.domain x.problem table → NeverClashes (ground_of x.domain x.problem) (initial_of x.domain x.problem) → PlansStrip (translation_of x.domain x.problem table).domain (translation_of x.domain x.problem table).problem domain problem

-- ---- lifting

-- the steps by name that lifted actions have are a plan of what is written, and strip to the names of the actions
pub record IsWrittenLift (d : Domain Word) (p : Problem Word) (table : TagTable) (numbers : List ℕ) (steps : List Step) : Type 0 where
  pub is_plan : IsPlan (translation_of d p table).domain (translation_of d p table).problem steps
  pub names : List Step
  pub are_names : map (action_name (ground_of d p)) numbers ≡ map Some names
  pub strips : strip steps ≡ Some names

-- where two texts have a problem, and a table is one for it: so it is with actions whose lifted list the machine accepts
abbrev pub LiftsAreWritten : Type 0
LiftsAreWritten = (domain problem : List ℕ) (x : HasProblem domain problem) (table : TagTable) → IsTableFor x.domain x.problem table → (numbers : List ℕ) (steps : List Step)
    → IsAccepted (ground_of x.domain x.problem) table steps (lift_of (ground_of x.domain x.problem) table numbers) → IsWrittenLift x.domain x.problem table numbers steps

-- a list of steps by name lifts: they are actions, and their lifted list is accepted and has these steps by name
pub record Lifts (d : Domain Word) (p : Problem Word) (table : TagTable) (plan : List Step) : Type 0 where
  pub numbers : List ℕ
  pub are_names : map (action_name (ground_of d p)) numbers ≡ map Some plan
  pub steps : List Step
  pub accepted : IsAccepted (ground_of d p) table steps (lift_of (ground_of d p) table numbers)

-- where two texts have a problem in which some state is initial, and the table for it is complete, each plan of the texts lifts
abbrev pub PlansLift : Type 0
PlansLift = (domain problem : List ℕ) (x : HasProblem domain problem) (table : TagTable) → HasInitialState x.problem → IsOfItsAtoms (ground_of x.domain x.problem) → IsTableFor x.domain x.problem table → IsComplete (ground_of x.domain x.problem) (initial_of x.domain x.problem) table
    → (plan : List Step) → IsPlan domain problem plan → Lifts x.domain x.problem table plan
