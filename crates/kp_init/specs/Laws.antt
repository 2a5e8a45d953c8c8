-- The laws of the initial formula: its models are the initial states, and plans are runs from the models.
use Rattle.std.specs.Prelude.{◌≡◌, ◌↔◌, ◌<◌, ℕ, true, List, Some, map, length, slice_get}
use Rattle.kp_base.specs.Steps as steps
use Rattle.kp_base.specs.Planning.{is_model, IsGroundPlan, Atom, action_name, IsOfAtoms}
use Rattle.kp_tree_grammar.specs.declared.tree.Word.{Word}
use Rattle.kp_tree_grammar.specs.Trees.{Domain, Problem}
use Rattle.kp_names_semantics.specs.Problems.{HasNoFault, Step, HasProblem, Solves, Lifted, Instance, numbered_problem, is_plain_goal}
use Rattle.kp_names_semantics.specs.Plans as plans
use Rattle.kp_names_semantics.specs.Lifted.{State, IsInitial, IsPlan}
use Rattle.kp_ground_semantics.specs.Ground.{IsNumbering, kept_instances, ground_over, ground_of, seen_on}
use Rattle.kp_init.specs.Initial.{initial_over, initial_of}

-- the initial states and the models: each initial state, seen on the ground atoms, is a model; each model is one so; no two initial states are the same model
pub record AreModels (l : Lifted) (atoms : List Atom) : Type 0 where
  pub model : (s : State) → IsInitial l s → is_model (initial_over l atoms) (seen_on atoms s) ≡ true
  pub state : (g : steps.State) → is_model (initial_over l atoms) g ≡ true → (s : State) × IsInitial l s × ((n : ℕ) → n < length atoms → seen_on atoms s n ≡ g n)
  pub only : (s t : State) → IsInitial l s → IsInitial l t → ((n : ℕ) → seen_on atoms s n ≡ seen_on atoms t n) → (q : ℕ) (os : List ℕ) → s q os ≡ t q os

-- this holds over any numbering of the ground atoms
abbrev pub IsInitialExact : Type 0
IsInitialExact = (l : Lifted) (atoms : List Atom) → IsNumbering l atoms → AreModels l atoms

-- and the formula speaks of these atoms alone
abbrev pub IsInitialOver : Type 0
IsInitialOver = (l : Lifted) (atoms : List Atom) → IsNumbering l atoms → IsOfAtoms (length atoms) (initial_over l atoms)

-- the actions of these numbers are those of these instances, and succeed from each model
pub record IsModelRun (l : Lifted) (atoms : List Atom) (is : List Instance) (ns : List ℕ) : Type 0 where
  pub numbers : map (slice_get (kept_instances l)) ns ≡ map Some is
  pub plan : IsGroundPlan (ground_over l atoms) (initial_over l atoms) ns

-- where there is a model, the plans are the lists of kept instances whose actions succeed from each model
abbrev pub IsPlanByModels : Type 0
IsPlanByModels = (l : Lifted) (atoms : List Atom) → IsNumbering l atoms → (first : steps.State) → is_model (initial_over l atoms) first ≡ true → (is : List Instance) → IsPlan l is ↔ ((ns : List ℕ) × IsModelRun l atoms is ns)

-- ---- by name

-- the actions of these numbers have the names of these steps, and succeed from each model
pub record IsNamedRun (d : Domain Word) (p : Problem Word) (is : List Step) (ns : List ℕ) : Type 0 where
  pub names : map (action_name (ground_of (numbered_problem d p))) ns ≡ map Some is
  pub plan : IsGroundPlan (ground_of (numbered_problem d p)) (initial_of (numbered_problem d p)) ns

-- where there is a model, the plans of two trees are the names of the lists of actions that succeed from each model
abbrev pub IsPlanByName : Type 0
IsPlanByName = (d : Domain Word) (p : Problem Word) → HasNoFault d p → is_plain_goal p.goal ≡ true → (first : steps.State) → is_model (initial_of (numbered_problem d p)) first ≡ true → (is : List Step) → Solves d p is ↔ ((ns : List ℕ) × IsNamedRun d p is ns)

-- and for two texts that have a problem: their plans are the names of the lists of actions that succeed from each model
abbrev pub IsPlanOfTexts : Type 0
IsPlanOfTexts = (domain_text problem_text : List ℕ) (x : HasProblem domain_text problem_text) → (first : steps.State) → is_model (initial_of (numbered_problem x.domain x.problem)) first ≡ true → (is : List Step) → plans.IsPlan domain_text problem_text is ↔ ((ns : List ℕ) × IsNamedRun x.domain x.problem is ns)
