-- What is proved of the translation of two trees, and of their initial states.
use Rattle.std.specs.Prelude.{◌≡◌, ◌↔◌, ◌<◌, ℕ, List, [], length}
use Rattle.kp_base.specs.declared.lit.Lit.{Lit}
use Rattle.kp_base.specs.declared.ground.GroundName.{GroundName}
use Rattle.kp_base.specs.Planning.{Member, IsAscending, HasModel, IsClosure, IsOfAtoms, IsOfItsAtoms}
use Rattle.kp_tree_grammar.specs.declared.tree.Word.{Word}
use Rattle.kp_tree_grammar.specs.Trees.{Domain, Problem}
use Rattle.kp_names_semantics.specs.Problems.{Name, HasInitialState, HasNoFault, HasProblem, numbered_problem}
use Rattle.kp_names_semantics.specs.States.{State}
use Rattle.kp_names_semantics.specs.Initial.{IsInitial}
use Rattle.kp_init.specs.ByName.{HasNamedAtoms}
use Rattle.kp_write.specs.Grounds.{AreOfAtoms, IsWritable}
use Rattle.kp_law_translation.specs.OfTrees.{ground_of, initial_of, start_of}

-- where no name is at fault, some state is initial exactly where the initial formula has a model
abbrev pub InitialStatesAreModels : Type 0
InitialStatesAreModels = (d : Domain Word) (p : Problem Word) → HasNoFault d p → HasInitialState p ↔ HasModel (initial_of d p)

-- where no name is at fault, two initial states that say the same of each ground atom are the same state; so two that differ are different models
abbrev pub DifferentStatesAreDifferentModels : Type 0
DifferentStatesAreDifferentModels = (d : Domain Word) (p : Problem Word) → HasNoFault d p → (s t : State) → IsInitial p s → IsInitial p t → ((a : GroundName) → Member (ground_of d p).atoms a → s a.head a.objects ≡ t a.head a.objects) → (h : Name) (os : List Name) → s h os ≡ t h os

-- the initial formula speaks of ground atoms alone
abbrev pub FormulasSpeakOfGroundAtoms : Type 0
FormulasSpeakOfGroundAtoms = (d : Domain Word) (p : Problem Word) → IsOfAtoms (length (ground_of d p).atoms) (initial_of d p)

-- where no name is at fault, the names of the ground atoms tell them apart
abbrev pub NamesTellGroundAtoms : Type 0
NamesTellGroundAtoms = (d : Domain Word) (p : Problem Word) → HasNoFault d p → HasNamedAtoms (numbered_problem d p)

-- whichever ascending list is a closure of the empty tag, it is what is known at the start
abbrev pub ClosuresAreStarts : Type 0
ClosuresAreStarts = (d : Domain Word) (p : Problem Word) (ls : List Lit) → IsClosure (length (ground_of d p).atoms) (initial_of d p) [] ls → IsAscending ls → ls ≡ start_of d p

-- ---- what is written

-- the literals that are known at the start are of ground atoms
abbrev pub StartsAreOfAtoms : Type 0
StartsAreOfAtoms = (d : Domain Word) (p : Problem Word) → AreOfAtoms (ground_of d p).atoms (start_of d p)

-- where two texts have a problem, its ground problem can be written
abbrev pub GroundProblemsAreWritable : Type 0
GroundProblemsAreWritable = (domain_text problem_text : List ℕ) (x : HasProblem domain_text problem_text) → IsWritable (ground_of x.domain x.problem)

-- the ground problem of two trees speaks of its own atoms alone, where a `u32` counts atoms and actions
abbrev pub GroundProblemsAreOfTheirAtoms : Type 0
GroundProblemsAreOfTheirAtoms = (d : Domain Word) (p : Problem Word) → length (ground_of d p).atoms < 2147483648 → length (ground_of d p).actions < 2147483648 → IsOfItsAtoms (ground_of d p)
