-- The problem that two texts have, and its plans.
use Rattle.std.specs.Prelude.{◌≡◌, ℕ, Bool, true, ◌&&◌, List, [], ◌∷◌}
use Rattle.std.specs.List.{list_all}
use Rattle.kp_tree_grammar.specs.declared.tree.Word.{Word}
use Rattle.kp_tree_grammar.specs.Trees.{Domain, Problem}
use Rattle.kp_tree_grammar.specs.Grammar as grammar
use Rattle.kp_tree_grammar.specs.Texts.{ReadsAs}
use Rattle.kp_names_semantics.specs.Faults.{HasNoFault}
use Rattle.kp_names_semantics.specs.States.{State, unbound, holds}
use Rattle.kp_names_semantics.specs.Steps.{Step, is_instance, applicable, next}
use Rattle.kp_names_semantics.specs.Initial.{IsInitial}

-- Two texts have a problem: each is cut and reads by the grammar, and no token has a fault of names.
pub record HasProblem (domain_text problem_text : List ℕ) : Type 0 where
  pub domain : Domain Word
  pub problem : Problem Word
  pub domain_reads : ReadsAs grammar.domain domain_text domain
  pub problem_reads : ReadsAs grammar.problem problem_text problem
  pub no_fault : HasNoFault domain problem

-- from a state on, each step's precondition holds in its turn, and the goal at the end
abbrev pub succeeds : Domain Word → Problem Word → List Step → State → Bool
succeeds d p [] s = holds s unbound p.goal
succeeds d p (i ∷ is) s = applicable d i s && succeeds d p is (next d p i s)

-- each step is an instance, and whichever state is initial, the steps succeed from it
pub record Solves (d : Domain Word) (p : Problem Word) (steps : List Step) : Type 0 where
  pub instances : list_all (is_instance d p) steps ≡ true
  pub reaches : (s : State) → IsInitial p s → succeeds d p steps s ≡ true

-- the texts have a problem, and the steps solve it
pub record IsPlan (domain_text problem_text : List ℕ) (steps : List Step) : Type 0 where
  pub has : HasProblem domain_text problem_text
  pub solves : Solves has.domain has.problem steps

-- ---- a law

-- two texts have at most one problem
abbrev pub HasOneProblem : Type 0
HasOneProblem = (domain_text problem_text : List ℕ) (x y : HasProblem domain_text problem_text) → (x.domain ≡ y.domain) × (x.problem ≡ y.problem)
