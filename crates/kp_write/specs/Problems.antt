-- Which tasks can be written, and that their two texts have the problem that is meant.
use Rattle.std.specs.Prelude.{◌≡◌, ℕ, List, map}
use Rattle.std.specs.List.{AllByRecursion, IsDistinct}
use Rattle.kp_base.specs.Lists.{Member}
use Rattle.kp_tree_grammar.specs.Words.{IsName}
use Rattle.kp_tree_grammar.specs.TreeMaps.{domain_map, problem_map}
use Rattle.kp_names_semantics.specs.Names.{same}
use Rattle.kp_names_semantics.specs.Plans.{HasProblem}
use Rattle.kp_write.specs.Operators.{Effect, Op}
use Rattle.kp_write.specs.Written.{domain_text, problem_text}
use Rattle.kp_law_texts.specs.Tokens.{text_of}
use Rattle.kp_write.specs.Names.{AreHeads}
use Rattle.kp_write.specs.Trees.{written_domain, written_problem}

-- each of these is one of the facts
abbrev pub AreAmong : List (List ℕ) → List (List ℕ) → Type 0
AreAmong facts ns = AllByRecursion (Member facts) ns

-- an effect of such facts
pub record IsEffectOn (facts : List (List ℕ)) (e : Effect) : Type 0 where
  pub conds : AllByRecursion (λ s. Member facts s.fact) e.conds
  pub result : Member facts e.result.fact

-- an operator of such facts
pub record IsOpOn (facts : List (List ℕ)) (o : Op) : Type 0 where
  pub name : IsName o.name
  pub pre : AreAmong facts o.pre
  pub effects : AllByRecursion (IsEffectOn facts) o.effects

-- A task: the facts can be written, no two have one name, nor have two operators, and all that is used is one of the facts.
pub record IsTask (facts : List (List ℕ)) (ops : List Op) (start goal : List (List ℕ)) : Type 0 where
  pub heads : AreHeads facts
  pub facts_differ : IsDistinct same facts
  pub operators : AllByRecursion (IsOpOn facts) ops
  pub operators_differ : IsDistinct same (map (λ o. o.name) ops)
  pub start_among : AreAmong facts start
  pub goal_among : AreAmong facts goal

-- the two texts have a problem, and it is the one that is meant
pub record HasMeantProblem (facts : List (List ℕ)) (ops : List Op) (start goal : List (List ℕ)) : Type 0 where
  pub has : HasProblem (domain_text facts ops) (problem_text start goal)
  pub domain : domain_map text_of has.domain ≡ written_domain facts ops
  pub problem : problem_map text_of has.problem ≡ written_problem start goal

-- ---- a law

-- the texts of a task have its problem
abbrev pub WrittenTextsHaveProblem : Type 0
WrittenTextsHaveProblem = (facts : List (List ℕ)) (ops : List Op) (start goal : List (List ℕ)) → IsTask facts ops start goal → HasMeantProblem facts ops start goal
