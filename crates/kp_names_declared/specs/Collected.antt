-- The two trees whose names a table has.
use Rattle.std.specs.Prelude.{refl}
use Rattle.std.specs.Coded.{Coded, code_by, coded×}
use Rattle.kp_tree_grammar.specs.declared.tree.Word.{Word}
use Rattle.kp_tree_grammar.specs.declared.tree.Domain.{Domain as OwnedDomain}
use Rattle.kp_tree_grammar.specs.declared.tree.Problem.{Problem as OwnedProblem}
use Rattle.kp_tree_grammar.specs.contracts.tree.Domain as domains
use Rattle.kp_tree_grammar.specs.contracts.tree.Problem as problems
use Rattle.kp_tree_grammar.specs.Trees.{Domain, Problem}
use Rattle.kp_tree_grammar.specs.View.{domain_view, problem_view}

-- a domain and a problem
pub record Trees : Type 0 where
  pub domain : OwnedDomain
  pub problem : OwnedProblem

-- they are stored as the pair of both; this says nothing of what they mean
abbrev pub trees_code : Coded Trees
trees_code = code_by (OwnedDomain × OwnedProblem) (coded× domains.the_row.coded problems.the_row.coded) (λ t. (t.domain, t.problem)) (λ p. record { domain = p.0; problem = p.1 }) (λ _. refl)

-- the domain
unfoldable pub domain_of : Trees → Domain Word
domain_of t = domain_view t.domain

-- the problem
unfoldable pub problem_of : Trees → Problem Word
problem_of t = problem_view t.problem
