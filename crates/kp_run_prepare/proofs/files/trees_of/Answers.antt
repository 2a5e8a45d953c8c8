use Rattle.std.proofs.Common.{List, ℕ, subst}
use Rattle.kp_base.specs.declared.refused.Part.TheVariants as parts
use Rattle.kp_tree_grammar.specs.Grammar as grammar
use Rattle.kp_tree_grammar.specs.View.{domain_view, problem_view}
use Rattle.kp_tree.specs.Files.{HasTree}
use Rattle.kp_run_prepare.specs.Texts.{of_domain, of_problem}
use Rattle.kp_run_prepare.proofs.Reading.{refused_file}
use Rattle.kp_run_prepare.proofs.files.trees_of.Goals as goal

-- the domain is refused
pub returns-in_err-domain_tree-clause-refused : goal.returns-in_err-domain_tree-clause-refused
returns-in_err-domain_tree-clause-refused c d p r first second is =
    of_domain r (refused_file parts.Domain grammar.domain domain_view d c.domain_of.result r (c.domain_of.ensures.front d first) (let e = rw is at c.from_residual.ensures.1 in cc (c.in_err-domain_tree.was, e)))

-- the problem is refused
pub returns-in_err-problem_tree-clause-refused : goal.returns-in_err-problem_tree-clause-refused
returns-in_err-problem_tree-clause-refused c d p r first second is =
    of_problem (domain_view c.in_ok-domain_tree.domain_tree) r
    (subst (λ (text : List ℕ). HasTree grammar.domain text (domain_view c.in_ok-domain_tree.domain_tree)) (c.in_ok-domain_tree.ensures.whole d first) c.in_ok-domain_tree.ensures.tree)
    (refused_file parts.Problem grammar.problem problem_view p c.problem_of.result r (c.problem_of.ensures.front p second) (let e = rw is at c.from_residual-in_err-problem_tree.ensures.1 in cc (c.in_err-problem_tree.was, e)))

-- all bytes were read
pub returns-clause-whole : goal.returns-clause-whole
returns-clause-whole c d p first second = (c.in_ok-domain_tree.ensures.whole d first, c.in_ok-problem_tree.ensures.whole p second)
