use Rattle.std.proofs.Common.{ℕ, List, IfOk, subst}
use Rattle.kp_tree_grammar.specs.Grammar as grammar
use Rattle.kp_tree_grammar.specs.View.{domain_view, problem_view}
use Rattle.kp_tree.specs.Files.{HasTree}
use Rattle.kp_names.specs.Resolved.{RefusesNames}
use Rattle.kp_run_prepare.specs.Texts.{IsProblemOf, of_names}
use Rattle.kp_run_prepare.proofs.Reading.{refused_names, resolved_is}
use Rattle.kp_run_prepare.proofs.files.read_files.Goals as goal

-- a name is refused
pub returns-clause-refused : goal.returns-clause-refused
returns-clause-refused c d p r first second is =
    let dv = domain_view c.in_ok-trees.trees.0 in
    let pv = problem_view c.in_ok-trees.trees.1 in
    let same = (c.in_ok-trees.ensures.whole d p first second).0 in
    let also = (c.in_ok-trees.ensures.whole d p first second).1 in
    of_names dv pv r
    (subst (λ (text : List ℕ). HasTree grammar.domain text dv) same c.in_ok-trees.ensures.trees.0)
    (subst (λ (text : List ℕ). HasTree grammar.problem text pv) also c.in_ok-trees.ensures.trees.1)
    (subst (λ (text : List ℕ). RefusesNames d text dv pv r) also (subst (λ (text : List ℕ). RefusesNames text c.args.problem.bytes dv pv r) same
    (refused_names c.args.domain.bytes c.args.problem.bytes dv pv c.resolve.result r c.resolve.ensures is)))

-- the problem by number of the bytes
pub returns-clause-read : goal.returns-clause-read
returns-clause-read c =
    resolved_is c.args.domain.bytes c.args.problem.bytes (domain_view c.in_ok-trees.trees.0) (problem_view c.in_ok-trees.trees.1) c.resolve.result c.in_ok-trees.ensures.trees.0 c.in_ok-trees.ensures.trees.1 c.resolve.ensures

-- the problem by number
pub returns-clause-resolved : goal.returns-clause-resolved
returns-clause-resolved c d p first second =
    let dv = domain_view c.in_ok-trees.trees.0 in
    let pv = problem_view c.in_ok-trees.trees.1 in
    let same = (c.in_ok-trees.ensures.whole d p first second).0 in
    let also = (c.in_ok-trees.ensures.whole d p first second).1 in
    let here = resolved_is c.args.domain.bytes c.args.problem.bytes dv pv c.resolve.result c.in_ok-trees.ensures.trees.0 c.in_ok-trees.ensures.trees.1 c.resolve.ensures in
    subst (λ (y : List ℕ). IfOk c.resolve.result (IsProblemOf d y)) also (subst (λ (x : List ℕ). IfOk c.resolve.result (IsProblemOf x c.args.problem.bytes)) same here)
