use Rattle.std.proofs.Common.{refl, sym, ◌∙◌, arith}
use Rattle.std.proofs.lemmas.Result.{err_from_is_err_and}
use Rattle.kp_tree_grammar.specs.Symbols.{is_left, is_goal}
use Rattle.kp_tree_grammar.specs.Grammar.{given, has_stood}
use Rattle.kp_tree_sections.specs.Givens.{given_at, givens_at}
use Rattle.kp_tree_parts.proofs.Public.{run_loop_goes_on, run_loop_ends, run_loop_done, run_loop_lacks}
use Rattle.kp_tree_sections.proofs.Stating.{given_more, goal_is}
use Rattle.kp_tree_sections.proofs.problems.givens.Goals as goal

pub returns-in_err-part-clause-reads : goal.returns-in_err-part-clause-reads
unfolding given_at givens_at
returns-in_err-part-clause-reads c =
    let p = err_from_is_err_and c.from_residual.result c.from_residual.ensures.1 in
    let k = c.more.invariant.kept in
    rw (p.1, p.2) (run_loop_ends c.args.levels is_left given (has_stood is_goal) _ c.in_err-part.field-0.0 k.front _ _ _ (sym c.is_left.ensures.test ∙ c.more-test.true) (rw c.as_slice-before.ensures.value at c.in_err-part.ensures.reads) k.so_far)

pub more-preserved : goal.more-preserved
unfolding given_at givens_at
more-preserved c =
    let k = c.more.invariant.kept in
    let e = c.in_ok-take_in.ensures in
    record {
      onward = omega (arith, c.in_ok-part.ensures.onward.0);
      in_range = omega (arith, c.in_ok-part.ensures.onward.1);
      kept = given_more _ _ _ _ _ k (rw e.noted (run_loop_goes_on c.args.levels is_left given (has_stood is_goal) k.front _ _ _ _ _ (sym c.is_left.ensures.test ∙ c.more-test.true) (rw c.as_slice-before.ensures.value at c.in_ok-part.ensures.reads) k.so_far)) e.objects e.init e.goal;
    }

pub returns-clause-reads : goal.returns-clause-reads
unfolding givens_at
returns-clause-reads c =
    let k = c.more.invariant.kept in
    run_loop_lacks c.args.levels is_left given (has_stood is_goal) k.front _ _ _ (sym c.is_left.ensures.test ∙ c.more-test.false) (rw c.as_slice-all.ensures.value at (sym c.has_stood.ensures ∙ c.if-has_stood.false)) k.so_far

pub returns-then-has_stood-clause-reads : goal.returns-then-has_stood-clause-reads
unfolding givens_at
returns-then-has_stood-clause-reads c =
    let k = c.more.invariant.kept in
    let e = c.as_problem.ensures in
    record {
      sections = k.front;
      reads = run_loop_done c.args.levels is_left given (has_stood is_goal) k.front _ _ _ (sym c.is_left.ensures.test ∙ c.more-test.false) (rw c.as_slice-all.ensures.value at (sym c.has_stood.ensures ∙ c.if-has_stood.true)) k.so_far;
      made = rw (e.objects, e.init, e.goal, goal_is k.front, k.objects_are, k.init_is, k.goal_is_first) refl;
    }
