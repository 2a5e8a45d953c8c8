use Rattle.std.proofs.Common.{sym, ◌∙◌, arith}
use Rattle.std.proofs.lemmas.Result.{err_from_is_err_and}
use Rattle.kp_tree_parts.specs.Readers.{class_test, group_form, group_at, typed_at}
use Rattle.kp_tree_parts.proofs.Loops.{group_more, group_ends, group_done}
use Rattle.kp_tree_parts.proofs.typed_lists.typed.Goals as goal

pub returns-in_err-run-clause-reads : goal.returns-in_err-run-clause-reads
unfolding group_at typed_at
returns-in_err-run-clause-reads c =
    let p = err_from_is_err_and c.from_residual.result c.from_residual.ensures.1 in
    rw (p.1, p.2) (group_ends c.args.levels (class_test c.args.class) (group_form c.args.class) _ c.in_err-run.field-0.0 _ _ _ (sym c.begins.ensures.test ∙ c.more-test.true) c.in_err-run.ensures.reads c.more.invariant.kept)

pub more-preserved : goal.more-preserved
unfolding group_at typed_at
more-preserved c =
    record {
      onward = omega (arith, c.in_ok-run.ensures.onward.0);
      within = omega (arith, c.in_ok-run.ensures.onward.1);
      kept = group_more c.args.levels (class_test c.args.class) (group_form c.args.class) _ _ _ _ _ _ (sym c.begins.ensures.test ∙ c.more-test.true) c.in_ok-run.ensures.reads c.in_ok-declare.ensures c.more.invariant.kept;
    }

pub returns-clause-reads : goal.returns-clause-reads
unfolding typed_at
returns-clause-reads c = group_done c.args.levels (class_test c.args.class) (group_form c.args.class) _ _ _ (sym c.begins.ensures.test ∙ c.more-test.false) c.more.invariant.kept
