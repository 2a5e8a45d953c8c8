use Rattle.std.proofs.Common.{arith, sym, ◌∙◌}
use Rattle.kp_tree_cursor.proofs.Several.{one_longer}
use Rattle.kp_tree_cursor.proofs.runs.run_end.Goals as goal

pub more-preserved : goal.more-preserved
more-preserved c = record {
  onward = omega (arith, c.more.invariant.onward);
  in_range = omega (arith, rw c.more-test.true at c.begins.ensures.within);
  so_far = omega (arith, one_longer c.args.class c.args.tokens.now c.more.end (sym c.begins.ensures.test ∙ c.more-test.true), c.more.invariant.so_far);
}
