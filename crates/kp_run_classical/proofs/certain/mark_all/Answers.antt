use Rattle.std.proofs.Common.{◌∙◌}
use Rattle.kp_run_classical.proofs.Marking.{left_below, next_marked}
use Rattle.kp_run_classical.proofs.certain.mark_all.Goals as goal

pub loop-lit-preserved : goal.loop-lit-preserved
loop-lit-preserved c =
    let lits = c.args.lits.now in
    let i = c.loop-lit.lit-index in (
      c.mark.ensures.length ∙ c.loop-lit.invariant.0,
      left_below _ lits i c.loop-lit-test.true c.loop-lit.invariant.1,
      λ p. next_marked lits i _ c.loop-lit.marks c.mark.new.marks c.args.marks.now p c.loop-lit-test.true (c.mark.ensures.marked p) (c.loop-lit.invariant.2 p),
    )
