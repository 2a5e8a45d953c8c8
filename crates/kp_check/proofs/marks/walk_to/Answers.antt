use Rattle.std.proofs.Common.{drop, sym, ap, ◌∙◌}
use Rattle.kp_check.specs.Marks.{later_values}
use Rattle.kp_check.proofs.Asking.{none_later}
use Rattle.kp_check.proofs.marks.walk_to.Goals as goal

pub returns-then-left-eq0 : goal.returns-then-left-eq0
returns-then-left-eq0 c =
    let rest = drop c.loop-number.number-index c.args.steps.now in
    sym (none_later c.args.ground.now c.loop-number.walk.values.items rest)
    ∙ (ap (later_values c.args.ground.now c.loop-number.walk.values.items rest) (sym c.if-left-eq0.true)
    ∙ c.loop-number.invariant)
