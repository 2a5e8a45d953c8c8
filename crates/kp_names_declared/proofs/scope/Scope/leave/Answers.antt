use Rattle.std.proofs.Common.{◌∙◌, drop, ap}
use Rattle.std.proofs.lemmas.List.{drop-drop}
use Rattle.kp_names_declared.proofs.scope.Scope.leave.Goals as goal

-- one more is taken out
pub loop-preserved : goal.loop-preserved
loop-preserved c = c.in_ok-pop.ensures.outside ∙ ap (drop 1) c.loop.invariant ∙ drop-drop 1 c.loop.counter c.args.self.now
