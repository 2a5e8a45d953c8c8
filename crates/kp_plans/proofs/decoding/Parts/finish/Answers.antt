use Rattle.std.proofs.Common.{◌∙◌, ap, sym, Some}
use Rattle.kp_plans.proofs.Decoded.{at_end}
use Rattle.kp_plans.proofs.decoding.Parts.finish.Goals as goal

pub returns : goal.returns
returns c = ap Some c.in_ok-push.ensures.ok ∙ sym (at_end c.args.self c.if-self.false)
