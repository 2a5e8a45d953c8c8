use Rattle.std.proofs.Common.{◌+◌, ◌*◌, length, ap, sym, ◌∙◌}
use Rattle.kp_law_ktask.proofs.Public.{both_effects_weigh_alike}
use Rattle.kp_ktask.proofs.weights.both_weight.Goals as goal

pub returns : goal.returns
returns c = ap (λ ls. 2 * (1 + length ls)) c.slice.ensures.value ∙ sym (both_effects_weigh_alike c.args.effect.now c.slice.ensures.ascending)
