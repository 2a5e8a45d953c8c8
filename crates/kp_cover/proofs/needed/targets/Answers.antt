use Rattle.std.proofs.Common.{◌∙◌}
use Rattle.kp_cover.proofs.Needs.{are_targets}
use Rattle.kp_cover.proofs.needed.targets.Goals as goal

pub returns : goal.returns
returns c = are_targets c.args.ground.now c.from_vec.result (c.from_vec.ensures ∙ (c.in_ok-lits.ensures ∙ c.in_ok-set.ensures))
