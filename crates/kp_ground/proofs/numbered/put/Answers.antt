use Rattle.std.proofs.Common.{◌∙◌, ap, map}
use Rattle.kp_base.proofs.Lists.{gathered}
use Rattle.kp_ground.specs.declared.made.Made.{Made}
use Rattle.kp_ground.specs.Made.{same_made, made_effect}
use Rattle.kp_ground.proofs.numbered.put.Goals as goal

-- the new keys are the effects with this one
pub returns : goal.returns
returns c = ap (map made_effect) c.in_ok-insert.ensures.keys ∙ gathered same_made made_effect c.args.set.now.keys (let m : Made = record { effect = c.args.effect } in m)
