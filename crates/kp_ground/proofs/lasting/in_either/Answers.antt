use Rattle.std.proofs.Common.{◌∙◌, sym}
use Rattle.kp_ground.proofs.InSets.{has_other}
use Rattle.kp_ground.proofs.lasting.in_either.Goals as goal

pub returns-else-has : goal.returns-else-has
returns-else-has c =
    has_other c.has-else-has.result c.args.one.now c.args.other.now c.args.lit
    (sym c.has.ensures ∙ c.if-has.false)
    c.has-else-has.ensures
