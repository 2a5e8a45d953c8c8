use Rattle.std.proofs.Common.{◌-◌, map}
use Rattle.kp_law_texts.proofs.Public.{LeavesToPut}
use Rattle.kp_write.specs.Written.{effect_line}
use Rattle.kp_write.specs.Named.{named_effect}
use Rattle.kp_law_ktask.specs.Task.{effects_from}
use Rattle.kp_ktask_texts.proofs.domain.put_effects.Given as goal

abbrev pub invariant-loop-tag : goal.invariant-loop-tag
invariant-loop-tag l = LeavesToPut l.fn.out.items l.out.items effect_line (map (named_effect l.facts) (effects_from l.atoms l.tag (l.tags - l.tag) l.effects)) (map (named_effect l.facts) (effects_from l.atoms 0 l.tags l.effects))
