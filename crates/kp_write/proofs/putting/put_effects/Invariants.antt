use Rattle.std.proofs.Common.{drop, map}
use Rattle.kp_write.specs.Written.{effect_line}
use Rattle.kp_law_texts.proofs.Public.{LeavesToPut}
use Rattle.kp_write.specs.Named.{named_effect}
use Rattle.kp_write.proofs.putting.put_effects.Given as goal

abbrev pub invariant-loop-effect : goal.invariant-loop-effect
invariant-loop-effect l = LeavesToPut l.fn.out.items l.out.items effect_line (map (named_effect l.facts) (drop l.effect-index l.effects)) (map (named_effect l.facts) l.effects)
