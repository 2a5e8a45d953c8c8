use Rattle.std.proofs.Common.{drop, map}
use Rattle.std.specs.List.{flat_map}
use Rattle.kp_law_texts.proofs.Public.{LeavesToPut}
use Rattle.kp_write.specs.Written.{effect_line}
use Rattle.kp_write.specs.Named.{named_effect}
use Rattle.kp_law_ktask.specs.Task.{effects_under}
use Rattle.kp_ktask_texts.proofs.domain.put_under.Given as goal

abbrev pub invariant-loop-effect : goal.invariant-loop-effect
invariant-loop-effect l =
    LeavesToPut l.fn.out.items l.out.items effect_line (map (named_effect l.facts) (flat_map (effects_under l.atoms l.tag) (drop l.effect-index l.effects))) (map (named_effect l.facts) (flat_map (effects_under l.atoms l.tag) l.effects))
