use Rattle.std.proofs.Common.{◌∙◌, ◌*◌, ◌-◌, ◌^◌, ap, length, arith}
use Rattle.std.proofs.lemmas.List.{take_all}
use Rattle.kp_names_semantics.specs.Lifted.{bindings}
use Rattle.kp_ground_instances.specs.Counts.{capped}
use Rattle.kp_ground_instances.proofs.Weights.{next_factor}
use Rattle.kp_ground_instances.proofs.counting.binding_number.Goals as goal

pub loop-range-preserved : goal.loop-range-preserved
loop-range-preserved c =
    c.saturating_mul-number.ensures ∙ (ap (λ n. capped (c.loop-range.number * n)) c.len.ensures
    ∙ next_factor (2 ^ 128 - 1) c.args.ranges.now c.loop-range.range-index c.range-item.result c.loop-range.number c.loop-range-test.true c.range-item.is c.loop-range.invariant)

pub returns : goal.returns
returns c = c.loop-range.invariant ∙ ap (λ rs. capped (length (bindings rs))) (take_all c.loop-range.range-index c.args.ranges.now (omega arith))
