use Rattle.std.proofs.Common.{ap, ◌∙◌, sum_by, arith}
use Rattle.std.proofs.lemmas.List.{take_all}
use Rattle.kp_names.specs.View.{cond_view}
use Rattle.kp_ground_semantics.specs.Weights.{cond_size}
use Rattle.kp_ground_instances.specs.Counts.{capped}
use Rattle.kp_ground_instances.proofs.Views.{all_size}
use Rattle.kp_ground_instances.proofs.counting.+condition_size.Goals as goal

pub returns-after-loop-part : goal.returns-after-loop-part
returns-after-loop-part t c =
    let items = c.slice-part-items.result.now in
    c.loop-part.invariant
    ∙ (ap (λ cs. capped (sum_by (λ i. cond_size (cond_view i)) cs)) (take_all c.loop-part.part-index items (omega arith))
    ∙ ap capped (all_size items c.in-All.parts c.args.cond.now c.slice-part-items.ensures c.in-All.is))
