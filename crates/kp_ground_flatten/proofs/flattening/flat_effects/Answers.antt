use Rattle.std.proofs.Common.{◌∙◌, ap, [], map}
use Rattle.kp_ground_semantics.specs.Flattening.{under, flat, same_flat}
use Rattle.kp_ground_flatten.specs.Nodes.{eff_view}
use Rattle.kp_names.specs.View.{lifted_view}
use Rattle.kp_ground_flatten.specs.Shapes.{with_effects}
use Rattle.kp_ground_flatten.proofs.Views.{under_none}
use Rattle.kp_base.proofs.Once.{once_by_one}
use Rattle.kp_ground_flatten.proofs.Sets.{same_flat-equivalence}
use Rattle.kp_ground_flatten.proofs.flattening.flat_effects.Goals as goal

pub returns : goal.returns
returns c =
    let fs = flat (lifted_view c.args.statics.now) [] (eff_view c.args.eff.now) in
    c.into_row.ensures
    ∙ (c.in_ok-hand_bound.ensures.taken
    ∙ (ap (λ z. with_effects z (map (under c.new-conds.result) fs)) c.new-effects.ensures
    ∙ (ap (λ z. with_effects [] (map (under z) fs)) c.new-conds.ensures
    ∙ (ap (with_effects []) (under_none fs) ∙ once_by_one same_flat same_flat-equivalence fs))))
