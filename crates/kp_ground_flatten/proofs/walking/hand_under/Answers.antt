use Rattle.std.proofs.Common.{◌∙◌, ap, ◌++◌, [], map, fold}
use Rattle.std.proofs.lemmas.Result.{on_ok_weaker}
use Rattle.kp_ground_semantics.specs.Static.{remaining}
use Rattle.kp_ground_semantics.specs.Flattening.{under, flat}
use Rattle.kp_ground_flatten.specs.Nodes.{cond_view, eff_view}
use Rattle.kp_names.specs.View.{lifted_view}
use Rattle.kp_ground_flatten.proofs.walking.hand_under.Goals as goal

pub returns : goal.returns
returns g c =
    let l = lifted_view c.args.statics.now in
    let rest = remaining l [] (cond_view c.args.cond.now) in
    let left = c.in_ok-add_remaining.ensures ∙ ap (λ z. z ++ rest) c.new-conds.ensures in
    on_ok_weaker c.hand_bound.result (λ e. e ∙ ap (λ z. fold g.S.Sink.takes c.args.sink.now (map (under z) (flat l [] (eff_view c.args.body.now)))) left) c.hand_bound.ensures.taken
