use Rattle.std.proofs.Common.{◌∙◌, ap, [], map, fold}
use Rattle.std.proofs.lemmas.Result.{on_ok_weaker}
use Rattle.kp_names.specs.View as owned
use Rattle.kp_ground_semantics.specs.Flattening.{under, flat}
use Rattle.kp_ground_flatten.specs.Nodes.{eff_view}
use Rattle.kp_names.specs.View.{lifted_view}
use Rattle.kp_ground_flatten.proofs.Meaning.{flat_bound}
use Rattle.kp_ground_flatten.proofs.Views.{under_none}
use Rattle.kp_ground_flatten.proofs.walking.hand_whole.Goals as goal

pub returns-clause-taken : goal.returns-clause-taken
returns-clause-taken g c =
    let l = lifted_view c.args.statics.now in
    let fs = flat l [] (eff_view c.in_ok-tree.tree) in
    let same = ap (λ z. map (under z) fs) c.new-conds.ensures ∙ (under_none fs ∙ (ap (flat l []) c.in_ok-tree.ensures.bound ∙ flat_bound l c.args.objects.now.items (owned.eff_view c.args.eff.now))) in
    on_ok_weaker c.hand_bound.result (λ e. e ∙ ap (fold g.S.Sink.takes c.args.sink.now) same) c.hand_bound.ensures.taken
