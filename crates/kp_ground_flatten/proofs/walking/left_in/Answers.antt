use Rattle.std.proofs.Common.{◌∙◌, ap, []}
use Rattle.kp_names.specs.View as owned
use Rattle.kp_ground_semantics.specs.Static.{remaining}
use Rattle.kp_names.specs.View.{lifted_view}
use Rattle.kp_ground_flatten.proofs.Meaning.{split_bound}
use Rattle.kp_ground_flatten.proofs.walking.left_in.Goals as goal

pub returns : goal.returns
returns c =
    let l = lifted_view c.args.statics.now in
    c.in_ok-row.ensures ∙ (ap (remaining l []) c.in_ok-tree.ensures ∙ (split_bound l c.args.objects.now (owned.cond_view c.args.cond.now)).remaining_alike)
