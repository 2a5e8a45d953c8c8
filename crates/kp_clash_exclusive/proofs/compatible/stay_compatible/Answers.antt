use Rattle.std.proofs.Common.{◌++◌, ◌∙◌}
use Rattle.std.proofs.lemmas.List.{append_assoc}
use Rattle.kp_clash_exclusive.specs.Paired.{is_pair}
use Rattle.kp_clash_exclusive.proofs.Removing.{pair_turned}
use Rattle.kp_clash_exclusive.proofs.Firing.{compatible_more}
use Rattle.kp_clash_exclusive.proofs.compatible.stay_compatible.Goals as goal

pub returns : goal.returns
returns c =
    let grouped = compatible_more (is_pair c.args.pairs.now) (pair_turned c.args.pairs.now) (c.args.pre.now ++ c.args.cond.now) c.args.other.now c.requires in
    c.others_exclude_none.ensures ∙ (rw (append_assoc c.args.pre.now c.args.cond.now c.args.other.now) at grouped)
