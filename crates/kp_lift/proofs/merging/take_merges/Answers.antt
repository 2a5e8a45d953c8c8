use Rattle.std.proofs.Common.{◌≡◌, ◌<◌, ◌+◌, true, nat_lt, sym, ◌∙◌, subst, arith}
use Rattle.std.specs.List.{list_all}
use Rattle.kp_lift.proofs.Items.{target_below, tags_below, drop_item}
use Rattle.kp_lift.proofs.Merges.{merges_more}
use Rattle.kp_lift.proofs.merging.take_merges.Goals as goal

pub take_merge-requires-clause-target : goal.take_merge-requires-clause-target
take_merge-requires-clause-target c =
    subst (λ n. c.at.result.now.target.atom.0 < n) (sym c.loop-m.invariant.about.atoms) (target_below c.args.ground.now c.args.table.now c.requires.on _ _ c.at.ensures)

pub take_merge-requires-clause-tags : goal.take_merge-requires-clause-tags
take_merge-requires-clause-tags c =
    subst (λ n. list_all (λ t. nat_lt t n) c.at.result.now.tags ≡ true) (sym c.loop-m.invariant.about.tags) (tags_below c.args.ground.now c.args.table.now c.requires.on _ _ c.at.ensures)

-- one more is taken or not
pub loop-m-preserved : goal.loop-m-preserved
loop-m-preserved c =
    let m = c.loop-m.m in
    record {
      about = record { tags = c.take_merge.ensures.like.tags ∙ c.loop-m.invariant.about.tags; atoms = c.take_merge.ensures.like.atoms ∙ c.loop-m.invariant.about.atoms };
      rest = merges_more c.args.ground.now c.args.table.now c.args.knowing.now c.args.operators.now m (m + 1) c.at.result.now c.loop-m.knowing c.take_merge.new.knowing c.loop-m.operators c.take_merge.new.operators (omega arith) (drop_item c.args.table.now.merges m c.at.result.now c.at.ensures) c.take_merge.ensures.known (rw c.len-actions.ensures at c.in_ok-take_merge.ensures.operators) c.loop-m.invariant.rest;
    }
