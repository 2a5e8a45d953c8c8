use Rattle.std.proofs.Common.{map, length}
use Rattle.std.proofs.lemmas.List.{map-append}
use Rattle.kp_write.specs.Named.{named_op}
use Rattle.kp_write.specs.Written.{op}
use Rattle.kp_law_ktask.specs.Task.{op_of, merge_ops_from}
use Rattle.kp_ktask_texts.proofs.Putting.{both_put}
use Rattle.kp_ktask_texts.proofs.domain.put_operators.Goals as goal

pub returns : goal.returns
returns c =
    let name = named_op c.args.facts.now in
    let acts = map (op_of (length c.args.ground.now.atoms) (length c.args.table.now.tags)) c.args.ground.now.actions in
    let merges = merge_ops_from (length c.args.ground.now.atoms) 0 c.args.table.now.merges in
    rw (map-append name acts merges)
    (both_put _ _ _ op (map name acts) (map name merges)
    (rw (c.slice.ensures, c.in_ok-atoms.ensures.0, c.in_ok-atoms.ensures.1) at c.in_ok-put_actions.ensures)
    (rw (c.slice-2.ensures, c.in_ok-atoms.ensures.0) at c.in_ok-put_merges.ensures))
