use Rattle.kp_clash_exclusive.specs.Paired.{is_pair}
use Rattle.kp_clash_exclusive.proofs.Firing.{breaks_free}
use Rattle.kp_clash_exclusive.proofs.left.candidates.Goals as goal

pub returns : goal.returns
returns c = λ q e h.
    let free = breaks_free (is_pair c.args.pairs.now) c.args.action.now c.args.effect.now q h in
    let first = rw c.slice.ensures.value at c.leave-left.ensures in
    let second = rw c.slice-2.ensures.value at c.leave.ensures in
    second q e free.2 (first q e free.1 (c.unsure-word.ensures q e h))
