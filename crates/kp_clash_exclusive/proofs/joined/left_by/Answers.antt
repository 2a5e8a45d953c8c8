use Rattle.kp_clash_exclusive.proofs.joined.left_by.Goals as goal

pub returns : goal.returns
returns c = λ q e pre own.
    let first = rw c.slice.ensures.value at c.left_by_pre-left.ensures in
    let second = rw c.slice-2.ensures.value at c.leave.ensures in
    second q e own (first q e pre)
