use Rattle.kp_base.proofs.Places.{item_member}
use Rattle.kp_clash_exclusive.proofs.Noted.{none_set}
use Rattle.kp_clash_exclusive.proofs.sure.atoms_deleted.Goals as goal

pub note-requires-clause-of_action : goal.note-requires-clause-of_action
note-requires-clause-of_action c =
    let in-items = item_member c.slice-effect-items.result.now c.loop-effect.effect-index c.effect-item.result c.loop-effect-test.true c.effect-item.is in
    rw c.slice-effect-items.ensures at in-items

pub loop-effect-init : goal.loop-effect-init
loop-effect-init c = λ q one. absurd (none_set 1024 q one)
