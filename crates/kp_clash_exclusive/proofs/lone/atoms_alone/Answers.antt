use Rattle.kp_clash_exclusive.proofs.Noted.{none_set}
use Rattle.kp_clash_exclusive.proofs.lone.atoms_alone.Goals as goal

pub loop-p-init : goal.loop-p-init
loop-p-init c = λ p one. absurd (none_set 1024 p one)
