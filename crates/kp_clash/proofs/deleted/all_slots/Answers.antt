use Rattle.kp_clash.proofs.Deletes.{all_marked}
use Rattle.kp_clash.proofs.deleted.all_slots.Goals as goal

pub returns : goal.returns
returns c = all_marked
