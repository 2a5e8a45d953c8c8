use Rattle.kp_classic.proofs.States.{set_is}
use Rattle.kp_classic.proofs.state.State.ascends.Goals as goal

pub returns : goal.returns
returns c = rw (← c.self.view_is) (set_is c.self.inside.bits)
