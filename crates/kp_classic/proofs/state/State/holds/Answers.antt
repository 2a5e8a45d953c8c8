use Rattle.std.proofs.Common.{sym, subst, ◌<◌}
use Rattle.kp_classic.specs.States.{FactSet}
use Rattle.kp_classic.proofs.States.{holds_is}
use Rattle.kp_classic.proofs.state.State.holds.Goals as goal

pub returns : goal.returns
returns c = rw (← c.self.view_is) (holds_is c.self.inside.bits c.args.fact c.get.result (subst (λ (s : FactSet). c.args.fact < s.facts) (sym c.self.view_is) c.requires) c.get.ensures)
