use Rattle.std.proofs.Common.{subst, sym, ap, ◌∙◌, ◌<◌}
use Rattle.kp_classic.specs.States.{FactSet, has}
use Rattle.kp_classic.specs.Packed.{set_of}
use Rattle.kp_classic.proofs.States.{set_holds}
use Rattle.kp_classic.proofs.state.State.add.Goals as goal

pub returns-clause-hold : goal.returns-clause-hold
returns-clause-hold c =
    let lt = subst (λ (s : FactSet). c.args.fact < s.facts) (sym c.self.view_is) c.requires in
    rw (← c.self.view_is) (λ f lf. ap (λ b. has (set_of b).hold f) c.set.ensures ∙ set_holds c.self.inside.bits c.args.fact f lt lf)
