use Rattle.std.proofs.Common.{sym, ap, ◌∙◌}
use Rattle.std.proofs.lemmas.Option.{slice_get_past}
use Rattle.kp_check.specs.Values.{next_values}
use Rattle.kp_check.proofs.Walking.{found}
use Rattle.kp_check.proofs.steps.Walk.step.Goals as goal

pub returns-in_ok-act-in-Some : goal.returns-in_ok-act-in-Some
returns-in_ok-act-in-Some c =
    c.in_ok-act-in-Some.ensures ∙ sym (ap (λ o. next_values o c.args.self.now.values.items) (found c.args.ground.now.actions c.args.number c.in-Some.action.now (rw c.slice.ensures at c.in-Some.ensures.lookup.0) (rw c.slice.ensures at c.in-Some.ensures.lookup.1)))

pub returns-in-None : goal.returns-in-None
returns-in-None c = sym (ap (λ o. next_values o c.args.self.now.values.items) (slice_get_past c.args.ground.now.actions c.args.number (rw c.slice.ensures at c.in-None.ensures.lookup.3)))
