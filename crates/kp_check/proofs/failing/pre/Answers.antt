use Rattle.std.proofs.Common.{sym, ap, ◌∙◌}
use Rattle.std.proofs.lemmas.Option.{slice_get_past}
use Rattle.kp_base.specs.Steps.{pre_of}
use Rattle.kp_check.proofs.Walking.{found}
use Rattle.kp_check.proofs.failing.pre.Goals as goal

pub returns-in-Some-clause-value : goal.returns-in-Some-clause-value
returns-in-Some-clause-value c =
    c.slice-in-Some.ensures.value ∙ sym (ap pre_of (found c.args.ground.now.actions c.args.number c.in-Some.action.now (rw c.slice.ensures at c.in-Some.ensures.lookup.0) (rw c.slice.ensures at c.in-Some.ensures.lookup.1)))

pub returns-in-None-clause-value : goal.returns-in-None-clause-value
returns-in-None-clause-value c = sym (ap pre_of (slice_get_past c.args.ground.now.actions c.args.number (rw c.slice.ensures at c.in-None.ensures.lookup.3)))
