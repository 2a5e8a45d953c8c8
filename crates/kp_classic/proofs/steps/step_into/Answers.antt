use Rattle.std.proofs.Common.{◌&&◌, ◌||◌, ◌<◌, ap, sym, subst, ◌∙◌, true, false, not}
use Rattle.kp_classic.specs.States.{FactSet, has}
use Rattle.kp_classic.specs.Steps.{fires}
use Rattle.kp_classic.proofs.Fitting.{op_fits}
use Rattle.kp_classic.proofs.Stepping.{stepped}
use Rattle.kp_classic.proofs.steps.step_into.Goals as goal

pub delete_all-requires-clause-fit : goal.delete_all-requires-clause-fit
delete_all-requires-clause-fit c = rw c.slice-effects.ensures ((op_fits c.args.task.now c.args.op _ c.at.result.now c.requires.fit c.requires.of_task c.at.ensures).effects)

pub add_all-requires-clause-fit : goal.add_all-requires-clause-fit
add_all-requires-clause-fit c = rw c.slice-effects.ensures ((op_fits c.args.task.now c.args.op _ c.at.result.now c.requires.fit c.requires.of_task c.at.ensures).effects)

-- what fires and deletes goes, and then comes what fires and adds
pub returns : goal.returns
returns c =
    let s = has c.args.state.now.hold in
    let es = c.at.result.now.effects in
    stepped c.args.task.now c.args.op c.at.result.now s c.add_all.new.next c.at.ensures c.ascends.ensures
    (c.add_all.ensures.facts ∙ (c.delete_all.ensures.facts ∙ (ap (λ (x : FactSet). x.facts) c.copy_from.ensures ∙ c.requires.of_task)))
    (λ f lt.
    let lf = subst (λ n. f < n) (sym c.requires.of_task) lt in
    c.add_all.ensures.hold f lf
    ∙ (ap (λ xs. fires xs s true f || has c.delete_all.new.next.hold f) c.slice-effects.ensures
    ∙ ap (λ b. fires es s true f || b) (c.delete_all.ensures.hold f lf
    ∙ (ap (λ xs. has c.copy_from.new.self.hold f && not (fires xs s false f)) c.slice-effects.ensures
    ∙ ap (λ (x : FactSet). has x.hold f && not (fires es s false f)) c.copy_from.ensures))))
