use Rattle.std.proofs.Common.{◌≡◌, ◌∙◌, ap, subst, IfOk}
use Rattle.kp_lift.specs.Lifting.{AnswersLifting}
use Rattle.kp_run_inputs.specs.Tabled.{ground_in}
use Rattle.kp_run_messages.specs.Lifting.{unlifted_text}
use Rattle.kp_run_outcome.specs.Printing.{denies}
use Rattle.kp_run.specs.Check.{failing_step}
use Rattle.kp_run.specs.CommandParts.{PrintsOperators}
use Rattle.kp_run.proofs.Lifts.{table_on, lifted_printed, unlifted_told}
use Rattle.kp_run.proofs.lift.lift_actions.Goals as goal

pub lift-requires-clause-table : goal.lift-requires-clause-table
lift-requires-clause-table c = table_on c.args.translated.now.tabled

-- the plan lifts
pub returns-in-Lifted : goal.returns-in-Lifted
returns-in-Lifted c =
    let x = c.args.translated.now in
    let g = ground_in x.tabled in
    lifted_printed g x.tabled.table c.args.numbers.now c.in-Lifted.operators c.tell_lifted.result c.requires.inside
    (subst (AnswersLifting g x.tabled.table c.args.numbers.now) c.in-Lifted.is c.in_ok-lifting.ensures.answers)
    (subst (λ t. IfOk c.tell_lifted.result (PrintsOperators t c.in-Lifted.operators)) x.is_task c.tell_lifted.ensures)

-- it doesn't
pub returns-in-Unlifted : goal.returns-in-Unlifted
returns-in-Unlifted c =
    let x = c.args.translated.now in
    let g = ground_in x.tabled in
    unlifted_told g x.tabled.table c.args.numbers.now c.in-Unlifted.step c.in-Unlifted.literal c.tell_unlifted.result
    (subst (AnswersLifting g x.tabled.table c.args.numbers.now) c.in-Unlifted.is c.in_ok-lifting.ensures.answers)
    (subst (λ s. IfOk c.tell_unlifted.result (λ o. o ≡ denies (unlifted_text g.atoms s c.in-Unlifted.literal))) (c.failing.ensures ∙ ap (λ n. failing_step n c.in-Unlifted.step) c.len.ensures) c.tell_unlifted.ensures)
