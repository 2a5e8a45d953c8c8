use Rattle.std.proofs.Common.{length, sym, subst}
use Rattle.kp_base.specs.declared.ground.Ground.{Ground}
use Rattle.kp_base.specs.declared.ground.Initial.{Initial}
use Rattle.kp_names.specs.View.{lifted_view}
use Rattle.kp_init.specs.Initial.{initial_of}
use Rattle.kp_run_classical.specs.Certain.{SaysAtMostOneState}
use Rattle.kp_run_classical.specs.Numbered.{AnswersFormula}
use Rattle.kp_run_classical.proofs.Facts.{says_at_most_one}
use Rattle.kp_run_classical.proofs.posing.on_ground.Goals as goal

-- its items are literals
pub pose-requires-clause-certain : goal.pose-requires-clause-certain
pose-requires-clause-certain c =
    let l = lifted_view c.args.lifted.now in
    let formula = c.in_ok-formula.ensures in
    subst (λ (i : Initial). SaysAtMostOneState (length c.args.made.atoms) i) (sym formula)
    (subst (λ (g : Ground). SaysAtMostOneState (length g.atoms) (initial_of l)) (sym c.requires.ground) (says_at_most_one l c.requires.facts))

-- its task, or no state
pub returns : goal.returns
returns c =
    let l = lifted_view c.args.lifted.now in
    let formula = c.in_ok-formula.ensures in
    subst (λ (g : Ground). AnswersFormula g (initial_of l) c.pose.result) c.requires.ground
    (subst (λ (i : Initial). AnswersFormula c.args.made i c.pose.result) formula c.pose.ensures)
