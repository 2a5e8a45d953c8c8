-- What a ground problem is measured to, from what the code finds.
use Rattle.std.proofs.Common.{◌≡◌, ℕ, Result, Ok, Err, IfOk, sym, subst}
use Rattle.kp_base.specs.declared.memory.Memory.{Memory}
use Rattle.kp_base.specs.declared.ground.Ground.{Ground}
use Rattle.kp_base.specs.declared.ground.Initial.{Initial}
use Rattle.kp_base.specs.declared.refused.Stop.{Stop}
use Rattle.kp_base.specs.declared.refused.Stop.TheVariants as causes
use Rattle.kp_base.specs.Entailed.{HaveSameModels}
use Rattle.kp_width.specs.declared.report.WidthReport.{WidthReport}
use Rattle.kp_width.specs.Answers.{IsReport, AnswersWidth}
use Rattle.kp_width.proofs.Public.{report_by_models, refusal_by_models}
use Rattle.kp_run_outcome.specs.declared.outcome.Outcome.{Outcome}
use Rattle.kp_run_prepare.specs.declared.prepared.Early.{Early}
use Rattle.kp_run_prepare.specs.declared.prepared.Early.TheVariants as halts
use Rattle.kp_run_prepare.specs.Refusing.{named_in, EndsBy}
use Rattle.kp_run_prepare.specs.Prepared.{usual}
use Rattle.kp_run_inputs.specs.Ending.{Settles}
use Rattle.kp_run.specs.Width.{tells_width, WidthGround, no_report, with_report}

module _ (bound : ℕ) (g : Ground) (i j : Initial) (same : HaveSameModels i j) where
  -- there is a report
  pub report_told : (report : WidthReport) (r : Result Outcome Memory) → IsReport usual bound g i report → IfOk r (λ o. o ≡ tells_width g bound report) → IfOk r (WidthGround bound g j)
  report_told report (Ok o) is told = with_report report (report_by_models i j same g bound usual report is) told
  report_told report (Err m) is told = tt

  -- there is none
  pub refusal_told : (stop : Stop) (e : Early) (r : Result Outcome Memory) → AnswersWidth usual bound g i (Err stop) → EndsBy (named_in g) stop e → Settles e r → IfOk r (WidthGround bound g j)
  refusal_told (causes.Refused why) (halts.With o) r is ends settled = subst (λ z. IfOk z (WidthGround bound g j)) (sym settled) (no_report why (refusal_by_models i j same g bound usual why is) ends)
  refusal_told causes.Memory (halts.With o) r is ends settled = absurd ends
  refusal_told stop halts.Memory (Ok o) is ends settled = absurd settled
  refusal_told stop halts.Memory (Err m) is ends settled = tt
