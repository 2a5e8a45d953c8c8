use Rattle.std.proofs.Common.{◌∙◌, Bool, List, ap}
use Rattle.kp_run_classical.specs.Certain.{marked}
use Rattle.kp_run_classical.proofs.Units.{model_test}
use Rattle.kp_run_classical.proofs.certain.has_model.Goals as goal

-- just the atoms that stand in clauses are marked
pub returns : goal.returns
returns c =
    model_test c.args.initial.now c.requires.units (marked c.deref.result.now)
    (λ p. ap (λ (marks : List Bool). marked marks p) c.deref.ensures.value ∙ c.in_ok-marks.ensures p) c.is_model.result c.is_model.ensures
