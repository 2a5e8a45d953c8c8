-- Whether steps are a plan from every model; else the first model from which they fail, and where.
use Rattle.std.specs.Prelude.{ℕ, Bool, not, List}
use Rattle.kp_base.specs.declared.ground.Ground.{Ground}
use Rattle.kp_base.specs.declared.ground.Initial.{Initial}
use Rattle.kp_base.specs.Steps.{State, succeeds, IsGroundPlan}
use Rattle.kp_primes_first_model.specs.Asked.{is_wanted}
use Rattle.kp_primes_first_model.specs.Ordered.{AreFirst, state_of_atoms}
use Rattle.kp_check.specs.Failing.{FailAt}
use Rattle.kp_check.specs.declared.answer.Judged.{Judged}
use Rattle.kp_check.specs.declared.answer.Judged.TheVariants.{Yes, No}

-- the steps don't succeed from the state
abbrev pub fails : Ground → List ℕ → State → Bool
fails g ns s = not (succeeds g s ns)

-- the steps are a plan; or these are the atoms of the first model from which they fail, in order, and they fail from it there
abbrev pub IsVerdict : ℕ → Ground → Initial → List ℕ → Judged → Type 0
IsVerdict n g i ns Yes = IsGroundPlan g i ns
IsVerdict n g i ns (No ps k l) = AreFirst n (is_wanted i (fails g ns)) ps × FailAt g (state_of_atoms ps) ns k l
