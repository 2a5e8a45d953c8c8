-- What a plan is checked to, from what the code finds.
use Rattle.std.proofs.Common.{◌≡◌, ◌∙◌, ◌&&◌, ℕ, List, Some, length, Result, Ok, Err, IfOk, sym, ap, subst}
use Rattle.kp_base.specs.declared.memory.Memory.{Memory}
use Rattle.kp_base.specs.declared.ground.Ground.{Ground}
use Rattle.kp_base.specs.declared.ground.Initial.{Initial}
use Rattle.kp_base.specs.Entailed.{HaveSameModels}
use Rattle.kp_primes_first_model.specs.Asked.{is_wanted}
use Rattle.kp_primes_first_model.proofs.Public.{first_by_passing}
use Rattle.kp_check.specs.declared.answer.Judged.{Judged}
use Rattle.kp_check.specs.declared.answer.Judged.TheVariants.{Yes, No}
use Rattle.kp_check.specs.Judging.{IsVerdict, fails}
use Rattle.kp_run_outcome.specs.declared.outcome.Outcome.{Outcome}
use Rattle.kp_run.specs.Check.{tells, TellsJudged}

-- ---- verdicts go by models alone

judged_by : (n : ℕ) (g : Ground) (i j : Initial) (ns : List ℕ) (v : Judged) → HaveSameModels i j → IsVerdict n g i ns v → IsVerdict n g j ns v
judged_by n g i j ns Yes same plan = λ s model. plan s (same s ∙ model)
judged_by n g i j ns (No ps k l) same h = (first_by_passing n (is_wanted i (fails g ns)) (is_wanted j (fails g ns)) (Some ps) (λ s. ap (λ b. b && fails g ns s) (same s)) h.0, h.1)

-- ---- actions by number

pub told_judged : (n : ℕ) (g : Ground) (i : Initial) (ns : List ℕ) (v : Judged) (r : Result Outcome Memory) → length g.atoms ≡ n → IsVerdict n g i ns v → IfOk r (λ o. o ≡ tells g (length ns) v) → IfOk r (TellsJudged g i ns)
told_judged n g i ns v (Ok o) many answers is = record { judged = v; answers = subst (λ k. IsVerdict k g i ns v) (sym many) answers; told = is }
told_judged n g i ns v (Err m) many answers is = tt

pub judged_alike : (g : Ground) (i j : Initial) (ns : List ℕ) (r : Result Outcome Memory) → HaveSameModels i j → IfOk r (TellsJudged g i ns) → IfOk r (TellsJudged g j ns)
judged_alike g i j ns (Ok o) same h = record { judged = h.judged; answers = judged_by (length g.atoms) g i j ns h.judged same h.answers; told = h.told }
judged_alike g i j ns (Err m) same h = tt
