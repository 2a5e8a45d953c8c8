use Rattle.std.proofs.Common.{◌≡◌, ◌∙◌, ap, IfOk, Ok, Err, Result, Option, List, ℕ}
use Rattle.kp_base.specs.declared.ground.GroundName.{GroundName}
use Rattle.kp_base.specs.declared.memory.Memory.{Memory}
use Rattle.kp_names_semantics.specs.Encoding.{decoded}
use Rattle.kp_plans.specs.Names.{IsNameOf}
use Rattle.kp_plans.proofs.Decoded.{is_name}
use Rattle.kp_plans.proofs.decoding.decode_name.Goals as goal

-- what is answered, whether a name or none
exactly : (word bytes : List ℕ) (r : Result (Option GroundName) Memory) → bytes ≡ word → IfOk r (λ o. o ≡ decoded bytes) → IfOk r (λ o. IsNameOf word o)
exactly word bytes (Ok o) e h = is_name word o (h ∙ ap decoded e)
exactly word bytes (Err m) e h = tt

pub returns-clause-exact : goal.returns-clause-exact
returns-clause-exact c = exactly _ _ _ c.slice.ensures c.decode.ensures
