use Rattle.std.proofs.Common.{◌≡◌, ◌≤◌, ◌<◌, ◌++◌, ◌&&◌, ℕ, false, Some, slice_get}
use Rattle.kp_base.specs.declared.ground.Effect.{Effect}
use Rattle.kp_base.specs.Implicates.{is_within}
use Rattle.kp_base.specs.Lit.{negative, same_lit}
use Rattle.kp_clash_exclusive.proofs.between.deletes_between.Given as goal

-- none so far has its condition within the literals
abbrev pub invariant-loop-place : goal.invariant-loop-place
invariant-loop-place l = (i : ℕ) (d : Effect) → l.fn.from ≤ i → i < l.place → slice_get l.action.effects i ≡ Some d → (same_lit d.result (negative l.q.0) && is_within d.cond (l.pre ++ (l.cond ++ l.other))) ≡ false
