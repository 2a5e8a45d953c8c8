use Rattle.std.proofs.Common.{◌≡◌, ◌<◌, ℕ, Some, slice_get}
use Rattle.kp_base.specs.declared.ground.Effect.{Effect}
use Rattle.kp_clash_exclusive.specs.Between.{IsBetween}
use Rattle.kp_clash_exclusive.proofs.between.spans_of.Given as goal

-- the deletes so far are between their places
abbrev pub invariant-loop-place : goal.invariant-loop-place
invariant-loop-place l = (i : ℕ) (d : Effect) → i < l.place → slice_get l.effects i ≡ Some d → IsBetween l.firsts l.ends i d
