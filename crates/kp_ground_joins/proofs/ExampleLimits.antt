-- The moves between two places are within limits of just their counts, and refused by each limit that is one lower.
use Rattle.std.proofs.Common.{ℕ, arith}
use Rattle.kp_base.specs.declared.limits.Limits.{Limits}
use Rattle.kp_base.specs.declared.refused.Refused.TheVariants as refusals
use Rattle.kp_names_semantics.proofs.Public.{moves_by_number}
use Rattle.kp_ground_joins.specs.Limits.{IsWithinLimits, RefusesCounts, bindings_over, actions_over, effects_over}

abbrev limits : ℕ → ℕ → ℕ → Limits
limits bindings actions weight = record { bindings = bindings; atoms = 2; actions = actions; weight = weight; tags = 1; sets = 1; facts = 1; task_weight = 1 }

within : IsWithinLimits moves_by_number (limits 4 4 12)
within = record { bindings = omega arith; actions = omega arith; weight = omega arith }

bindings_refused : RefusesCounts moves_by_number (limits 3 4 12) refusals.BindingsOver
bindings_refused = bindings_over (omega arith)

actions_refused : RefusesCounts moves_by_number (limits 4 3 12) refusals.ActionsOver
actions_refused = actions_over (omega arith) (omega arith)

weight_refused : RefusesCounts moves_by_number (limits 4 4 11) refusals.EffectsOver
weight_refused = effects_over (omega arith) (omega arith) (omega arith)
