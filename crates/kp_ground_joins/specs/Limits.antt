-- The limits on how large a problem is: when it is within them, and which refusal comes where it isn't.
use Rattle.std.specs.Prelude.{◌<◌, ◌≤◌, length}
use Rattle.kp_base.specs.declared.limits.Limits.{Limits}
use Rattle.kp_base.specs.declared.refused.Refused.{Refused}
use Rattle.kp_base.specs.declared.refused.Refused.TheVariants as refusals
use Rattle.kp_base.specs.declared.refused.Stop.{Stop}
use Rattle.kp_base.specs.declared.refused.Stop.TheVariants as stops
use Rattle.kp_names_semantics.specs.Numbered.{Lifted}
use Rattle.kp_ground_semantics.specs.Ground.{kept_instances}
use Rattle.kp_ground_semantics.specs.Weights.{total_weight}
use Rattle.kp_ground_semantics.specs.Partial.{looked_at}

-- the problem has no more bindings to look at, kept instances and weight of these than its limits say
pub record IsWithinLimits (l : Lifted) (limits : Limits) : Type 0 where
  pub bindings : looked_at l ≤ limits.bindings
  pub actions : length (kept_instances l) ≤ limits.actions
  pub weight : total_weight l ≤ limits.weight

-- it has more: of bindings, whether all or partial ones are counted; or else of kept instances; or else of weight
pub data RefusesCounts (l : Lifted) (limits : Limits) : Refused → Type 0 where
  bindings_over : limits.bindings < looked_at l → RefusesCounts l limits refusals.BindingsOver
  actions_over : looked_at l ≤ limits.bindings → limits.actions < length (kept_instances l) → RefusesCounts l limits refusals.ActionsOver
  effects_over : looked_at l ≤ limits.bindings → length (kept_instances l) ≤ limits.actions → limits.weight < total_weight l → RefusesCounts l limits refusals.EffectsOver

-- a call stops with such a refusal; want of memory is free
abbrev pub StopsAtCounts : Lifted → Limits → Stop → Type 0
StopsAtCounts l limits (stops.Refused r) = RefusesCounts l limits r
StopsAtCounts l limits stops.Memory = Unit {0}
