-- What `ground` answers: the ground problem of a problem by number, or that the problem is larger than a limit allows.
use Rattle.std.specs.Prelude.{◌≡◌, ◌<◌, ◌≤◌, length, Result, Ok, Err}
use Rattle.kp_base.specs.declared.ground.Ground.{Ground}
use Rattle.kp_base.specs.declared.limits.Limits.{Limits}
use Rattle.kp_base.specs.declared.refused.Refused.{Refused}
use Rattle.kp_base.specs.declared.refused.Refused.TheVariants as refusals
use Rattle.kp_base.specs.declared.refused.Stop.{Stop}
use Rattle.kp_base.specs.declared.refused.Stop.TheVariants as stops
use Rattle.kp_names_semantics.specs.Numbered.{Lifted}
use Rattle.kp_ground_semantics.specs.Ground.{ground_atoms, ground_of}
use Rattle.kp_ground_joins.specs.Limits.{IsWithinLimits, RefusesCounts}

-- the problem is refused: at its bindings, kept instances or weight, or else where it has more ground atoms than the limit
pub data RefusesGround (l : Lifted) (limits : Limits) : Refused → Type 0 where
  counts_over : (r : Refused) → RefusesCounts l limits r → RefusesGround l limits r
  atoms_over : IsWithinLimits l limits → limits.atoms < length (ground_atoms l) → RefusesGround l limits refusals.AtomsOver

-- the ground problem of a problem that is within its limits
pub record IsGrounded (l : Lifted) (limits : Limits) (g : Ground) : Type 0 where
  pub counts : IsWithinLimits l limits
  pub atoms : length (ground_atoms l) ≤ limits.atoms
  pub ground : g ≡ ground_of l

-- a call stops with such a refusal; want of memory is free
abbrev pub StopsGround : Lifted → Limits → Stop → Type 0
StopsGround l limits (stops.Refused r) = RefusesGround l limits r
StopsGround l limits stops.Memory = Unit {0}

-- of a problem by number: its ground problem, or the refusal
abbrev pub AnswersGround : Lifted → Limits → Result Ground Stop → Type 0
AnswersGround l limits (Ok g) = IsGrounded l limits g
AnswersGround l limits (Err stop) = StopsGround l limits stop
