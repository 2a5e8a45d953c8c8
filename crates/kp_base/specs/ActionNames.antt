-- The names of actions by number.
use Rattle.std.specs.Prelude.{ℕ, Option, option_map, slice_get}
use Rattle.kp_base.specs.declared.ground.GroundName.{GroundName}
use Rattle.kp_base.specs.declared.ground.Ground.{Ground}

-- the name of the action of this number
abbrev pub action_name : Ground → ℕ → Option GroundName
action_name g n = option_map (λ a. a.name) (slice_get g.actions n)
