-- Ground problems whose places a `u32` counts.
use Rattle.std.specs.Prelude.{◌≡◌, ◌<◌, ℕ, Some, length, slice_get}
use Rattle.kp_base.specs.declared.ground.Action.{Action}
use Rattle.kp_base.specs.declared.ground.Ground.{Ground}

-- there are fewer than 2,147,483,648 actions, and as few effects of each
pub record IsCounted (g : Ground) : Type 0 where
  pub actions : length g.actions < 2147483648
  pub effects : (n : ℕ) (a : Action) → slice_get g.actions n ≡ Some a → length a.effects < 2147483648
