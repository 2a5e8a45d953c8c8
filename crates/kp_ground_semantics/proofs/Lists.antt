-- Truth values.
use Rattle.std.proofs.Common.{◌≡◌, Bool, true, refl}
use Rattle.std.specs.Bool.{beq}
use Rattle.std.specs.Cmp.{booleans_Decides}
pub use Rattle.kp_base.proofs.Lists.{member_filter}

pub beq-true : (a b : Bool) → beq a b ≡ true → a ≡ b
beq-true a b h = (booleans_Decides a b).0 h

pub beq-refl : (a : Bool) → beq a a ≡ true
beq-refl a = (booleans_Decides a a).1 refl
