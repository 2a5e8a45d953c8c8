-- All targets of a ground problem.
use Rattle.std.specs.Prelude.{◌↔◌, List}
use Rattle.kp_base.specs.declared.lit.Lit.{Lit}
use Rattle.kp_base.specs.declared.ground.Ground.{Ground}
use Rattle.kp_base.specs.Lists.{Member}
use Rattle.kp_base.specs.LitSet.{IsAscending}
use Rattle.kp_base.specs.Covering.{IsTarget}

-- just these literals are targets, each once, in order
pub record AreTargets (g : Ground) (ls : List Lit) : Type 0 where
  pub exact : (l : Lit) → Member ls l ↔ IsTarget g l
  pub ascending : IsAscending ls
