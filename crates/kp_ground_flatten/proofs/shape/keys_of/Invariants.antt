use Rattle.std.proofs.Common.{◌≡◌, map, take}
use Rattle.kp_ground_flatten.specs.Literals.{lit_view}
use Rattle.kp_ground_flatten.specs.Shapes.{key_view}
use Rattle.kp_ground_flatten.proofs.shape.keys_of.Given as goal

-- the literals before this one
abbrev pub invariant-literals : goal.invariant-literals
invariant-literals l = map key_view l.keys.items ≡ map lit_view (take l.literal-index l.literals)
