use Rattle.std.proofs.Common.{◌≡◌, map, take}
use Rattle.kp_ground_flatten.specs.Literals.{lit_view}
use Rattle.kp_ground_flatten.proofs.literal.all_owned.Given as goal

-- the literals before this one are copied
abbrev pub invariant-literals : goal.invariant-literals
invariant-literals l = l.row.items ≡ map lit_view (take l.literal-index l.literals)
