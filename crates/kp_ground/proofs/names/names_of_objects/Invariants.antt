use Rattle.std.proofs.Common.{◌≡◌, ◌++◌, map, drop}
use Rattle.kp_names_semantics.specs.Numbering.{name_at}
use Rattle.kp_ground.proofs.names.names_of_objects.Given as goal

-- with the objects that are left come all
abbrev pub invariant-loop-object : goal.invariant-loop-object
invariant-loop-object l = l.row ++ map (name_at l.lifted.objects) (drop l.object-index l.objects) ≡ map (name_at l.lifted.objects) l.objects
