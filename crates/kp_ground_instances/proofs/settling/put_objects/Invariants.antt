use Rattle.std.proofs.Common.{◌≡◌, ◌++◌, map, drop}
use Rattle.kp_names_semantics.specs.Lifted.{object_of}
use Rattle.kp_ground_instances.proofs.settling.put_objects.Given as goal

abbrev pub invariant-loop-term : goal.invariant-loop-term
invariant-loop-term g l = l.room.items ++ map (object_of l.objects) (drop l.term-index l.terms) ≡ map (object_of l.objects) l.terms
