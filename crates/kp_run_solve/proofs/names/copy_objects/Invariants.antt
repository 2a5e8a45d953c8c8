use Rattle.std.proofs.Common.{◌≡◌, ◌++◌, drop}
use Rattle.kp_run_solve.proofs.names.copy_objects.Given as goal

-- with the objects that are left come all
abbrev pub invariant-loop-object : goal.invariant-loop-object
invariant-loop-object l = l.copies ++ drop l.object-index l.objects ≡ l.objects
