use Rattle.std.proofs.Common.{◌≡◌, ◌++◌, drop}
use Rattle.kp_names_semantics.specs.Encoding.{encoded_objects}
use Rattle.kp_plans.proofs.encoding.put_objects.Given as goal

-- with what is left to write, it is the whole
abbrev pub invariant-loop-object : goal.invariant-loop-object
invariant-loop-object l = l.out.items ++ encoded_objects (drop l.object-index l.objects) ≡ l.fn.out.items ++ encoded_objects l.objects
