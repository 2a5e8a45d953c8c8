use Rattle.std.proofs.Common.{drop}
use Rattle.kp_law_texts.specs.Pieces.{spaced, name}
use Rattle.kp_law_texts.proofs.Public.{LeavesToPut}
use Rattle.kp_plans_spelling.proofs.names.put_objects.Given as goal

-- with the objects that are left, they are all objects
abbrev pub invariant-loop-object : goal.invariant-loop-object
invariant-loop-object l = LeavesToPut l.fn.out.items l.out.items (spaced name) (drop l.object-index l.objects) l.objects
