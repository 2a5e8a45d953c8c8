use Rattle.std.proofs.Common.{drop}
use Rattle.kp_law_texts.specs.Pieces.{spaced}
use Rattle.kp_law_texts.proofs.Public.{LeavesToPut}
use Rattle.kp_plans_spelling.specs.Spelling.{numbered_put}
use Rattle.kp_plans_spelling.proofs.names.put_places.Given as goal

-- with the atoms that are left, they are all atoms
abbrev pub invariant-loop-atom : goal.invariant-loop-atom
invariant-loop-atom l = LeavesToPut l.fn.out.items l.out.items (spaced (numbered_put l.names)) (drop l.atom-index l.atoms) l.atoms
