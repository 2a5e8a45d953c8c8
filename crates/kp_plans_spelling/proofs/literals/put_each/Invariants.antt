use Rattle.std.proofs.Common.{drop}
use Rattle.kp_law_texts.specs.Pieces.{spaced}
use Rattle.kp_law_texts.proofs.Public.{LeavesToPut}
use Rattle.kp_plans_spelling.specs.Spelling.{lit_put}
use Rattle.kp_plans_spelling.proofs.literals.put_each.Given as goal

-- with the literals that are left, they are all literals
abbrev pub invariant-loop-literal : goal.invariant-loop-literal
invariant-loop-literal l = LeavesToPut l.fn.out.items l.out.items (spaced (lit_put l.atoms)) (drop l.literal-index l.literals) l.literals
