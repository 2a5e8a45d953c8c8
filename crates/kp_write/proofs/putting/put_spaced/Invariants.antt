use Rattle.std.proofs.Common.{drop, map}
use Rattle.kp_law_texts.specs.Pieces.{spaced}
use Rattle.kp_write.specs.Written.{signed}
use Rattle.kp_law_texts.proofs.Public.{LeavesToPut}
use Rattle.kp_write.specs.Named.{signed_fact}
use Rattle.kp_write.proofs.putting.put_spaced.Given as goal

abbrev pub invariant-loop-number : goal.invariant-loop-number
invariant-loop-number l = LeavesToPut l.fn.out.items l.out.items (spaced signed) (map (signed_fact l.facts l.holds) (drop l.number-index l.numbers)) (map (signed_fact l.facts l.holds) l.numbers)
