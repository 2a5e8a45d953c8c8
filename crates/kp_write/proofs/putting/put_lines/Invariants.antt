use Rattle.std.proofs.Common.{drop, map}
use Rattle.kp_write.specs.Written.{fact_line}
use Rattle.kp_law_texts.proofs.Public.{LeavesToPut}
use Rattle.kp_write.specs.Named.{fact_name}
use Rattle.kp_write.proofs.putting.put_lines.Given as goal

abbrev pub invariant-loop-number : goal.invariant-loop-number
invariant-loop-number l = LeavesToPut l.fn.out.items l.out.items fact_line (map (fact_name l.facts) (drop l.number-index l.numbers)) (map (fact_name l.facts) l.numbers)
