use Rattle.std.proofs.Common.{drop}
use Rattle.kp_write.specs.Written.{fact_line}
use Rattle.kp_law_texts.proofs.Public.{LeavesToPut}
use Rattle.kp_write.proofs.putting.put_names.Given as goal

abbrev pub invariant-loop-name : goal.invariant-loop-name
invariant-loop-name l = LeavesToPut l.fn.out.items l.out.items fact_line (drop l.name-index l.names) l.names
