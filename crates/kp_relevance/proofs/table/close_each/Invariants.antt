use Rattle.std.proofs.Common.{length}
use Rattle.kp_relevance.specs.Tabled.{ClosesRows, AreSpare}
use Rattle.kp_relevance.proofs.table.close_each.Given as goal

abbrev pub invariant-loop-j : goal.invariant-loop-j
invariant-loop-j l = record {
  closes : ClosesRows (length l.fn.rows) l.closed l.fn.rows l.rows;
  spare : AreSpare (length l.fn.rows) l.rows l.spare.lone l.spare.row l.spare.done;
}
