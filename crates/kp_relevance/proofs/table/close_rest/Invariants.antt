use Rattle.std.proofs.Common.{◌≡◌, ◌<◌, ℕ, true, false, get_or}
use Rattle.kp_relevance.specs.Tabled.{ClosesRows, AreSpare}
use Rattle.kp_relevance.proofs.table.close_rest.Given as goal

abbrev pub invariant-loop-j : goal.invariant-loop-j
invariant-loop-j l = record {
  closes : ClosesRows l.n l.closed l.fn.rows l.rows;
  spare : AreSpare l.n l.rows l.spare.lone l.spare.row l.spare.done;
  closed : (i : ℕ) → i < l.j → get_or l.closed i false ≡ true;
}
