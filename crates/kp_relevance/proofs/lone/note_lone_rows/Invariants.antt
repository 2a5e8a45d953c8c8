use Rattle.std.proofs.Common.{◌≡◌, length}
use Rattle.kp_relevance.specs.Tabled.{AreLone}
use Rattle.kp_relevance.proofs.lone.note_lone_rows.Given as goal

abbrev pub invariant-loop-k : goal.invariant-loop-k
invariant-loop-k l = record {
  wide : length l.lone ≡ l.n;
  lone : AreLone l.n l.rows l.lone;
}
