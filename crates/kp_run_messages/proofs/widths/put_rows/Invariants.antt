use Rattle.std.proofs.Common.{◌≡◌, ◌++◌, drop}
use Rattle.kp_run_messages.specs.Widths.{rows_lines}
use Rattle.kp_run_messages.proofs.widths.put_rows.Given as goal

-- with what is left comes the whole
abbrev pub invariant-loop-row : goal.invariant-loop-row
invariant-loop-row l = l.out.items ++ rows_lines l.atoms (drop l.row-index l.rows) ≡ l.fn.out.items ++ rows_lines l.atoms l.rows
