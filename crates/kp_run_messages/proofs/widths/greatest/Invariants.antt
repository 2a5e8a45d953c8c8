use Rattle.std.proofs.Common.{◌≡◌, max, drop}
use Rattle.kp_width.specs.Rows.{greatest_width}
use Rattle.kp_run_messages.proofs.widths.greatest.Given as goal

-- with the widths that are left comes the greatest of all
abbrev pub invariant-loop-row : goal.invariant-loop-row
invariant-loop-row l = max l.most (greatest_width (drop l.row-index l.rows)) ≡ greatest_width l.rows
