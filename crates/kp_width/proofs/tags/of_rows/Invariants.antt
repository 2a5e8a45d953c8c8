use Rattle.std.proofs.Common.{◌≡◌, drop, fold}
use Rattle.std.specs.List.{flat_map}
use Rattle.kp_cover.specs.Grown.{added}
use Rattle.kp_width.specs.Rows.{row_tags}
use Rattle.kp_width.proofs.tags.of_rows.Given as goal

-- with the rows that are left come all
abbrev pub invariant-loop-row : goal.invariant-loop-row
invariant-loop-row l = fold added l.tags (flat_map (λ row. row.tags) (drop l.row-index l.rows)) ≡ row_tags l.rows
