use Rattle.std.proofs.Common.{◌≡◌, List, fold, sym, subst}
use Rattle.std.specs.List.{flat_map}
use Rattle.kp_base.specs.declared.lit.Lit.{Lit}
use Rattle.kp_cover.specs.Grown.{added}
use Rattle.kp_width.specs.Rows.{row_tags}
use Rattle.kp_width.proofs.Gathered.{all_used}
use Rattle.kp_width.proofs.tags.of_rows.Goals as goal

-- the empty tag comes first
pub loop-row-init : goal.loop-row-init
loop-row-init c = subst (λ (ts : List (List Lit)). fold added ts (flat_map (λ row. row.tags) c.args.rows.now) ≡ row_tags c.args.rows.now) (sym c.in_ok-tags.ensures) (all_used c.args.rows.now)
