-- The tags of rows, one by one.
use Rattle.std.proofs.Common.{◌≡◌, List, [], ◌∷◌, ◌++◌, fold, refl}
use Rattle.std.specs.List.{flat_map}
use Rattle.kp_base.specs.declared.lit.Lit.{Lit}
use Rattle.kp_base.specs.LitSet.{same_set}
use Rattle.kp_base.proofs.Sets.{same_sets}
use Rattle.kp_base.proofs.Once.{once_by_one}
use Rattle.kp_cover.specs.Grown.{added}
use Rattle.kp_width.specs.declared.report.WidthRow.{WidthRow}
use Rattle.kp_width.specs.Rows.{row_tags}

folded : (xs ys tags : List (List Lit)) → fold added tags (xs ++ ys) ≡ fold added (fold added tags xs) ys
folded [] ys tags = refl
folded (x ∷ xs) ys tags = folded xs ys (added tags x)

-- those of one row come before those of the others
pub next_row : (row : WidthRow) (rows : List WidthRow) (tags : List (List Lit)) → fold added tags (flat_map (λ row. row.tags) (row ∷ rows)) ≡ fold added (fold added tags row.tags) (flat_map (λ row. row.tags) rows)
next_row row rows tags = folded row.tags (flat_map (λ row. row.tags) rows) tags

-- one by one they are those that are used
pub all_used : (rows : List WidthRow) → fold added ([] ∷ []) (flat_map (λ row. row.tags) rows) ≡ row_tags rows
all_used rows = once_by_one same_set same_sets ([] ∷ flat_map (λ row. row.tags) rows)
