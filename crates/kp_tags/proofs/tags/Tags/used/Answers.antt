use Rattle.std.proofs.Common.{◌≡◌, List, fold, sym, subst, ◌∙◌}
use Rattle.std.specs.List.{flat_map}
use Rattle.kp_base.specs.declared.lit.Lit.{Lit}
use Rattle.kp_tags.specs.MergeTables.{used_tags}
use Rattle.kp_tags.specs.Kept.{with_tag}
use Rattle.kp_tags.proofs.Gathered.{all_used}
use Rattle.kp_tags.proofs.tags.Tags.used.Goals as goal

-- the empty tag comes first
pub returns : goal.returns
returns c = c.in_ok-insert_used.ensures ∙ subst (λ (ts : List (List Lit)). fold with_tag ts (flat_map (λ m. m.tags) c.args.merges.now) ≡ used_tags c.args.merges.now) (sym c.in_ok-tags.ensures) (all_used c.args.merges.now)
