-- Chains by number, part by part.
use Rattle.std.proofs.Common.{◌≡◌, List, [], ◌∷◌, refl, sym, ap, map, ◌∙◌}
use Rattle.kp_tree_grammar.specs.declared.tree.Word.{Word}
use Rattle.kp_tree_grammar.specs.Trees as trees
use Rattle.kp_tree_grammar.specs.declared.tree.CondTree.{CondTree}
use Rattle.kp_tree_grammar.specs.declared.tree.CondTree.TheOpen.{CondTree-F}
use Rattle.kp_tree_grammar.specs.declared.tree.CondTree.TheFolds.{fold-roll-CondTree}
use Rattle.kp_tree_grammar.specs.declared.tree.CondTree.TheVariants as tree_variants
use Rattle.kp_tree_grammar.specs.declared.tree.EffTree.{EffTree}
use Rattle.kp_tree_grammar.specs.declared.tree.EffTree.TheOpen.{EffTree-F}
use Rattle.kp_tree_grammar.specs.declared.tree.EffTree.TheFolds.{fold-roll-EffTree}
use Rattle.kp_tree_grammar.specs.declared.tree.EffTree.TheVariants as eff_tree_variants
use Rattle.kp_tree_grammar.specs.View.{cond_view as tree_view, cond_step as tree_step, eff_view as eff_tree_view, eff_step as eff_tree_step}
use Rattle.kp_names_semantics.specs.Names.{Name}
use Rattle.kp_names_semantics.specs.Numbered.{Cond, Conds, Eff, Effs}
use Rattle.kp_names_semantics.specs.Numbering.{numbered_cond, numbered_conds, numbered_eff, numbered_effs}
use Rattle.kp_names_numbered.specs.declared.lifted.Cond as conds
use Rattle.kp_names_numbered.specs.declared.lifted.Cond.TheOpen.{Cond-F}
use Rattle.kp_names_numbered.specs.declared.lifted.Cond.TheFolds.{fold-roll-Cond}
use Rattle.kp_names_numbered.specs.declared.lifted.Cond.TheVariants as cond_variants
use Rattle.kp_names_numbered.specs.declared.lifted.Eff as effs
use Rattle.kp_names_numbered.specs.declared.lifted.Eff.TheOpen.{Eff-F}
use Rattle.kp_names_numbered.specs.declared.lifted.Eff.TheFolds.{fold-roll-Eff}
use Rattle.kp_names_numbered.specs.declared.lifted.Eff.TheVariants as eff_variants
use Rattle.kp_names_numbered.specs.View.{conds_of, effs_of, cond_view, cond_step, eff_view, eff_step}

module _ (d : trees.Domain Word) (p : trees.Problem Word) (scope : List Name) where
  pub conds_numbered : (cs : List (trees.Cond Word)) → numbered_conds d p scope (trees.conds_of cs) ≡ conds_of (map (numbered_cond d p scope) cs)
  conds_numbered [] = refl
  conds_numbered (c ∷ cs) = ap (Conds.more_conds (numbered_cond d p scope c)) (conds_numbered cs)

  -- the parts by number make the whole by number
  pub all_conds : (cs : List conds.Cond) (ts : List CondTree) → map cond_view cs ≡ map (numbered_cond d p scope) (map tree_view ts) → cond_view (cond_variants.All cs) ≡ numbered_cond d p scope (tree_view (tree_variants.All ts))
  all_conds cs ts h =
      ap cond_view (sym (cond_variants.rolls-All cs)) ∙ fold-roll-Cond Cond cond_step (Cond-F.All cs)
      ∙ ap (λ z. Cond.all (conds_of z)) h
      ∙ ap Cond.all (sym (conds_numbered (map tree_view ts)))
      ∙ ap (numbered_cond d p scope) (sym (ap tree_view (sym (tree_variants.rolls-All ts)) ∙ fold-roll-CondTree (trees.Cond Word) tree_step (CondTree-F.All ts)))

  pub effs_numbered : (es : List (trees.Eff Word)) → numbered_effs d p scope (trees.effs_of es) ≡ effs_of (map (numbered_eff d p scope) es)
  effs_numbered [] = refl
  effs_numbered (e ∷ es) = ap (Effs.more_effs (numbered_eff d p scope e)) (effs_numbered es)

  -- the parts by number make the whole by number
  pub all_effs : (es : List effs.Eff) (ts : List EffTree) → map eff_view es ≡ map (numbered_eff d p scope) (map eff_tree_view ts) → eff_view (eff_variants.All es) ≡ numbered_eff d p scope (eff_tree_view (eff_tree_variants.All ts))
  all_effs es ts h =
      ap eff_view (sym (eff_variants.rolls-All es)) ∙ fold-roll-Eff Eff eff_step (Eff-F.All es)
      ∙ ap (λ z. Eff.both (effs_of z)) h
      ∙ ap Eff.both (sym (effs_numbered (map eff_tree_view ts)))
      ∙ ap (numbered_eff d p scope) (sym (ap eff_tree_view (sym (eff_tree_variants.rolls-All ts)) ∙ fold-roll-EffTree (trees.Eff Word) eff_tree_step (EffTree-F.All ts)))
