-- The views of trees in an arena, one equation for each variant that an answer needs.
use Rattle.std.proofs.Common.{◌≡◌, Bool, List, Bor, map, sym, ap, ◌∙◌}
use Rattle.kp_tree_grammar.specs.declared.tree.Word.{Word}
use Rattle.kp_tree_grammar.specs.Trees.{Cond, Eff, Item}
use Rattle.kp_tree_arena.specs.declared.node.AtomNode.{AtomNode}
use Rattle.kp_tree_arena.specs.declared.node.TypedNode.{TypedNode}
use Rattle.kp_tree_arena.specs.declared.node.CondNode.{CondNode}
use Rattle.kp_tree_arena.specs.declared.node.EffNode.{EffNode}
use Rattle.kp_tree_arena.specs.declared.node.CondNode.TheOpen.{CondNode-F}
use Rattle.kp_tree_arena.specs.declared.node.CondNode.TheFolds.{fold-roll-CondNode}
use Rattle.kp_tree_arena.specs.declared.node.CondNode.TheVariants as conds
use Rattle.kp_tree_arena.specs.declared.node.EffNode.TheOpen.{EffNode-F}
use Rattle.kp_tree_arena.specs.declared.node.EffNode.TheFolds.{fold-roll-EffNode}
use Rattle.kp_tree_arena.specs.declared.node.EffNode.TheVariants as effs
use Rattle.kp_tree_arena.specs.declared.node.ItemNode.TheOpen.{ItemNode-F}
use Rattle.kp_tree_arena.specs.declared.node.ItemNode.TheFolds.{fold-roll-ItemNode}
use Rattle.kp_tree_arena.specs.declared.node.ItemNode.TheVariants as items
use Rattle.kp_tree_arena.specs.Nodes.{typed_view, atom_view, cond_view, cond_step, eff_view, eff_step, item_view, item_step}

pub cond_atom : (positive : Bool) (a : AtomNode) → Cond.atom positive (atom_view a) ≡ cond_view (conds.Atom positive a)
cond_atom positive a = sym (ap cond_view (sym (conds.rolls-Atom positive a)) ∙ fold-roll-CondNode (Cond Word) cond_step (CondNode-F.Atom positive a))

pub eff_atom : (positive : Bool) (a : AtomNode) → Eff.makes positive (atom_view a) ≡ eff_view (effs.Atom positive a)
eff_atom positive a = sym (ap eff_view (sym (effs.rolls-Atom positive a)) ∙ fold-roll-EffNode (Eff Word) eff_step (EffNode-F.Atom positive a))

pub item_lit : (positive : Bool) (a : AtomNode) → Item.fact positive (atom_view a) ≡ item_view (items.Lit positive a)
item_lit positive a = sym (ap item_view (sym (items.rolls-Lit positive a)) ∙ fold-roll-ItemNode (Item Word) item_step (ItemNode-F.Lit positive a))

pub eff_when : (c : CondNode) (body : Bor EffNode) → eff_view (effs.When c body) ≡ Eff.when (cond_view c) (eff_view body.now)
eff_when c body = ap eff_view (sym (effs.rolls-When c body)) ∙ fold-roll-EffNode (Eff Word) eff_step (EffNode-F.When c body)

pub eff_each : (xs : Bor (List TypedNode)) (body : Bor EffNode) → eff_view (effs.Each xs body) ≡ Eff.each (map typed_view xs.now) (eff_view body.now)
eff_each xs body = ap eff_view (sym (effs.rolls-Each xs body)) ∙ fold-roll-EffNode (Eff Word) eff_step (EffNode-F.Each xs body)
