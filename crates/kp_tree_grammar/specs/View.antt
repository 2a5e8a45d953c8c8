-- The trees of the program as trees of the grammar: the same words, without where they lie in memory.
use Rattle.std.specs.Prelude.{map}
use Rattle.kp_tree_grammar.specs.declared.tree.Word.{Word}
use Rattle.kp_tree_grammar.specs.declared.tree.Typed as typeds
use Rattle.kp_tree_grammar.specs.declared.tree.TermTree.{TermTree}
use Rattle.kp_tree_grammar.specs.declared.tree.TermTree.TheVariants as term_trees
use Rattle.kp_tree_grammar.specs.declared.tree.AtomTree.{AtomTree}
use Rattle.kp_tree_grammar.specs.declared.tree.CondTree.{CondTree}
use Rattle.kp_tree_grammar.specs.declared.tree.CondTree.TheOpen.{CondTree-F}
use Rattle.kp_tree_grammar.specs.declared.tree.CondTree.TheFolds.{fold-CondTree}
use Rattle.kp_tree_grammar.specs.declared.tree.EffTree.{EffTree}
use Rattle.kp_tree_grammar.specs.declared.tree.EffTree.TheOpen.{EffTree-F}
use Rattle.kp_tree_grammar.specs.declared.tree.EffTree.TheFolds.{fold-EffTree}
use Rattle.kp_tree_grammar.specs.declared.tree.LitTree.{LitTree}
use Rattle.kp_tree_grammar.specs.declared.tree.ItemTree.{ItemTree}
use Rattle.kp_tree_grammar.specs.declared.tree.ItemTree.TheOpen.{ItemTree-F}
use Rattle.kp_tree_grammar.specs.declared.tree.ItemTree.TheFolds.{fold-ItemTree}
use Rattle.kp_tree_grammar.specs.declared.tree.PredTree.{PredTree}
use Rattle.kp_tree_grammar.specs.declared.tree.SchemaTree.{SchemaTree}
use Rattle.kp_tree_grammar.specs.declared.tree.Domain as domains
use Rattle.kp_tree_grammar.specs.declared.tree.Problem as problems
use Rattle.kp_tree_grammar.specs.Trees.{Typed, Term, name, variable, Atom, Cond, conds_of, Eff, effs_of, Lit, Item, items_of, Pred, Schema, Domain, Problem}

-- a word with its types
abbrev pub typed_view : typeds.Typed → Typed Word
typed_view t = record { word = t.word; kinds = t.kinds }

-- a term
abbrev pub term_view : TermTree → Term Word
term_view (term_trees.Name w) = name w
term_view (term_trees.Variable w) = variable w

-- an atom
abbrev pub atom_view : AtomTree → Atom Word
atom_view a = record { head = a.head; terms = map term_view a.terms }

-- one level of a condition, whose parts are seen already
abbrev pub cond_step : CondTree-F (Cond Word) → Cond Word
cond_step (CondTree-F.All parts) = Cond.all (conds_of parts)
cond_step (CondTree-F.Atom positive a) = Cond.atom positive (atom_view a)
cond_step (CondTree-F.Same positive left right) = Cond.same positive (term_view left) (term_view right)

-- a condition
abbrev pub cond_view : CondTree → Cond Word
cond_view = fold-CondTree (Cond Word) cond_step

-- one level of an effect
abbrev pub eff_step : EffTree-F (Eff Word) → Eff Word
eff_step (EffTree-F.All parts) = Eff.both (effs_of parts)
eff_step (EffTree-F.When c body) = Eff.when (cond_view c) body.value
eff_step (EffTree-F.Each xs body) = Eff.each (map typed_view xs) body.value
eff_step (EffTree-F.Atom positive a) = Eff.makes positive (atom_view a)

-- an effect
abbrev pub eff_view : EffTree → Eff Word
eff_view = fold-EffTree (Eff Word) eff_step

-- a literal
abbrev pub lit_view : LitTree → Lit Word
lit_view l = record { positive = l.positive; atom = atom_view l.atom }

-- one level of an item
abbrev pub item_step : ItemTree-F (Item Word) → Item Word
item_step (ItemTree-F.All parts) = Item.items (items_of parts)
item_step (ItemTree-F.Lit positive a) = Item.fact positive (atom_view a)
item_step (ItemTree-F.OneOf w ls) = Item.one_of w (map lit_view ls)
item_step (ItemTree-F.AnyOf w ls) = Item.any_of w (map lit_view ls)
item_step (ItemTree-F.Unknown w a) = Item.unknown w (atom_view a)

-- an item
abbrev pub item_view : ItemTree → Item Word
item_view = fold-ItemTree (Item Word) item_step

-- a declaration
abbrev pub pred_view : PredTree → Pred Word
pred_view p = record { head = p.head; params = map typed_view p.params }

-- a schema
abbrev pub schema_view : SchemaTree → Schema Word
schema_view s = record { name = s.name; params = map typed_view s.params; pre = cond_view s.pre; effect = eff_view s.effect }

-- a domain
abbrev pub domain_view : domains.Domain → Domain Word
domain_view d = record { kinds = map typed_view d.kinds; constants = map typed_view d.constants; predicates = map pred_view d.predicates; schemas = map schema_view d.schemas }

-- a problem
abbrev pub problem_view : problems.Problem → Problem Word
problem_view p = record { objects = map typed_view p.objects; init = map item_view p.init; goal = cond_view p.goal }
