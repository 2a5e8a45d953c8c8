-- The trees of an arena as trees of the grammar: the same words, without where they lie in memory.
use Rattle.std.specs.Prelude.{map}
use Rattle.kp_tree_grammar.specs.declared.tree.Word.{Word}
use Rattle.kp_tree_grammar.specs.Trees.{Typed, Term, name, variable, Atom, Cond, conds_of, Eff, effs_of, Lit, Item, items_of, Pred, Schema, Domain, Problem}
use Rattle.kp_tree_arena.specs.declared.node.WordNode.{WordNode}
use Rattle.kp_tree_arena.specs.declared.node.TypedNode.{TypedNode}
use Rattle.kp_tree_arena.specs.declared.node.TermNode.{TermNode}
use Rattle.kp_tree_arena.specs.declared.node.TermNode.TheVariants as terms
use Rattle.kp_tree_arena.specs.declared.node.AtomNode.{AtomNode}
use Rattle.kp_tree_arena.specs.declared.node.CondNode.{CondNode}
use Rattle.kp_tree_arena.specs.declared.node.CondNode.TheOpen.{CondNode-F}
use Rattle.kp_tree_arena.specs.declared.node.CondNode.TheFolds.{fold-CondNode}
use Rattle.kp_tree_arena.specs.declared.node.EffNode.{EffNode}
use Rattle.kp_tree_arena.specs.declared.node.EffNode.TheOpen.{EffNode-F}
use Rattle.kp_tree_arena.specs.declared.node.EffNode.TheFolds.{fold-EffNode}
use Rattle.kp_tree_arena.specs.declared.node.LitNode.{LitNode}
use Rattle.kp_tree_arena.specs.declared.node.ItemNode.{ItemNode}
use Rattle.kp_tree_arena.specs.declared.node.ItemNode.TheOpen.{ItemNode-F}
use Rattle.kp_tree_arena.specs.declared.node.ItemNode.TheFolds.{fold-ItemNode}
use Rattle.kp_tree_arena.specs.declared.node.PredNode.{PredNode}
use Rattle.kp_tree_arena.specs.declared.node.SchemaNode.{SchemaNode}
use Rattle.kp_tree_arena.specs.declared.node.DomainNode.{DomainNode}
use Rattle.kp_tree_arena.specs.declared.node.ProblemNode.{ProblemNode}

-- a word
abbrev pub word_view : WordNode → Word
word_view w = record { text = w.text.now; byte = w.byte }

-- a word with its types
abbrev pub typed_view : TypedNode → Typed Word
typed_view t = record { word = word_view t.word; kinds = map word_view t.kinds.now }

-- a term
abbrev pub term_view : TermNode → Term Word
term_view (terms.Name w) = name (word_view w)
term_view (terms.Variable w) = variable (word_view w)

-- an atom
abbrev pub atom_view : AtomNode → Atom Word
atom_view a = record { head = word_view a.head; terms = map term_view a.terms.now }

-- one level of a condition, whose parts are seen already
abbrev pub cond_step : CondNode-F (Cond Word) → Cond Word
cond_step (CondNode-F.All parts) = Cond.all (conds_of parts.now)
cond_step (CondNode-F.Atom positive a) = Cond.atom positive (atom_view a)
cond_step (CondNode-F.Same positive left right) = Cond.same positive (term_view left) (term_view right)

-- a condition
abbrev pub cond_view : CondNode → Cond Word
cond_view = fold-CondNode (Cond Word) cond_step

-- one level of an effect
abbrev pub eff_step : EffNode-F (Eff Word) → Eff Word
eff_step (EffNode-F.All parts) = Eff.both (effs_of parts.now)
eff_step (EffNode-F.When c body) = Eff.when (cond_view c) body.now
eff_step (EffNode-F.Each xs body) = Eff.each (map typed_view xs.now) body.now
eff_step (EffNode-F.Atom positive a) = Eff.makes positive (atom_view a)

-- an effect
abbrev pub eff_view : EffNode → Eff Word
eff_view = fold-EffNode (Eff Word) eff_step

-- a literal
abbrev pub lit_view : LitNode → Lit Word
lit_view l = record { positive = l.positive; atom = atom_view l.atom }

-- one level of an item
abbrev pub item_step : ItemNode-F (Item Word) → Item Word
item_step (ItemNode-F.All parts) = Item.items (items_of parts.now)
item_step (ItemNode-F.Lit positive a) = Item.fact positive (atom_view a)
item_step (ItemNode-F.OneOf w ls) = Item.one_of (word_view w) (map lit_view ls.now)
item_step (ItemNode-F.AnyOf w ls) = Item.any_of (word_view w) (map lit_view ls.now)
item_step (ItemNode-F.Unknown w a) = Item.unknown (word_view w) (atom_view a)

-- an item
abbrev pub item_view : ItemNode → Item Word
item_view = fold-ItemNode (Item Word) item_step

-- a declaration
abbrev pub pred_view : PredNode → Pred Word
pred_view p = record { head = word_view p.head; params = map typed_view p.params.now }

-- a schema
abbrev pub schema_view : SchemaNode → Schema Word
schema_view s = record { name = word_view s.name; params = map typed_view s.params.now; pre = cond_view s.pre; effect = eff_view s.effect }

-- a domain
abbrev pub domain_view : DomainNode → Domain Word
domain_view d = record { kinds = map typed_view d.kinds.now; constants = map typed_view d.constants.now; predicates = map pred_view d.predicates.now; schemas = map schema_view d.schemas.now }

-- a problem
abbrev pub problem_view : ProblemNode → Problem Word
problem_view p = record { objects = map typed_view p.objects.now; init = map item_view p.init.now; goal = cond_view p.goal }
