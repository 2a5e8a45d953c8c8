-- Trees with other words in place of theirs: a tree with f of each word in its place.
use Rattle.std.specs.Prelude.{map}
use Rattle.kp_tree_grammar.specs.Trees.{Typed, Term, Atom, Cond, Conds, Eff, Effs, Lit, Item, Items, Pred, Schema, Domain, Problem}

module _ {V W : Type 0} where
  -- a word and its types
  abbrev pub typed_map : (V → W) → Typed V → Typed W
  typed_map f x = record { word = f x.word; kinds = map f x.kinds }

  -- a term
  abbrev pub term_map : (V → W) → Term V → Term W
  term_map f (Term.name w) = Term.name (f w)
  term_map f (Term.variable w) = Term.variable (f w)

  -- an atom
  abbrev pub atom_map : (V → W) → Atom V → Atom W
  atom_map f a = record { head = f a.head; terms = map (term_map f) a.terms }

  -- a condition
  abbrev mutual
    pub cond_map : (V → W) → Cond V → Cond W
    cond_map f (Cond.all cs) = Cond.all (conds_map f cs)
    cond_map f (Cond.atom positive a) = Cond.atom positive (atom_map f a)
    cond_map f (Cond.same positive left right) = Cond.same positive (term_map f left) (term_map f right)

    pub conds_map : (V → W) → Conds V → Conds W
    conds_map f Conds.no_cond = Conds.no_cond
    conds_map f (Conds.more_conds c cs) = Conds.more_conds (cond_map f c) (conds_map f cs)

  -- an effect
  abbrev mutual
    pub eff_map : (V → W) → Eff V → Eff W
    eff_map f (Eff.both es) = Eff.both (effs_map f es)
    eff_map f (Eff.when c e) = Eff.when (cond_map f c) (eff_map f e)
    eff_map f (Eff.each xs e) = Eff.each (map (typed_map f) xs) (eff_map f e)
    eff_map f (Eff.makes positive a) = Eff.makes positive (atom_map f a)

    pub effs_map : (V → W) → Effs V → Effs W
    effs_map f Effs.no_eff = Effs.no_eff
    effs_map f (Effs.more_effs e es) = Effs.more_effs (eff_map f e) (effs_map f es)

  -- a literal
  abbrev pub lit_map : (V → W) → Lit V → Lit W
  lit_map f l = record { positive = l.positive; atom = atom_map f l.atom }

  -- an item of `:init`
  abbrev mutual
    pub item_map : (V → W) → Item V → Item W
    item_map f (Item.items is) = Item.items (items_map f is)
    item_map f (Item.fact positive a) = Item.fact positive (atom_map f a)
    item_map f (Item.one_of w ls) = Item.one_of (f w) (map (lit_map f) ls)
    item_map f (Item.any_of w ls) = Item.any_of (f w) (map (lit_map f) ls)
    item_map f (Item.unknown w a) = Item.unknown (f w) (atom_map f a)

    pub items_map : (V → W) → Items V → Items W
    items_map f Items.no_item = Items.no_item
    items_map f (Items.more_items i is) = Items.more_items (item_map f i) (items_map f is)

  -- the declaration of a predicate
  abbrev pub pred_map : (V → W) → Pred V → Pred W
  pred_map f q = record { head = f q.head; params = map (typed_map f) q.params }

  -- an action schema
  abbrev pub schema_map : (V → W) → Schema V → Schema W
  schema_map f a = record { name = f a.name; params = map (typed_map f) a.params; pre = cond_map f a.pre; effect = eff_map f a.effect }

  -- a domain
  abbrev pub domain_map : (V → W) → Domain V → Domain W
  domain_map f d = record { kinds = map (typed_map f) d.kinds; constants = map (typed_map f) d.constants; predicates = map (pred_map f) d.predicates; schemas = map (schema_map f) d.schemas }

  -- a problem
  abbrev pub problem_map : (V → W) → Problem V → Problem W
  problem_map f p = record { objects = map (typed_map f) p.objects; init = map (item_map f) p.init; goal = cond_map f p.goal }
