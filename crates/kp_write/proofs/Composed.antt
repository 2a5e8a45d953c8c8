-- A tree mapped twice is mapped by both maps at once.
use Rattle.std.proofs.Common.{◌≡◌, List, map, refl, ap}
use Rattle.kp_tree_grammar.specs.Trees.{Typed, Term, Atom, Cond, Conds, Eff, Effs, Lit, Item, Items, Pred, Schema, Domain, Problem}
use Rattle.kp_tree_grammar.specs.TreeMaps.{typed_map, term_map, atom_map, cond_map, conds_map, eff_map, effs_map, lit_map, item_map, items_map, pred_map, schema_map, domain_map, problem_map}
use Rattle.kp_base.proofs.Lists.{map_map}

module _ {U V W : Type 0} (f : U → V) (g : V → W) where
  abbrev both : U → W
  both w = g (f w)

  words_twice : (ws : List U) → map g (map f ws) ≡ map both ws
  words_twice ws = map_map f g both ws (λ w. refl)

  typed_twice : (x : Typed U) → typed_map g (typed_map f x) ≡ typed_map both x
  typed_twice x = rw (words_twice x.kinds) refl

  all_typed_twice : (xs : List (Typed U)) → map (typed_map g) (map (typed_map f) xs) ≡ map (typed_map both) xs
  all_typed_twice xs = map_map (typed_map f) (typed_map g) (typed_map both) xs typed_twice

  term_twice : (t : Term U) → term_map g (term_map f t) ≡ term_map both t
  term_twice (Term.name w) = refl
  term_twice (Term.variable w) = refl

  atom_twice : (a : Atom U) → atom_map g (atom_map f a) ≡ atom_map both a
  atom_twice a = rw (map_map (term_map f) (term_map g) (term_map both) a.terms term_twice) refl

  mutual
    cond_twice : (c : Cond U) → cond_map g (cond_map f c) ≡ cond_map both c
    cond_twice (Cond.all cs) = ap (λ (ds : Conds W). Cond.all ds) (conds_twice cs)
    cond_twice (Cond.atom b a) = ap (λ (x : Atom W). Cond.atom b x) (atom_twice a)
    cond_twice (Cond.same b s t) = rw (term_twice s, term_twice t) refl

    conds_twice : (cs : Conds U) → conds_map g (conds_map f cs) ≡ conds_map both cs
    conds_twice Conds.no_cond = refl
    conds_twice (Conds.more_conds c cs) = rw (cond_twice c, conds_twice cs) refl

  mutual
    eff_twice : (e : Eff U) → eff_map g (eff_map f e) ≡ eff_map both e
    eff_twice (Eff.both es) = ap (λ (ds : Effs W). Eff.both ds) (effs_twice es)
    eff_twice (Eff.when c e) = rw (cond_twice c, eff_twice e) refl
    eff_twice (Eff.each xs e) = rw (all_typed_twice xs, eff_twice e) refl
    eff_twice (Eff.makes b a) = ap (λ (x : Atom W). Eff.makes b x) (atom_twice a)

    effs_twice : (es : Effs U) → effs_map g (effs_map f es) ≡ effs_map both es
    effs_twice Effs.no_eff = refl
    effs_twice (Effs.more_effs e es) = rw (eff_twice e, effs_twice es) refl

  lit_twice : (l : Lit U) → lit_map g (lit_map f l) ≡ lit_map both l
  lit_twice l = rw (atom_twice l.atom) refl

  lits_twice : (ls : List (Lit U)) → map (lit_map g) (map (lit_map f) ls) ≡ map (lit_map both) ls
  lits_twice ls = map_map (lit_map f) (lit_map g) (lit_map both) ls lit_twice

  mutual
    item_twice : (i : Item U) → item_map g (item_map f i) ≡ item_map both i
    item_twice (Item.items is) = ap (λ (js : Items W). Item.items js) (items_twice is)
    item_twice (Item.fact b a) = ap (λ (x : Atom W). Item.fact b x) (atom_twice a)
    item_twice (Item.one_of w ls) = ap (λ (ms : List (Lit W)). Item.one_of (both w) ms) (lits_twice ls)
    item_twice (Item.any_of w ls) = ap (λ (ms : List (Lit W)). Item.any_of (both w) ms) (lits_twice ls)
    item_twice (Item.unknown w a) = ap (λ (x : Atom W). Item.unknown (both w) x) (atom_twice a)

    items_twice : (is : Items U) → items_map g (items_map f is) ≡ items_map both is
    items_twice Items.no_item = refl
    items_twice (Items.more_items i is) = rw (item_twice i, items_twice is) refl

  pred_twice : (q : Pred U) → pred_map g (pred_map f q) ≡ pred_map both q
  pred_twice q = rw (all_typed_twice q.params) refl

  schema_twice : (a : Schema U) → schema_map g (schema_map f a) ≡ schema_map both a
  schema_twice a = rw (all_typed_twice a.params, cond_twice a.pre, eff_twice a.effect) refl

  pub domain_twice : (d : Domain U) → domain_map g (domain_map f d) ≡ domain_map both d
  domain_twice d = rw (all_typed_twice d.kinds, all_typed_twice d.constants, map_map (pred_map f) (pred_map g) (pred_map both) d.predicates pred_twice, map_map (schema_map f) (schema_map g) (schema_map both) d.schemas schema_twice) refl

  pub problem_twice : (p : Problem U) → problem_map g (problem_map f p) ≡ problem_map both p
  problem_twice p = rw (all_typed_twice p.objects, map_map (item_map f) (item_map g) (item_map both) p.init item_twice, cond_twice p.goal) refl
