-- In trees without a fault each ground atom is of a declared predicate and of objects, and these have different names.
use Rattle.std.proofs.Common.{◌≡◌, true, false, not, cond, ◌&&◌, nat_lt, List, [], ◌∷◌, filter, length, refl, sym, ap, subst, ◌∙◌}
use Rattle.std.specs.List.{list_all}
use Rattle.std.proofs.lemmas.Bool.{or_parts}
use Rattle.std.proofs.lemmas.List.{length-map}
use Rattle.kp_tree_grammar.specs.declared.tree.Word.{Word}
use Rattle.kp_tree_grammar.specs.Trees as trees
use Rattle.kp_tree_grammar.specs.Trees.{Domain, Problem}
use Rattle.kp_base.specs.Lists.{Member}
use Rattle.kp_base.proofs.Lists.{all_from, map_map, map_member}
use Rattle.kp_names_semantics.specs.declared.lifted.GroundLit.{GroundLit}
use Rattle.kp_names_semantics.specs.declared.lifted.Pred.{Pred}
use Rattle.kp_names_semantics.specs.Problems.{Name, same, is_among, distinct, declared, object_lines, objects, Lifted, ground, heads, numbered_pred, numbered_problem}
use Rattle.kp_names_semantics.proofs.Public.{AreDistinctNames, distinct_are_distinct, is_valid_literal, HasCleanParts, clean_parts}
use Rattle.kp_base.specs.Atoms.{Atom}
use Rattle.kp_ground_semantics.specs.Ground.{atom_of, occurring, ground_atoms}
use Rattle.kp_ground_semantics.proofs.Public.{atoms_are_numbered}
use Rattle.kp_init.specs.ByName.{predicate_names, is_declared}
use Rattle.kp_law_translation.specs.Given.{NamesTellGroundAtoms}
use Rattle.kp_law_translation.proofs.Valid.{occurring_valid}

-- ---- names that stand once

all_apart : (x : Name) (xs : List Name) → is_among xs x ≡ false → filter (λ y. not (same x y)) xs ≡ xs
all_apart x [] h = refl
all_apart x (y ∷ ys) h =
    let parts = or_parts (same x y) (is_among ys x) h in
    let others : List Name = filter (λ y. not (same x y)) ys in
    ap (λ t. cond (not t) (y ∷ others) others) parts.0 ∙ ap (λ zs. y ∷ zs) (all_apart x ys parts.1)

distinct_same : (xs : List Name) → AreDistinctNames xs → distinct xs ≡ xs
distinct_same [] once = refl
distinct_same (x ∷ xs) once = ap (λ ys. x ∷ filter (λ y. not (same x y)) ys) (distinct_same xs once.1) ∙ ap (λ ys. x ∷ ys) (all_apart x xs once.0)

-- ---- ground atoms

-- the atom as a literal
abbrev pub as_literal : Atom → GroundLit
as_literal a = ground true a.pred a.objects

module _ (d : Domain Word) (p : Problem Word) where
  abbrev l : Lifted
  l = numbered_problem d p

  pub heads_are : predicate_names l ≡ heads d
  heads_are =
      map_map numbered_pred (λ (q : Pred). q.name) (λ (q : trees.Pred Word). q.head.text) d.predicates (λ q. refl)
      ∙ sym (map_map (λ (q : trees.Pred Word). q.head) (λ (w : Word). w.text) (λ (q : trees.Pred Word). q.head.text) d.predicates (λ q. refl))

  pub atom_valid : HasCleanParts d p → (a : Atom) → Member (ground_atoms l) a → is_valid_literal d p (as_literal a) ≡ true
  atom_valid c a m =
      let r = map_member atom_of (occurring l) a ((atoms_are_numbered l).occur a m) in
      subst (λ x. is_valid_literal d p (as_literal x) ≡ true) r.2 (occurring_valid d p c r.0 r.1)

  as_many : length l.predicates ≡ length (heads d)
  as_many = sym (length-map l.predicates (λ (q : Pred). q.name)) ∙ ap length heads_are

  atom_declared : HasCleanParts d p → (a : Atom) → Member (ground_atoms l) a → is_declared l a ≡ true
  atom_declared c a m = ap (λ n. nat_lt a.pred n && list_all (λ o. nat_lt o (length (objects d p))) a.objects) as_many ∙ atom_valid c a m

-- ---- the law

pub names_tell : NamesTellGroundAtoms
names_tell d p no_fault =
    let c = clean_parts d p no_fault in
    record {
      predicates = subst (λ ns. distinct ns ≡ ns) (sym (heads_are d p)) (distinct_same (heads d) c.heads_once);
      objects = distinct_same (objects d p) (distinct_are_distinct (declared (object_lines d p)));
      declared = all_from (is_declared (numbered_problem d p)) (ground_atoms (numbered_problem d p)) (atom_declared d p c);
    }
