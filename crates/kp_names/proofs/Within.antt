-- Each fault of two trees is at a word of theirs, so within the text where the words are.
use Rattle.std.proofs.Common.{◌≤◌, ℕ, Bool, true, false, not, ◌==◌, List, [], ◌∷◌, ◌++◌, Option, Some, None, length, map}
use Rattle.std.specs.List.{AllByRecursion, flat_map}
use Rattle.kp_base.specs.Lists.{only_if}
use Rattle.kp_base.proofs.Lists.{each_append, each_flat_map}
use Rattle.kp_tree_grammar.specs.declared.tree.Word.{Word}
use Rattle.kp_tree_grammar.specs.Trees.{Typed, Term, Atom, Cond, Conds, Eff, Effs, Lit, Item, Items, Pred, Schema, Domain, Problem}
use Rattle.kp_names_semantics.specs.Names.{Name, is_among}
use Rattle.kp_names_semantics.specs.Types.{declared, types, object_lines}
use Rattle.kp_names_semantics.specs.Faults.{Fault, unknown_name, declared_twice, wrong_use, byte_of, unless_among, repeated, words, type_faults, variable_faults, inside, predicate_of, head_faults, term_faults, atom_faults, cond_faults, conds_faults, eff_faults, effs_faults, lit_faults, item_faults, items_faults, schema_faults, predicate_faults, domain_faults, problem_faults}
use Rattle.kp_names.proofs.Held.{all_mapped, OfTyped, OfTerm, OfAtom, OfCond, OfConds, OfEff, OfEffs, OfLit, OfItem, OfItems, OfPred, OfSchema, OfDomain, OfProblem}

module _ (n : ℕ) where
  -- the word begins within the text
  abbrev pub Early : Word → Type 0
  Early w = w.byte ≤ n

  -- the token of the fault does
  abbrev pub EarlyFault : Fault → Type 0
  EarlyFault f = byte_of f ≤ n

  abbrev pub AreEarly : List Fault → Type 0
  AreEarly fs = AllByRecursion EarlyFault fs

  only_early : (b : Bool) (f : Fault) → EarlyFault f → AreEarly (only_if b (f ∷ []))
  only_early true f h = (h, tt)
  only_early false f h = tt

  unless_early : (xs : List Name) (w : Word) → Early w → AreEarly (unless_among xs w)
  unless_early xs w h = only_early (not (is_among xs w.text)) (unknown_name w.byte) h

  repeated_early : (xs : List Name) (ws : List Word) → AllByRecursion Early ws → AreEarly (repeated xs ws)
  repeated_early xs [] h = tt
  repeated_early xs (w ∷ ws) h =
      each_append EarlyFault (only_if (is_among xs w.text) (declared_twice w.byte ∷ [])) (repeated (w.text ∷ xs) ws)
      (only_early (is_among xs w.text) (declared_twice w.byte) h.0) (repeated_early (w.text ∷ xs) ws h.1)

  types_early : (d : Domain Word) (xs : List (Typed Word)) → AllByRecursion (OfTyped Early) xs → AreEarly (type_faults d xs)
  types_early d xs h = each_flat_map (λ x. flat_map (unless_among (types d)) x.kinds) (OfTyped Early) EarlyFault (λ x g. each_flat_map (unless_among (types d)) Early EarlyFault (λ w k. unless_early (types d) w k) x.kinds g.1) xs h

  words_early : (xs : List (Typed Word)) → AllByRecursion (OfTyped Early) xs → AllByRecursion Early (words xs)
  words_early xs h = all_mapped (λ x. x.word) (OfTyped Early) Early (λ x g. g.0) xs h

  variables_early : (d : Domain Word) (xs : List (Typed Word)) → AllByRecursion (OfTyped Early) xs → AreEarly (variable_faults d xs)
  variables_early d xs h = each_append EarlyFault (type_faults d xs) (repeated [] (words xs)) (types_early d xs h) (repeated_early [] (words xs) (words_early xs h))

  head_early : (q : Option (Pred Word)) (a : Atom Word) → Early a.head → AreEarly (head_faults q a)
  head_early None a h = (h, tt)
  head_early (Some q) a h = only_early (not (length q.params == length a.terms)) (wrong_use a.head.byte) h

  module _ (d : Domain Word) (p : Problem Word) where
    term_early : (s : List Name) (x : Term Word) → OfTerm Early x → AreEarly (term_faults d p s x)
    term_early s (Term.name w) h = unless_early (declared (object_lines d p)) w h
    term_early s (Term.variable w) h = unless_early s w h

    atom_early : (s : List Name) (a : Atom Word) → OfAtom Early a → AreEarly (atom_faults d p s a)
    atom_early s a h =
        each_append EarlyFault (head_faults (predicate_of d a) a) (flat_map (term_faults d p s) a.terms) (head_early (predicate_of d a) a h.0)
        (each_flat_map (term_faults d p s) (OfTerm Early) EarlyFault (λ x g. term_early s x g) a.terms h.1)

    mutual
      cond_early : (s : List Name) (c : Cond Word) → OfCond Early c → AreEarly (cond_faults d p s c)
      cond_early s (Cond.all cs) h = conds_early s cs h
      cond_early s (Cond.atom positive a) h = atom_early s a h
      cond_early s (Cond.same positive left right) h = each_append EarlyFault (term_faults d p s left) (term_faults d p s right) (term_early s left h.0) (term_early s right h.1)

      conds_early : (s : List Name) (cs : Conds Word) → OfConds Early cs → AreEarly (conds_faults d p s cs)
      conds_early s Conds.no_cond h = tt
      conds_early s (Conds.more_conds c cs) h = each_append EarlyFault (cond_faults d p s c) (conds_faults d p s cs) (cond_early s c h.0) (conds_early s cs h.1)

    mutual
      eff_early : (s : List Name) (e : Eff Word) → OfEff Early e → AreEarly (eff_faults d p s e)
      eff_early s (Eff.both es) h = effs_early s es h
      eff_early s (Eff.when c e) h = each_append EarlyFault (cond_faults d p s c) (eff_faults d p s e) (cond_early s c h.0) (eff_early s e h.1)
      eff_early s (Eff.each xs e) h = each_append EarlyFault (variable_faults d xs) (eff_faults d p (inside (declared xs) s) e) (variables_early d xs h.0) (eff_early (inside (declared xs) s) e h.1)
      eff_early s (Eff.makes positive a) h = atom_early s a h

      effs_early : (s : List Name) (es : Effs Word) → OfEffs Early es → AreEarly (effs_faults d p s es)
      effs_early s Effs.no_eff h = tt
      effs_early s (Effs.more_effs e es) h = each_append EarlyFault (eff_faults d p s e) (effs_faults d p s es) (eff_early s e h.0) (effs_early s es h.1)

    schema_early : (a : Schema Word) → OfSchema Early a → AreEarly (schema_faults d p a)
    schema_early a h =
        let scope : List Name = inside (declared a.params) [] in
        each_append EarlyFault (variable_faults d a.params) (cond_faults d p scope a.pre ++ eff_faults d p scope a.effect) (variables_early d a.params h.1)
        (each_append EarlyFault (cond_faults d p scope a.pre) (eff_faults d p scope a.effect) (cond_early scope a.pre h.2) (eff_early scope a.effect h.3))

    lits_early : (ls : List (Lit Word)) → AllByRecursion (OfLit Early) ls → AreEarly (flat_map (lit_faults d p) ls)
    lits_early ls h = each_flat_map (lit_faults d p) (OfLit Early) EarlyFault (λ l g. atom_early [] l.atom g) ls h

    mutual
      item_early : (i : Item Word) → OfItem Early i → AreEarly (item_faults d p i)
      item_early (Item.items is) h = items_early is h
      item_early (Item.fact positive a) h = atom_early [] a h
      item_early (Item.one_of w ls) h = lits_early ls h.1
      item_early (Item.any_of w ls) h = lits_early ls h.1
      item_early (Item.unknown w a) h = atom_early [] a h.1

      items_early : (is : Items Word) → OfItems Early is → AreEarly (items_faults d p is)
      items_early Items.no_item h = tt
      items_early (Items.more_items i is) h = each_append EarlyFault (item_faults d p i) (items_faults d p is) (item_early i h.0) (items_early is h.1)

    predicates_early : (qs : List (Pred Word)) → AllByRecursion (OfPred Early) qs → AreEarly (predicate_faults qs)
    predicates_early qs h =
        each_append EarlyFault (repeated [] (map (λ q. q.head) qs)) (flat_map (λ q. repeated [] (words q.params)) qs)
        (repeated_early [] (map (λ q. q.head) qs) (all_mapped (λ q. q.head) (OfPred Early) Early (λ q g. g.0) qs h))
        (each_flat_map (λ q. repeated [] (words q.params)) (OfPred Early) EarlyFault (λ q g. repeated_early [] (words q.params) (words_early q.params g.1)) qs h)

    pub domain_early : OfDomain Early d → AreEarly (domain_faults d p)
    domain_early h =
        let names = map (λ a. a.name) d.schemas in
        let schemas = flat_map (schema_faults d p) d.schemas in
        each_append EarlyFault (type_faults d d.constants) (predicate_faults d.predicates ++ (repeated [] names ++ schemas)) (types_early d d.constants h.1)
        (each_append EarlyFault (predicate_faults d.predicates) (repeated [] names ++ schemas) (predicates_early d.predicates h.2)
        (each_append EarlyFault (repeated [] names) schemas
        (repeated_early [] names (all_mapped (λ a. a.name) (OfSchema Early) Early (λ a g. g.0) d.schemas h.3))
        (each_flat_map (schema_faults d p) (OfSchema Early) EarlyFault (λ a g. schema_early a g) d.schemas h.3)))

    pub problem_early : OfProblem Early p → AreEarly (problem_faults d p)
    problem_early h =
        let items = flat_map (item_faults d p) p.init in
        each_append EarlyFault (type_faults d p.objects) (items ++ cond_faults d p [] p.goal) (types_early d p.objects h.0)
        (each_append EarlyFault items (cond_faults d p [] p.goal)
        (each_flat_map (item_faults d p) (OfItem Early) EarlyFault (λ i g. item_early i g) p.init h.1) (cond_early [] p.goal h.2))
