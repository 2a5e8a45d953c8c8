-- A tree means the same wherever its words stand.
use Rattle.std.proofs.Common.{◌≡◌, ℕ, zero, suc, Bool, true, ◌&&◌, ◌||◌, List, [], ◌∷◌, refl, sym, ap, ◌∙◌, Option, Some, None, option_map, map, length}
use Rattle.std.specs.List.{list_any, list_all}
use Rattle.kp_tree_grammar.specs.declared.tree.Word.{Word}
use Rattle.kp_tree_grammar.specs.Trees.{Typed, Term, Atom, Cond, Conds, Eff, Effs, Lit, Item, Items, Schema, Domain, Problem}
use Rattle.kp_tree_grammar.specs.TreeMaps.{typed_map, term_map, atom_map, cond_map, conds_map, eff_map, effs_map, lit_map, item_map, items_map, schema_map, domain_map, problem_map}
use Rattle.kp_base.specs.Lists.{choices}
use Rattle.kp_base.proofs.Parts.{find_map}
use Rattle.kp_names_semantics.specs.Names.{Name, same, distinct}
use Rattle.kp_names_semantics.specs.Types.{object, names, declared, types_of, or_object, leads, below_within, is_below, object_lines, objects, is_of_type, range}
use Rattle.kp_names_semantics.specs.States.{State, Binding, unbound, bind, Literal, object_of, literal, literal_holds, holds, all_hold}
use Rattle.kp_names_semantics.specs.Steps.{Step, object_lists, fires, all_fire, after, schema_of, parameters, fits, is_instance, permits, applicable, state_by, next}
use Rattle.kp_names_semantics.specs.Initial.{by_name, one_holds, item_holds, items_hold, item_literals, items_literals, is_of, is_named, IsInitial}
use Rattle.kp_names_semantics.specs.Plans.{succeeds, Solves}
use Rattle.std.proofs.lemmas.List.{length-map, map-append}
use Rattle.std.proofs.lemmas.List.Elements.{filter_agree}
use Rattle.kp_names_semantics.proofs.Lists.{any_map, map_map, any_alike, all_alike, flat_alike}
use Rattle.kp_names_semantics.specs.Places.{KeepsTexts}

-- ---- lists of what was mapped

all_map : {X Y : Type 0} (m : X → Y) (g : Y → Bool) (h : X → Bool) (xs : List X) → ((x : X) → g (m x) ≡ h x) → list_all g (map m xs) ≡ list_all h xs
all_map m g h [] e = refl
all_map m g h (x ∷ xs) e = rw (e x, all_map m g h xs e) refl

module _ (f : Word → Word) (keep : KeepsTexts f) where
  -- ---- types and objects

  pub names_kept : (ws : List Word) → names (map f ws) ≡ names ws
  names_kept ws = map_map f (λ w. w.text) (λ w. w.text) ws keep

  pub declared_kept : (xs : List (Typed Word)) → declared (map (typed_map f) xs) ≡ declared xs
  declared_kept xs = map_map (typed_map f) (λ x. x.word.text) (λ x. x.word.text) xs (λ x. keep x.word)

  types_of_kept : (x : Typed Word) → types_of (typed_map f x) ≡ types_of x
  types_of_kept x = ap or_object (names_kept x.kinds)

  leads_kept : (t : Name) (x : Typed Word) → leads (typed_map f x) t ≡ leads x t
  leads_kept t x = rw (keep x.word) refl

  below_kept : (n : ℕ) (kinds : List (Typed Word)) (t u : Name) → below_within n (map (typed_map f) kinds) t u ≡ below_within n kinds t u
  below_kept zero kinds t u = refl
  below_kept (suc n) kinds t u =
      ap (λ z. (same t u || same u object) || z)
      (any_map (typed_map f) (λ x. leads x t && list_any (λ p. below_within n (map (typed_map f) kinds) p u) (types_of x)) (λ x. leads x t && list_any (λ p. below_within n kinds p u) (types_of x)) kinds
      (λ x. rw (leads_kept t x, types_of_kept x) (ap (λ z. leads x t && z) (any_alike (λ p. below_within n (map (typed_map f) kinds) p u) (λ p. below_within n kinds p u) (types_of x) (λ p _. below_kept n kinds p u)))))

  is_below_kept : (kinds : List (Typed Word)) (t u : Name) → is_below (map (typed_map f) kinds) t u ≡ is_below kinds t u
  is_below_kept kinds t u = rw (length-map kinds (typed_map f)) (below_kept (length kinds) kinds t u)

  module _ (d : Domain Word) (p : Problem Word) where
    pub lines_kept : object_lines (domain_map f d) (problem_map f p) ≡ map (typed_map f) (object_lines d p)
    lines_kept = sym (map-append (typed_map f) d.constants p.objects)

    objects_kept : objects (domain_map f d) (problem_map f p) ≡ objects d p
    objects_kept = ap (λ z. distinct (declared z)) lines_kept ∙ ap distinct (declared_kept (object_lines d p))

    of_type_kept : (o t : Name) → is_of_type (domain_map f d) (problem_map f p) o t ≡ is_of_type d p o t
    of_type_kept o t =
        ap (list_any (λ x. same x.word.text o && list_any (λ k. is_below (map (typed_map f) d.kinds) k t) (types_of x))) lines_kept
        ∙ any_map (typed_map f) (λ x. same x.word.text o && list_any (λ k. is_below (map (typed_map f) d.kinds) k t) (types_of x)) (λ x. same x.word.text o && list_any (λ k. is_below d.kinds k t) (types_of x)) (object_lines d p)
        (λ x. rw (keep x.word, types_of_kept x) (ap (λ z. same x.word.text o && z) (any_alike (λ k. is_below (map (typed_map f) d.kinds) k t) (λ k. is_below d.kinds k t) (types_of x) (λ k _. is_below_kept d.kinds k t))))

    range_kept : (v : Typed Word) → range (domain_map f d) (problem_map f p) (typed_map f v) ≡ range d p v
    range_kept v =
        rw (objects_kept, types_of_kept v)
        (filter_agree (λ o. list_any (is_of_type (domain_map f d) (problem_map f p) o) (types_of v)) (λ o. list_any (is_of_type d p o) (types_of v))
        (λ o. any_alike (is_of_type (domain_map f d) (problem_map f p) o) (is_of_type d p o) (types_of v) (λ t _. of_type_kept o t)) (objects d p))

    lists_kept : (xs : List (Typed Word)) → object_lists (domain_map f d) (problem_map f p) (map (typed_map f) xs) ≡ object_lists d p xs
    lists_kept xs = ap choices (map_map (typed_map f) (range (domain_map f d) (problem_map f p)) (range d p) xs range_kept)

  -- ---- conditions

  object_kept : (b : Binding) (t : Term Word) → object_of b (term_map f t) ≡ object_of b t
  object_kept b (Term.name w) = keep w
  object_kept b (Term.variable w) = ap b (keep w)

  literal_kept : (positive : Bool) (a : Atom Word) (b : Binding) → literal positive (atom_map f a) b ≡ literal positive a b
  literal_kept positive a b = built (f a.head).text a.head.text (map (object_of b) (map (term_map f) a.terms)) (map (object_of b) a.terms) (keep a.head) (map_map (term_map f) (object_of b) (object_of b) a.terms (object_kept b))
    where
      built : (x y : Name) (us vs : List Name) → x ≡ y → us ≡ vs → ◌≡◌ {A = Literal} (record { positive = positive; head = x; objects = us }) (record { positive = positive; head = y; objects = vs })
      built x y us vs e g = cc

  mutual
    holds_kept : (s : State) (b : Binding) (c : Cond Word) → holds s b (cond_map f c) ≡ holds s b c
    holds_kept s b (Cond.all cs) = all_hold_kept s b cs
    holds_kept s b (Cond.atom positive a) = ap (literal_holds s) (literal_kept positive a b)
    holds_kept s b (Cond.same positive left right) = rw (object_kept b left, object_kept b right) refl

    all_hold_kept : (s : State) (b : Binding) (cs : Conds Word) → all_hold s b (conds_map f cs) ≡ all_hold s b cs
    all_hold_kept s b Conds.no_cond = refl
    all_hold_kept s b (Conds.more_conds c cs) = rw (holds_kept s b c, all_hold_kept s b cs) refl

  -- ---- initial states

  by_name_kept : (l : Lit Word) → by_name (lit_map f l) ≡ by_name l
  by_name_kept l = literal_kept l.positive l.atom unbound

  lits_kept : (ls : List (Lit Word)) → map by_name (map (lit_map f) ls) ≡ map by_name ls
  lits_kept ls = map_map (lit_map f) by_name by_name ls by_name_kept

  mutual
    item_holds_kept : (s : State) (i : Item Word) → item_holds s (item_map f i) ≡ item_holds s i
    item_holds_kept s (Item.items is) = items_hold_kept s is
    item_holds_kept s (Item.fact positive a) = ap (literal_holds s) (literal_kept positive a unbound)
    item_holds_kept s (Item.one_of w ls) = ap (one_holds s) (lits_kept ls)
    item_holds_kept s (Item.any_of w ls) = ap (list_any (literal_holds s)) (lits_kept ls)
    item_holds_kept s (Item.unknown w a) = refl

    items_hold_kept : (s : State) (is : Items Word) → items_hold s (items_map f is) ≡ items_hold s is
    items_hold_kept s Items.no_item = refl
    items_hold_kept s (Items.more_items i is) = rw (item_holds_kept s i, items_hold_kept s is) refl

  mutual
    literals_kept : (i : Item Word) → item_literals (item_map f i) ≡ item_literals i
    literals_kept (Item.items is) = all_literals_kept is
    literals_kept (Item.fact positive a) = ap (λ l. l ∷ []) (literal_kept positive a unbound)
    literals_kept (Item.one_of w ls) = lits_kept ls
    literals_kept (Item.any_of w ls) = lits_kept ls
    literals_kept (Item.unknown w a) = ap (λ l. l ∷ []) (literal_kept true a unbound)

    all_literals_kept : (is : Items Word) → items_literals (items_map f is) ≡ items_literals is
    all_literals_kept Items.no_item = refl
    all_literals_kept (Items.more_items i is) = rw (literals_kept i, all_literals_kept is) refl

  module _ (p : Problem Word) where
    named_kept : (h : Name) (os : List Name) → is_named (problem_map f p) h os ≡ is_named p h os
    named_kept h os = any_map (item_map f) (λ i. list_any (is_of h os) (item_literals i)) (λ i. list_any (is_of h os) (item_literals i)) p.init (λ i. ap (list_any (is_of h os)) (literals_kept i))

    items_kept : (s : State) → list_all (item_holds s) (problem_map f p).init ≡ list_all (item_holds s) p.init
    items_kept s = all_map (item_map f) (item_holds s) (item_holds s) p.init (item_holds_kept s)

    initial_there : (s : State) → IsInitial p s → IsInitial (problem_map f p) s
    initial_there s i = record { items = items_kept s ∙ i.items; absent = λ h os e. i.absent h os (sym (named_kept h os) ∙ e) }

    initial_back : (s : State) → IsInitial (problem_map f p) s → IsInitial p s
    initial_back s i = record { items = sym (items_kept s) ∙ i.items; absent = λ h os e. i.absent h os (named_kept h os ∙ e) }

  -- ---- steps and plans

  module _ (d : Domain Word) (p : Problem Word) where
    mutual
      fires_kept : (s : State) (b : Binding) (e : Eff Word) → fires (domain_map f d) (problem_map f p) s b (eff_map f e) ≡ fires d p s b e
      fires_kept s b (Eff.both es) = all_fire_kept s b es
      fires_kept s b (Eff.when c e) = rw (holds_kept s b c, fires_kept s b e) refl
      fires_kept s b (Eff.each xs e) =
          rw (lists_kept d p xs, declared_kept xs)
          (flat_alike (λ os. fires (domain_map f d) (problem_map f p) s (bind (declared xs) os b) (eff_map f e)) (λ os. fires d p s (bind (declared xs) os b) e) (object_lists d p xs)
          (λ os _. fires_kept s (bind (declared xs) os b) e))
      fires_kept s b (Eff.makes positive a) = ap (λ l. l ∷ []) (literal_kept positive a b)

      all_fire_kept : (s : State) (b : Binding) (es : Effs Word) → all_fire (domain_map f d) (problem_map f p) s b (effs_map f es) ≡ all_fire d p s b es
      all_fire_kept s b Effs.no_eff = refl
      all_fire_kept s b (Effs.more_effs e es) = rw (fires_kept s b e, all_fire_kept s b es) refl

    schema_kept : (i : Step) → schema_of (domain_map f d) i ≡ option_map (schema_map f) (schema_of d i)
    schema_kept i = find_map (schema_map f) (λ a. same a.name.text i.head) (λ a. same a.name.text i.head) d.schemas (λ a. rw (keep a.name) refl)

    fits_kept : (o : Option (Schema Word)) (os : List Name) → fits (domain_map f d) (problem_map f p) (option_map (schema_map f) o) os ≡ fits d p o os
    fits_kept None os = refl
    fits_kept (Some a) os = rw (lists_kept d p a.params) refl

    instance_kept : (i : Step) → is_instance (domain_map f d) (problem_map f p) i ≡ is_instance d p i
    instance_kept i = rw (schema_kept i) (fits_kept (schema_of d i) i.objects)

    parameters_kept : (a : Schema Word) (os : List Name) → parameters (schema_map f a) os ≡ parameters a os
    parameters_kept a os = ap (λ z. bind z os unbound) (declared_kept a.params)

    permits_kept : (o : Option (Schema Word)) (os : List Name) (s : State) → permits (option_map (schema_map f) o) os s ≡ permits o os s
    permits_kept None os s = refl
    permits_kept (Some a) os s = ap (λ b. holds s b (cond_map f a.pre)) (parameters_kept a os) ∙ holds_kept s (parameters a os) a.pre

    applicable_kept : (i : Step) (s : State) → applicable (domain_map f d) i s ≡ applicable d i s
    applicable_kept i s = rw (schema_kept i) (permits_kept (schema_of d i) i.objects s)

    state_kept : (o : Option (Schema Word)) (os : List Name) (s : State) → state_by (domain_map f d) (problem_map f p) (option_map (schema_map f) o) os s ≡ state_by d p o os s
    state_kept None os s = refl
    state_kept (Some a) os s =
        ap (λ l. after l s) (ap (λ b. fires (domain_map f d) (problem_map f p) s b (eff_map f a.effect)) (parameters_kept a os) ∙ fires_kept s (parameters a os) a.effect)

    next_kept : (i : Step) (s : State) → next (domain_map f d) (problem_map f p) i s ≡ next d p i s
    next_kept i s = ap (λ o. state_by (domain_map f d) (problem_map f p) o i.objects s) (schema_kept i) ∙ state_kept (schema_of d i) i.objects s

    succeeds_kept : (steps : List Step) (s : State) → succeeds (domain_map f d) (problem_map f p) steps s ≡ succeeds d p steps s
    succeeds_kept [] s = holds_kept s unbound p.goal
    succeeds_kept (i ∷ is) s =
        ap (λ z. z && succeeds (domain_map f d) (problem_map f p) is (next (domain_map f d) (problem_map f p) i s)) (applicable_kept i s)
        ∙ ap (λ z. applicable d i s && z) (ap (succeeds (domain_map f d) (problem_map f p) is) (next_kept i s) ∙ succeeds_kept is (next d p i s))

    instances_kept : (steps : List Step) → list_all (is_instance (domain_map f d) (problem_map f p)) steps ≡ list_all (is_instance d p) steps
    instances_kept steps = all_alike (is_instance (domain_map f d) (problem_map f p)) (is_instance d p) steps (λ i _. instance_kept i)

    pub solves_there : (steps : List Step) → Solves d p steps → Solves (domain_map f d) (problem_map f p) steps
    solves_there steps h = record { instances = instances_kept steps ∙ h.instances; reaches = λ s i. succeeds_kept steps s ∙ h.reaches s (initial_back p s i) }

    pub solves_back : (steps : List Step) → Solves (domain_map f d) (problem_map f p) steps → Solves d p steps
    solves_back steps h = record { instances = sym (instances_kept steps) ∙ h.instances; reaches = λ s i. sym (succeeds_kept steps s) ∙ h.reaches s (initial_there p s i) }
