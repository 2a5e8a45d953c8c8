-- Literals, what `:init` states and the goal mean the same by number as by name.
use Rattle.std.proofs.Common.{◌≡◌, ◌<◌, ℕ, Bool, true, false, not, ◌&&◌, ◌||◌, nat_eq, nat_lt, List, [], ◌∷◌, ◌++◌, refl, sym, ap, subst, ◌∙◌, inl, inr, map, length, eqb-true, eq-eqb}
use Rattle.std.specs.Bool.{beq}
use Rattle.std.specs.List.{list_any, list_all, flat_map}
use Rattle.std.proofs.lemmas.List.{append-nil, map-append}
use Rattle.std.proofs.lemmas.Grind.{flat_map-append}
use Rattle.std.proofs.lemmas.List.Folds.{list_all-append, list_all-map}
use Rattle.std.proofs.lemmas.Bool.{and_parts, and_from, false≢true, lt-ltb, ltb-true}
use Rattle.std.proofs.Math.Bool.{and-true}
use Rattle.kp_tree_grammar.specs.declared.tree.Word.{Word}
use Rattle.kp_tree_grammar.specs.Trees.{Term, Atom, Cond, Conds, Eff, Effs, Lit, Item, Items, Domain, Problem}
use Rattle.kp_names_semantics.specs.declared.lifted.GroundLit.{GroundLit}
use Rattle.kp_base.specs.Lists.{Member, signed, only_if}
use Rattle.kp_names_semantics.specs.Names.{Name, same, all_same}
use Rattle.kp_names_semantics.specs.Types.{declared, objects}
use Rattle.kp_names_semantics.specs.Faults.{inside, atom_faults, cond_faults, conds_faults, eff_faults, effs_faults, lit_faults, item_faults, items_faults, variable_faults}
use Rattle.kp_names_semantics.specs.States as named
use Rattle.kp_names_semantics.specs.States.{unbound, bind}
use Rattle.kp_names_semantics.specs.Steps as named_steps
use Rattle.kp_names_semantics.specs.Steps.{object_lists}
use Rattle.kp_names_semantics.specs.Initial as named_initial
use Rattle.kp_names_semantics.specs.Initial.{by_name}
use Rattle.kp_names_semantics.specs.Lifted.{State, Binding, object_of, ground, same_literal, names_literal, literal_holds, holds, fires, all_fire, after, one_holds, item_holds, item_literals}
use Rattle.kp_names_semantics.specs.Numbering.{index_of, name_at, heads, numbered_term, numbered_terms, numbered_head, numbered_cond, numbered_eff, numbered_effs, object_number, numbered_literal, numbered_lit, numbered_item, numbered_items, numbered_goal, numbered_goals, named_objects, named_literal, AreObjects, Agree}
use Rattle.kp_names_semantics.specs.NumberLaws.{Matches, is_plain_goal, are_plain_goals}
use Rattle.kp_names_semantics.proofs.Lists.{bool_same, any_map, any_alike, all_alike, all_member, append_empty, same-true, same-refl}
use Rattle.kp_names_semantics.proofs.Indexes.{at_index, index_below, Distinct, index_at}
use Rattle.kp_names_semantics.proofs.Numbered.{terms_below, terms_named, object_eq, among_heads, atom_terms, matches_more, bindings_numbered, object_list_good}

module _ (d : Domain Word) (p : Problem Word) where
  -- ---- literals of declared predicates and objects

  abbrev pub is_valid : GroundLit → Bool
  is_valid l = nat_lt l.pred (length (heads d)) && list_all (λ o. nat_lt o (length (objects d p))) l.objects

  pub valid : (positive : Bool) (q : ℕ) (os : List ℕ) → q < length (heads d) → AreObjects d p os → is_valid (ground positive q os) ≡ true
  valid positive q os below objs = and_from (nat_lt q (length (heads d))) (list_all (λ o. nat_lt o (length (objects d p))) os) (lt-ltb q (length (heads d)) below) objs

  pub valid_parts : (l : GroundLit) → is_valid l ≡ true → (l.pred < length (heads d)) × AreObjects d p l.objects
  valid_parts l h = let parts = and_parts (nat_lt l.pred (length (heads d))) (list_all (λ o. nat_lt o (length (objects d p))) l.objects) h in (ltb-true l.pred (length (heads d)) parts.0, parts.1)

  pub no_variables : Matches d p [] unbound []
  no_variables = record { size = refl; below = λ v h. absurd (false≢true h); names = λ v h. absurd (false≢true h) }

  atom_valid : (scope : List Name) (b : named.Binding) (c : Binding) → Matches d p scope b c → (positive : Bool) (a : Atom Word) → atom_faults d p scope a ≡ [] → is_valid (ground positive (numbered_head d a) (map (object_of c) (numbered_terms d p scope a))) ≡ true
  atom_valid scope b c m positive a h =
      valid positive (numbered_head d a) (map (object_of c) (numbered_terms d p scope a))
      (index_below (heads d) a.head.text (among_heads d p scope a h))
      (terms_below d p scope b c m a.terms (atom_terms d p scope a h))

  mutual
    pub fires_valid : (t : State) (scope : List Name) (b : named.Binding) (c : Binding) → Matches d p scope b c → (e : Eff Word) → eff_faults d p scope e ≡ [] → list_all is_valid (fires t c (numbered_eff d p scope e)) ≡ true
    fires_valid t scope b c m (Eff.both es) h = all_fire_valid t scope b c m es h
    fires_valid t scope b c m (Eff.when x e) h = pick (holds t c (numbered_cond d p scope x)) (fires_valid t scope b c m e (append_empty (cond_faults d p scope x) (eff_faults d p scope e) h).1)
      where
        pick : (u : Bool) → list_all is_valid (fires t c (numbered_eff d p scope e)) ≡ true → list_all is_valid (only_if u (fires t c (numbered_eff d p scope e))) ≡ true
        pick true g = g
        pick false g = refl
    fires_valid t scope b c m (Eff.each xs e) h =
        let parts = append_empty (variable_faults d xs) (eff_faults d p (inside (declared xs) scope) e) h in
        subst (λ bs. list_all is_valid (flat_map (λ os. fires t (c ++ os) (numbered_eff d p (inside (declared xs) scope) e)) bs) ≡ true) (sym (bindings_numbered d p xs))
        (go (object_lists d p xs) (λ os i. let good = object_list_good d p xs os i in fires_valid t (inside (declared xs) scope) (bind (declared xs) os b) (c ++ map (index_of (objects d p)) os) (matches_more d p scope b c m (declared xs) os good.0 good.1) e parts.1))
      where
        go : (oss : List (List Name)) → ((os : List Name) → Member oss os → list_all is_valid (fires t (c ++ map (index_of (objects d p)) os) (numbered_eff d p (inside (declared xs) scope) e)) ≡ true) → list_all is_valid (flat_map (λ os. fires t (c ++ os) (numbered_eff d p (inside (declared xs) scope) e)) (map (map (index_of (objects d p))) oss)) ≡ true
        go [] f = refl
        go (os ∷ oss) f =
            list_all-append is_valid (fires t (c ++ map (index_of (objects d p)) os) (numbered_eff d p (inside (declared xs) scope) e)) (flat_map (λ os. fires t (c ++ os) (numbered_eff d p (inside (declared xs) scope) e)) (map (map (index_of (objects d p))) oss))
            ∙ and_from (list_all is_valid (fires t (c ++ map (index_of (objects d p)) os) (numbered_eff d p (inside (declared xs) scope) e))) (list_all is_valid (flat_map (λ os. fires t (c ++ os) (numbered_eff d p (inside (declared xs) scope) e)) (map (map (index_of (objects d p))) oss))) (f os (inl refl)) (go oss (λ us i. f us (inr i)))
    fires_valid t scope b c m (Eff.makes positive a) h = and_from (is_valid (ground positive (numbered_head d a) (map (object_of c) (numbered_terms d p scope a)))) true (atom_valid scope b c m positive a h) refl

    all_fire_valid : (t : State) (scope : List Name) (b : named.Binding) (c : Binding) → Matches d p scope b c → (es : Effs Word) → effs_faults d p scope es ≡ [] → list_all is_valid (all_fire t c (numbered_effs d p scope es)) ≡ true
    all_fire_valid t scope b c m Effs.no_eff h = refl
    all_fire_valid t scope b c m (Effs.more_effs e es) h =
        let parts = append_empty (eff_faults d p scope e) (effs_faults d p scope es) h in
        list_all-append is_valid (fires t c (numbered_eff d p scope e)) (all_fire t c (numbered_effs d p scope es))
        ∙ and_from (list_all is_valid (fires t c (numbered_eff d p scope e))) (list_all is_valid (all_fire t c (numbered_effs d p scope es))) (fires_valid t scope b c m e parts.0) (all_fire_valid t scope b c m es parts.1)

  -- ---- equality of literals

  pub objects_eq : (os us : List ℕ) → AreObjects d p os → AreObjects d p us → same os us ≡ all_same (named_objects d p os) (named_objects d p us)
  objects_eq [] [] h g = refl
  objects_eq [] (u ∷ us) h g = refl
  objects_eq (o ∷ os) [] h g = refl
  objects_eq (o ∷ os) (u ∷ us) h g =
      let hs = and_parts (nat_lt o (length (objects d p))) (list_all (λ o. nat_lt o (length (objects d p))) os) h in
      let gs = and_parts (nat_lt u (length (objects d p))) (list_all (λ o. nat_lt o (length (objects d p))) us) g in
      rw (object_eq d p o u (ltb-true o (length (objects d p)) hs.0) (ltb-true u (length (objects d p)) gs.0), objects_eq os us hs.1 gs.1) refl

  module _ (once : Distinct (heads d)) where
    head_eq : (x y : ℕ) → x < length (heads d) → y < length (heads d) → nat_eq x y ≡ same (name_at (heads d) x) (name_at (heads d) y)
    head_eq x y hx hy =
        bool_same (nat_eq x y) (same (name_at (heads d) x) (name_at (heads d) y))
        (λ h. subst (λ z. same (name_at (heads d) x) (name_at (heads d) z) ≡ true) (eqb-true x y h) (same-refl (name_at (heads d) x)))
        (λ h. eq-eqb x y (sym (index_at (heads d) once x hx) ∙ (ap (index_of (heads d)) (same-true (name_at (heads d) x) (name_at (heads d) y) h) ∙ index_at (heads d) once y hy)))

    pub atom_eq_named : (l m : GroundLit) → is_valid l ≡ true → is_valid m ≡ true → (nat_eq l.pred m.pred && same l.objects m.objects) ≡ (same (name_at (heads d) l.pred) (name_at (heads d) m.pred) && all_same (named_objects d p l.objects) (named_objects d p m.objects))
    atom_eq_named l m h g =
        let hs = valid_parts l h in
        let gs = valid_parts m g in
        rw (head_eq l.pred m.pred hs.0 gs.0, objects_eq l.objects m.objects hs.1 gs.1) refl

    literal_eq_named : (l m : GroundLit) → is_valid l ≡ true → is_valid m ≡ true → same_literal l m ≡ named.same_literal (named_literal d p l) (named_literal d p m)
    literal_eq_named l m h g = ap (λ t. beq l.positive m.positive && t) (atom_eq_named l m h g)

    names_literal_named : (ls : List GroundLit) → list_all is_valid ls ≡ true → (l : GroundLit) → is_valid l ≡ true → names_literal ls l ≡ named.names_literal (map (named_literal d p) ls) (named_literal d p l)
    names_literal_named ls all l h =
        any_alike (same_literal l) (λ m. named.same_literal (named_literal d p l) (named_literal d p m)) ls (λ m i. literal_eq_named l m h (all_member is_valid ls m i all))
        ∙ sym (any_map (named_literal d p) (named.same_literal (named_literal d p l)) (λ m. named.same_literal (named_literal d p l) (named_literal d p m)) ls (λ m. refl))

    -- ---- the state after

    pub after_agrees : (s : named.State) (t : State) → Agree d p s t → (ls : List GroundLit) → list_all is_valid ls ≡ true → Agree d p (named_steps.after (map (named_literal d p) ls) s) (after ls t)
    after_agrees s t agree ls all q os below objs =
        rw (names_literal_named ls all (ground true q os) (valid true q os below objs), names_literal_named ls all (ground false q os) (valid false q os below objs), agree q os below objs) refl

  -- ---- literals of `:init` and of the goal

  object_numbers : (ts : List (Term Word)) → map (object_number d p) ts ≡ map (object_of []) (map (numbered_term d p []) ts)
  object_numbers [] = refl
  object_numbers (t ∷ ts) = rw (one t, object_numbers ts) refl
    where
      one : (t : Term Word) → object_number d p t ≡ object_of [] (numbered_term d p [] t)
      one (Term.name w) = refl
      one (Term.variable w) = refl

  pub literal_valid : (positive : Bool) (a : Atom Word) → atom_faults d p [] a ≡ [] → is_valid (numbered_literal d p positive a) ≡ true
  literal_valid positive a h = rw (object_numbers a.terms) (atom_valid [] unbound [] no_variables positive a h)

  literal_named : (positive : Bool) (a : Atom Word) → atom_faults d p [] a ≡ [] → named_literal d p (numbered_literal d p positive a) ≡ named.literal positive a unbound
  literal_named positive a h = rw (object_numbers a.terms, at_index (heads d) a.head.text (among_heads d p [] a h), terms_named d p [] unbound [] no_variables a.terms (atom_terms d p [] a h)) refl

  lits_valid : (ls : List (Lit Word)) → flat_map (lit_faults d p) ls ≡ [] → list_all is_valid (map (numbered_lit d p) ls) ≡ true
  lits_valid [] h = refl
  lits_valid (l ∷ ls) h =
      let parts = append_empty (lit_faults d p l) (flat_map (lit_faults d p) ls) h in
      and_from (is_valid (numbered_lit d p l)) (list_all is_valid (map (numbered_lit d p) ls)) (literal_valid l.positive l.atom parts.0) (lits_valid ls parts.1)

  lits_named : (ls : List (Lit Word)) → flat_map (lit_faults d p) ls ≡ [] → map (named_literal d p) (map (numbered_lit d p) ls) ≡ map by_name ls
  lits_named [] h = refl
  lits_named (l ∷ ls) h =
      let parts = append_empty (lit_faults d p l) (flat_map (lit_faults d p) ls) h in
      rw (literal_named l.positive l.atom parts.0, lits_named ls parts.1) refl

  mutual
    pub literals_named : (i : Item Word) → item_faults d p i ≡ [] → map (named_literal d p) (flat_map item_literals (numbered_item d p i)) ≡ named_initial.item_literals i
    literals_named (Item.items is) h = all_literals_named is h
    literals_named (Item.fact positive a) h = rw (literal_named positive a h) refl
    literals_named (Item.one_of w ls) h = ap (map (named_literal d p)) (append-nil (map (numbered_lit d p) ls)) ∙ lits_named ls h
    literals_named (Item.any_of w ls) h = ap (map (named_literal d p)) (append-nil (map (numbered_lit d p) ls)) ∙ lits_named ls h
    literals_named (Item.unknown w a) h = rw (literal_named true a h) refl

    all_literals_named : (is : Items Word) → items_faults d p is ≡ [] → map (named_literal d p) (flat_map item_literals (numbered_items d p is)) ≡ named_initial.items_literals is
    all_literals_named Items.no_item h = refl
    all_literals_named (Items.more_items i is) h =
        let parts = append_empty (item_faults d p i) (items_faults d p is) h in
        ap (map (named_literal d p)) (flat_map-append item_literals (numbered_item d p i) (numbered_items d p is))
        ∙ (map-append (named_literal d p) (flat_map item_literals (numbered_item d p i)) (flat_map item_literals (numbered_items d p is))
        ∙ rw (literals_named i parts.0, all_literals_named is parts.1) refl)

  mutual
    pub literals_valid : (i : Item Word) → item_faults d p i ≡ [] → list_all is_valid (flat_map item_literals (numbered_item d p i)) ≡ true
    literals_valid (Item.items is) h = all_literals_valid is h
    literals_valid (Item.fact positive a) h = and_from (is_valid (numbered_literal d p positive a)) true (literal_valid positive a h) refl
    literals_valid (Item.one_of w ls) h = rw (append-nil (map (numbered_lit d p) ls)) (lits_valid ls h)
    literals_valid (Item.any_of w ls) h = rw (append-nil (map (numbered_lit d p) ls)) (lits_valid ls h)
    literals_valid (Item.unknown w a) h = and_from (is_valid (numbered_literal d p true a)) true (literal_valid true a h) refl

    all_literals_valid : (is : Items Word) → items_faults d p is ≡ [] → list_all is_valid (flat_map item_literals (numbered_items d p is)) ≡ true
    all_literals_valid Items.no_item h = refl
    all_literals_valid (Items.more_items i is) h =
        let parts = append_empty (item_faults d p i) (items_faults d p is) h in
        rw (flat_map-append item_literals (numbered_item d p i) (numbered_items d p is), list_all-append is_valid (flat_map item_literals (numbered_item d p i)) (flat_map item_literals (numbered_items d p is)))
        (and_from (list_all is_valid (flat_map item_literals (numbered_item d p i))) (list_all is_valid (flat_map item_literals (numbered_items d p is))) (literals_valid i parts.0) (all_literals_valid is parts.1))

  -- ---- in states that agree

  module _ (s : named.State) (t : State) (agree : Agree d p s t) where
    literal_holds_named : (l : GroundLit) → is_valid l ≡ true → literal_holds t l ≡ named.literal_holds s (named_literal d p l)
    literal_holds_named l h =
        let parts = valid_parts l h in
        ap (signed l.positive) (agree l.pred l.objects parts.0 parts.1)

    any_holds_named : (ls : List GroundLit) → list_all is_valid ls ≡ true → list_any (literal_holds t) ls ≡ list_any (named.literal_holds s) (map (named_literal d p) ls)
    any_holds_named ls all =
        any_alike (literal_holds t) (λ l. named.literal_holds s (named_literal d p l)) ls (λ l i. literal_holds_named l (all_member is_valid ls l i all))
        ∙ sym (any_map (named_literal d p) (named.literal_holds s) (λ l. named.literal_holds s (named_literal d p l)) ls (λ l. refl))

    one_holds_named : Distinct (heads d) → (ls : List GroundLit) → list_all is_valid ls ≡ true → one_holds t ls ≡ named_initial.one_holds s (map (named_literal d p) ls)
    one_holds_named once ls all =
        any_alike (λ l. literal_holds t l && list_all (λ m. not (literal_holds t m) || same_literal l m) ls) (λ l. named.literal_holds s (named_literal d p l) && list_all (λ m. not (named.literal_holds s m) || named.same_literal (named_literal d p l) m) (map (named_literal d p) ls)) ls
        (λ l i.
        let valid_l = all_member is_valid ls l i all in
        rw (literal_holds_named l valid_l, list_all-map (λ m. not (named.literal_holds s m) || named.same_literal (named_literal d p l) m) (named_literal d p) ls)
        (ap (λ u. named.literal_holds s (named_literal d p l) && u)
        (all_alike (λ m. not (literal_holds t m) || same_literal l m) (λ m. not (named.literal_holds s (named_literal d p m)) || named.same_literal (named_literal d p l) (named_literal d p m)) ls
        (λ m j. let valid_m = all_member is_valid ls m j all in rw (literal_holds_named m valid_m, literal_eq_named once l m valid_l valid_m) refl))))
        ∙ sym (any_map (named_literal d p) (λ l. named.literal_holds s l && list_all (λ m. not (named.literal_holds s m) || named.same_literal l m) (map (named_literal d p) ls)) (λ l. named.literal_holds s (named_literal d p l) && list_all (λ m. not (named.literal_holds s m) || named.same_literal (named_literal d p l) m) (map (named_literal d p) ls)) ls (λ l. refl))

    mutual
      pub item_numbered : Distinct (heads d) → (i : Item Word) → item_faults d p i ≡ [] → list_all (item_holds t) (numbered_item d p i) ≡ named_initial.item_holds s i
      item_numbered once (Item.items is) h = items_numbered once is h
      item_numbered once (Item.fact positive a) h = and-true _ ∙ (literal_holds_named (numbered_literal d p positive a) (literal_valid positive a h) ∙ ap (named.literal_holds s) (literal_named positive a h))
      item_numbered once (Item.one_of w ls) h = and-true _ ∙ (one_holds_named once (map (numbered_lit d p) ls) (lits_valid ls h) ∙ ap (named_initial.one_holds s) (lits_named ls h))
      item_numbered once (Item.any_of w ls) h = and-true _ ∙ (any_holds_named (map (numbered_lit d p) ls) (lits_valid ls h) ∙ ap (list_any (named.literal_holds s)) (lits_named ls h))
      item_numbered once (Item.unknown w a) h = refl

      items_numbered : Distinct (heads d) → (is : Items Word) → items_faults d p is ≡ [] → list_all (item_holds t) (numbered_items d p is) ≡ named_initial.items_hold s is
      items_numbered once Items.no_item h = refl
      items_numbered once (Items.more_items i is) h =
          let parts = append_empty (item_faults d p i) (items_faults d p is) h in
          list_all-append (item_holds t) (numbered_item d p i) (numbered_items d p is)
          ∙ rw (item_numbered once i parts.0, items_numbered once is parts.1) refl

    mutual
      pub goal_numbered : (c : Cond Word) → cond_faults d p [] c ≡ [] → is_plain_goal c ≡ true → list_all (literal_holds t) (numbered_goal d p c) ≡ named.holds s unbound c
      goal_numbered (Cond.all cs) h plain = goals_numbered cs h plain
      goal_numbered (Cond.atom positive a) h plain = and-true _ ∙ (literal_holds_named (numbered_literal d p positive a) (literal_valid positive a h) ∙ ap (named.literal_holds s) (literal_named positive a h))
      goal_numbered (Cond.same positive x y) h plain = absurd (false≢true plain)

      goals_numbered : (cs : Conds Word) → conds_faults d p [] cs ≡ [] → are_plain_goals cs ≡ true → list_all (literal_holds t) (numbered_goals d p cs) ≡ named.all_hold s unbound cs
      goals_numbered Conds.no_cond h plain = refl
      goals_numbered (Conds.more_conds c cs) h plain =
          let parts = append_empty (cond_faults d p [] c) (conds_faults d p [] cs) h in
          let plains = and_parts (is_plain_goal c) (are_plain_goals cs) plain in
          list_all-append (literal_holds t) (numbered_goal d p c) (numbered_goals d p cs)
          ∙ rw (goal_numbered c parts.0 plains.0, goals_numbered cs parts.1 plains.1) refl
