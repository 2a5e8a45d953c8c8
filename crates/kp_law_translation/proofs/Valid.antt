-- In trees without a fault each literal that occurs on the ground is of a declared predicate and of objects.
use Rattle.std.proofs.Common.{◌≡◌, ℕ, Bool, true, false, not, List, [], ◌∷◌, ◌++◌, map, refl, sym, subst, ◌∙◌, inl, inr}
use Rattle.std.specs.List.{list_all, flat_map}
use Rattle.std.proofs.lemmas.Bool.{and_parts, and_from}
use Rattle.std.proofs.lemmas.List.Folds.{list_all-append, list_all-map}
use Rattle.kp_tree_grammar.specs.declared.tree.Word.{Word}
use Rattle.kp_tree_grammar.specs.Trees as trees
use Rattle.kp_tree_grammar.specs.Trees.{Atom, Cond, Conds, Eff, Effs, Domain, Problem}
use Rattle.kp_base.specs.Lists.{Member, only_if}
use Rattle.kp_base.proofs.Lists.{all_member, all_from, append_member, map_member, flat_member, filter_member, append_empty}
use Rattle.kp_names_semantics.specs.declared.lifted.GroundLit.{GroundLit}
use Rattle.kp_names_semantics.specs.declared.lifted.Item.{Item}
use Rattle.kp_names_semantics.specs.Problems.{Name, declared, objects, inside, variable_faults, cond_faults, conds_faults, eff_faults, effs_faults, atom_faults, unbound, bind, object_lists, parameters, Lifted, ground, bindings, index_of, heads, numbered_terms, numbered_head, numbered_cond, numbered_conds, numbered_eff, numbered_effs, numbered_schema, numbered_literal, numbered_item, numbered_goal, numbered_goals, numbered_problem, AreObjects, Matches}
use Rattle.kp_names_semantics.specs.States as named
use Rattle.kp_names_semantics.specs.Numbered as numbers
use Rattle.kp_names_semantics.specs.Lifted.{Binding, object_of, item_literals}
use Rattle.kp_names_semantics.proofs.Public.{index_below, terms_are_objects, head_is_declared, atom_terms_have_no_fault, matches_inside, bindings_numbered, object_list_fits, is_valid_literal, ground_is_valid, no_variables_match, numbered_literal_is_valid, item_literals_are_valid, HasCleanParts, indexes_are_objects}
use Rattle.kp_ground_semantics.specs.declared.flat.FlatEffect.{FlatEffect}
use Rattle.kp_ground_semantics.specs.Static.{is_static, settled, remaining, all_remaining}
use Rattle.kp_ground_semantics.specs.Flattening.{under, flat, all_flat}
use Rattle.kp_ground_semantics.specs.Ground.{kept_bindings, effect_literals, instance_literals, kept_literals, open_literals, occurring}

module _ (d : Domain Word) (p : Problem Word) where
  -- each of the literals is of a declared predicate and of objects
  abbrev are_valid : List GroundLit → Bool
  are_valid ms = list_all (is_valid_literal d p) ms

  both_valid : (ls ms : List GroundLit) → are_valid ls ≡ true → are_valid ms ≡ true → are_valid (ls ++ ms) ≡ true
  both_valid ls ms h g = list_all-append (is_valid_literal d p) ls ms ∙ and_from (are_valid ls) (are_valid ms) h g

  one_valid : (m : GroundLit) → is_valid_literal d p m ≡ true → are_valid (m ∷ []) ≡ true
  one_valid m h = and_from (is_valid_literal d p m) true h refl

  -- ---- under variables that match

  atom_valid : (scope : List Name) (b : named.Binding) (c : Binding) → Matches d p scope b c → (positive : Bool) (a : Atom Word) → atom_faults d p scope a ≡ [] → is_valid_literal d p (ground positive (numbered_head d a) (map (object_of c) (numbered_terms d p scope a))) ≡ true
  atom_valid scope b c m positive a h =
      ground_is_valid d p positive (numbered_head d a) (map (object_of c) (numbered_terms d p scope a))
      (index_below (heads d) a.head.text (head_is_declared d p scope a h))
      (terms_are_objects d p scope b c m a.terms (atom_terms_have_no_fault d p scope a h))

  module _ (l : Lifted) where
    module _ (scope : List Name) (b : named.Binding) (c : Binding) (m : Matches d p scope b c) where
      mutual
        remaining_valid : (x : Cond Word) → cond_faults d p scope x ≡ [] → are_valid (remaining l c (numbered_cond d p scope x)) ≡ true
        remaining_valid (Cond.all xs) h = all_remaining_valid xs h
        remaining_valid (Cond.atom positive a) h = pick (not (is_static l (numbered_head d a)))
          where
            pick : (t : Bool) → are_valid (only_if t (ground positive (numbered_head d a) (map (object_of c) (numbered_terms d p scope a)) ∷ [])) ≡ true
            pick true = one_valid (ground positive (numbered_head d a) (map (object_of c) (numbered_terms d p scope a))) (atom_valid scope b c m positive a h)
            pick false = refl
        remaining_valid (Cond.same positive x y) h = refl

        all_remaining_valid : (xs : Conds Word) → conds_faults d p scope xs ≡ [] → are_valid (all_remaining l c (numbered_conds d p scope xs)) ≡ true
        all_remaining_valid Conds.no_cond h = refl
        all_remaining_valid (Conds.more_conds x xs) h =
            let parts = append_empty (cond_faults d p scope x) (conds_faults d p scope xs) h in
            both_valid (remaining l c (numbered_cond d p scope x)) (all_remaining l c (numbered_conds d p scope xs)) (remaining_valid x parts.0) (all_remaining_valid xs parts.1)

    -- so are the literals of an effect
    abbrev is_valid_effect : FlatEffect → Bool
    is_valid_effect f = are_valid (effect_literals f)

    under_valid : (ls : List GroundLit) → are_valid ls ≡ true → (f : FlatEffect) → is_valid_effect f ≡ true → is_valid_effect (under ls f) ≡ true
    under_valid ls h f g =
        let parts = and_parts (are_valid f.cond) (are_valid (f.result ∷ [])) (sym (list_all-append (is_valid_literal d p) f.cond (f.result ∷ [])) ∙ g) in
        both_valid (ls ++ f.cond) (f.result ∷ []) (both_valid ls f.cond h parts.0) parts.1

    mutual
      flat_valid : (scope : List Name) (b : named.Binding) (c : Binding) → Matches d p scope b c → (e : Eff Word) → eff_faults d p scope e ≡ [] → list_all is_valid_effect (flat l c (numbered_eff d p scope e)) ≡ true
      flat_valid scope b c m (Eff.both es) h = all_flat_valid scope b c m es h
      flat_valid scope b c m (Eff.when x e) h =
          let parts = append_empty (cond_faults d p scope x) (eff_faults d p scope e) h in
          pick (settled l c (numbered_cond d p scope x)) (remaining_valid scope b c m x parts.0) (flat_valid scope b c m e parts.1)
        where
          pick : (t : Bool) → are_valid (remaining l c (numbered_cond d p scope x)) ≡ true → list_all is_valid_effect (flat l c (numbered_eff d p scope e)) ≡ true
              → list_all is_valid_effect (only_if t (map (under (remaining l c (numbered_cond d p scope x))) (flat l c (numbered_eff d p scope e)))) ≡ true
          pick true conds rest =
              list_all-map is_valid_effect (under (remaining l c (numbered_cond d p scope x))) (flat l c (numbered_eff d p scope e))
              ∙ all_from (λ f. is_valid_effect (under (remaining l c (numbered_cond d p scope x)) f)) (flat l c (numbered_eff d p scope e))
              (λ f i. under_valid (remaining l c (numbered_cond d p scope x)) conds f (all_member is_valid_effect (flat l c (numbered_eff d p scope e)) f i rest))
          pick false conds rest = refl
      flat_valid scope b c m (Eff.each xs e) h =
          let parts = append_empty (variable_faults d xs) (eff_faults d p (inside (declared xs) scope) e) h in
          subst (λ bs. list_all is_valid_effect (flat_map (λ os. flat l (c ++ os) (numbered_eff d p (inside (declared xs) scope) e)) bs) ≡ true) (sym (bindings_numbered d p xs))
          (go (object_lists d p xs) (λ os i. let good = object_list_fits d p xs os i in flat_valid (inside (declared xs) scope) (bind (declared xs) os b) (c ++ map (index_of (objects d p)) os) (matches_inside d p scope b c m (declared xs) os good.0 good.1) e parts.1))
        where
          go : (oss : List (List Name)) → ((os : List Name) → Member oss os → list_all is_valid_effect (flat l (c ++ map (index_of (objects d p)) os) (numbered_eff d p (inside (declared xs) scope) e)) ≡ true)
              → list_all is_valid_effect (flat_map (λ os. flat l (c ++ os) (numbered_eff d p (inside (declared xs) scope) e)) (map (map (index_of (objects d p))) oss)) ≡ true
          go [] f = refl
          go (os ∷ oss) f =
              list_all-append is_valid_effect (flat l (c ++ map (index_of (objects d p)) os) (numbered_eff d p (inside (declared xs) scope) e)) (flat_map (λ os. flat l (c ++ os) (numbered_eff d p (inside (declared xs) scope) e)) (map (map (index_of (objects d p))) oss))
              ∙ and_from (list_all is_valid_effect (flat l (c ++ map (index_of (objects d p)) os) (numbered_eff d p (inside (declared xs) scope) e))) (list_all is_valid_effect (flat_map (λ os. flat l (c ++ os) (numbered_eff d p (inside (declared xs) scope) e)) (map (map (index_of (objects d p))) oss))) (f os (inl refl)) (go oss (λ us i. f us (inr i)))
      flat_valid scope b c m (Eff.makes positive a) h =
          and_from (are_valid (ground positive (numbered_head d a) (map (object_of c) (numbered_terms d p scope a)) ∷ [])) true
          (one_valid (ground positive (numbered_head d a) (map (object_of c) (numbered_terms d p scope a))) (atom_valid scope b c m positive a h)) refl

      all_flat_valid : (scope : List Name) (b : named.Binding) (c : Binding) → Matches d p scope b c → (es : Effs Word) → effs_faults d p scope es ≡ [] → list_all is_valid_effect (all_flat l c (numbered_effs d p scope es)) ≡ true
      all_flat_valid scope b c m Effs.no_eff h = refl
      all_flat_valid scope b c m (Effs.more_effs e es) h =
          let parts = append_empty (eff_faults d p scope e) (effs_faults d p scope es) h in
          list_all-append is_valid_effect (flat l c (numbered_eff d p scope e)) (all_flat l c (numbered_effs d p scope es))
          ∙ and_from (list_all is_valid_effect (flat l c (numbered_eff d p scope e))) (list_all is_valid_effect (all_flat l c (numbered_effs d p scope es))) (flat_valid scope b c m e parts.0) (all_flat_valid scope b c m es parts.1)

  -- ---- the goal

  mutual
    goal_valid : (x : Cond Word) → cond_faults d p [] x ≡ [] → are_valid (numbered_goal d p x) ≡ true
    goal_valid (Cond.all xs) h = goals_valid xs h
    goal_valid (Cond.atom positive a) h = one_valid (numbered_literal d p positive a) (numbered_literal_is_valid d p positive a h)
    goal_valid (Cond.same positive x y) h = refl

    goals_valid : (xs : Conds Word) → conds_faults d p [] xs ≡ [] → are_valid (numbered_goals d p xs) ≡ true
    goals_valid Conds.no_cond h = refl
    goals_valid (Conds.more_conds x xs) h =
        let parts = append_empty (cond_faults d p [] x) (conds_faults d p [] xs) h in
        both_valid (numbered_goal d p x) (numbered_goals d p xs) (goal_valid x parts.0) (goals_valid xs parts.1)

  -- ---- kept instances

  -- the objects of a kept instance, by name
  record OfParameters (a : trees.Schema Word) (os : List ℕ) : Type 0 where
    names : List Name
    matches : Matches d p (inside (declared a.params) []) (parameters a names) os
    are_objects : AreObjects d p os

  of_parameters : (l : Lifted) (a : trees.Schema Word) (os : List ℕ) → Member (kept_bindings l (numbered_schema d p a)) os → OfParameters a os
  of_parameters l a os kept =
      let r = map_member (map (index_of (objects d p))) (object_lists d p a.params) os (subst (λ bs. Member bs os) (bindings_numbered d p a.params) (filter_member (λ os. settled l os (numbered_schema d p a).pre) (bindings (numbered_schema d p a).params) os kept).0) in
      let good = object_list_fits d p a.params r.0 r.1 in
      record {
        names = r.0;
        matches = subst (Matches d p (inside (declared a.params) []) (parameters a r.0)) r.2 (matches_inside d p [] unbound [] (no_variables_match d p) (declared a.params) r.0 good.0 good.1);
        are_objects = subst (AreObjects d p) r.2 (indexes_are_objects d p r.0 good.1);
      }

  pub kept_objects : (l : Lifted) (a : trees.Schema Word) (os : List ℕ) → Member (kept_bindings l (numbered_schema d p a)) os → AreObjects d p os
  kept_objects l a os kept = (of_parameters l a os kept).are_objects

  abbrev l : Lifted
  l = numbered_problem d p

  -- the variables round a schema's parts
  abbrev scope_of : trees.Schema Word → List Name
  scope_of a = inside (declared a.params) []

  abbrev pre_of : trees.Schema Word → numbers.Cond
  pre_of a = numbered_cond d p (scope_of a) a.pre

  abbrev effect_of : trees.Schema Word → numbers.Eff
  effect_of a = numbered_eff d p (scope_of a) a.effect

  module _ (c : HasCleanParts d p) where
    -- the literals of a kept instance
    kept_valid : (a : trees.Schema Word) → Member d.schemas a → (os : List ℕ) → Member (kept_bindings l (numbered_schema d p a)) os → (m : GroundLit) → Member (instance_literals l (numbered_schema d p a) os) m → is_valid_literal d p m ≡ true
    kept_valid a at os kept m among =
        let o = of_parameters l a os kept in
        let all = append_empty (variable_faults d a.params) (cond_faults d p (scope_of a) a.pre ++ eff_faults d p (scope_of a) a.effect) (c.schemas a at) in
        let faults = append_empty (cond_faults d p (scope_of a) a.pre) (eff_faults d p (scope_of a) a.effect) all.1 in
        elim (append_member (remaining l os (pre_of a)) (flat_map effect_literals (flat l os (effect_of a))) m among) [
          | inl in_pre ↦ all_member (is_valid_literal d p) (remaining l os (pre_of a)) m in_pre (remaining_valid l (scope_of a) (parameters a o.names) os o.matches a.pre faults.0)
          | inr in_effect ↦
              let r = flat_member effect_literals (flat l os (effect_of a)) m in_effect in
              all_member (is_valid_literal d p) (effect_literals r.0) m r.2 (all_member (is_valid_effect l) (flat l os (effect_of a)) r.0 r.1 (flat_valid l (scope_of a) (parameters a o.names) os o.matches a.effect faults.1))
        ]

    -- those of `:init`
    init_valid : (m : GroundLit) → Member (flat_map item_literals l.init) m → is_valid_literal d p m ≡ true
    init_valid m among =
        let i = flat_member item_literals (flat_map (numbered_item d p) p.init) m among in
        let j = flat_member (numbered_item d p) p.init i.0 i.1 in
        all_member (is_valid_literal d p) (item_literals i.0) m i.2 (part (numbered_item d p j.0) i.0 j.2 (item_literals_are_valid d p j.0 (c.items j.0 j.1)))
      where
        part : (is : List Item) (i : Item) → Member is i → are_valid (flat_map item_literals is) ≡ true → are_valid (item_literals i) ≡ true
        part [] i at h = absurd at
        part (k ∷ is) i at h =
            let parts = and_parts (are_valid (item_literals k)) (are_valid (flat_map item_literals is)) (sym (list_all-append (is_valid_literal d p) (item_literals k) (flat_map item_literals is)) ∙ h) in
            elim at [
              | inl e ↦ subst (λ z. are_valid (item_literals z) ≡ true) e parts.0
              | inr r ↦ part is i r parts.1
            ]

    pub occurring_valid : (m : GroundLit) → Member (occurring l) m → is_valid_literal d p m ≡ true
    occurring_valid m among = elim (append_member l.goal (open_literals l ++ flat_map (kept_literals l) l.schemas) m among) [
      | inl in_goal ↦ all_member (is_valid_literal d p) (numbered_goal d p p.goal) m in_goal (goal_valid p.goal c.goal)
      | inr others ↦ elim (append_member (open_literals l) (flat_map (kept_literals l) l.schemas) m others) [
        | inl in_init ↦ init_valid m (filter_member (λ m. not (is_static l m.pred)) (flat_map item_literals l.init) m in_init).0
        | inr in_kept ↦
            let s = flat_member (kept_literals l) l.schemas m in_kept in
            let a = map_member (numbered_schema d p) d.schemas s.0 s.1 in
            let os = flat_member (instance_literals l s.0) (kept_bindings l s.0) m s.2 in
            kept_valid a.0 a.1 os.0 (subst (λ x. Member (kept_bindings l x) os.0) (sym a.2) os.1) m (subst (λ x. Member (instance_literals l x os.0) m) (sym a.2) os.2)
      ]
    ]
