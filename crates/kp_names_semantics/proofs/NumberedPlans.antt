-- Steps, initial states and plans are the same by number as by name.
use Rattle.std.proofs.Common.{◌≡◌, ◌<◌, ℕ, zero, suc, Bool, true, false, ◌&&◌, ◌||◌, nat_lt, List, [], ◌∷◌, ◌++◌, Option, Some, None, option_map, cond, refl, sym, ap, subst, ◌∙◌, inl, inr, map, find, length, slice_get, arith}
use Rattle.std.specs.List.{list_any, list_all, flat_map}
use Rattle.std.proofs.lemmas.List.{length-map}
use Rattle.std.proofs.lemmas.List.Folds.{list_all-append, list_any-append}
use Rattle.std.proofs.lemmas.Option.{slice_get-map, slice_get_within}
use Rattle.std.proofs.lemmas.Bool.{and_parts, and_from, false≢true, both_ways, lt-ltb, ltb-true}
use Rattle.kp_base.specs.declared.ground.GroundName.{GroundName}
use Rattle.kp_tree_grammar.specs.declared.tree.Word.{Word}
use Rattle.kp_tree_grammar.specs.Trees as trees
use Rattle.kp_tree_grammar.specs.Trees.{Domain, Problem}
use Rattle.kp_names_semantics.specs.declared.lifted.GroundLit.{GroundLit}
use Rattle.kp_base.specs.Lists.{Member}
use Rattle.kp_names_semantics.specs.Names.{Name, same, all_same, is_among}
use Rattle.kp_names_semantics.specs.Types.{names, declared, object_lines, objects}
use Rattle.kp_names_semantics.specs.Faults.{inside, words, twice_in, type_faults, variable_faults, predicate_faults, cond_faults, eff_faults, schema_faults, item_faults, HasNoFault}
use Rattle.kp_names_semantics.specs.States as named
use Rattle.kp_names_semantics.specs.States.{unbound}
use Rattle.kp_names_semantics.specs.Steps as named_steps
use Rattle.kp_names_semantics.specs.Steps.{Step, object_lists, parameters}
use Rattle.kp_names_semantics.specs.Initial as named_initial
use Rattle.kp_names_semantics.specs.Plans as named_plans
use Rattle.kp_names_semantics.specs.Plans.{Solves}
use Rattle.kp_names_semantics.specs.Lifted.{State, Instance, ground, bindings, fires, holds, fits, is_instance, state_by, next, succeeds, item_holds, item_literals, is_of, is_named, IsInitial}
use Rattle.kp_names_semantics.specs.Numbering.{index_of, name_at, heads, schema_names, numbered_range, numbered_cond, numbered_eff, numbered_schema, numbered_item, numbered_problem, named_objects, named_literal, named_step, AreObjects, Agree}
use Rattle.kp_names_semantics.specs.NumberLaws.{Matches, is_plain_goal, IsSameStep, IsStepNumbered, IsInitialNumbered, IsPlanNumbered, IsNamedOnce}
use Rattle.kp_names_semantics.proofs.Lists.{any_from, any_member, all_member, any_alike, any_map, member_at, member_map, map_member, append_empty, flat_empty, same-true, same-refl, all_same-true, all_same-refl}
use Rattle.kp_names_semantics.proofs.Indexes.{at_index, index_below, among_at, Distinct, index_at, distinct_once, repeated_distinct}
use Rattle.kp_names_semantics.proofs.Numbered.{cond_numbered, eff_numbered, matches_more, bindings_numbered, object_list_good}
use Rattle.kp_names_semantics.proofs.NumberedItems.{is_valid, valid, valid_parts, no_variables, fires_valid, atom_eq_named, after_agrees, item_numbered, literals_named, literals_valid, goal_numbered}

-- ---- schemas by name

-- the schema at a place is the first of its name
found_at : (as' : List (trees.Schema Word)) → Distinct (names (map (λ a. a.name) as')) → (n : ℕ) (a : trees.Schema Word) → slice_get as' n ≡ Some a → find (λ b. same b.name.text (name_at (names (map (λ a. a.name) as')) n)) as' ≡ Some a
found_at [] once n a h = cc
found_at (b ∷ as') once zero a h = rw (same-refl b.name.text) h
found_at (b ∷ as') once (suc n) a h = pick (same b.name.text (name_at (names (map (λ (a : trees.Schema Word). a.name) as')) n)) refl (found_at as' once.1 n a h)
  where
    lt : (bs : List (trees.Schema Word)) (k : ℕ) → slice_get bs k ≡ Some a → k < length (names (map (λ (a : trees.Schema Word). a.name) bs))
    lt [] k g = cc
    lt (c ∷ bs) zero g = omega arith
    lt (c ∷ bs) (suc k) g = let r = lt bs k g in omega arith

    pick : (t : Bool) → same b.name.text (name_at (names (map (λ (a : trees.Schema Word). a.name) as')) n) ≡ t → find (λ b. same b.name.text (name_at (names (map (λ a. a.name) as')) n)) as' ≡ Some a → cond t (Some b) (find (λ b. same b.name.text (name_at (names (map (λ a. a.name) as')) n)) as') ≡ Some a
    pick true is rest =
        let e = same-true b.name.text (name_at (names (map (λ (a : trees.Schema Word). a.name) as')) n) is in
        absurd (both_ways (is_among (names (map (λ (a : trees.Schema Word). a.name) as')) b.name.text) once.0 (subst (λ z. is_among (names (map (λ (a : trees.Schema Word). a.name) as')) z ≡ true) (sym e) (among_at (names (map (λ (a : trees.Schema Word). a.name) as')) n (lt as' n h))))
    pick false is rest = rest

place_of : (as' : List (trees.Schema Word)) (x : Name) (a : trees.Schema Word) → find (λ b. same b.name.text x) as' ≡ Some a → (n : ℕ) × (slice_get as' n ≡ Some a) × (name_at (names (map (λ a. a.name) as')) n ≡ x)
place_of [] x a h = cc
place_of (b ∷ as') x a h = pick (same b.name.text x) refl (λ g. place_of as' x a g) h
  where
    pick : (t : Bool) → same b.name.text x ≡ t → (find (λ b. same b.name.text x) as' ≡ Some a → (n : ℕ) × (slice_get as' n ≡ Some a) × (name_at (names (map (λ a. a.name) as')) n ≡ x)) → cond t (Some b) (find (λ b. same b.name.text x) as') ≡ Some a → (n : ℕ) × (slice_get (b ∷ as') n ≡ Some a) × (name_at (names (map (λ a. a.name) (b ∷ as'))) n ≡ x)
    pick true is rest g = (0, g, same-true b.name.text x is)
    pick false is rest g = let r = rest g in (suc r.0, r.1, r.2)

any_flat : {X Y : Type 0} (f : Y → Bool) (g : X → List Y) (xs : List X) → list_any (λ x. list_any f (g x)) xs ≡ list_any f (flat_map g xs)
any_flat f g [] = refl
any_flat f g (x ∷ xs) = ap (λ t. list_any f (g x) || t) (any_flat f g xs) ∙ sym (list_any-append f (g x) (flat_map g xs))

module _ (d : Domain Word) (p : Problem Word) where
  -- ---- what no fault gives

  pub record Clean : Type 0 where
    pub heads_once : Distinct (heads d)
    pub schemas_once : Distinct (schema_names d)
    pub schemas : (a : trees.Schema Word) → Member d.schemas a → schema_faults d p a ≡ []
    pub items : (i : trees.Item Word) → Member p.init i → item_faults d p i ≡ []
    pub goal : cond_faults d p [] p.goal ≡ []

  pub clean : HasNoFault d p → Clean
  clean h =
      let d1 = append_empty (type_faults d d.constants) (predicate_faults d.predicates ++ (twice_in (map (λ (a : trees.Schema Word). a.name) d.schemas) ++ flat_map (schema_faults d p) d.schemas)) h.domain in
      let d2 = append_empty (predicate_faults d.predicates) (twice_in (map (λ (a : trees.Schema Word). a.name) d.schemas) ++ flat_map (schema_faults d p) d.schemas) d1.1 in
      let d3 = append_empty (twice_in (map (λ (q : trees.Pred Word). q.head) d.predicates)) (flat_map (λ (q : trees.Pred Word). twice_in (words q.params)) d.predicates) d2.0 in
      let d4 = append_empty (twice_in (map (λ (a : trees.Schema Word). a.name) d.schemas)) (flat_map (schema_faults d p) d.schemas) d2.1 in
      let p1 = append_empty (type_faults d p.objects) (flat_map (item_faults d p) p.init ++ cond_faults d p [] p.goal) h.problem in
      let p2 = append_empty (flat_map (item_faults d p) p.init) (cond_faults d p [] p.goal) p1.1 in
      record {
        heads_once = repeated_distinct (map (λ (q : trees.Pred Word). q.head) d.predicates) d3.0;
        schemas_once = repeated_distinct (map (λ (a : trees.Schema Word). a.name) d.schemas) d4.0;
        schemas = flat_empty (schema_faults d p) d.schemas d4.1;
        items = flat_empty (item_faults d p) p.init p2.0;
        goal = p2.1;
      }

  -- ---- lists of objects, back and forth

  there_and_back : (os : List Name) → list_all (is_among (objects d p)) os ≡ true → named_objects d p (map (index_of (objects d p)) os) ≡ os
  there_and_back [] h = refl
  there_and_back (o ∷ os) h =
      let parts = and_parts (is_among (objects d p) o) (list_all (is_among (objects d p)) os) h in
      rw (at_index (objects d p) o parts.0, there_and_back os parts.1) refl

  pub indexes_below : (os : List Name) → list_all (is_among (objects d p)) os ≡ true → AreObjects d p (map (index_of (objects d p)) os)
  indexes_below [] h = refl
  indexes_below (o ∷ os) h =
      let parts = and_parts (is_among (objects d p) o) (list_all (is_among (objects d p)) os) h in
      and_from (nat_lt (index_of (objects d p) o) (length (objects d p))) (list_all (λ o. nat_lt o (length (objects d p))) (map (index_of (objects d p)) os)) (lt-ltb (index_of (objects d p) o) (length (objects d p)) (index_below (objects d p) o parts.0)) (indexes_below os parts.1)

  names_among : (os : List ℕ) → AreObjects d p os → list_all (is_among (objects d p)) (named_objects d p os) ≡ true
  names_among [] h = refl
  names_among (o ∷ os) h =
      let parts = and_parts (nat_lt o (length (objects d p))) (list_all (λ o. nat_lt o (length (objects d p))) os) h in
      and_from (is_among (objects d p) (name_at (objects d p) o)) (list_all (is_among (objects d p)) (named_objects d p os)) (among_at (objects d p) o (ltb-true o (length (objects d p)) parts.0)) (names_among os parts.1)

  pub back_and_there : (os : List ℕ) → AreObjects d p os → map (index_of (objects d p)) (named_objects d p os) ≡ os
  back_and_there [] h = refl
  back_and_there (o ∷ os) h =
      let parts = and_parts (nat_lt o (length (objects d p))) (list_all (λ o. nat_lt o (length (objects d p))) os) h in
      rw (index_at (objects d p) (distinct_once (declared (object_lines d p))) o (ltb-true o (length (objects d p)) parts.0), back_and_there os parts.1) refl

  -- ---- instances

  -- an instance, by number and by name
  pub record Paired (i : Instance) : Type 0 where
    pub schema : trees.Schema Word
    pub at : slice_get d.schemas i.schema ≡ Some schema
    pub names : List Name
    pub are : Member (object_lists d p schema.params) names
    pub numbers' : map (index_of (objects d p)) names ≡ i.objects

  pub paired : (i : Instance) → is_instance (numbered_problem d p) i ≡ true → Paired i
  paired i h = go (slice_get d.schemas i.schema) refl (subst (λ o. fits o i.objects ≡ true) (slice_get-map (numbered_schema d p) d.schemas i.schema) h)
    where
      go : (o : Option (trees.Schema Word)) → slice_get d.schemas i.schema ≡ o → fits (option_map (numbered_schema d p) o) i.objects ≡ true → Paired i
      go None is f = absurd (false≢true f)
      go (Some a) is f =
          let r = any_member (same i.objects) (bindings (map (numbered_range d p) a.params)) f in
          let m = subst (λ bs. Member bs r.0) (bindings_numbered d p a.params) r.1 in
          let h = map_member (map (index_of (objects d p))) (object_lists d p a.params) r.0 m in
          record { schema = a; at = is; names = h.0; are = h.1; numbers' = h.2 ∙ sym (same-true i.objects r.0 r.2) }

  is_instance_of : (i : Instance) → Paired i → is_instance (numbered_problem d p) i ≡ true
  is_instance_of i k =
      rw (slice_get-map (numbered_schema d p) d.schemas i.schema, k.at)
      (let e = bindings_numbered d p k.schema.params in
      rw e
      (any_from (same i.objects) (map (map (index_of (objects d p))) (object_lists d p k.schema.params)) i.objects (subst (Member (map (map (index_of (objects d p))) (object_lists d p k.schema.params))) k.numbers' (member_map (map (index_of (objects d p))) (object_lists d p k.schema.params) k.names k.are)) (same-refl i.objects)))

  -- the numbered instance of a step
  record Found (i : Step) : Type 0 where
    instance : Instance
    pair : Paired instance
    is : named_step d p instance ≡ i

  numbered_instance : (i : Step) → named_steps.is_instance d p i ≡ true → Found i
  numbered_instance i h = go (named_steps.schema_of d i) refl h
    where
      step_same : (x y : Name) (os us : List Name) → x ≡ y → os ≡ us → (let s : Step = record { head = x; objects = os } in s) ≡ record { head = y; objects = us }
      step_same x y os us e f = cc

      go : (o : Option (trees.Schema Word)) → named_steps.schema_of d i ≡ o → named_steps.fits d p o i.objects ≡ true → Found i
      go None is f = absurd (false≢true f)
      go (Some a) is f =
          let r = any_member (all_same i.objects) (object_lists d p a.params) f in
          let e = all_same-true i.objects r.0 r.2 in
          let n = place_of d.schemas i.head a is in
          let good = object_list_good d p a.params r.0 r.1 in
          record {
            instance = record { schema = n.0; objects = map (index_of (objects d p)) r.0 };
            pair = record { schema = a; at = n.1; names = r.0; are = r.1; numbers' = refl };
            is = step_same (name_at (schema_names d) n.0) i.head (named_objects d p (map (index_of (objects d p)) r.0)) i.objects n.2 (there_and_back r.0 good.1 ∙ sym e);
          }

  named_objects_of : (i : Instance) (k : Paired i) → named_objects d p i.objects ≡ k.names
  named_objects_of i k = ap (named_objects d p) (sym k.numbers') ∙ there_and_back k.names (object_list_good d p k.schema.params k.names k.are).1

  schema_there : Clean → (i : Instance) (k : Paired i) → named_steps.schema_of d (named_step d p i) ≡ Some k.schema
  schema_there c i k = found_at d.schemas c.schemas_once i.schema k.schema k.at

  named_instance : Clean → (i : Instance) → Paired i → named_steps.is_instance d p (named_step d p i) ≡ true
  named_instance c i k =
      rw (schema_there c i k, named_objects_of i k)
      (any_from (all_same k.names) (object_lists d p k.schema.params) k.names k.are (all_same-refl k.names))

  -- ---- one step

  step_agrees : Clean → (s : named.State) (t : State) → Agree d p s t → (i : Instance) → Paired i → IsSameStep d p s t i
  step_agrees c s t agree i k =
      record {
        applies = rw (lifted_schema, schema_there c i k, named_objects_of i k) pre;
        leads = subst (λ o. Agree d p (named_steps.next d p (named_step d p i) s) (state_by o i.objects t)) (sym lifted_schema)
            (subst (λ o. Agree d p (named_steps.state_by d p o (named_step d p i).objects s) (state_by (Some (numbered_schema d p k.schema)) i.objects t)) (sym (schema_there c i k))
            (subst (λ os. Agree d p (named_steps.state_by d p (Some k.schema) os s) (state_by (Some (numbered_schema d p k.schema)) i.objects t)) (sym (named_objects_of i k)) after));
      }
    where
      good : (length k.names ≡ length (declared k.schema.params)) × (list_all (is_among (objects d p)) k.names ≡ true)
      good = object_list_good d p k.schema.params k.names k.are

      matches : Matches d p (inside (declared k.schema.params) []) (parameters k.schema k.names) i.objects
      matches = subst (Matches d p (inside (declared k.schema.params) []) (parameters k.schema k.names)) k.numbers' (matches_more d p [] unbound [] (no_variables d p) (declared k.schema.params) k.names good.0 good.1)

      faults : (variable_faults d k.schema.params ≡ []) × (cond_faults d p (inside (declared k.schema.params) []) k.schema.pre ++ eff_faults d p (inside (declared k.schema.params) []) k.schema.effect ≡ [])
      faults = append_empty (variable_faults d k.schema.params) (cond_faults d p (inside (declared k.schema.params) []) k.schema.pre ++ eff_faults d p (inside (declared k.schema.params) []) k.schema.effect) (c.schemas k.schema (member_at d.schemas i.schema k.schema k.at))

      inner : (cond_faults d p (inside (declared k.schema.params) []) k.schema.pre ≡ []) × (eff_faults d p (inside (declared k.schema.params) []) k.schema.effect ≡ [])
      inner = append_empty (cond_faults d p (inside (declared k.schema.params) []) k.schema.pre) (eff_faults d p (inside (declared k.schema.params) []) k.schema.effect) faults.1

      lifted_schema : slice_get (numbered_problem d p).schemas i.schema ≡ Some (numbered_schema d p k.schema)
      lifted_schema = slice_get-map (numbered_schema d p) d.schemas i.schema ∙ ap (option_map (numbered_schema d p)) k.at

      pre : holds t i.objects (numbered_cond d p (inside (declared k.schema.params) []) k.schema.pre) ≡ named.holds s (parameters k.schema k.names) k.schema.pre
      pre = cond_numbered d p (inside (declared k.schema.params) []) (parameters k.schema k.names) i.objects matches s t agree k.schema.pre inner.0

      after : Agree d p (named_steps.state_by d p (Some k.schema) k.names s) (state_by (Some (numbered_schema d p k.schema)) i.objects t)
      after =
          subst (λ ls. Agree d p (named_steps.after ls s) (state_by (Some (numbered_schema d p k.schema)) i.objects t)) (eff_numbered d p s t agree (inside (declared k.schema.params) []) (parameters k.schema k.names) i.objects matches k.schema.effect inner.1)
          (after_agrees d p c.heads_once s t agree (fires t i.objects (numbered_eff d p (inside (declared k.schema.params) []) k.schema.effect)) (fires_valid d p t (inside (declared k.schema.params) []) (parameters k.schema k.names) i.objects matches k.schema.effect inner.1))

  -- ---- runs

  run_numbered : Clean → is_plain_goal p.goal ≡ true → (s : named.State) (t : State) → Agree d p s t → (is : List Instance) → list_all (is_instance (numbered_problem d p)) is ≡ true → succeeds (numbered_problem d p) is t ≡ named_plans.succeeds d p (map (named_step d p) is) s
  run_numbered c plain s t agree [] h = goal_numbered d p s t agree p.goal c.goal plain
  run_numbered c plain s t agree (i ∷ is) h =
      let parts = and_parts (is_instance (numbered_problem d p) i) (list_all (is_instance (numbered_problem d p)) is) h in
      let step = step_agrees c s t agree i (paired i parts.0) in
      rw (step.applies, run_numbered c plain (named_steps.next d p (named_step d p i) s) (next (numbered_problem d p) i t) step.leads is parts.1) refl

  -- ---- initial states

  init_numbered : Clean → (s : named.State) (t : State) → Agree d p s t → list_all (item_holds t) (numbered_problem d p).init ≡ list_all (named_initial.item_holds s) p.init
  init_numbered c s t agree = go p.init (λ i m. m)
    where
      go : (is : List (trees.Item Word)) → ((i : trees.Item Word) → Member is i → Member p.init i) → list_all (item_holds t) (flat_map (numbered_item d p) is) ≡ list_all (named_initial.item_holds s) is
      go [] f = refl
      go (i ∷ is) f =
          list_all-append (item_holds t) (numbered_item d p i) (flat_map (numbered_item d p) is)
          ∙ rw (item_numbered d p s t agree c.heads_once i (c.items i (f i (inl refl))), go is (λ j m. f j (inr m))) refl

  -- an atom is named by number where it is named by name
  named_numbered : Clean → (q : ℕ) (os : List ℕ) → q < length (heads d) → AreObjects d p os → is_named (numbered_problem d p) q os ≡ named_initial.is_named p (name_at (heads d) q) (named_objects d p os)
  named_numbered c q os below objs = go p.init (λ i m. m)
    where
      lits_same : (ls : List GroundLit) → list_all (is_valid d p) ls ≡ true → list_any (is_of q os) ls ≡ list_any (named_initial.is_of (name_at (heads d) q) (named_objects d p os)) (map (named_literal d p) ls)
      lits_same ls all =
          any_alike (is_of q os) (λ l. named_initial.is_of (name_at (heads d) q) (named_objects d p os) (named_literal d p l)) ls (λ l m. atom_eq_named d p c.heads_once l (ground true q os) (all_member (is_valid d p) ls l m all) (valid d p true q os below objs))
          ∙ sym (any_map (named_literal d p) (named_initial.is_of (name_at (heads d) q) (named_objects d p os)) (λ l. named_initial.is_of (name_at (heads d) q) (named_objects d p os) (named_literal d p l)) ls (λ l. refl))

      go : (is : List (trees.Item Word)) → ((i : trees.Item Word) → Member is i → Member p.init i) → list_any (λ i. list_any (is_of q os) (item_literals i)) (flat_map (numbered_item d p) is) ≡ list_any (λ i. list_any (named_initial.is_of (name_at (heads d) q) (named_objects d p os)) (named_initial.item_literals i)) is
      go [] f = refl
      go (i ∷ is) f =
          let clean_i = c.items i (f i (inl refl)) in
          list_any-append (λ i. list_any (is_of q os) (item_literals i)) (numbered_item d p i) (flat_map (numbered_item d p) is)
          ∙ rw (any_flat (is_of q os) item_literals (numbered_item d p i), lits_same (flat_map item_literals (numbered_item d p i)) (literals_valid d p i clean_i), literals_named d p i clean_i, go is (λ j m. f j (inr m))) refl

  -- the numbered state of a named one
  abbrev lower : named.State → State
  lower s q os = is_valid d p (ground true q os) && s (name_at (heads d) q) (named_objects d p os)

  lower_agrees : (s : named.State) → Agree d p s (lower s)
  lower_agrees s q os below objs = rw (lt-ltb q (length (heads d)) below, objs) refl

  lower_initial : Clean → (s : named.State) → named_initial.IsInitial p s → IsInitial (numbered_problem d p) (lower s)
  lower_initial c s init =
      record {
        items = init_numbered c s (lower s) (lower_agrees s) ∙ init.items;
        absent = λ q os h. pick (is_valid d p (ground true q os)) q os refl h;
      }
    where
      pick : (t : Bool) → (q : ℕ) (os : List ℕ) → is_valid d p (ground true q os) ≡ t → is_named (numbered_problem d p) q os ≡ false → (t && s (name_at (heads d) q) (named_objects d p os)) ≡ false
      pick false q os is h = refl
      pick true q os is h =
          let parts = valid_parts d p (ground true q os) is in
          init.absent (name_at (heads d) q) (named_objects d p os) (sym (named_numbered c q os parts.0 parts.1) ∙ h)

  -- the named state of a numbered one
  abbrev is_declared : Name → List Name → Bool
  is_declared h os = is_among (heads d) h && list_all (is_among (objects d p)) os

  abbrev raise : State → named.State
  raise t h os = is_declared h os && t (index_of (heads d) h) (map (index_of (objects d p)) os)

  raise_agrees : Clean → (t : State) → Agree d p (raise t) t
  raise_agrees c t q os below objs =
      rw (among_at (heads d) q below, names_among os objs, index_at (heads d) c.heads_once q below, back_and_there os objs) refl

  raise_initial : Clean → (t : State) → IsInitial (numbered_problem d p) t → named_initial.IsInitial p (raise t)
  raise_initial c t init =
      record {
        items = sym (init_numbered c (raise t) t (raise_agrees c t)) ∙ init.items;
        absent = λ h os n. pick (is_declared h os) h os refl n;
      }
    where
      pick : (u : Bool) (h : Name) (os : List Name) → is_declared h os ≡ u → named_initial.is_named p h os ≡ false → (u && t (index_of (heads d) h) (map (index_of (objects d p)) os)) ≡ false
      pick false h os is n = refl
      pick true h os is n =
          let parts = and_parts (is_among (heads d) h) (list_all (is_among (objects d p)) os) is in
          let e = named_numbered c (index_of (heads d) h) (map (index_of (objects d p)) os) (index_below (heads d) h parts.0) (indexes_below os parts.1) in
          init.absent (index_of (heads d) h) (map (index_of (objects d p)) os)
          (e ∙ rw (at_index (heads d) h parts.0, there_and_back os parts.1) n)

  -- ---- plans

  steps_numbered : (steps : List Step) → list_all (named_steps.is_instance d p) steps ≡ true → (is : List Instance) × (map (named_step d p) is ≡ steps) × (list_all (is_instance (numbered_problem d p)) is ≡ true)
  steps_numbered [] h = ([], refl, refl)
  steps_numbered (i ∷ steps) h =
      let parts = and_parts (named_steps.is_instance d p i) (list_all (named_steps.is_instance d p) steps) h in
      let f = numbered_instance i parts.0 in
      let rest = steps_numbered steps parts.1 in
      (f.instance ∷ rest.0, rw (f.is, rest.1) refl, and_from (is_instance (numbered_problem d p) f.instance) (list_all (is_instance (numbered_problem d p)) rest.0) (is_instance_of f.instance f.pair) rest.2)

  instances_named : Clean → (is : List Instance) → list_all (is_instance (numbered_problem d p)) is ≡ true → list_all (named_steps.is_instance d p) (map (named_step d p) is) ≡ true
  instances_named c [] h = refl
  instances_named c (i ∷ is) h =
      let parts = and_parts (is_instance (numbered_problem d p) i) (list_all (is_instance (numbered_problem d p)) is) h in
      and_from (named_steps.is_instance d p (named_step d p i)) (list_all (named_steps.is_instance d p) (map (named_step d p) is)) (named_instance c i (paired i parts.0)) (instances_named c is parts.1)

  -- ---- an instance is told by its name

  below : (i : Instance) → Paired i → (i.schema < length (schema_names d)) × AreObjects d p i.objects
  below i k =
      let lt = slice_get_within d.schemas i.schema k.schema k.at in
      let size = length-map d.schemas (λ (a : trees.Schema Word). a.name) in
      let size' = length-map (map (λ (a : trees.Schema Word). a.name) d.schemas) (λ (w : Word). w.text) in
      (omega (arith, lt, size, size'), subst (AreObjects d p) k.numbers' (indexes_below k.names (object_list_good d p k.schema.params k.names k.are).1))

  pub told : Clean → (i j : Instance) → Paired i → Paired j → named_step d p i ≡ named_step d p j → i ≡ j
  told c i j k l e =
      let a = below i k in
      let b = below j l in
      instance_same i.schema j.schema i.objects j.objects
      (sym (index_at (schema_names d) c.schemas_once i.schema a.0) ∙ (ap (λ (g : GroundName). index_of (schema_names d) g.head) e ∙ index_at (schema_names d) c.schemas_once j.schema b.0))
      (sym (back_and_there i.objects a.1) ∙ (ap (λ (g : GroundName). map (index_of (objects d p)) g.objects) e ∙ back_and_there j.objects b.1))
    where
      instance_same : (x y : ℕ) (os us : List ℕ) → x ≡ y → os ≡ us → (let i : Instance = record { schema = x; objects = os } in i) ≡ record { schema = y; objects = us }
      instance_same x y os us e f = cc

-- ---- the laws

pub step_numbered : IsStepNumbered
step_numbered d p no_fault s t agree i is = step_agrees d p (clean d p no_fault) s t agree i (paired d p i is)

pub initial_numbered : IsInitialNumbered
initial_numbered d p no_fault = record {
  by_number = λ s init. (lower d p s, lower_initial d p (clean d p no_fault) s init, lower_agrees d p s);
  by_name = λ t init. (raise d p t, raise_initial d p (clean d p no_fault) t init, raise_agrees d p (clean d p no_fault) t);
}

pub plan_numbered : IsPlanNumbered
plan_numbered d p no_fault plain steps = (
  λ plan.
      let r = steps_numbered d p steps plan.instances in (
        r.0,
        r.1,
        record {
          instances = r.2;
          reaches = λ t init.
              run_numbered d p c plain (raise d p t) t (raise_agrees d p c t) r.0 r.2
              ∙ (ap (λ is. named_plans.succeeds d p is (raise d p t)) r.1 ∙ plan.reaches (raise d p t) (raise_initial d p c t init));
        },
      ),
  λ r. subst (Solves d p) r.1 (record {
    instances = instances_named d p c r.0 r.2.instances;
    reaches = λ s init.
        sym (run_numbered d p c plain s (lower d p s) (lower_agrees d p s) r.0 r.2.instances)
        ∙ r.2.reaches (lower d p s) (lower_initial d p c s init);
  }),
)
  where
    c : Clean d p
    c = clean d p no_fault

pub named_once : IsNamedOnce
named_once d p no_fault i j f g e = told d p (clean d p no_fault) i j (paired d p i f) (paired d p j g) e
