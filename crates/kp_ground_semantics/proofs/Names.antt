-- The names of actions.
use Rattle.std.proofs.Common.{◌≡◌, ℕ, Bool, true, false, cond, List, [], ◌∷◌, ◌++◌, Option, Some, None, refl, sym, ap, subst, map, ◌∙◌, inl, inr, filter, slice_get, zero, suc, ◌≤◌, option_map, arith}
use Rattle.std.specs.List.{list_any, flat_map}
use Rattle.std.proofs.lemmas.Bool.{both_ways}
use Rattle.std.proofs.lemmas.Option.{slice_get-map}
use Rattle.kp_base.specs.declared.ground.GroundName.{GroundName}
use Rattle.kp_base.specs.declared.ground.Action.{Action}
use Rattle.kp_base.specs.Lists.{Member, choices}
use Rattle.kp_base.specs.Implicates.{IsOnce}
use Rattle.kp_base.proofs.Lists.{member_at, map_member, append_member, flat_member, filter_member}
use Rattle.kp_tree_grammar.specs.declared.tree.Word.{Word}
use Rattle.kp_tree_grammar.specs.Trees as trees
use Rattle.kp_tree_grammar.specs.Trees.{Typed, Domain, Problem}
use Rattle.kp_names_semantics.specs.declared.lifted.Range.{Range}
use Rattle.kp_names_semantics.specs.Problems.{Name, is_among, names, declared, types_of, object_lines, objects, is_of_type, range, Schema, Lifted, Instance, bindings, index_of, name_at, numbered_range, numbered_schema, numbered_problem, named_step}
use Rattle.kp_names_semantics.specs.Lifted.{schema_of, is_instance}
use Rattle.kp_names_semantics.proofs.Public.{member_is_among, AreDistinctNames, name_at_index, distinct_are_distinct, instances_are_named_once}
use Rattle.kp_ground_semantics.specs.Static.{settled}
use Rattle.kp_ground_semantics.specs.Ground.{kept_bindings, instance, kept_from, kept_instances, ground_atoms}
use Rattle.kp_ground_semantics.specs.Laws.{AreNamedBySteps, AreNamedOnce}
use Rattle.kp_ground_semantics.proofs.Kept.{Kept, kept_of, act, action_at}
use Rattle.kp_ground_semantics.proofs.Plans.{kept_is_instance}

-- ---- the action of a kept instance has the name of its step

schema_name_at : (as' : List (trees.Schema Word)) (n : ℕ) (a : trees.Schema Word) → slice_get as' n ≡ Some a → name_at (names (map (λ a. a.name) as')) n ≡ a.name.text
schema_name_at [] n a h = cc
schema_name_at (b ∷ as') zero a h = let e : b ≡ a = cc in ap (λ (c : trees.Schema Word). c.name.text) e
schema_name_at (b ∷ as') (suc n) a h = schema_name_at as' n a h

module _ (d : Domain Word) (p : Problem Word) where
  kept_name : (i : Instance) → Kept (numbered_problem d p) i → (act (numbered_problem d p) (ground_atoms (numbered_problem d p)) (schema_of (numbered_problem d p) i) i.objects).name ≡ named_step d p i
  kept_name i k = go (slice_get d.schemas i.schema) refl (sym (slice_get-map (numbered_schema d p) d.schemas i.schema) ∙ k.at)
    where
      go : (o : Option (trees.Schema Word)) → slice_get d.schemas i.schema ≡ o → option_map (numbered_schema d p) o ≡ Some k.schema → (act (numbered_problem d p) (ground_atoms (numbered_problem d p)) (schema_of (numbered_problem d p) i) i.objects).name ≡ named_step d p i
      go None is h = cc
      go (Some a) is h =
          let there : schema_of (numbered_problem d p) i ≡ Some (numbered_schema d p a) = slice_get-map (numbered_schema d p) d.schemas i.schema ∙ ap (option_map (numbered_schema d p)) is in
          ap (λ o. (act (numbered_problem d p) (ground_atoms (numbered_problem d p)) o i.objects).name) there
          ∙ ap (λ (x : Name). let g : GroundName = record { head = x; objects = map (name_at (objects d p)) i.objects } in g) (sym (schema_name_at d.schemas i.schema a is))

pub named_by_steps : AreNamedBySteps
named_by_steps d p n =
    let l = numbered_problem d p in
    ap (option_map (λ (a : Action). a.name)) (action_at l (ground_atoms l) n) ∙ go (slice_get (kept_instances l) n) refl
  where
    go : (o : Option Instance) → slice_get (kept_instances (numbered_problem d p)) n ≡ o → option_map (λ (a : Action). a.name) (option_map (λ (i : Instance). act (numbered_problem d p) (ground_atoms (numbered_problem d p)) (schema_of (numbered_problem d p) i) i.objects) o) ≡ option_map (named_step d p) o
    go None is = refl
    go (Some i) is = ap Some (kept_name d p i (kept_of (numbered_problem d p) i (member_at (kept_instances (numbered_problem d p)) n i is)))

-- ---- no element stands twice

once_place : {X : Type 0} (xs : List X) → IsOnce xs → (m n : ℕ) (x : X) → slice_get xs m ≡ Some x → slice_get xs n ≡ Some x → m ≡ n
once_place [] o m n x f g = cc
once_place (y ∷ ys) o zero zero x f g = refl
once_place (y ∷ ys) o zero (suc n) x f g = let e : y ≡ x = cc in absurd (o.0 (subst (Member ys) (sym e) (member_at ys n x g)))
once_place (y ∷ ys) o (suc m) zero x f g = let e : y ≡ x = cc in absurd (o.0 (subst (Member ys) (sym e) (member_at ys m x f)))
once_place (y ∷ ys) o (suc m) (suc n) x f g = ap suc (once_place ys o.1 m n x f g)

once_append : {X : Type 0} (xs ys : List X) → IsOnce xs → IsOnce ys → ((x : X) → Member xs x → Member ys x → ⊥) → IsOnce (xs ++ ys)
once_append [] ys o q f = q
once_append (x ∷ xs) ys o q f = (
  (λ m. elim (append_member xs ys x m) [ inl h ↦ o.0 h | inr h ↦ f x (inl refl) h ]),
  once_append xs ys o.1 q (λ z m h. f z (inr m) h),
)

once_filter : {X : Type 0} (p : X → Bool) (xs : List X) → IsOnce xs → IsOnce (filter p xs)
once_filter p [] o = tt
once_filter p (x ∷ xs) o = pick (p x) (once_filter p xs o.1)
  where
    pick : (t : Bool) → IsOnce (filter p xs) → IsOnce (cond t (x ∷ filter p xs) (filter p xs))
    pick true rest = ((λ m. o.0 (filter_member p xs x m).0), rest)
    pick false rest = rest

once_map : {X Y : Type 0} (f : X → Y) (xs : List X) → IsOnce xs → ((x y : X) → Member xs x → Member xs y → f x ≡ f y → x ≡ y) → IsOnce (map f xs)
once_map f [] o g = tt
once_map f (x ∷ xs) o g = (
  (λ m. let r = map_member f xs (f x) m in o.0 (subst (Member xs) (g r.0 x (inr r.1) (inl refl) r.2) r.1)),
  once_map f xs o.1 (λ y z i j e. g y z (inr i) (inr j) e),
)

abbrev AllOnce : {X : Type 0} → List (List X) → Type 0
AllOnce [] = Unit {0}
AllOnce (xs ∷ xss) = IsOnce xs × AllOnce xss

once_choices : {X : Type 0} (xss : List (List X)) → AllOnce xss → IsOnce (choices xss)
once_choices [] o = ((λ m. m), tt)
once_choices {X} (xs ∷ xss) o = go xs o.0 (once_choices xss o.1)
  where
    head_same : (x y : X) (us vs : List X) → x ∷ us ≡ y ∷ vs → x ≡ y
    head_same x y us vs e = cc

    tail_same : (x y : X) (us vs : List X) → x ∷ us ≡ y ∷ vs → us ≡ vs
    tail_same x y us vs e = cc

    go : (ys : List X) → IsOnce ys → IsOnce (choices xss) → IsOnce (flat_map (λ x. map (λ rest. x ∷ rest) (choices xss)) ys)
    go [] q c = tt
    go (y ∷ ys) q c =
        once_append (map (λ rest. y ∷ rest) (choices xss)) (flat_map (λ x. map (λ rest. x ∷ rest) (choices xss)) ys)
        (once_map (λ rest. y ∷ rest) (choices xss) c (λ us vs i j e. tail_same y y us vs e))
        (go ys q.1 c)
        (λ z i j.
        let r = map_member (λ rest. y ∷ rest) (choices xss) z i in
        let s = flat_member (λ x. map (λ rest. x ∷ rest) (choices xss)) ys z j in
        let u = map_member (λ rest. s.0 ∷ rest) (choices xss) z s.2 in
        let e = head_same s.0 y u.0 r.0 (u.2 ∙ sym r.2) in
        q.0 (subst (Member ys) e s.1))

distinct_is_once : (xs : List Name) → AreDistinctNames xs → IsOnce xs
distinct_is_once [] o = tt
distinct_is_once (x ∷ xs) o = ((λ m. both_ways (is_among xs x) o.0 (member_is_among xs x m)), distinct_is_once xs o.1)

-- ---- kept instances are each once

module _ (d : Domain Word) (p : Problem Word) where
  ranges_once : (xs : List (Typed Word)) → AllOnce (map (λ (r : Range). r.objects) (map (numbered_range d p) xs))
  ranges_once [] = tt
  ranges_once (x ∷ xs) = (
    once_map (index_of (objects d p)) (range d p x)
        (once_filter (λ o. list_any (is_of_type d p o) (types_of x)) (objects d p) (distinct_is_once (objects d p) (distinct_are_distinct (declared (object_lines d p)))))
        (λ a b i j e. sym (name_at_index (objects d p) a (there a i)) ∙ (ap (name_at (objects d p)) e ∙ name_at_index (objects d p) b (there b j))),
    ranges_once xs,
  )
    where
      there : (a : Name) → Member (range d p x) a → is_among (objects d p) a ≡ true
      there a i = member_is_among (objects d p) a (filter_member (λ o. list_any (is_of_type d p o) (types_of x)) (objects d p) a i).0

  -- instances in a list from number k on have no smaller one
  kept_above : (l : Lifted) (k : ℕ) (more : List Schema) (i : Instance) → Member (kept_from l k more) i → k ≤ i.schema
  kept_above l k [] i m = absurd m
  kept_above l k (a ∷ more) i m =
      elim (append_member (map (instance k) (kept_bindings l a)) (kept_from l (suc k) more) i m) [
        | inl here ↦ let e = ap (λ (x : Instance). x.schema) (map_member (instance k) (kept_bindings l a) i here).2 in omega (arith, e)
        | inr there ↦ let le = kept_above l (suc k) more i there in omega (arith, le)
      ]

  kept_once : (l : Lifted) (k : ℕ) (as' : List (trees.Schema Word)) → IsOnce (kept_from l k (map (numbered_schema d p) as'))
  kept_once l k [] = tt
  kept_once l k (a ∷ as') =
      once_append (map (instance k) (kept_bindings l (numbered_schema d p a))) (kept_from l (suc k) (map (numbered_schema d p) as'))
      (once_map (instance k) (kept_bindings l (numbered_schema d p a))
      (once_filter (λ os. settled l os (numbered_schema d p a).pre) (bindings (numbered_schema d p a).params) (once_choices (map (λ (r : Range). r.objects) (map (numbered_range d p) a.params)) (ranges_once a.params)))
      (λ us vs i j e. ap (λ (i : Instance). i.objects) e))
      (kept_once l (suc k) as')
      (λ i here there.
      let n = ap (λ (i : Instance). i.schema) (map_member (instance k) (kept_bindings l (numbered_schema d p a)) i here).2 in
      let m = kept_above l (suc k) (map (numbered_schema d p) as') i there in
      let no : ⊥ = absurd (omega (arith, n, m)) in no)

pub actions_named_once : AreNamedOnce
actions_named_once d p no_fault m n x f g =
    go (slice_get (kept_instances l) m) refl (slice_get (kept_instances l) n) refl (sym (named_by_steps d p m) ∙ f) (sym (named_by_steps d p n) ∙ g)
  where
    l : Lifted
    l = numbered_problem d p

    go : (o : Option Instance) → slice_get (kept_instances (numbered_problem d p)) m ≡ o → (q : Option Instance) → slice_get (kept_instances (numbered_problem d p)) n ≡ q → option_map (named_step d p) (slice_get (kept_instances (numbered_problem d p)) m) ≡ Some x → option_map (named_step d p) (slice_get (kept_instances (numbered_problem d p)) n) ≡ Some x → m ≡ n
    go None is q at f' g' = let gone : option_map (named_step d p) None ≡ Some x = subst (λ o. option_map (named_step d p) o ≡ Some x) is f' in cc
    go (Some i) is None at f' g' = let gone : option_map (named_step d p) None ≡ Some x = subst (λ o. option_map (named_step d p) o ≡ Some x) at g' in cc
    go (Some i) is (Some j) at f' g' =
        let a : Some (named_step d p i) ≡ Some x = subst (λ o. option_map (named_step d p) o ≡ Some x) is f' in
        let b : Some (named_step d p j) ≡ Some x = subst (λ o. option_map (named_step d p) o ≡ Some x) at g' in
        let names : named_step d p i ≡ named_step d p j = unsome (named_step d p i) (named_step d p j) (a ∙ sym b) in
        let e : i ≡ j = instances_are_named_once d p no_fault i j (inst m i is) (inst n j at) names in
        once_place (kept_instances (numbered_problem d p)) (kept_once d p (numbered_problem d p) 0 d.schemas) m n j (is ∙ ap Some e) at
      where
        unsome : (a b : GroundName) → Some a ≡ Some b → a ≡ b
        unsome a b e = cc

        inst : (k : ℕ) (i : Instance) → slice_get (kept_instances (numbered_problem d p)) k ≡ Some i → is_instance (numbered_problem d p) i ≡ true
        inst k i h = kept_is_instance (numbered_problem d p) i (kept_of (numbered_problem d p) i (member_at (kept_instances (numbered_problem d p)) k i h))
