-- The plans of the two texts of a task are the lists of its operators that run and meet the goal.
use Rattle.std.proofs.Common.{◌≡◌, ℕ, Bool, true, false, ◌||◌, List, [], ◌∷◌, map, find, Option, Some, None, option_map, inl, inr, refl, sym, ap, subst, ◌∙◌}
use Rattle.std.proofs.lemmas.Bool.{false≢true, and_parts}
use Rattle.std.proofs.Math.Bool.{and-true, or-false}
use Rattle.std.proofs.lemmas.List.{map-append}
use Rattle.std.specs.List.{AllByRecursion, IsDistinct, list_any, list_all, flat_map}
use Rattle.kp_tree_grammar.specs.declared.tree.Word.{Word}
use Rattle.kp_tree_grammar.specs.Trees.{Schema, Domain, Problem, conds_of, effs_of}
use Rattle.kp_tree_grammar.specs.TreeMaps.{conds_map, eff_map, effs_map, item_map, schema_map, domain_map, problem_map}
use Rattle.kp_base.specs.Lists.{only_if, Member}
use Rattle.kp_base.proofs.Parts.{find_map}
use Rattle.kp_base.proofs.Each.{each_from, each_member}
use Rattle.kp_base.proofs.Lists.{any_from, any_member, same-true, same-refl}
use Rattle.kp_names_semantics.specs.Problems.{Name, same, all_same, is_among, unbound, Literal, Step, after, Solves}
use Rattle.kp_names_semantics.specs.States.{State, Binding, names_literal, all_hold}
use Rattle.kp_names_semantics.specs.Steps.{fires, all_fire, fits, is_instance, permits, applicable, state_by, next, schema_of as schema_of_step}
use Rattle.kp_names_semantics.specs.Initial.{item_holds, item_literals, is_of, is_named, IsInitial}
use Rattle.kp_names_semantics.specs.Plans.{succeeds}
use Rattle.kp_names_semantics.proofs.Public.{places_mean_nothing, solves_theirs}
use Rattle.kp_write.specs.Operators.{Signed, Effect, Op}
use Rattle.kp_write.specs.Written.{domain_text, problem_text}
use Rattle.kp_write.specs.Trees.{fact_holds, signed_holds, made_where, effect_of, schema_of, item_of, written_domain, written_problem}
use Rattle.kp_write.specs.Runs.{Facts, is_so, results, is_made, after_op, runs, step_of, IsRun, PlansAreRuns}
use Rattle.kp_write.proofs.Placed.{at_start, placed_domain, placed_problem, moved, domain_moved, problem_moved, same_swap}
use Rattle.kp_write.proofs.Faultless.{written_texts_have_problem}

-- the state of atoms has just these facts
abbrev HasFacts : State → Facts → Type 0
HasFacts s t = (n : List ℕ) → s n [] ≡ t n

-- ---- conditions

facts_hold : (s : State) (t : Facts) (b : Binding) → HasFacts s t → (ns : List (List ℕ)) → all_hold s b (conds_map at_start (conds_of (map fact_holds ns))) ≡ list_all t ns
facts_hold s t b h [] = refl
facts_hold s t b h (n ∷ ns) = rw (h n, facts_hold s t b h ns) refl

signed_hold : (s : State) (t : Facts) (b : Binding) → HasFacts s t → (cs : List Signed) → all_hold s b (conds_map at_start (conds_of (map signed_holds cs))) ≡ list_all (is_so t) cs
signed_hold s t b h [] = refl
signed_hold s t b h (c ∷ cs) = rw (h c.fact, signed_hold s t b h cs) refl

-- ---- effects

-- a result as a literal
abbrev literal_of : Signed → Literal
literal_of r = record { positive = r.holds; head = r.fact; objects = [] }

only_one : (b : Bool) (r : Signed) → only_if b (literal_of r ∷ []) ≡ map literal_of (only_if b (r ∷ []))
only_one true r = refl
only_one false r = refl

made_is : (rs : List Signed) (b : Bool) (n : List ℕ) → names_literal (map literal_of rs) (record { positive = b; head = n; objects = [] }) ≡ is_made rs b n
made_is [] b n = refl
made_is (r ∷ rs) b n = rw (and-true (same n r.fact), made_is rs b n) refl

module _ (d : Domain Word) (p : Problem Word) (s : State) (t : Facts) (b : Binding) (h : HasFacts s t) where
  effect_fires : (cs : List Signed) (r : Signed) → fires d p s b (eff_map at_start (made_where cs r)) ≡ map literal_of (only_if (list_all (is_so t) cs) (r ∷ []))
  effect_fires [] r = refl
  effect_fires (c ∷ cs) r = ap (λ v. only_if v (literal_of r ∷ [])) (signed_hold s t b h (c ∷ cs)) ∙ only_one (list_all (is_so t) (c ∷ cs)) r

  effects_fire : (es : List Effect) → all_fire d p s b (effs_map at_start (effs_of (map effect_of es))) ≡ map literal_of (flat_map (λ e. only_if (list_all (is_so t) e.conds) (e.result ∷ [])) es)
  effects_fire [] = refl
  effects_fire (e ∷ es) =
      rw (effect_fires e.conds e.result, effects_fire es)
      (sym (map-append literal_of (only_if (list_all (is_so t) e.conds) (e.result ∷ [])) (flat_map (λ x. only_if (list_all (is_so t) x.conds) (x.result ∷ [])) es)))

after_has : (s : State) (t : Facts) → HasFacts s t → (o : Op) (fired : List Literal) → fired ≡ map literal_of (results t o) → HasFacts (after fired s) (after_op o t)
after_has s t h o fired e n = rw (e, made_is (results t o) true n, made_is (results t o) false n, h n) refl

-- ---- which operator a step is of

-- the first operator of a name
abbrev named_op : List Op → Name → Option Op
named_op ops n = find (λ o. same o.name n) ops

-- what is found is in the list and has the name
record IsFound (ops : List Op) (n : Name) (o : Op) : Type 0 where
  pub member : Member ops o
  pub name : same o.name n ≡ true

found_is : (ops : List Op) (n : Name) (o : Op) → named_op ops n ≡ Some o → IsFound ops n o
found_is [] n o e = absurd cc
found_is (x ∷ xs) n o e = go (found_is xs n o) (same x.name n) refl e where
  go : (named_op xs n ≡ Some o → IsFound xs n o) → (v : Bool) → same x.name n ≡ v → named_op (x ∷ xs) n ≡ Some o → IsFound (x ∷ xs) n o
  go later true k e = let is : x ≡ o = cc (rw k at e) in record { member = inl is; name = subst (λ y. same y.name n ≡ true) is k }
  go later false k e = let r = later (rw k at e) in record { member = inr r.member; name = r.name }

named_member : (ops : List Op) (o : Op) → Member ops o → Member (map (λ x. x.name) ops) o.name
named_member [] o m = absurd m
named_member (x ∷ xs) o (inl e) = inl (ap (λ y. y.name) e)
named_member (x ∷ xs) o (inr m) = inr (named_member xs o m)

-- where no two have one name, each is found by its name
finds : (ops : List Op) (o : Op) → IsDistinct same (map (λ x. x.name) ops) → Member ops o → named_op ops o.name ≡ Some o
unfolding IsDistinct
finds [] o d m = absurd m
finds (x ∷ xs) o d (inl e) = rw (ap (λ y. same y.name o.name) e ∙ same-refl o.name) (ap Some e)
finds (x ∷ xs) o d (inr m) = rw (each_member (λ y. same x.name y ≡ false) (map (λ y. y.name) xs) o.name d.0 (named_member xs o m)) (finds xs o d.1 m)

module _ (facts : List (List ℕ)) (ops : List Op) (start goal : List (List ℕ)) where
  abbrev d : Domain Word
  d = placed_domain facts ops

  abbrev p : Problem Word
  p = placed_problem start goal

  abbrev tree : Op → Schema Word
  tree o = schema_map at_start (schema_of o)

  schema_by : (i : Step) → schema_of_step d i ≡ option_map (schema_map at_start) (option_map schema_of (named_op ops i.head))
  schema_by i =
      find_map (schema_map at_start) (λ a. same a.name.text i.head) (λ a. same a.name i.head) (map schema_of ops) (λ a. refl)
      ∙ ap (option_map (schema_map at_start)) (find_map schema_of (λ a. same a.name i.head) (λ o. same o.name i.head) ops (λ o. refl))

  schema_is : (i : Step) (o : Op) → named_op ops i.head ≡ Some o → schema_of_step d i ≡ Some (tree o)
  schema_is i o e = schema_by i ∙ ap (λ x. option_map (schema_map at_start) (option_map schema_of x)) e

  -- ---- running

  abbrev Finds : Op → Type 0
  Finds o = named_op ops o.name ≡ Some o

  module _ (s : State) (t : Facts) (h : HasFacts s t) (o : Op) (e : Finds o) where
    applies : applicable d (step_of o) s ≡ list_all t o.pre
    applies = ap (λ x. permits x [] s) (schema_is (step_of o) o e) ∙ facts_hold s t unbound h o.pre

    goes_on : HasFacts (next d p (step_of o) s) (after_op o t)
    goes_on = subst (λ (x : State). HasFacts x (after_op o t)) (sym (ap (λ x. state_by d p x [] s) (schema_is (step_of o) o e)))
        (after_has s t h o (fires d p s unbound (tree o).effect) (effects_fire d p s t unbound h o.effects))

  runs_same : (os : List Op) (s : State) (t : Facts) → HasFacts s t → AllByRecursion Finds os → succeeds d p (map step_of os) s ≡ runs goal os t
  runs_same [] s t h all = facts_hold s t unbound h goal
  runs_same (o ∷ os) s t h all = rw (applies s t h o all.0, runs_same os (next d p (step_of o) s) (after_op o t) (goes_on s t h o all.0) all.1) refl

  -- ---- instances

  is_step : (o : Op) → Finds o → is_instance d p (step_of o) ≡ true
  is_step o e = ap (λ x. fits d p x []) (schema_is (step_of o) o e)

  are_steps : (os : List Op) → AllByRecursion Finds os → list_all (is_instance d p) (map step_of os) ≡ true
  are_steps [] all = refl
  are_steps (o ∷ os) all = rw (is_step o all.0, are_steps os all.1) refl

  same_step : (x y : Name) (us vs : List Name) → x ≡ y → us ≡ vs → ◌≡◌ {A = Step} (record { head = x; objects = us }) (record { head = y; objects = vs })
  same_step x y us vs k l = cc

  -- the operator of an instance
  record OpOf (i : Step) : Type 0 where
    pub op : Op
    pub member : Member ops op
    pub step : step_of op ≡ i

  no_objects : (os : List Name) → all_same os [] || false ≡ true → os ≡ []
  no_objects [] e = refl
  no_objects (x ∷ xs) e = absurd (false≢true e)

  op_of : (i : Step) → is_instance d p i ≡ true → OpOf i
  op_of i e = go (named_op ops i.head) refl where
    go : (x : Option Op) → named_op ops i.head ≡ x → OpOf i
    go None k = absurd (false≢true (sym (ap (λ x. fits d p (option_map (schema_map at_start) (option_map schema_of x)) i.objects) k) ∙ sym (ap (λ x. fits d p x i.objects) (schema_by i)) ∙ e))
    go (Some o) k =
        let r = found_is ops i.head o k in
        let name : o.name ≡ i.head = same-true o.name i.head r.name in
        let none : i.objects ≡ [] = no_objects i.objects (sym (ap (λ x. fits d p x i.objects) (schema_is i o k)) ∙ e) in
        record { op = o; member = r.member; step = same_step o.name i.head [] i.objects name (sym none) }

  -- the operators of instances
  record OpsOf (steps : List Step) : Type 0 where
    pub taken : List Op
    pub among : AllByRecursion (Member ops) taken
    pub steps_are : map step_of taken ≡ steps

  ops_of : (steps : List Step) → list_all (is_instance d p) steps ≡ true → OpsOf steps
  ops_of [] e = record { taken = []; among = tt; steps_are = refl }
  ops_of (i ∷ is) e =
      let k = and_parts (is_instance d p i) (list_all (is_instance d p) is) e in
      let one = op_of i k.0 in
      let rest = ops_of is k.1 in
      record { taken = one.op ∷ rest.taken; among = (one.member, rest.among); steps_are = rw (one.step, rest.steps_are) refl }

  -- ---- initial states

  named_is : (n : List ℕ) (ns : List (List ℕ)) → list_any (λ i. list_any (is_of n []) (item_literals i)) (map (item_map at_start) (map item_of ns)) ≡ is_among ns n
  named_is n [] = refl
  named_is n (x ∷ xs) = rw (and-true (same x n), or-false (same x n), same_swap x n, named_is n xs) refl

  at_the_start : (s : State) → HasFacts s (is_among start) → (ns : List (List ℕ)) → AllByRecursion (Member start) ns → list_all (item_holds s) (map (item_map at_start) (map item_of ns)) ≡ true
  at_the_start s h [] all = refl
  at_the_start s h (n ∷ ns) all = rw (h n ∙ any_from (same n) start n all.0 (same-refl n), at_the_start s h ns all.1) refl

  -- the atoms that are named
  first_state : IsInitial p (is_named p)
  first_state = record { items = at_the_start (is_named p) (λ n. named_is n start) start (each_from (Member start) start (λ x m. m)); absent = λ h os e. e }

  stated : (s : State) (n : List ℕ) (ns : List (List ℕ)) → list_all (item_holds s) (map (item_map at_start) (map item_of ns)) ≡ true → Member ns n → s n [] ≡ true
  stated s n [] e m = absurd m
  stated s n (x ∷ xs) e (inl k) = subst (λ y. s y [] ≡ true) k (and_parts (s x []) (list_all (item_holds s) (map (item_map at_start) (map item_of xs))) e).0
  stated s n (x ∷ xs) e (inr m) = stated s n xs (and_parts (s x []) (list_all (item_holds s) (map (item_map at_start) (map item_of xs))) e).1 m

  initial_has : (s : State) → IsInitial p s → HasFacts s (is_among start)
  initial_has s i n = go (is_among start n) refl where
    go : (v : Bool) → is_among start n ≡ v → s n [] ≡ is_among start n
    go false e = i.absent n [] (named_is n start ∙ e) ∙ sym e
    go true e =
        let m = any_member (same n) start e in
        stated s n start i.items (subst (λ y. Member start y) (sym (same-true n m.0 m.2)) m.1) ∙ sym e

  -- ---- plans

  module _ (differ : IsDistinct same (map (λ o. o.name) ops)) where
    found : (os : List Op) → AllByRecursion (Member ops) os → AllByRecursion Finds os
    found [] all = tt
    found (o ∷ os) all = (finds ops o differ all.0, found os all.1)

    solves_run : (steps : List Step) → Solves d p steps → IsRun ops start goal steps
    solves_run steps h =
        let r = ops_of steps h.instances in
        let there : succeeds d p (map step_of r.taken) (is_named p) ≡ true = ap (λ x. succeeds d p x (is_named p)) r.steps_are ∙ h.reaches (is_named p) first_state in
        record { taken = r.taken; among = r.among; steps_are = r.steps_are; succeeds = sym (runs_same r.taken (is_named p) (is_among start) (λ n. named_is n start) (found r.taken r.among)) ∙ there }

    run_solves : (steps : List Step) → IsRun ops start goal steps → Solves d p steps
    run_solves steps r =
        subst (λ x. Solves d p x) r.steps_are
        (record { instances = are_steps r.taken (found r.taken r.among); reaches = λ s i. runs_same r.taken s (is_among start) (initial_has s i) (found r.taken r.among) ∙ r.succeeds })

-- what solves the trees of the texts solves those with each word at the first byte, and the other way round
module _ (d e : Domain Word) (p q : Problem Word) (steps : List Step) (k : e ≡ domain_map moved d) (l : q ≡ problem_map moved p) where
  to_moved : Solves d p steps → Solves e q steps
  to_moved h = subst (λ x. Solves x q steps) (sym k) (subst (λ y. Solves (domain_map moved d) y steps) (sym l) (((places_mean_nothing moved (λ w. refl) d p).plans steps).0 h))

  from_moved : Solves e q steps → Solves d p steps
  from_moved h = ((places_mean_nothing moved (λ w. refl) d p).plans steps).1 (subst (λ x. Solves x (problem_map moved p) steps) k (subst (λ y. Solves e y steps) l h))

pub plans_are_runs : PlansAreRuns
plans_are_runs facts ops start goal t steps =
    let h = written_texts_have_problem facts ops start goal t in
    let k = domain_moved h.has.domain (written_domain facts ops) h.domain in
    let l = problem_moved h.has.problem (written_problem start goal) h.problem in (
      λ plan. solves_run facts ops start goal t.operators_differ steps (to_moved h.has.domain (placed_domain facts ops) h.has.problem (placed_problem start goal) steps k l (solves_theirs (domain_text facts ops) (problem_text start goal) h.has steps plan)),
      λ run. record { has = h.has; solves = from_moved h.has.domain (placed_domain facts ops) h.has.problem (placed_problem start goal) steps k l (run_solves facts ops start goal t.operators_differ steps run) },
    )
