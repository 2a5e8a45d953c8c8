-- Plans, and runs of actions from each model.
use Rattle.std.proofs.Common.{◌≡◌, ℕ, Bool, true, false, not, ◌&&◌, List, [], ◌∷◌, ◌++◌, Option, Some, None, refl, sym, ap, subst, map, ◌∙◌, nat_lt, slice_get, length, option_map}
use Rattle.std.specs.List.{list_all, flat_map}
use Rattle.std.proofs.lemmas.Bool.{and_parts, and_from, lt-ltb}
use Rattle.std.proofs.lemmas.Option.{slice_get_within}
use Rattle.std.proofs.lemmas.List.Folds.{list_all-append, list_all-map}
use Rattle.kp_base.specs.declared.lit.Lit.{Lit}
use Rattle.kp_base.specs.declared.ground.GroundName.{GroundName}
use Rattle.kp_base.specs.declared.ground.Effect.{Effect}
use Rattle.kp_base.specs.declared.ground.Action.{Action}
use Rattle.kp_base.specs.declared.ground.Ground.{Ground}
use Rattle.kp_base.specs.Planning.{Member, each_once, only_if, positive, negative, negated, same_lit, set_of, SameBelow, Atom, number_of, has_atom, action_name, are_below}
use Rattle.kp_base.specs.Steps as steps
use Rattle.kp_base.proofs.Closures.{below, all_same}
use Rattle.kp_base.proofs.Lists.{any_alike, all_member, member_at, all_from, member_left, member_right, member_flat_map}
use Rattle.kp_base.proofs.Once.{all_filter, all_each_once}
use Rattle.kp_base.proofs.Sets.{all-set_of}
use Rattle.kp_tree_grammar.specs.declared.tree.Word.{Word}
use Rattle.kp_tree_grammar.specs.Trees.{Domain, Problem}
use Rattle.kp_names_semantics.specs.declared.lifted.GroundLit.{GroundLit}
use Rattle.kp_names_semantics.specs.declared.lifted.Item.{Item}
use Rattle.kp_names_semantics.specs.Problems.{Schema, Lifted, Instance, HasNoFault, Step, Solves, numbered_problem, named_step, is_plain_goal}
use Rattle.kp_names_semantics.specs.Lifted.{IsPlan}
use Rattle.kp_names_semantics.proofs.Public.{plans_are_the_same_by_number, goals_are_plain, solves_theirs}
use Rattle.kp_ground_semantics.specs.Static.{remaining}
use Rattle.kp_ground_semantics.specs.Flattening.{same_flat, flat, flat_of}
use Rattle.kp_ground_semantics.specs.Ground.{kept_bindings, kept_instances, atom_of, effect_literals, instance_literals, kept_literals, open_literals, ground_atoms, numbered, numbered_set, IsNumbering, numbered_effect, is_idle, ground_pre, ground_effects, action_of, actions_of, ground_over, ground_of, seen_on}
use Rattle.kp_base.proofs.AtomOrder.{atom_at_its_number}
use Rattle.kp_ground_semantics.proofs.Public.{atoms_are_numbered, IsCoveredLiteral, instance_literals_occur, ground_runs_are_plans, plan_is_ground_run, actions_named_by_steps}
use Rattle.kp_init.specs.Initial.{no_two, item_clauses}
use Rattle.kp_base.proofs.Parts.{all_flat_map}
use Rattle.kp_init.specs.Laws.{IsModelRun, IsNamedRun, IsInitialOver, IsPlanByModels, IsPlanByName, IsPlanOfTexts}
use Rattle.kp_init.proofs.Models.{initial_exact, list_covered, ground_covered, closed_all}

-- ---- runs read the atoms below n alone

abbrev action_below : ℕ → Action → Bool
action_below n a = are_below n a.pre && list_all (λ e. are_below n e.cond) a.effects

fires_same : (n : ℕ) (s t : steps.State) → SameBelow n s t → (es : List Effect) → list_all (λ e. are_below n e.cond) es ≡ true → (l : Lit) → steps.fires es (steps.holds s) l ≡ steps.fires es (steps.holds t) l
fires_same n s t same es h l =
    any_alike (λ e. same_lit e.result l && list_all (steps.holds s) e.cond) (λ e. same_lit e.result l && list_all (steps.holds t) e.cond) es
    (λ e m. ap (λ b. same_lit e.result l && b) (all_same n s t same e.cond (all_member (λ (e : Effect). are_below n e.cond) es e m h)))

run_same : (n : ℕ) (g : Ground) → list_all (action_below n) g.actions ≡ true → are_below n g.goal ≡ true → (s t : steps.State) → SameBelow n s t → (ns : List ℕ) → steps.succeeds g s ns ≡ steps.succeeds g t ns
run_same n g acts goal s t same [] = all_same n s t same g.goal goal
run_same n g acts goal s t same (k ∷ ns) =
    go (slice_get g.actions k) refl (λ u v h. run_same n g acts goal u v h ns)
  where
    go : (o : Option Action) → slice_get g.actions k ≡ o → ((u v : steps.State) → SameBelow n u v → steps.succeeds g u ns ≡ steps.succeeds g v ns) → (steps.applicable o s && steps.succeeds g (steps.next o s) ns) ≡ (steps.applicable o t && steps.succeeds g (steps.next o t) ns)
    go None is rest = refl
    go (Some a) is rest =
        let parts = and_parts (are_below n a.pre) (list_all (λ e. are_below n e.cond) a.effects) (all_member (action_below n) g.actions a (member_at g.actions k a is) acts) in
        rw (all_same n s t same a.pre parts.0, rest (steps.after a s) (steps.after a t) (λ j lt. rw (fires_same n s t same a.effects parts.1 (positive j), fires_same n s t same a.effects parts.1 (negative j), same j lt) refl)) refl

-- ---- the ground problem and the initial formula name no other atoms

module _ (l : Lifted) (atoms : List Atom) (numbering : IsNumbering l atoms) where
  covered_below : (m : GroundLit) → IsCoveredLiteral atoms m → below (length atoms) (numbered atoms m) ≡ true
  covered_below m c = lt-ltb (number_of atoms (atom_of m)) (length atoms) (slice_get_within atoms (number_of atoms (atom_of m)) (atom_of m) c)

  list_below : (ms : List GroundLit) → ((m : GroundLit) → Member ms m → IsCoveredLiteral atoms m) → are_below (length atoms) (map (numbered atoms) ms) ≡ true
  list_below ms c = list_all-map (below (length atoms)) (numbered atoms) ms ∙ all_from (λ m. below (length atoms) (numbered atoms m)) ms (λ m i. covered_below m (c m i))

  set_below : (ms : List GroundLit) → ((m : GroundLit) → Member ms m → IsCoveredLiteral atoms m) → are_below (length atoms) (numbered_set atoms ms) ≡ true
  set_below ms c = all-set_of (below (length atoms)) (map (numbered atoms) ms) ∙ list_below ms c

  kept_below : (a : Schema) (os : List ℕ) → Member l.schemas a → Member (kept_bindings l a) os → action_below (length atoms) (action_of l atoms a os) ≡ true
  kept_below a os at kept =
      and_from (are_below (length atoms) (ground_pre l atoms a os)) (list_all (λ e. are_below (length atoms) e.cond) (ground_effects l atoms a os))
      (set_below (remaining l os a.pre) (λ m j. covered m (member_left (remaining l os a.pre) (flat_map effect_literals (flat l os a.effect)) m j)))
      (all_filter (λ e. are_below (length atoms) e.cond) (λ d. not_idle d) (map (numbered_effect atoms) (flat_of l a os).effects)
      (list_all-map (λ e. are_below (length atoms) e.cond) (numbered_effect atoms) (flat_of l a os).effects
      ∙ all_each_once same_flat (λ f. are_below (length atoms) (numbered_set atoms f.cond)) (flat l os a.effect)
      (all_from (λ f. are_below (length atoms) (numbered_set atoms f.cond)) (flat l os a.effect)
      (λ f j. set_below f.cond (λ m h. covered m (member_right (remaining l os a.pre) (flat_map effect_literals (flat l os a.effect)) m (member_flat_map effect_literals (flat l os a.effect) f m j (member_left f.cond (f.result ∷ []) m h))))))))
    where
      covered : (m : GroundLit) → Member (instance_literals l a os) m → IsCoveredLiteral atoms m
      covered m j = numbering.covers m (instance_literals_occur l a os at kept m j)

      not_idle : Effect → Bool
      not_idle d = not (is_idle (ground_pre l atoms a os) (map (numbered_effect atoms) (flat_of l a os).effects) d)

  actions_below : list_all (action_below (length atoms)) (ground_over l atoms).actions ≡ true
  actions_below = all_flat_map (action_below (length atoms)) (actions_of l atoms) l.schemas (λ a at.
      list_all-map (action_below (length atoms)) (action_of l atoms a) (kept_bindings l a)
      ∙ all_from (λ os. action_below (length atoms) (action_of l atoms a os)) (kept_bindings l a) (λ os m. kept_below a os at m))

  goal_below : are_below (length atoms) (ground_over l atoms).goal ≡ true
  goal_below = set_below l.goal (λ m i. numbering.covers m (member_left l.goal (open_literals l ++ flat_map (kept_literals l) l.schemas) m i))

  -- clauses that say that not both hold speak of the literals' atoms
  pairs_below : (n : ℕ) (ls : List Lit) → are_below n ls ≡ true → list_all (are_below n) (no_two ls) ≡ true
  pairs_below n [] h = refl
  pairs_below n (x ∷ xs) h =
      let parts = and_parts (below n x) (are_below n xs) h in
      list_all-append (are_below n) (map (λ y. set_of (negated x ∷ negated y ∷ [])) xs) (no_two xs)
      ∙ and_from (list_all (are_below n) (map (λ y. set_of (negated x ∷ negated y ∷ [])) xs)) (list_all (are_below n) (no_two xs))
      (list_all-map (are_below n) (λ y. set_of (negated x ∷ negated y ∷ [])) xs
      ∙ all_from (λ y. are_below n (set_of (negated x ∷ negated y ∷ []))) xs (λ y m. all-set_of (below n) (negated x ∷ negated y ∷ []) ∙ and_from (below n x) (below n y && true) parts.0 (and_from (below n y) true (all_member (below n) xs y m parts.1) refl)))
      (pairs_below n xs parts.1)

  item_below : (i : Item) → Member l.init i → list_all (are_below (length atoms)) (item_clauses atoms i) ≡ true
  item_below (Item.One m) at = pick (has_atom atoms (atom_of m)) refl
    where
      pick : (t : Bool) → has_atom atoms (atom_of m) ≡ t → list_all (are_below (length atoms)) (only_if t ((numbered atoms m ∷ []) ∷ [])) ≡ true
      pick false is = refl
      pick true is = and_from (are_below (length atoms) (numbered atoms m ∷ [])) true (and_from (below (length atoms) (numbered atoms m)) true (covered_below m (ground_covered l atoms numbering (atom_of m) is)) refl) refl
  item_below (Item.OneOf ms) at =
      let c = list_covered l atoms numbering (Item.OneOf ms) at (λ q h. ap not h) in
      and_from (are_below (length atoms) (numbered_set atoms ms)) (list_all (are_below (length atoms)) (no_two (each_once same_lit (map (numbered atoms) ms)))) (set_below ms c)
      (pairs_below (length atoms) (each_once same_lit (map (numbered atoms) ms)) (all_each_once same_lit (below (length atoms)) (map (numbered atoms) ms) (list_below ms c)))
  item_below (Item.AnyOf ms) at = and_from (are_below (length atoms) (numbered_set atoms ms)) true (set_below ms (list_covered l atoms numbering (Item.AnyOf ms) at (λ q h. ap not h))) refl
  item_below (Item.Unknown m) at = refl

pub initial_is_over : IsInitialOver
initial_is_over l atoms numbering = record {
  clauses = all_flat_map (are_below (length atoms)) (item_clauses atoms) l.init (item_below l atoms numbering);
  closed = closed_all l atoms numbering (λ n. nat_lt n (length atoms)) (λ a m not_named. lt-ltb (number_of atoms a) (length atoms) (slice_get_within atoms (number_of atoms a) a (atom_at_its_number atoms a m)));
}

-- ---- plans

-- kept instances whose actions succeed from each model are a plan, also where there is none
pub model_runs_are_plans : (l : Lifted) (atoms : List Atom) → IsNumbering l atoms → (is : List Instance) (ns : List ℕ) → IsModelRun l atoms is ns → IsPlan l is
model_runs_are_plans l atoms numbering is ns run =
    ground_runs_are_plans l atoms numbering is ns (record { numbers = run.numbers; reaches = λ s i. run.plan (seen_on atoms s) ((initial_exact l atoms numbering).model s i) })

pub plan_by_models : IsPlanByModels
plan_by_models l atoms numbering first model is =
    let models = initial_exact l atoms numbering in
    let start = models.state first model in
    let plans = plan_is_ground_run l atoms numbering start.0 start.1 is in (
      λ plan.
          let r = plans.0 plan in (
            r.0,
            record {
              numbers = r.1.numbers;
              plan = λ g m.
                  let s = models.state g m in
                  sym (run_same (length atoms) (ground_over l atoms) (actions_below l atoms numbering) (goal_below l atoms numbering) (seen_on atoms s.0) g s.2 r.0) ∙ r.1.reaches s.0 s.1;
            },
          ),
      λ r. model_runs_are_plans l atoms numbering is r.0 r.1,
    )

-- ---- plans by name

names_there : (d : Domain Word) (p : Problem Word) (ns : List ℕ) (is : List Instance) → map (slice_get (kept_instances (numbered_problem d p))) ns ≡ map Some is → map (action_name (ground_of (numbered_problem d p))) ns ≡ map Some (map (named_step d p) is)
names_there d p [] [] e = refl
names_there d p [] (i ∷ is) e = cc
names_there d p (n ∷ ns) [] e = cc
names_there d p (n ∷ ns) (i ∷ is) e =
    let at : slice_get (kept_instances (numbered_problem d p)) n ≡ Some i = cc in
    let rest : map (slice_get (kept_instances (numbered_problem d p))) ns ≡ map Some is = cc in
    rw (actions_named_by_steps d p n, at, names_there d p ns is rest) refl

-- and back
instances_there : (d : Domain Word) (p : Problem Word) (ns : List ℕ) (steps' : List Step) → map (action_name (ground_of (numbered_problem d p))) ns ≡ map Some steps' → (is : List Instance) × (map (named_step d p) is ≡ steps') × (map (slice_get (kept_instances (numbered_problem d p))) ns ≡ map Some is)
instances_there d p [] [] e = ([], refl, refl)
instances_there d p [] (i ∷ is) e = cc
instances_there d p (n ∷ ns) [] e = cc
instances_there d p (n ∷ ns) (i ∷ steps') e =
    let name : action_name (ground_of (numbered_problem d p)) n ≡ Some i = cc in
    let rest : map (action_name (ground_of (numbered_problem d p))) ns ≡ map Some steps' = cc in
    go (slice_get (kept_instances (numbered_problem d p)) n) refl (sym (actions_named_by_steps d p n) ∙ name) (instances_there d p ns steps' rest)
  where
    go : (o : Option Instance) → slice_get (kept_instances (numbered_problem d p)) n ≡ o → option_map (named_step d p) (slice_get (kept_instances (numbered_problem d p)) n) ≡ Some i → (is : List Instance) × (map (named_step d p) is ≡ steps') × (map (slice_get (kept_instances (numbered_problem d p))) ns ≡ map Some is) → (is : List Instance) × (map (named_step d p) is ≡ i ∷ steps') × (map (slice_get (kept_instances (numbered_problem d p))) (n ∷ ns) ≡ map Some is)
    go None is name r = let gone : option_map (named_step d p) None ≡ Some i = subst (λ o. option_map (named_step d p) o ≡ Some i) is name in cc
    go (Some j) is name r =
        let there : Some (named_step d p j) ≡ Some i = subst (λ o. option_map (named_step d p) o ≡ Some i) is name in
        let step : named_step d p j ≡ i = unsome (named_step d p j) i there in
        (j ∷ r.0, rw (step, r.1) refl, rw (is, r.2) refl)
      where
        unsome : (a b : GroundName) → Some a ≡ Some b → a ≡ b
        unsome a b e = cc

-- the names of actions that succeed from each model are a plan, also where there is none
pub named_runs_are_plans : (d : Domain Word) (p : Problem Word) → HasNoFault d p → is_plain_goal p.goal ≡ true → (is : List Step) (ns : List ℕ) → IsNamedRun d p is ns → Solves d p is
named_runs_are_plans d p no_fault plain steps' ns run =
    let l = numbered_problem d p in
    let r = instances_there d p ns steps' run.names in
    (plans_are_the_same_by_number d p no_fault plain steps').1 (r.0, r.1, model_runs_are_plans l (ground_atoms l) (atoms_are_numbered l).numbering r.0 ns (record { numbers = r.2; plan = run.plan }))

pub plan_by_name : IsPlanByName
plan_by_name d p no_fault plain first model steps' =
    let l = numbered_problem d p in (
      λ plan.
          let r = (plans_are_the_same_by_number d p no_fault plain steps').0 plan in
          let g = (plan_by_models l (ground_atoms l) (atoms_are_numbered l).numbering first model r.0).0 r.2 in
          (g.0, record { names = names_there d p g.0 r.0 g.1.numbers ∙ ap (map Some) r.1; plan = g.1.plan }),
      λ g. named_runs_are_plans d p no_fault plain steps' g.0 g.1,
    )

pub plan_of_texts : IsPlanOfTexts
plan_of_texts domain_text problem_text x first model is =
    let by_name = plan_by_name x.domain x.problem x.no_fault (goals_are_plain problem_text x.problem x.problem_reads) first model is in (
      λ plan. by_name.0 (solves_theirs domain_text problem_text x is plan),
      λ run. record { has = x; solves = by_name.1 run },
    )
