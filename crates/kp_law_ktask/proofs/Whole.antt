-- The operators of a table's task are operators of its facts, and differ; so the task is a task.
use Rattle.std.proofs.Common.{◌≡◌, ◌<◌, ◌≤◌, ◌+◌, ◌^◌, inl, inr, ℕ, zero, suc, Bool, true, false, List, [], ◌∷◌, ◌++◌, map, length, codes, decimal, subst, arith}
use Rattle.std.specs.List.{AllByRecursion, IsDistinct, flat_map}
use Rattle.kp_base.specs.declared.lit.Lit.{Lit}
use Rattle.kp_base.specs.declared.ground.GroundName.{GroundName}
use Rattle.kp_base.specs.declared.ground.Effect.{Effect}
use Rattle.kp_base.specs.declared.ground.Action.{Action}
use Rattle.kp_base.specs.declared.ground.Ground.{Ground}
use Rattle.kp_base.specs.declared.ground.TagRow.{TagRow}
use Rattle.kp_base.specs.declared.ground.TagTable.{TagTable}
use Rattle.kp_base.specs.declared.ground.Merge.{Merge}
use Rattle.kp_base.specs.Lit.{negated}
use Rattle.kp_base.specs.Lists.{Member}
use Rattle.kp_base.proofs.Each.{each_map}
use Rattle.kp_base.proofs.Lists.{member_map, each_append}
use Rattle.kp_tree_grammar.specs.Words.{IsHead}
use Rattle.kp_names_semantics.specs.Names.{same}
use Rattle.kp_names_semantics.specs.Encoding.{encoded}
use Rattle.kp_names_semantics.specs.GroundNames.{IsGroundName, same_name}
use Rattle.kp_write.specs.Operators.{Op}
use Rattle.kp_write.specs.Facts.{fact_of, known, opposites}
use Rattle.kp_write.specs.Grounds.{IsOfAtom, AreOfAtoms, IsGroundEffect, IsGroundAction}
use Rattle.kp_write.specs.Problems.{AreAmong, IsEffectOn, IsOpOn}
use Rattle.kp_write.proofs.Public.{operator_is_name, operators_apart, opposites_are_of_atoms}
use Rattle.kp_law_ktask.specs.Task.{name_of_fact, lits_from, under, starts_from, facts_of, start_of}
use Rattle.kp_law_ktask.specs.ByName.{effects_under, effects_from, op_of, merge_ops_from, ops_of, names_of, goal_of}
use Rattle.kp_law_ktask.specs.Writable.{IsRowOn, IsTag, IsMergeOn, IsWritableTask}
use Rattle.kp_law_ktask.specs.Laws.{TaggedTasksAreTasks}
use Rattle.kp_law_ktask.proofs.Tasks.{distinct_append, distinct_map, lit_among, lits_of, lits_differ, fact_among, heads, facts_differ}
use Rattle.kp_law_ktask.proofs.MergeNames.{merge_is_name, merges_apart, action_no_merge}

module _ (g : Ground) (table : TagTable) where
  -- the fact of a literal under one of the tags is one of the facts
  among : (t : ℕ) → t < length table.tags → (l : Lit) → IsOfAtom g.atoms l → Member (names_of g (facts_of g table)) (fact_of g.atoms t l)
  among t below l b =
      member_map (name_of_fact g.atoms) (facts_of g table) (record { tag = t; lit = l })
      (fact_among 0 (length table.tags) t t (lits_from 0 (length g.atoms)) l (omega arith) below (lit_among 0 (length g.atoms) l.atom.0 l.atom.0 l.positive (omega arith) b))

  pres : (t : ℕ) → t < length table.tags → (ls : List Lit) → AreOfAtoms g.atoms ls → AreAmong (names_of g (facts_of g table)) (map (fact_of g.atoms t) ls)
  pres t below ls h = each_map (IsOfAtom g.atoms) (Member (names_of g (facts_of g table))) (fact_of g.atoms t) (λ l b. among t below l b) ls h

  conds : (t : ℕ) → t < length table.tags → (b : Bool) (ls : List Lit) → AreOfAtoms g.atoms ls → AllByRecursion (λ s. Member (names_of g (facts_of g table)) s.fact) (map (known g.atoms t b) ls)
  conds t below b ls h = each_map (IsOfAtom g.atoms) (λ s. Member (names_of g (facts_of g table)) s.fact) (known g.atoms t b) (λ l b. among t below l b) ls h

  effects_one : (t : ℕ) → t < length table.tags → (es : List Effect) → AllByRecursion (IsGroundEffect g.atoms) es → AllByRecursion (IsEffectOn (names_of g (facts_of g table))) (flat_map (effects_under g.atoms t) es)
  effects_one t below [] h = tt
  effects_one t below (e ∷ es) h = (
    record { conds = conds t below true e.cond h.0.conds; result = among t below e.result h.0.result },
    (
      record { conds = conds t below false (opposites e.cond) (opposites_are_of_atoms g.atoms e.cond h.0.conds); result = among t below (negated e.result) h.0.result },
      effects_one t below es h.1,
    ),
  )

  effects_all : (t n : ℕ) → t + n ≤ length table.tags → (es : List Effect) → AllByRecursion (IsGroundEffect g.atoms) es → AllByRecursion (IsEffectOn (names_of g (facts_of g table))) (effects_from g.atoms t n es)
  effects_all t zero fit es h = tt
  effects_all t (suc n) fit es h =
      each_append (IsEffectOn (names_of g (facts_of g table))) (flat_map (effects_under g.atoms t) es) (effects_from g.atoms (suc t) n es)
      (effects_one t (omega (arith, fit)) es h) (effects_all (suc t) n (omega (arith, fit)) es h)

  starts : (t : ℕ) (rows : List TagRow) → t + length rows ≤ length table.tags → AllByRecursion (IsRowOn g.atoms) rows → AllByRecursion (λ f. Member (names_of g (facts_of g table)) (name_of_fact g.atoms f)) (starts_from t rows)
  starts t [] fit h = tt
  starts t (row ∷ rows) fit h =
      each_append (λ f. Member (names_of g (facts_of g table)) (name_of_fact g.atoms f)) (under t row.closure) (starts_from (suc t) rows)
      (each_map (IsOfAtom g.atoms) (λ f. Member (names_of g (facts_of g table)) (name_of_fact g.atoms f)) (λ l. record { tag = t; lit = l }) (λ l b. among t (omega (arith, fit)) l b) row.closure h.0.closure)
      (starts (suc t) rows (omega (arith, fit)) h.1)

  merge_pre : (l : Lit) → IsOfAtom g.atoms l → (ts : List ℕ) → AllByRecursion (IsTag (length table.tags)) ts → AreAmong (names_of g (facts_of g table)) (map (λ t. fact_of g.atoms t l) ts)
  merge_pre l b ts h = each_map (IsTag (length table.tags)) (Member (names_of g (facts_of g table))) (λ t. fact_of g.atoms t l) (λ t is. among t is.below l b) ts h

  module _ (w : IsWritableTask g table) where
    action_on : (a : Action) → IsGroundAction g.atoms a → IsOpOn (names_of g (facts_of g table)) (op_of g.atoms (length table.tags) a)
    action_on a h = record { name = operator_is_name a.name h.name; pre = pres 0 w.some_tag a.pre h.pre; effects = effects_all 0 (length table.tags) (omega arith) a.effects h.effects }

    merges_on : (m : ℕ) (xs : List Merge) → m + length xs < 2 ^ 64 → AllByRecursion (IsMergeOn g.atoms (length table.tags)) xs → AllByRecursion (IsOpOn (names_of g (facts_of g table))) (merge_ops_from g.atoms m xs)
    merges_on m [] fit h = tt
    merges_on m (x ∷ xs) fit h = (
      record { name = merge_is_name m (omega (arith, fit)); pre = merge_pre x.target h.0.target x.tags h.0.tags_are; effects = (record { conds = tt; result = among 0 w.some_tag x.target h.0.target }, tt) },
      merges_on (suc m) xs (omega (arith, fit)) h.1,
    )

    -- ---- operators differ

    others_apart : (n : GroundName) → IsGroundName n → (acts : List Action) → AllByRecursion (IsGroundAction g.atoms) acts → AllByRecursion (λ m. same_name n m ≡ false) (map (λ a. a.name) acts)
        → AllByRecursion (λ o. same (codes "do_-" ++ encoded n) o.name ≡ false) (map (op_of g.atoms (length table.tags)) acts)
    others_apart n h [] k differ = tt
    others_apart n h (a ∷ acts) k differ = (operators_apart n a.name h k.0.name differ.0, others_apart n h acts k.1 differ.1)

    actions_differ : (acts : List Action) → AllByRecursion (IsGroundAction g.atoms) acts → IsDistinct same_name (map (λ a. a.name) acts) → IsDistinct (λ a b. same a.name b.name) (map (op_of g.atoms (length table.tags)) acts)
    unfolding IsDistinct
    actions_differ [] h d = tt
    actions_differ (a ∷ acts) h d = (others_apart a.name h.0.name acts h.1 d.0, actions_differ acts h.1 d.1)

    later_merges : (m n : ℕ) (xs : List Merge) → m < n → n + length xs < 2 ^ 64 → AllByRecursion (λ o. same (codes "merge_-" ++ decimal m) o.name ≡ false) (merge_ops_from g.atoms n xs)
    later_merges m n [] less fit = tt
    later_merges m n (x ∷ xs) less fit = (merges_apart m n (omega (arith, less, fit)) (omega (arith, fit)) (λ e. omega (arith, less, e)), later_merges m (suc n) xs (omega (arith, less)) (omega (arith, fit)))

    merges_differ : (m : ℕ) (xs : List Merge) → m + length xs < 2 ^ 64 → IsDistinct (λ a b. same a.name b.name) (merge_ops_from g.atoms m xs)
    unfolding IsDistinct
    merges_differ m [] fit = tt
    merges_differ m (x ∷ xs) fit = (later_merges m (suc m) xs (omega arith) (omega (arith, fit)), merges_differ (suc m) xs (omega (arith, fit)))

    no_merge : (u : List ℕ) (m : ℕ) (xs : List Merge) → AllByRecursion (λ o. same (codes "do_-" ++ u) o.name ≡ false) (merge_ops_from g.atoms m xs)
    no_merge u m [] = tt
    no_merge u m (x ∷ xs) = (action_no_merge u m, no_merge u (suc m) xs)

    from_action : (acts : List Action) (o : Op) → Member (map (op_of g.atoms (length table.tags)) acts) o → AllByRecursion (λ p. same o.name p.name ≡ false) (merge_ops_from g.atoms 0 table.merges)
    from_action [] o m = absurd m
    from_action (a ∷ acts) o (inl e) = subst (λ (o : Op). AllByRecursion (λ p. same o.name p.name ≡ false) (merge_ops_from g.atoms 0 table.merges)) e (no_merge (encoded a.name) 0 table.merges)
    from_action (a ∷ acts) o (inr m) = from_action acts o m

pub tasks_are_tasks : TaggedTasksAreTasks
tasks_are_tasks g table w = record {
  heads = each_map (λ f. IsHead (name_of_fact g.atoms f)) IsHead (name_of_fact g.atoms) (λ f h. h) (facts_of g table) (heads g.atoms w.ground.atoms w.ground.atoms_differ 0 (length table.tags) (omega (arith, w.tags_fit)) (lits_from 0 (length g.atoms)) (lits_of g.atoms 0 (length g.atoms) (omega arith)));
  facts_differ = distinct_map (name_of_fact g.atoms) (facts_of g table) (facts_differ g.atoms w.ground.atoms w.ground.atoms_differ 0 (length table.tags) (omega (arith, w.tags_fit)) (lits_from 0 (length g.atoms)) (lits_of g.atoms 0 (length g.atoms) (omega arith)) (lits_differ 0 (length g.atoms)));
  operators = each_append (IsOpOn (names_of g (facts_of g table))) (map (op_of g.atoms (length table.tags)) g.actions) (merge_ops_from g.atoms 0 table.merges) (each_map (IsGroundAction g.atoms) (IsOpOn (names_of g (facts_of g table))) (op_of g.atoms (length table.tags)) (λ a h. action_on g table w a h) g.actions w.ground.actions) (merges_on g table w 0 table.merges (omega (arith, w.merges_fit)) w.merges);
  operators_differ = distinct_map (λ o. o.name) (ops_of g table) (distinct_append (λ a b. same a.name b.name) (map (op_of g.atoms (length table.tags)) g.actions) (merge_ops_from g.atoms 0 table.merges) (actions_differ g table w g.actions w.ground.actions w.ground.actions_differ) (merges_differ g table w 0 table.merges (omega (arith, w.merges_fit))) (λ o m. from_action g table w g.actions o m));
  start_among = each_map (λ f. Member (names_of g (facts_of g table)) (name_of_fact g.atoms f)) (Member (names_of g (facts_of g table))) (name_of_fact g.atoms) (λ f h. h) (start_of table) (starts g table 0 table.tags (omega arith) w.rows);
  goal_among = each_map (λ f. Member (names_of g (facts_of g table)) (name_of_fact g.atoms f)) (Member (names_of g (facts_of g table))) (name_of_fact g.atoms) (λ f h. h) (goal_of g) (each_map (IsOfAtom g.atoms) (λ f. Member (names_of g (facts_of g table)) (name_of_fact g.atoms f)) (λ l. record { tag = 0; lit = l }) (λ l b. among g table 0 w.some_tag l b) g.goal w.ground.goal_of_atoms);
}
