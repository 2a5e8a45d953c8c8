-- The task by number, read by name, is the task by name; so it can be written.
use Rattle.std.proofs.Common.{◌≡◌, ◌<◌, ◌≤◌, ◌+◌, ◌^◌, nat_lt, ℕ, zero, suc, Bool, true, false, List, [], ◌∷◌, append-nil, Some, option_map, unwrap_or, map, length, slice_get, refl, sym, ap, subst, ◌∙◌, arith}
use Rattle.std.proofs.lemmas.Bool.{lt-ltb}
use Rattle.std.proofs.lemmas.List.{map-append}
use Rattle.std.proofs.lemmas.List.Folds.{list_all-append}
use Rattle.std.proofs.lemmas.Option.{slice_get-map, slice_get_within}
use Rattle.std.specs.List.{AllByRecursion, IsDistinct, list_all, flat_map}
use Rattle.kp_base.specs.declared.lit.Lit.{Lit}
use Rattle.kp_base.specs.declared.ground.Effect.{Effect}
use Rattle.kp_base.specs.declared.ground.Action.{Action}
use Rattle.kp_base.specs.declared.ground.Ground.{Ground}
use Rattle.kp_base.specs.declared.ground.TagRow.{TagRow}
use Rattle.kp_base.specs.declared.ground.TagTable.{TagTable}
use Rattle.kp_base.specs.declared.ground.Merge.{Merge}
use Rattle.kp_base.specs.Lit.{negated}
use Rattle.kp_base.proofs.Each.{each_map}
use Rattle.kp_base.proofs.Lists.{each_append}
use Rattle.kp_names_semantics.specs.Names.{same}
use Rattle.kp_classic.specs.Fits.{are_below, fits_effect, fits_op}
use Rattle.kp_write.specs.Facts.{fact_of, known, opposites, support as named_support, cancellation as named_cancellation}
use Rattle.kp_write.specs.Grounds.{IsOfAtom, AreOfAtoms, IsGroundEffect, IsGroundAction}
use Rattle.kp_write.specs.Named.{fact_name, signed_fact, named_effect, named_op}
use Rattle.kp_write.specs.Tasks.{IsWritableOp}
use Rattle.kp_write.proofs.Public.{operator_is_name, opposites_are_of_atoms, operator_names_are}
use Rattle.kp_law_ktask.specs.Task.{name_of_fact, under, starts_from, facts_of, number, numbers, support, cancellation, effects_under, effects_from, op_of, merge_ops_from, task_of}
use Rattle.kp_law_ktask.specs.ByName as byname
use Rattle.kp_law_ktask.specs.ByName.{names_of, TasksAreNamed}
use Rattle.kp_law_ktask.specs.Writable.{IsRowOn, IsTag, IsMergeOn, IsWritableTask}
use Rattle.kp_law_ktask.specs.Laws.{TaggedTasksCanBeWritten, TaggedTasksAreFit}
use Rattle.kp_law_ktask.proofs.MergeNames.{merge_is_name}
use Rattle.kp_law_ktask.proofs.Numbers.{numbered}
use Rattle.kp_law_ktask.proofs.Whole.{tasks_are_tasks}

module _ (g : Ground) (table : TagTable) where
  abbrev n : ℕ
  n = length g.atoms

  abbrev tags : ℕ
  tags = length table.tags

  abbrev names : List (List ℕ)
  names = names_of g (facts_of g table)

  -- the name of a number is that of its fact
  fact_at : (t : ℕ) (l : Lit) → t < tags → IsOfAtom g.atoms l → slice_get names (number n (record { tag = t; lit = l })) ≡ Some (fact_of g.atoms t l)
  fact_at t l below b = slice_get-map (name_of_fact g.atoms) (facts_of g table) (number n (record { tag = t; lit = l })) ∙ ap (option_map (name_of_fact g.atoms)) (numbered g table t l below b)

  fact_named : (t : ℕ) (l : Lit) → t < tags → IsOfAtom g.atoms l → fact_name names (number n (record { tag = t; lit = l })) ≡ fact_of g.atoms t l
  fact_named t l below b = ap (λ o. unwrap_or o []) (fact_at t l below b)

  lits_named : (t : ℕ) → t < tags → (ls : List Lit) → AreOfAtoms g.atoms ls → map (fact_name names) (numbers n t ls) ≡ map (fact_of g.atoms t) ls
  lits_named t below [] h = refl
  lits_named t below (l ∷ ls) h = rw (fact_named t l below h.0, lits_named t below ls h.1) refl

  signed_named : (holds : Bool) (t : ℕ) → t < tags → (ls : List Lit) → AreOfAtoms g.atoms ls → map (signed_fact names holds) (numbers n t ls) ≡ map (known g.atoms t holds) ls
  signed_named holds t below [] h = refl
  signed_named holds t below (l ∷ ls) h = rw (fact_named t l below h.0, signed_named holds t below ls h.1) refl

  support_named : (t : ℕ) → t < tags → (e : Effect) → IsGroundEffect g.atoms e → named_effect names (support n t e) ≡ named_support g.atoms t e
  support_named t below e h = rw (append-nil (map (signed_fact names true) (numbers n t e.cond)), signed_named true t below e.cond h.conds, fact_named t e.result below h.result) refl

  cancellation_named : (t : ℕ) → t < tags → (e : Effect) → IsGroundEffect g.atoms e → named_effect names (cancellation n t e) ≡ named_cancellation g.atoms t e
  cancellation_named t below e h = rw (signed_named false t below (opposites e.cond) (opposites_are_of_atoms g.atoms e.cond h.conds), fact_named t (negated e.result) below h.result) refl

  effects_named : (t : ℕ) → t < tags → (es : List Effect) → AllByRecursion (IsGroundEffect g.atoms) es → map (named_effect names) (flat_map (effects_under n t) es) ≡ flat_map (byname.effects_under g.atoms t) es
  effects_named t below [] h = refl
  effects_named t below (e ∷ es) h = rw (support_named t below e h.0, cancellation_named t below e h.0, effects_named t below es h.1) refl

  all_effects_named : (t k : ℕ) → t + k ≤ tags → (es : List Effect) → AllByRecursion (IsGroundEffect g.atoms) es → map (named_effect names) (effects_from n t k es) ≡ byname.effects_from g.atoms t k es
  all_effects_named t zero fit es h = refl
  all_effects_named t (suc k) fit es h =
      map-append (named_effect names) (flat_map (effects_under n t) es) (effects_from n (suc t) k es)
      ∙ rw (effects_named t (omega (arith, fit)) es h, all_effects_named (suc t) k (omega (arith, fit)) es h) refl

  starts_named : (t : ℕ) (rows : List TagRow) → t + length rows ≤ tags → AllByRecursion (IsRowOn g.atoms) rows → map (fact_name names) (map (number n) (starts_from t rows)) ≡ map (name_of_fact g.atoms) (starts_from t rows)
  starts_named t [] fit h = refl
  starts_named t (row ∷ rows) fit h =
      ap (map (fact_name names)) (map-append (number n) (under t row.closure) (starts_from (suc t) rows))
      ∙ map-append (fact_name names) (numbers n t row.closure) (map (number n) (starts_from (suc t) rows))
      ∙ rw (row_named row.closure h.0.closure, starts_named (suc t) rows (omega (arith, fit)) h.1) (sym (map-append (name_of_fact g.atoms) (under t row.closure) (starts_from (suc t) rows)))
    where
      row_named : (ls : List Lit) → AreOfAtoms g.atoms ls → map (fact_name names) (numbers n t ls) ≡ map (name_of_fact g.atoms) (under t ls)
      row_named [] k = refl
      row_named (l ∷ ls) k = rw (fact_named t l (omega (arith, fit)) k.0, row_named ls k.1) refl

  target_named : (l : Lit) → IsOfAtom g.atoms l → (ts : List ℕ) → AllByRecursion (IsTag tags) ts → map (fact_name names) (map (λ t. number n (record { tag = t; lit = l })) ts) ≡ map (λ t. fact_of g.atoms t l) ts
  target_named l b [] h = refl
  target_named l b (t ∷ ts) h = rw (fact_named t l h.0.below b, target_named l b ts h.1) refl

  -- ---- numbers of facts

  below : (t : ℕ) (l : Lit) → t < tags → IsOfAtom g.atoms l → nat_lt (number n (record { tag = t; lit = l })) (length names) ≡ true
  below t l p b = lt-ltb (number n (record { tag = t; lit = l })) (length names) (slice_get_within names (number n (record { tag = t; lit = l })) (fact_of g.atoms t l) (fact_at t l p b))

  all_below : (t : ℕ) → t < tags → (ls : List Lit) → AreOfAtoms g.atoms ls → are_below (length names) (numbers n t ls) ≡ true
  all_below t p [] h = refl
  all_below t p (l ∷ ls) h = rw (below t l p h.0, all_below t p ls h.1) refl

  starts_below : (t : ℕ) (rows : List TagRow) → t + length rows ≤ tags → AllByRecursion (IsRowOn g.atoms) rows → are_below (length names) (map (number n) (starts_from t rows)) ≡ true
  starts_below t [] fit h = refl
  starts_below t (row ∷ rows) fit h =
      ap (are_below (length names)) (map-append (number n) (under t row.closure) (starts_from (suc t) rows))
      ∙ list_all-append (λ f. nat_lt f (length names)) (numbers n t row.closure) (map (number n) (starts_from (suc t) rows))
      ∙ rw (all_below t (omega (arith, fit)) row.closure h.0.closure, starts_below (suc t) rows (omega (arith, fit)) h.1) refl

  targets_below : (l : Lit) → IsOfAtom g.atoms l → (ts : List ℕ) → AllByRecursion (IsTag tags) ts → are_below (length names) (map (λ t. number n (record { tag = t; lit = l })) ts) ≡ true
  targets_below l b [] h = refl
  targets_below l b (t ∷ ts) h = rw (below t l h.0.below b, targets_below l b ts h.1) refl

  effects_below : (t : ℕ) → t < tags → (es : List Effect) → AllByRecursion (IsGroundEffect g.atoms) es → list_all (fits_effect (length names)) (flat_map (effects_under n t) es) ≡ true
  effects_below t p [] h = refl
  effects_below t p (e ∷ es) h = rw (below t e.result p h.0.result, all_below t p e.cond h.0.conds, below t (negated e.result) p h.0.result, all_below t p (opposites e.cond) (opposites_are_of_atoms g.atoms e.cond h.0.conds), effects_below t p es h.1) refl

  all_effects_below : (t k : ℕ) → t + k ≤ tags → (es : List Effect) → AllByRecursion (IsGroundEffect g.atoms) es → list_all (fits_effect (length names)) (effects_from n t k es) ≡ true
  all_effects_below t zero fit es h = refl
  all_effects_below t (suc k) fit es h =
      list_all-append (fits_effect (length names)) (flat_map (effects_under n t) es) (effects_from n (suc t) k es)
      ∙ rw (effects_below t (omega (arith, fit)) es h, all_effects_below (suc t) k (omega (arith, fit)) es h) refl

  module _ (w : IsWritableTask g table) where
    pub action_named : (a : Action) → IsGroundAction g.atoms a → named_op names (op_of n tags a) ≡ byname.op_of g.atoms tags a
    action_named a h = rw (lits_named 0 w.some_tag a.pre h.pre, all_effects_named 0 tags (omega arith) a.effects h.effects) refl

    actions_named : (acts : List Action) → AllByRecursion (IsGroundAction g.atoms) acts → map (named_op names) (map (op_of n tags) acts) ≡ map (byname.op_of g.atoms tags) acts
    actions_named [] h = refl
    actions_named (a ∷ acts) h = rw (action_named a h.0, actions_named acts h.1) refl

    pub merges_named : (m : ℕ) (xs : List Merge) → AllByRecursion (IsMergeOn g.atoms tags) xs → map (named_op names) (merge_ops_from n m xs) ≡ byname.merge_ops_from g.atoms m xs
    merges_named m [] h = refl
    merges_named m (x ∷ xs) h = rw (target_named x.target h.0.target x.tags h.0.tags_are, fact_named 0 x.target w.some_tag h.0.target, merges_named (suc m) xs h.1) refl

    action_below : (a : Action) → IsGroundAction g.atoms a → fits_op (length names) (op_of n tags a) ≡ true
    action_below a h = rw (all_below 0 w.some_tag a.pre h.pre, all_effects_below 0 tags (omega arith) a.effects h.effects) refl

    actions_below : (acts : List Action) → AllByRecursion (IsGroundAction g.atoms) acts → list_all (fits_op (length names)) (map (op_of n tags) acts) ≡ true
    actions_below [] h = refl
    actions_below (a ∷ acts) h = rw (action_below a h.0, actions_below acts h.1) refl

    merges_below : (m : ℕ) (xs : List Merge) → AllByRecursion (IsMergeOn g.atoms tags) xs → list_all (fits_op (length names)) (merge_ops_from n m xs) ≡ true
    merges_below m [] h = refl
    merges_below m (x ∷ xs) h = rw (targets_below x.target h.0.target x.tags h.0.tags_are, below 0 x.target w.some_tag h.0.target, merges_below (suc m) xs h.1) refl

    merges_writable : (m : ℕ) (xs : List Merge) → m + length xs < 2 ^ 64 → AllByRecursion IsWritableOp (merge_ops_from n m xs)
    merges_writable m [] fit = tt
    merges_writable m (x ∷ xs) fit = (record { name = merge_is_name m (omega (arith, fit)); positive = refl }, merges_writable (suc m) xs (omega (arith, fit)))

pub tasks_are_named : TasksAreNamed
tasks_are_named g table w = record {
  operators =
      map-append (named_op (names_of g (facts_of g table))) (map (op_of (length g.atoms) (length table.tags)) g.actions) (merge_ops_from (length g.atoms) 0 table.merges)
      ∙ rw (actions_named g table w g.actions w.ground.actions, merges_named g table w 0 table.merges w.merges) refl;
  start = starts_named g table 0 table.tags (omega arith) w.rows;
  goal = lits_named g table 0 w.some_tag g.goal w.ground.goal_of_atoms ∙ goal_names g.goal;
}
  where
    goal_names : (ls : List Lit) → map (fact_of g.atoms 0) ls ≡ map (name_of_fact g.atoms) (under 0 ls)
    goal_names [] = refl
    goal_names (l ∷ ls) = ap (λ ns. fact_of g.atoms 0 l ∷ ns) (goal_names ls)

pub tasks_can_be_written : TaggedTasksCanBeWritten
tasks_can_be_written g table w = record {
  heads = (tasks_are_tasks g table w).heads;
  facts_differ = (tasks_are_tasks g table w).facts_differ;
  operators = each_append IsWritableOp (map (op_of (length g.atoms) (length table.tags)) g.actions) (merge_ops_from (length g.atoms) 0 table.merges)
      (each_map (IsGroundAction g.atoms) IsWritableOp (op_of (length g.atoms) (length table.tags)) (λ a h. record { name = operator_is_name a.name h.name; positive = refl }) g.actions w.ground.actions)
      (merges_writable g table w 0 table.merges (omega (arith, w.merges_fit)));
  operators_differ = subst (λ (ns : List (List ℕ)). IsDistinct same ns)
      (sym (operator_names_are (names_of g (facts_of g table)) (task_of g table).ops ∙ ap (map (λ o. o.name)) (tasks_are_named g table w).operators))
      (tasks_are_tasks g table w).operators_differ;
  goal_positive = refl;
  start_fits = starts_below g table 0 table.tags (omega arith) w.rows;
  goal_fits = rw (all_below g table 0 w.some_tag g.goal w.ground.goal_of_atoms) refl;
  operators_fit =
      list_all-append (fits_op (length (names_of g (facts_of g table)))) (map (op_of (length g.atoms) (length table.tags)) g.actions) (merge_ops_from (length g.atoms) 0 table.merges)
      ∙ rw (actions_below g table w g.actions w.ground.actions, merges_below g table w 0 table.merges w.merges) refl;
}

pub tasks_are_fit : TaggedTasksAreFit
tasks_are_fit g table w few_facts few_ops = let can = tasks_can_be_written g table w in record { few_facts = few_facts; few_ops = few_ops; init = can.start_fits; goal = can.goal_fits; ops = can.operators_fit }
