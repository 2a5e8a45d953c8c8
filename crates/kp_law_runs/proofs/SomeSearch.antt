-- A search comes to some outcome, so does a run on a generated problem, and so do two classical texts.
use Rattle.std.proofs.Common.{◌≡◌, ◌⊎◌, ℕ, List, Option, Some, None, Ok, inl, inr, refl, ap, ◌∙◌, length}
use Rattle.kp_base.specs.declared.ground.Ground.{Ground}
use Rattle.kp_base.specs.declared.ground.Initial.{Initial}
use Rattle.kp_base.specs.declared.ground.TagTable.{TagTable}
use Rattle.kp_base.specs.declared.refused.Place.{Place}
use Rattle.kp_base.specs.declared.refused.Refused.{Refused}
use Rattle.kp_base.specs.declared.refused.Refused.TheVariants as refusals
use Rattle.kp_tree_grammar.specs.declared.tree.Word.{Word}
use Rattle.kp_tree_grammar.specs.Trees.{Domain, Problem}
use Rattle.kp_names_semantics.specs.Faults.{HasNoFault}
use Rattle.kp_names_semantics.specs.Numbering.{numbered_problem}
use Rattle.kp_names.specs.Resolved.{first_unsure, place_in}
use Rattle.kp_classic.specs.Fits.{IsFit}
use Rattle.kp_law_decidable.specs.Laws.{AreProper}
use Rattle.kp_law_decidable.proofs.Public.{coverages_decided, model_or_none, sizes_decided}
use Rattle.kp_search.specs.declared.found.Found.{Found}
use Rattle.kp_search.specs.declared.found.Found.TheVariants.{Plan, NoPlan, Spent}
use Rattle.kp_law_ktask.specs.Task.{task_of}
use Rattle.kp_law_translation.specs.OfTrees.{ground_of, initial_of}
use Rattle.kp_law_translation.proofs.Public.{initial_states_are_models, formulas_speak_of_ground_atoms}
use Rattle.kp_run_messages.specs.Refusals.{nothing}
use Rattle.kp_run_messages.specs.Searches.{no_plan_line, no_plan_text}
use Rattle.kp_run_outcome.specs.declared.outcome.Outcome.{Outcome}
use Rattle.kp_run_outcome.specs.Printing.{prints, denies}
use Rattle.kp_run_prepare.specs.Refusing.{refuses}
use Rattle.kp_run_classical.specs.Classical.{classical, IsCertain, IsSmall, IsClassicalProblem, RefusesClassical, not_classical, too_large, no_initial_state, by_texts, by_trees, ComesClassical, early, later, task_of as classical_task}
use Rattle.kp_run_classical.proofs.Public.{classical_successes_have_names as actions_named, classical_task_fits}
use Rattle.kp_run_solve.specs.Solving.{Finds, Searches, solves, spends, TellsSolved, SolvesClassical}
use Rattle.kp_search.proofs.Public.{has_some_end_by_added}
use Rattle.kp_run_solve.proofs.Public.{ends_are_true, operators_have_names}
use Rattle.kp_run_solve.specs.Operators.{acts_among}
use Rattle.kp_words.specs.Asked.{Asked}
use Rattle.kp_run_bench.specs.Summary.{summary_text}
use Rattle.kp_run_bench.specs.Bench.{TellsBench}
use Rattle.kp_run_bench.specs.Working.{IsSafe}
use Rattle.kp_run_bench.proofs.Public.{succeeding_actions_are_plan, plan_is_told}
use Rattle.kp_law_runs.proofs.SomeStart.{texts_decided}

-- ---- a ground problem with a table

-- the search of a task that fits comes to something that is told
pub some_search : (name : Option (List ℕ)) (budget : ℕ) (g : Ground) (i : Initial) (table : TagTable) → AreProper g i → IsFit (task_of g table) → (o : Outcome) × Searches (task_of g table) budget (TellsSolved name g i table) o
some_search name budget g i table proper fit = let end = has_some_end_by_added (task_of g table) budget fit in by end.0 end.1
  where
    by : (found : Found) → Finds (task_of g table) budget found → (o : Outcome) × Searches (task_of g table) budget (TellsSolved name g i table) o
    by (Plan ops n) finds =
        let names = operators_have_names g table ops (ends_are_true (task_of g table) budget (Plan ops n) fit finds).0 in
        (solves name names.0 names.1, record { found = Plan ops n; finds = finds; tells = (names.0, names.1, names.2, refl) })
    by NoPlan finds = let ls = coverages_decided g i table proper in (denies (no_plan_text ls.0), record { found = NoPlan; finds = finds; tells = (ls.0, ls.1, refl) })
    by (Spent n) finds = (spends n, record { found = Spent n; finds = finds; tells = refl })

-- ---- a run on a generated problem

-- so does that of a task that is safe
pub some_bench : (c : Asked) (g : Ground) (i : Initial) (table : TagTable) → AreProper g i → IsFit (task_of g table) → IsSafe g i table → (o : Outcome) × Searches (task_of g table) c.budget (TellsBench c g i table) o
some_bench c g i table proper fit safe = let end = has_some_end_by_added (task_of g table) c.budget fit in by end.0 end.1
  where
    by : (found : Found) → Finds (task_of g table) c.budget found → (o : Outcome) × Searches (task_of g table) c.budget (TellsBench c g i table) o
    by (Plan ops n) finds =
        let ls = coverages_decided g i table proper in
        let actions = acts_among (length g.actions) ops in
        let works = succeeding_actions_are_plan g i table ops safe (ends_are_true (task_of g table) c.budget (Plan ops n) fit finds) in
        let o = prints (summary_text c g table ls.0 (length actions) n) in
        (o, record { found = Plan ops n; finds = finds; tells = plan_is_told c g i table ops actions n (Ok o) refl works (ls.0, ls.1, refl) })
    by NoPlan finds = let ls = coverages_decided g i table proper in (denies (no_plan_text ls.0), record { found = NoPlan; finds = finds; tells = (ls.0, ls.1, refl) })
    by (Spent n) finds = (spends n, record { found = Spent n; finds = finds; tells = refl })

-- ---- two classical trees

module _ (y : List ℕ) (d : Domain Word) (p : Problem Word) where
  of_small : HasNoFault d p → IsCertain p → IsSmall d p → ((r : Refused) × RefusesClassical y d p r) ⊎ IsClassicalProblem d p
  of_small no_fault certain small = elim (model_or_none (length (ground_of d p).atoms) (initial_of d p) (formulas_speak_of_ground_atoms d p)) [
    | inl model ↦ inr (record { certain = certain; small = small; initial = (initial_states_are_models d p no_fault).1 model })
    | inr none ↦ inl (refusals.NoInitialState, no_initial_state certain small (λ has. none ((initial_states_are_models d p no_fault).0 has)))
  ]

  classical_decided : HasNoFault d p → ((r : Refused) × RefusesClassical y d p r) ⊎ IsClassicalProblem d p
  classical_decided no_fault = by (first_unsure p.init) refl
    where
      by : (w : Option Word) → first_unsure p.init ≡ w → ((r : Refused) × RefusesClassical y d p r) ⊎ IsClassicalProblem d p
      by (Some w) e = placed (place_in y (Some w)) refl
        where
          placed : (at : Option Place) → place_in y (Some w) ≡ at → ((r : Refused) × RefusesClassical y d p r) ⊎ IsClassicalProblem d p
          placed None f = absurd cc
          placed (Some at) f = inl (refusals.NotClassical at, not_classical at (ap (place_in y) e ∙ f))
      by None e = elim (sizes_decided (numbered_problem d p) classical) [
        | inl over ↦ inl (over.0, too_large over.0 e over.1)
        | inr small ↦ of_small no_fault e small
      ]

-- the search of their task comes to something that is told
some_classical : (budget : ℕ) (d : Domain Word) (p : Problem Word) → IsClassicalProblem d p → (o : Outcome) × SolvesClassical budget (ground_of d p) (classical_task d p) o
some_classical budget d p c = let end = has_some_end_by_added (classical_task d p) budget (classical_task_fits d p c) in by end.0 end.1
  where
    by : (found : Found) → Finds (classical_task d p) budget found → (o : Outcome) × SolvesClassical budget (ground_of d p) (classical_task d p) o
    by (Plan ops n) finds =
        let names = actions_named d p ops (ends_are_true (classical_task d p) budget (Plan ops n) (classical_task_fits d p c) finds).1 in
        (solves None names.0 names.0, record { found = Plan ops n; finds = finds; tells = (names.0, names.1, refl) })
    by NoPlan finds = (denies no_plan_line, record { found = NoPlan; finds = finds; tells = refl })
    by (Spent n) finds = (spends n, record { found = Spent n; finds = finds; tells = refl })

pub some_classical_comes : (budget : ℕ) (x y : List ℕ) → (o : Outcome) × ComesClassical x y (λ d p. SolvesClassical budget (ground_of d p) (classical_task d p)) o
some_classical_comes budget x y = elim (texts_decided x y) [
  | inr r ↦ (refuses nothing r.0, early (by_texts r.0 r.1 refl))
  | inl t ↦ elim (classical_decided y t.0 t.1 t.2.no_fault) [
    | inl r ↦ (refuses nothing r.0, early (by_trees t.0 t.1 r.0 t.2 r.1 refl))
    | inr ready ↦ let s = some_classical budget t.0 t.1 ready in (s.0, later t.0 t.1 t.2 ready s.1)
  ]
]
