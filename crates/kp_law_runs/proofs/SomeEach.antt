-- Each command has an outcome on its texts.
use Rattle.std.proofs.Common.{◌≡◌, ◌⊎◌, ◌++◌, ℕ, true, nat_lt, List, [], ◌∷◌, Option, Some, None, option_map, IsSome, inl, inr, refl, sym, ap, subst, ◌∙◌, length}
use Rattle.std.specs.Option.{option_and_then}
use Rattle.std.specs.List.{list_all}
use Rattle.std.proofs.lemmas.Bool.{cases_lt, false≢true}
use Rattle.kp_base.specs.declared.refused.Part.TheVariants as parts
use Rattle.kp_base.specs.declared.refused.Refused.TheVariants as refusals
use Rattle.kp_base.specs.declared.ground.GroundName.{GroundName}
use Rattle.kp_base.specs.declared.ground.TagTable.{TagTable}
use Rattle.kp_base.specs.declared.limits.Mode.{Mode}
use Rattle.kp_base.specs.Implicates.{IsOfItsAtoms}
use Rattle.kp_tree_grammar.specs.declared.tree.Word.{Word}
use Rattle.kp_tree_grammar.specs.Trees.{Domain, Problem}
use Rattle.kp_names_semantics.specs.Numbering.{numbered_problem}
use Rattle.kp_names_semantics.specs.Strip.{stripped, strip}
use Rattle.kp_law_translation.specs.OfTrees.{ground_of, initial_of}
use Rattle.kp_law_translation.proofs.Public.{formulas_speak_of_ground_atoms, initial_states_are_models, tables_can_be_written, numbers_below_are_actions as there, lifted_steps_have_names}
use Rattle.kp_law_ktask.specs.Task.{task_of}
use Rattle.kp_tags_files.specs.Printed.{merges_of, merges_text}
use Rattle.kp_law_decidable.specs.Laws.{AreProper}
use Rattle.kp_law_decidable.proofs.Public.{formulas_are_ascending, coverages_decided, verdicts_decided, widths_decided}
use Rattle.kp_run_outcome.specs.declared.outcome.Outcome.{Outcome}
use Rattle.kp_run_outcome.specs.Printing.{prints, denies}
use Rattle.kp_base.specs.Files.{most_bytes}
use Rattle.kp_plans.specs.declared.step.PlanStep.{PlanStep}
use Rattle.kp_plans.specs.PlanFiles.{step_names}
use Rattle.kp_plans.specs.Printed.{plan_text}
use Rattle.kp_plans.specs.Stripping.{IsFirstUnstripped}
use Rattle.kp_plans.proofs.Public.{plans_always_one}
use Rattle.kp_run_messages.specs.Refusals.{nothing}
use Rattle.kp_words.specs.Asked.{of_mode, Asked, source_of}
use Rattle.kp_words.specs.Command.{file_of, if_named}
use Rattle.kp_words.proofs.Public.{file_of_merges_is}
use Rattle.kp_run_prepare.specs.Texts.{HaveTrees}
use Rattle.kp_run_prepare.specs.Refusing.{refuses, named_in}
use Rattle.kp_run_prepare.specs.Prepared.{usual, IsPrepared}
use Rattle.kp_run_prepare.proofs.Public.{usual_ground_is_of_its_atoms, problem_of_trees}
use Rattle.kp_run_inputs.proofs.Public.{found_numbers_are_actions, by_table_some_outcome, by_task_some_outcome, by_plan_some_outcome, table_of_source_is_for_trees}
use Rattle.kp_law_tagged_machine.proofs.Public.{lists_lift_or_fail, no_clash_under_exclusive_pairs as never_clashes}
use Rattle.kp_run_messages.specs.Lifting.{unlifted_text}
use Rattle.kp_run_solve.specs.Solving.{Searches, TellsSolved, SolvesGround}
use Rattle.kp_run_solve.proofs.Public.{task_of_trees_fits}
use Rattle.kp_run.specs.Translate.{translates, IsPut, TranslatesGround, TranslatesTrees}
use Rattle.kp_run.specs.Solve.{SolvesTrees}
use Rattle.kp_run.specs.Strip.{StripsText, too_long, no_plan, no_strip, strips}
use Rattle.kp_run.specs.Lift.{LiftsActions, lifts, fails, LiftsPlan, LiftsTrees}
use Rattle.kp_run.specs.Check.{tells, TellsJudged, ChecksTrees, failing_step}
use Rattle.kp_run.specs.Width.{tells_width, no_report, with_report, WidthTrees}
use Rattle.kp_run.specs.Merges.{MergesGround, MergesTrees}
use Rattle.kp_run_inputs.specs.SourceTables.{HasTable}
use Rattle.kp_run_inputs.specs.Actions.{ComesByPlan}
use Rattle.kp_run_bench.specs.Bench.{TellsBench, BenchesGround, BenchesTrees}
use Rattle.kp_law_runs.proofs.SomeSearch.{some_search, some_bench}

-- as many of merges as the command names, by its source
by_source : (c : Asked) (merges : List (List ℕ)) → length merges ≡ length (if_named c.merges) → length merges ≡ length (if_named (file_of (source_of c)))
by_source c merges many = many ∙ ap (λ (o : Option (List ℕ)). length (if_named o)) (sym (file_of_merges_is c.mode c.merges))

module _ (limit : ℕ) (d : Domain Word) (p : Problem Word) (x y : List ℕ) (trees : HaveTrees x y d p) (ready : IsPrepared limit d p) where
  own : IsOfItsAtoms (ground_of d p)
  own = usual_ground_is_of_its_atoms (numbered_problem d p) (ground_of d p) ready.started.small

  proper : AreProper (ground_of d p) (initial_of d p)
  proper = record { own_atoms = own; over = formulas_speak_of_ground_atoms d p; ascending = formulas_are_ascending (numbered_problem d p); model = (initial_states_are_models d p trees.no_fault).0 ready.started.initial }

  -- ---- a translation

  pub of_table : (c : Asked) (table : TagTable) → (o : Outcome) × TranslatesGround c (ground_of d p) (initial_of d p) table o
  of_table c table = by_task_some_outcome (ground_of d p) table (IsPut c (ground_of d p) (initial_of d p) table) (λ fits.
      let ls = coverages_decided (ground_of d p) (initial_of d p) table proper in
      (translates c (ground_of d p) table ls.0, record { uncovered = ls.0; are = ls.1; outcome = refl }))

  pub of_translate : (c : Asked) (merges : List (List ℕ)) → length merges ≡ length (if_named c.merges) → (o : Outcome) × TranslatesTrees c merges d p o
  of_translate c merges many = by_table_some_outcome (ground_of d p) (initial_of d p) (source_of c) merges (TranslatesGround c (ground_of d p) (initial_of d p)) proper (by_source c merges many) (λ t has. of_table c t)

  pub of_listed : (mode : Mode) → (o : Outcome) × MergesTrees mode d p o
  of_listed mode = by_table_some_outcome (ground_of d p) (initial_of d p) (of_mode mode) [] (MergesGround (ground_of d p)) proper refl (λ t has. (prints (merges_text (ground_of d p).atoms (merges_of t)), refl))

  -- ---- a check

  pub of_check : (plan : List ℕ) → (o : Outcome) × ChecksTrees plan d p o
  of_check plan = by_plan_some_outcome (ground_of d p) plan (TellsJudged (ground_of d p) (initial_of d p)) (λ ss ns has.
      let v = verdicts_decided (length (ground_of d p).atoms) (ground_of d p) (initial_of d p) ns (formulas_speak_of_ground_atoms d p) refl own (found_numbers_are_actions (ground_of d p) ss ns has.known) in
      (tells (ground_of d p) (length ns) v.0, record { judged = v.0; answers = v.1; told = refl }))

  -- ---- a lift

  pub of_actions : (table : TagTable) (ns : List ℕ) → list_all (λ n. nat_lt n (length (ground_of d p).actions)) ns ≡ true → (o : Outcome) × LiftsActions (ground_of d p) table ns o
  of_actions table ns inside = elim (lists_lift_or_fail (ground_of d p) table ns (there (ground_of d p) ns inside)) [
    | inl accepted ↦
        let named = lifted_steps_have_names (ground_of d p) table ns inside in
        (prints (plan_text named.0), lifts named.0 (record { steps_are = named.1; accepted = accepted }) refl)
    | inr f ↦ (denies (unlifted_text (ground_of d p).atoms (failing_step (length ns) f.0) f.1), fails f.0 f.1 f.2 refl)
  ]

  pub of_plan_lifted : (plan : List ℕ) (table : TagTable) → (o : Outcome) × LiftsPlan (ground_of d p) plan table o
  of_plan_lifted plan table = by_task_some_outcome (ground_of d p) table (ComesByPlan (ground_of d p) plan (LiftsActions (ground_of d p) table)) (λ fits.
      by_plan_some_outcome (ground_of d p) plan (LiftsActions (ground_of d p) table) (λ ss ns has. of_actions table ns (found_numbers_are_actions (ground_of d p) ss ns has.known)))

  pub of_lift : (c : Asked) (merges : List (List ℕ)) (plan : List ℕ) → length merges ≡ length (if_named c.merges) → (o : Outcome) × LiftsTrees c merges plan d p o
  of_lift c merges plan many = by_table_some_outcome (ground_of d p) (initial_of d p) (source_of c) merges (LiftsPlan (ground_of d p) plan) proper (by_source c merges many) (λ t has. of_plan_lifted plan t)

  -- ---- a search

  pub of_search : (c : Asked) (merges : List (List ℕ)) (table : TagTable) → HasTable (ground_of d p) (initial_of d p) (source_of c) merges table → (o : Outcome) × SolvesGround c.classical c.budget (ground_of d p) (initial_of d p) table o
  of_search c merges table has = by_task_some_outcome (ground_of d p) table (Searches (task_of (ground_of d p) table) c.budget (TellsSolved c.classical (ground_of d p) (initial_of d p) table)) (λ fits.
      let for = table_of_source_is_for_trees d p (source_of c) merges table ready.started.small fits has in
      some_search c.classical c.budget (ground_of d p) (initial_of d p) table proper (task_of_trees_fits d p table ready.started.small fits (tables_can_be_written x y (problem_of_trees x y d p trees) table for)))

  pub of_solve : (c : Asked) (merges : List (List ℕ)) → length merges ≡ length (if_named c.merges) → (o : Outcome) × SolvesTrees c merges d p o
  of_solve c merges many = by_table_some_outcome (ground_of d p) (initial_of d p) (source_of c) merges (SolvesGround c.classical c.budget (ground_of d p) (initial_of d p)) proper (by_source c merges many) (λ t has. of_search c merges t has)

  -- ---- a width

  pub of_width : (c : Asked) → (o : Outcome) × WidthTrees c d p o
  of_width c = elim (widths_decided usual c.bound (ground_of d p) (initial_of d p) proper) [
    | inl r ↦ (tells_width (ground_of d p) c.bound r.0, with_report r.0 r.1 refl)
    | inr r ↦ (refuses (named_in (ground_of d p)) r.0, no_report r.0 r.1 refl)
  ]

  -- ---- a run on a generated problem

  pub of_bench_table : (c : Asked) (table : TagTable) → HasTable (ground_of d p) (initial_of d p) (of_mode c.mode) [] table → (o : Outcome) × BenchesGround c (ground_of d p) (initial_of d p) table o
  of_bench_table c table has = by_task_some_outcome (ground_of d p) table (Searches (task_of (ground_of d p) table) c.budget (TellsBench c (ground_of d p) (initial_of d p) table)) (λ fits.
      let for = table_of_source_is_for_trees d p (of_mode c.mode) [] table ready.started.small fits has in
      let writable = tables_can_be_written x y (problem_of_trees x y d p trees) table for in
      some_bench c (ground_of d p) (initial_of d p) table proper (task_of_trees_fits d p table ready.started.small fits writable) (record { writable = writable; right = for.right; valid = for.valid; never_clashes = never_clashes (ground_of d p) (initial_of d p) ready.clash_free }))

  pub of_bench : (c : Asked) → (o : Outcome) × BenchesTrees c d p o
  of_bench c = by_table_some_outcome (ground_of d p) (initial_of d p) (of_mode c.mode) [] (BenchesGround c (ground_of d p) (initial_of d p)) proper refl (λ t has. of_bench_table c t has)

-- ---- a plan file

-- steps have a strip, or a first one is no operator's
pub strips_or_first : (steps : List PlanStep) → ((actions : List GroundName) × (strip (step_names steps) ≡ Some actions)) ⊎ ((step : PlanStep) × IsFirstUnstripped steps step)
strips_or_first [] = inl ([], refl)
strips_or_first (s ∷ ss) = go (stripped s.name.head s.name.objects) refl (strips_or_first ss)
  where
    joined : (front rest : List GroundName) (ns : List GroundName) → stripped s.name.head s.name.objects ≡ Some front → strip ns ≡ Some rest → strip (s.name ∷ ns) ≡ Some (front ++ rest)
    joined front rest ns e f = ap (option_and_then (λ front. option_map (λ rest. front ++ rest) (strip ns))) e ∙ ap (option_map (λ rest. front ++ rest)) f

    some_joined : (front : List GroundName) (before : List PlanStep) → stripped s.name.head s.name.objects ≡ Some front → IsSome (strip (step_names before)) → IsSome (strip (step_names (s ∷ before)))
    some_joined front before e some = by (strip (step_names before)) refl some
      where
        by : (o : Option (List GroundName)) → strip (step_names before) ≡ o → IsSome o → IsSome (strip (step_names (s ∷ before)))
        by (Some rest) f t = subst IsSome (sym (joined front rest (step_names before) e f)) refl
        by None f t = absurd (false≢true t)

    go : (o : Option (List GroundName)) → stripped s.name.head s.name.objects ≡ o → ((actions : List GroundName) × (strip (step_names ss) ≡ Some actions)) ⊎ ((step : PlanStep) × IsFirstUnstripped ss step)
        → ((actions : List GroundName) × (strip (step_names (s ∷ ss)) ≡ Some actions)) ⊎ ((step : PlanStep) × IsFirstUnstripped (s ∷ ss) step)
    go None e rest = inr (s, record { before = []; after = ss; is = refl; stripped_before = refl; not_stripped = e })
    go (Some front) e (inl rest) = inl (front ++ rest.0, joined front rest.0 (step_names ss) e rest.1)
    go (Some front) e (inr first) = inr (
      first.0,
      record {
        before = s ∷ first.1.before;
        after = first.1.after;
        is = ap (λ (xs : List PlanStep). s ∷ xs) first.1.is;
        stripped_before = some_joined front first.1.before e first.1.stripped_before;
        not_stripped = first.1.not_stripped;
      },
    )

pub of_plan : (text : List ℕ) → (o : Outcome) × StripsText text o
of_plan text = elim (cases_lt most_bytes (length text)) [
  | inl long ↦ (refuses nothing (refusals.TooLong parts.Plan), too_long long refl)
  | inr short ↦ elim (plans_always_one text) [
    | inr r ↦ (refuses nothing r.0, no_plan r.0 short r.1 refl)
    | inl steps ↦ elim (strips_or_first steps.0) [
      | inl actions ↦ (prints (plan_text actions.0), strips steps.0 actions.0 short steps.1 actions.1 refl)
      | inr first ↦ (refuses nothing (refusals.PlanSyntax first.0.place), no_strip steps.0 first.0 short steps.1 first.1 refl)
    ]
  ]
]
