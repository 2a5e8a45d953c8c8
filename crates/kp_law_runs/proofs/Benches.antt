-- What a run of `bench` ends with, and what that says of its generated problem.
use Rattle.std.proofs.Common.{◌≡◌, ℕ, false, List, [], Option, Some, Vec, length, refl, sym, ap, ◌∙◌, subst}
use Rattle.std.specs.declared.alloc.Global.{Global}
use Rattle.kp_base.specs.declared.ground.Ground.{Ground}
use Rattle.kp_base.specs.declared.ground.Initial.{Initial}
use Rattle.kp_base.specs.declared.ground.TagTable.{TagTable}
use Rattle.kp_base.specs.declared.refused.Refused.{Refused}
use Rattle.kp_base.specs.Covering.{AreUncovered}
use Rattle.kp_base.specs.Machine.{stripped}
use Rattle.kp_tree_grammar.specs.declared.tree.Word.{Word}
use Rattle.kp_tree_grammar.specs.Trees.{Domain, Problem}
use Rattle.kp_names_semantics.specs.Steps.{Step}
use Rattle.kp_names_semantics.specs.Plans.{HasProblem}
use Rattle.kp_classic.specs.declared.task.Task.{Task}
use Rattle.kp_classic.specs.Fits.{IsFit}
use Rattle.kp_classic.specs.Steps.{start, succeeds}
use Rattle.kp_cover.proofs.Public.{none_uncovered_if_complete}
use Rattle.kp_law_decidable.specs.Laws.{AreProper}
use Rattle.kp_law_decidable.proofs.Public.{complete_with_none}
use Rattle.kp_search.specs.declared.found.Found.{Found}
use Rattle.kp_search.specs.declared.found.Found.TheVariants.{Plan, NoPlan, Spent}
use Rattle.kp_law_ktask.specs.Task.{task_of}
use Rattle.kp_base.specs.ActionNames.{action_name}
use Rattle.kp_law_ktask.specs.Writable.{IsWritableTask}
use Rattle.kp_law_ktask.proofs.Public.{tagged_plans_are_accepted}
use Rattle.kp_law_translation.specs.OfTrees.{ground_of, initial_of}
use Rattle.kp_law_translation.specs.Tables.{IsTableFor}
use Rattle.kp_law_translation.proofs.Public.{initial_states_are_models, tables_can_be_written, plans_lift}
use Rattle.kp_run_messages.specs.Refusals.{nothing}
use Rattle.kp_run_messages.specs.Searches.{no_plan_text}
use Rattle.kp_outside.specs.Outside.{FileMap}
use Rattle.kp_run_outcome.specs.declared.outcome.Outcome.{Outcome}
use Rattle.kp_run_outcome.specs.declared.status.Status.{Status}
use Rattle.kp_run_outcome.specs.declared.status.Status.TheVariants as status
use Rattle.kp_run_outcome.specs.Ends.{Outside, IsAnswer}
use Rattle.kp_run_outcome.specs.Printing.{prints, denies}
use Rattle.kp_words.specs.Asked.{of_mode, Asked}
use Rattle.kp_words.specs.Options.{usual_limit}
use Rattle.kp_words.specs.declared.verb.Verb.TheVariants as verbs
use Rattle.kp_words.specs.Command.{IsCall}
use Rattle.kp_run_prepare.specs.Prepared.{by_texts, by_trees, early, later}
use Rattle.kp_run_inputs.specs.SourceTables.{no_table, with_table}
use Rattle.kp_run_inputs.proofs.Public.{table_of_source_is_for_trees}
use Rattle.kp_run_solve.specs.Solving.{Finds, spends}
use Rattle.kp_run_solve.proofs.Public.{ends_are_true, no_plan_is_accepted, steps_named, actions_among_have_names, operator_names_are_steps, both_plans, task_of_trees_fits}
use Rattle.kp_run_solve.specs.Operators.{acts_among}
use Rattle.kp_run_bench.specs.Summary.{summary_text}
use Rattle.kp_run_bench.proofs.Public.{told_actions_are_those_among}
use Rattle.kp_run_inputs.specs.Tasks.{no_task, with_task}
use Rattle.kp_run_bench.specs.Bench.{texts_of, SumsUp, TellsBench, Benches}
use Rattle.kp_run.specs.Outcomes.{IsDue}
use Rattle.kp_run.specs.Ends.{Ends}
use Rattle.kp_run.specs.Solved.{Tells, its_ground, its_formula, its_task, IsWrittenPlan}
use Rattle.kp_run.proofs.Public.{due_makes, prepared_is_proper, no_plan_text_tells_complete, IsNoRefusal, not_refused, due_by}
use Rattle.kp_run_prepare.proofs.Public.{problem_of_trees}
use Rattle.kp_law_runs.specs.Follows.{IsAnsweredBy}
use Rattle.kp_law_runs.specs.Bench.{IsPosedBench, IsSolvedBench, HasNoBenchPlan, IsSpentBench, BenchesAreTrue, BenchesAreAnswered}
use Rattle.kp_law_runs.proofs.Following.{answers_are_whole, ends_with}
use Rattle.kp_law_runs.proofs.SomeOutcome.{as_many}

pub benches_are_answered : BenchesAreAnswered
benches_are_answered words old new s ends m c o held is does = ends_with words old new s ends m o held (due_by verbs.Bench c (record { domain = []; problem = []; merges = []; plan = []; written = [] }) o is (record { domain = refl; problem = refl; merges = refl; plan = refl; written = refl }) does)

-- ---- what such a run came to

-- what it was about, and what its search found
record HasBenched (c : Asked) (o : Outcome) : Type 0 where
  posed : IsPosedBench c
  found : Found
  finds : Finds (its_task posed.about) c.budget found
  tells : TellsBench c (its_ground posed.about) (its_formula posed.about) posed.about.table found o

of_texts : (c : Asked) (o : Outcome) → IsNoRefusal o → Benches c o → HasBenched c o
of_texts c o answers (early (by_texts r why is)) = absurd (not_refused o nothing r is answers)
of_texts c o answers (early (by_trees d p names r trees why is)) = absurd (not_refused o names r is answers)
of_texts c o answers (later d p trees ready (no_table names r why is)) = absurd (not_refused o names r is answers)
of_texts c o answers (later d p trees ready (with_table table has (no_task r why is))) = absurd (not_refused o nothing r is answers)
of_texts c o answers (later d p trees ready (with_table table has (with_task fits s))) = record {
  posed = record { about = record { domain_tree = d; problem_tree = p; table = table }; trees = trees; prepared = ready; has_table = has; fits = fits };
  found = s.found;
  finds = s.finds;
  tells = s.tells;
}

has_benched : (words : List (Vec ℕ Global)) (held : Option FileMap) (c : Asked) (o : Outcome) → IsCall verbs.Bench words c → IsDue words held o → IsNoRefusal o → HasBenched c o
has_benched words held c o is due answers = let it = due_makes words held verbs.Bench c o is due in of_texts c o answers it.makes

-- ---- what its answer says

module _ (c : Asked) (o : Outcome) (x : HasBenched c o) (old new : Outside) (s : Status) (a : IsAnsweredBy o old new s) where
  abbrev d : Domain Word
  d = x.posed.about.domain_tree

  abbrev p : Problem Word
  p = x.posed.about.problem_tree

  abbrev table : TagTable
  table = x.posed.about.table

  abbrev ground : Ground
  ground = ground_of d p

  abbrev formula : Initial
  formula = initial_of d p

  abbrev task : Task
  task = task_of ground table

  abbrev problem : HasProblem (texts_of c).domain (texts_of c).problem
  problem = problem_of_trees (texts_of c).domain (texts_of c).problem d p x.posed.trees

  for : IsTableFor d p table
  for = table_of_source_is_for_trees d p (of_mode c.mode) [] table x.posed.prepared.started.small x.posed.fits x.posed.has_table

  writable : IsWritableTask ground table
  writable = tables_can_be_written (texts_of c).domain (texts_of c).problem problem table for

  fit : IsFit task
  fit = task_of_trees_fits d p table x.posed.prepared.started.small x.posed.fits writable

  fine : AreProper ground formula
  fine = prepared_is_proper usual_limit d p x.posed.trees.no_fault x.posed.prepared

  -- the machine accepts nothing that the search doesn't find, so what is written has no plan
  none_written : ((ops : List ℕ) → succeeds task (start task) ops ≡ false) → (steps : List Step) → IsWrittenPlan x.posed.about steps → ⊥
  none_written none steps plan = let found = (tagged_plans_are_accepted ground table writable steps).0 plan in no_plan_is_accepted ground table writable none steps found.0 found.1

  -- the actions among the operators are those that were checked
  same : (ops : List ℕ) (n : ℕ) (sums : SumsUp c ground formula table ops n o) → acts_among (length ground.actions) ops ≡ stripped sums.machine
  same ops n sums = sym (told_actions_are_those_among c ground formula table ops n o ((initial_states_are_models d p x.posed.trees.no_fault).0 x.posed.prepared.started.initial) sums)

  answered : (u : Outcome) → o ≡ u → IsAnsweredBy u old new s
  answered u is = subst (λ z. IsAnsweredBy z old new s) is a

  is_solved : s ≡ status.Done → IsSolvedBench c old new
  is_solved done = by x.found x.finds x.tells
    where
      by : (found : Found) → Finds task c.budget found → TellsBench c ground formula table found o → IsSolvedBench c old new
      by (Plan ops n) finds sums =
          let actions = stripped sums.machine in
          let b = answered (prints (summary_text c ground table sums.uncovered (length actions) n)) sums.told in
          let ends = ends_are_true task c.budget (Plan ops n) fit finds in
          let steps = steps_named ground table ops ends.0 in
          let acts = actions_among_have_names ground ops in
          let named = operator_names_are_steps ground table ops steps.0 acts.0 ends.0 steps.1 acts.1 in
          let both = both_plans (texts_of c).domain (texts_of c).problem problem table for x.posed.prepared.clash_free ops steps.0 acts.0 named ends.1 in
          let many = as_many ℕ Step (Option Step) (action_name ground) Some (acts_among (length ground.actions) ops) acts.0 acts.1 ∙ ap length (same ops n sums) in
          record {
            posed = x.posed;
            ops = ops;
            expanded = n;
            ended = finds;
            written = steps.0;
            plan = acts.0;
            named = named;
            is_written = both.is_written;
            strips = both.strips;
            is_plan = both.is_plan;
            uncovered = sums.uncovered;
            are_uncovered = sums.are_uncovered;
            complete = (λ none. complete_with_none ground formula table fine (subst (AreUncovered ground formula table) none sums.are_uncovered), λ whole. none_uncovered_if_complete ground formula table sums.uncovered sums.are_uncovered whole);
            told = subst (λ k. Tells old new (summary_text c ground table sums.uncovered k n)) (sym many) b.text_is;
            put = b.puts_are;
          }
      by NoPlan finds (ls, are, is) = absurd (let b = answered (denies (no_plan_text ls)) is in let not_done = sym b.status_is ∙ done in cc)
      by (Spent n) finds is = absurd (let b = answered (spends n) is in let not_done = sym b.status_is ∙ done in cc)

  has_none : s ≡ status.Negative → HasNoBenchPlan c old new
  has_none negative = by x.found x.finds x.tells
    where
      by : (found : Found) → Finds task c.budget found → TellsBench c ground formula table found o → HasNoBenchPlan c old new
      by (Plan ops n) finds sums = absurd (let b = answered (prints (summary_text c ground table sums.uncovered (length (stripped sums.machine)) n)) sums.told in let not_no = sym b.status_is ∙ negative in cc)
      by NoPlan finds (ls, are, is) =
          let b = answered (denies (no_plan_text ls)) is in
          let none = ends_are_true task c.budget NoPlan fit finds in
          let exact = no_plan_text_tells_complete ground formula table ls fine are in
          record {
            posed = x.posed;
            uncovered = ls;
            are_uncovered = are;
            none_written = none_written none;
            complete = exact;
            none_of_texts = λ printed steps plan.
                let lifts = plans_lift (texts_of c).domain (texts_of c).problem problem table x.posed.prepared.started.initial fine.own_atoms for (exact.0 printed) steps plan in
                no_plan_is_accepted ground table writable none lifts.steps _ lifts.accepted;
            told = b.text_is;
            put = b.puts_are;
          }
      by (Spent n) finds is = absurd (let b = answered (spends n) is in let not_no = sym b.status_is ∙ negative in cc)

  is_spent : s ≡ status.Spent → IsSpentBench c old new
  is_spent spent = by x.found x.finds x.tells
    where
      by : (found : Found) → Finds task c.budget found → TellsBench c ground formula table found o → IsSpentBench c old new
      by (Plan ops n) finds sums = absurd (let b = answered (prints (summary_text c ground table sums.uncovered (length (stripped sums.machine)) n)) sums.told in let not_spent = sym b.status_is ∙ spent in cc)
      by NoPlan finds (ls, are, is) = absurd (let b = answered (denies (no_plan_text ls)) is in let not_spent = sym b.status_is ∙ spent in cc)
      by (Spent n) finds is =
          let b = subst (λ k. IsAnsweredBy (spends k) old new s) finds.expanded_are (answered (spends n) is) in
          record { posed = x.posed; ended = subst (λ k. Finds task c.budget (Spent k)) finds.expanded_are finds; more = ends_are_true task c.budget (Spent n) fit finds; told = b.text_is; put = b.puts_are }

-- ---- what it says of a run

-- it came to an answer that is no refusal
of_answer : (words : List (Vec ℕ Global)) (old new : Outside) (s : Status) → Ends words old new s → (c : Asked) → IsCall verbs.Bench words c → IsAnswer s → ((r : Refused) → s ≡ status.Refused r → ⊥) → (o : Outcome) × HasBenched c o × IsAnsweredBy o old new s
of_answer words old new s ends c is answer other =
    let w = answers_are_whole words old new s ends answer in
    (w.outcome, has_benched words old.held c w.outcome is w.due (λ r e. other r (w.answered.status_is ∙ e)), w.answered)

pub benches_are_true : BenchesAreTrue
benches_are_true words old new s ends c is = record {
  done = λ done. let x = of_answer words old new s ends c is (subst IsAnswer (sym done) tt) (λ r e. absurd (let f = sym done ∙ e in cc)) in is_solved c x.0 x.1 old new s x.2 done;
  negative = λ negative. let x = of_answer words old new s ends c is (subst IsAnswer (sym negative) tt) (λ r e. absurd (let f = sym negative ∙ e in cc)) in has_none c x.0 x.1 old new s x.2 negative;
  spent = λ spent. let x = of_answer words old new s ends c is (subst IsAnswer (sym spent) tt) (λ r e. absurd (let f = sym spent ∙ e in cc)) in is_spent c x.0 x.1 old new s x.2 spent;
}
