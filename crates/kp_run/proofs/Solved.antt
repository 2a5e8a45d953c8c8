-- What an answer to `solve` says of its files.
use Rattle.std.proofs.Common.{◌≡◌, ◌↔◌, ◌++◌, ℕ, false, codes, drop, List, [], ◌∷◌, Option, Some, None, Vec, length, refl, sym, ap, ◌∙◌, subst, arith}
use Rattle.std.specs.FinMap.{get}
use Rattle.std.proofs.Math.Seq.{drop-append_seam}
use Rattle.std.proofs.lemmas.List.{length-append}
use Rattle.std.specs.declared.alloc.Global.{Global}
use Rattle.kp_base.specs.declared.lit.Lit.{Lit}
use Rattle.kp_base.specs.declared.ground.Ground.{Ground}
use Rattle.kp_base.specs.declared.ground.Initial.{Initial}
use Rattle.kp_base.specs.declared.ground.TagTable.{TagTable}
use Rattle.kp_base.specs.declared.refused.Refused.{Refused}
use Rattle.kp_base.specs.Covering.{AreUncovered, IsComplete}
use Rattle.kp_base.specs.Machine.{stripped as actions_of}
use Rattle.kp_tree_grammar.specs.declared.tree.Word.{Word}
use Rattle.kp_tree_grammar.specs.Trees.{Domain, Problem}
use Rattle.kp_names_semantics.specs.Steps.{Step}
use Rattle.kp_classic.specs.declared.task.Task.{Task}
use Rattle.kp_classic.specs.Fits.{IsFit}
use Rattle.kp_classic.specs.Steps.{start, succeeds}
use Rattle.kp_cover.proofs.Public.{none_uncovered_if_complete}
use Rattle.kp_law_decidable.specs.Laws.{AreProper}
use Rattle.kp_law_decidable.proofs.Public.{complete_with_none, formulas_are_ascending}
use Rattle.kp_search.specs.declared.found.Found.{Found}
use Rattle.kp_search.specs.declared.found.Found.TheVariants.{Plan, NoPlan, Spent}
use Rattle.kp_law_ktask.specs.Task.{task_of}
use Rattle.kp_law_ktask.specs.Writable.{IsWritableTask}
use Rattle.kp_law_ktask.proofs.Public.{tagged_plans_are_accepted}
use Rattle.kp_law_translation.specs.OfTrees.{ground_of, initial_of}
use Rattle.kp_law_translation.specs.Tables.{IsTableFor}
use Rattle.kp_law_translation.proofs.Public.{tables_can_be_written, formulas_speak_of_ground_atoms, initial_states_are_models, plans_lift}
use Rattle.kp_plans.specs.Printed.{plan_text}
use Rattle.kp_run_messages.specs.Refusals.{nothing}
use Rattle.kp_run_messages.specs.Searches.{no_plan_text}
use Rattle.kp_outside.specs.Outside.{FileMap}
use Rattle.kp_run_outcome.specs.declared.outcome.Outcome.{Outcome}
use Rattle.kp_run_outcome.specs.declared.status.Status.{Status}
use Rattle.kp_run_outcome.specs.declared.status.Status.TheVariants as status
use Rattle.kp_run_outcome.specs.Ends.{Outside, AreHeld, IsAnswer, with_files}
use Rattle.kp_run_outcome.specs.Printing.{denies}
use Rattle.kp_words.specs.Asked.{Asked, source_of}
use Rattle.kp_words.specs.declared.verb.Verb.TheVariants as verbs
use Rattle.kp_words.specs.Command.{IsCall, file_of, if_named}
use Rattle.kp_run_prepare.specs.Texts.{HaveTrees}
use Rattle.kp_run_prepare.specs.Prepared.{IsPrepared, by_texts, by_trees, early, later}
use Rattle.kp_run_inputs.specs.SourceTables.{HasTable, no_table, with_table}
use Rattle.kp_run_inputs.proofs.Public.{table_of_source_is_for_trees}
use Rattle.kp_run_inputs.specs.Tasks.{no_task, with_task}
use Rattle.kp_run_solve.specs.Solving.{Finds, solves, spends, TellsSolved, SolvesGround}
use Rattle.kp_run_solve.proofs.Public.{ends_are_true, no_plan_is_accepted, both_plans, task_of_trees_fits as task_fits, action_lines_read as actions_read, machine_lines_read as steps_read}
use Rattle.kp_run.specs.Solve.{SolvesTexts}
use Rattle.kp_run.specs.Outcomes.{IsDue}
use Rattle.kp_run.specs.Completeness.{PrintsComplete}
use Rattle.kp_run.specs.Ends.{Ends}
use Rattle.kp_run_prepare.proofs.Public.{problem_of_trees, usual_ground_is_of_its_atoms}
use Rattle.kp_names_semantics.specs.Faults.{HasNoFault}
use Rattle.kp_names_semantics.specs.Numbering.{numbered_problem}
use Rattle.kp_run.specs.Solved.{GoesOn, IsPosed, its_ground, its_formula, its_task, IsWrittenPlan, with_named, IsSolved, HasNoPlan, IsSpent, SolveIsTrue}
use Rattle.kp_run.proofs.Reading.{content_held, merges_held}
use Rattle.kp_run.proofs.Comes.{due_makes}
use Rattle.kp_run.proofs.Whole.{IsCarriedOut, did, IsNoRefusal, not_refused}

-- ---- the problem

-- the ground problem of two trees with which a command goes on, and its initial formula, are in order
pub proper : (limit : ℕ) (d : Domain Word) (p : Problem Word) → HasNoFault d p → IsPrepared limit d p → AreProper (ground_of d p) (initial_of d p)
proper limit d p no_fault ready = record { own_atoms = usual_ground_is_of_its_atoms (numbered_problem d p) (ground_of d p) ready.started.small; over = formulas_speak_of_ground_atoms d p; ascending = formulas_are_ascending (numbered_problem d p); model = (initial_states_are_models d p no_fault).0 ready.started.initial }

-- ---- whether the table is complete

-- a text whose last line isn't `complete`
not_so : PrintsComplete (codes "no plan\nincomplete\n") → ⊥
not_so p =
    let size = length-append p.front (codes "\ncomplete\n") in
    let whole = ap length p.are in
    let nine : length p.front ≡ 9 = omega (arith, size, whole) in
    let rest : codes "ncomplete\n" ≡ codes "\ncomplete\n" = ap (drop 9) p.are ∙ (ap (λ n. drop n (p.front ++ codes "\ncomplete\n")) (sym nine) ∙ drop-append_seam p.front (codes "\ncomplete\n")) in
    absurd cc

pub complete_text : (g : Ground) (i : Initial) (table : TagTable) (ls : List Lit) → AreProper g i → AreUncovered g i table ls → PrintsComplete (no_plan_text ls) ↔ IsComplete g i table
complete_text g i table [] proper are = ((λ printed. complete_with_none g i table proper are), (λ whole. record { front = codes "no plan"; are = refl }))
complete_text g i table (l ∷ ls) proper are = ((λ printed. absurd (not_so printed)), (λ whole. absurd (let none = none_uncovered_if_complete g i table (l ∷ ls) are whole in cc)))

-- ---- what such a run came to

-- what it was about, and what its search found
record HasSearched (m : FileMap) (c : Asked) (o : Outcome) : Type 0 where
  posed : IsPosed m c
  found : Found
  finds : Finds (its_task posed.about) c.budget found
  tells : TellsSolved c.classical (its_ground posed.about) (its_formula posed.about) posed.about.table found o

module _ (m : FileMap) (c : Asked) (domain problem : List ℕ) (merges : List (List ℕ)) (domain_held : get m c.domain ≡ Some domain) (problem_held : get m c.problem ≡ Some problem)
    (held : AreHeld (Some m) (if_named (file_of (source_of c))) merges) (o : Outcome) (answers : IsNoRefusal o) where
  of_ground : (d : Domain Word) (p : Problem Word) (table : TagTable) → HaveTrees domain problem d p → IsPrepared c.implicates d p → HasTable (ground_of d p) (initial_of d p) (source_of c) merges table → SolvesGround c.classical c.budget (ground_of d p) (initial_of d p) table o → HasSearched m c o
  of_ground d p table trees ready has (no_task r why is) = absurd (not_refused o nothing r is answers)
  of_ground d p table trees ready has (with_task fits s) = record {
    posed = record {
      about = record { domain_tree = d; problem_tree = p; table = table };
      given = record { domain = domain; problem = problem; domain_held = domain_held; problem_held = problem_held; trees = trees; prepared = ready };
      has_task = record { merges = merges; held = held; has_table = has; fits = fits };
    };
    found = s.found;
    finds = s.finds;
    tells = s.tells;
  }

  of_texts : SolvesTexts c domain problem merges o → HasSearched m c o
  of_texts (early (by_texts r why is)) = absurd (not_refused o nothing r is answers)
  of_texts (early (by_trees d p names r trees why is)) = absurd (not_refused o names r is answers)
  of_texts (later d p trees ready (no_table names r why is)) = absurd (not_refused o names r is answers)
  of_texts (later d p trees ready (with_table table has goes)) = of_ground d p table trees ready has goes

has_searched : (words : List (Vec ℕ Global)) (m : FileMap) (c : Asked) (o : Outcome) → IsCall verbs.Solve words c → IsDue words (Some m) o → IsNoRefusal o → HasSearched m c o
has_searched words m c o is due answers =
    let it = due_makes words (Some m) verbs.Solve c o is due in
    of_texts m c it.contents.domain it.contents.problem it.contents.merges (content_held m c.domain _ it.are.domain) (content_held m c.problem _ it.are.problem) (merges_held (Some m) c _ it.are.merges) o answers it.makes

-- ---- what its answer says

-- the file that is put, if one is
named_put : (held : Option FileMap) (name : Option (List ℕ)) (written plan : List Step) → with_files held (solves name written plan).puts ≡ with_named held name (plan_text written)
named_put held None written plan = refl
named_put held (Some name) written plan = refl

module _ (m : FileMap) (c : Asked) (o : Outcome) (x : HasSearched m c o) (old new : Outside) (s : Status) (a : IsCarriedOut o old new s) where
  abbrev d : Domain Word
  d = x.posed.about.domain_tree

  abbrev p : Problem Word
  p = x.posed.about.problem_tree

  abbrev table : TagTable
  table = x.posed.about.table

  abbrev ground : Ground
  ground = ground_of d p

  abbrev formula : Initial
  formula = initial_of d p

  abbrev task : Task
  task = task_of ground table

  abbrev g : GoesOn m c.domain c.problem c.implicates d p
  g = x.posed.given

  for : IsTableFor d p table
  for = table_of_source_is_for_trees d p (source_of c) x.posed.has_task.merges table g.prepared.started.small x.posed.has_task.fits x.posed.has_task.has_table

  writable : IsWritableTask ground table
  writable = tables_can_be_written g.domain g.problem (problem_of_trees g.domain g.problem d p g.trees) table for

  fit : IsFit task
  fit = task_fits d p table g.prepared.started.small x.posed.has_task.fits writable

  -- the machine accepts nothing that the search doesn't find, so what is written has no plan
  none_written : ((ops : List ℕ) → succeeds task (start task) ops ≡ false) → (steps : List Step) → IsWrittenPlan x.posed.about steps → ⊥
  none_written none steps plan = let found = (tagged_plans_are_accepted ground table writable steps).0 plan in no_plan_is_accepted ground table writable none steps found.0 found.1

  answered : (u : Outcome) → o ≡ u → IsCarriedOut u old new s
  answered u is = subst (λ z. IsCarriedOut z old new s) is a

  is_solved : s ≡ status.Done → IsSolved m c old new
  is_solved done = by x.found x.finds x.tells
    where
      by : (found : Found) → Finds task c.budget found → TellsSolved c.classical ground formula table found o → IsSolved m c old new
      by (Plan ops n) finds (written, plan, named, is) =
          let b = answered (solves c.classical written plan) is in
          let both = both_plans g.domain g.problem (problem_of_trees g.domain g.problem d p g.trees) table for g.prepared.clash_free ops written plan named (ends_are_true task c.budget (Plan ops n) fit finds).1 in
          record { posed = x.posed; plan = plan; written = written; is_plan = both.is_plan; is_written = both.is_written; strips = both.strips; told = b.text_is; told_reads = actions_read ground writable.ground (actions_of named.machine) plan named.actions_are; put = b.puts_are ∙ named_put old.held c.classical written plan; put_reads = steps_read ground table writable named.machine written named.steps_are }
      by NoPlan finds (ls, are, is) = absurd (let b = answered (denies (no_plan_text ls)) is in let not_done = sym b.status_is ∙ done in cc)
      by (Spent n) finds is = absurd (let b = answered (spends n) is in let not_done = sym b.status_is ∙ done in cc)

  has_none : s ≡ status.Negative → HasNoPlan m c old new
  has_none negative = by x.found x.finds x.tells
    where
      by : (found : Found) → Finds task c.budget found → TellsSolved c.classical ground formula table found o → HasNoPlan m c old new
      by (Plan ops n) finds (written, plan, named, is) = absurd (let b = answered (solves c.classical written plan) is in let not_no = sym b.status_is ∙ negative in cc)
      by NoPlan finds (ls, are, is) =
          let b = answered (denies (no_plan_text ls)) is in
          let none = ends_are_true task c.budget NoPlan fit finds in
          let fine = proper c.implicates d p g.trees.no_fault g.prepared in
          let exact = complete_text ground formula table ls fine are in
          record {
            posed = x.posed;
            uncovered = ls;
            are_uncovered = are;
            none_written = none_written none;
            complete = exact;
            none_given = λ printed steps plan.
                let lifts = plans_lift g.domain g.problem (problem_of_trees g.domain g.problem d p g.trees) table g.prepared.started.initial fine.own_atoms for (exact.0 printed) steps plan in
                no_plan_is_accepted ground table writable none lifts.steps _ lifts.accepted;
            told = b.text_is;
            put = b.puts_are;
          }
      by (Spent n) finds is = absurd (let b = answered (spends n) is in let not_no = sym b.status_is ∙ negative in cc)

  is_spent : s ≡ status.Spent → IsSpent m c old new
  is_spent spent = by x.found x.finds x.tells
    where
      by : (found : Found) → Finds task c.budget found → TellsSolved c.classical ground formula table found o → IsSpent m c old new
      by (Plan ops n) finds (written, plan, named, is) = absurd (let b = answered (solves c.classical written plan) is in let not_spent = sym b.status_is ∙ spent in cc)
      by NoPlan finds (ls, are, is) = absurd (let b = answered (denies (no_plan_text ls)) is in let not_spent = sym b.status_is ∙ spent in cc)
      by (Spent n) finds is =
          let b = subst (λ k. IsCarriedOut (spends k) old new s) finds.expanded_are (answered (spends n) is) in
          record { posed = x.posed; ended = subst (λ k. Finds task c.budget (Spent k)) finds.expanded_are finds; more = ends_are_true task c.budget (Spent n) fit finds; told = b.text_is; put = b.puts_are }

-- ---- what it says of a run

-- it came to an answer that is no refusal
of_answer : (words : List (Vec ℕ Global)) (old new : Outside) (s : Status) → Ends words old new s → (m : FileMap) (c : Asked) → old.held ≡ Some m → IsCall verbs.Solve words c → IsAnswer s → ((r : Refused) → s ≡ status.Refused r → ⊥) → (o : Outcome) × HasSearched m c o × IsCarriedOut o old new s
of_answer words old new s ends m c held is answer other =
    let w = did words old new s ends m held answer in
    (w.outcome, has_searched words m c w.outcome is w.due (λ r e. other r (w.carried_out.status_is ∙ e)), w.carried_out)

pub solve_true : (words : List (Vec ℕ Global)) (old new : Outside) (s : Status) → Ends words old new s → (m : FileMap) (c : Asked) → old.held ≡ Some m → IsCall verbs.Solve words c → SolveIsTrue m c old new s
solve_true words old new s ends m c held is = record {
  done = λ done. let x = of_answer words old new s ends m c held is (subst IsAnswer (sym done) tt) (λ r e. absurd (let f = sym done ∙ e in cc)) in is_solved m c x.0 x.1 old new s x.2 done;
  negative = λ negative. let x = of_answer words old new s ends m c held is (subst IsAnswer (sym negative) tt) (λ r e. absurd (let f = sym negative ∙ e in cc)) in has_none m c x.0 x.1 old new s x.2 negative;
  spent = λ spent. let x = of_answer words old new s ends m c held is (subst IsAnswer (sym spent) tt) (λ r e. absurd (let f = sym spent ∙ e in cc)) in is_spent m c x.0 x.1 old new s x.2 spent;
}
