-- How a command goes on, or ends early, from what the code finds.
use Rattle.std.proofs.Common.{ℕ, List, Result, Ok, Err, IfOk, sym, subst}
use Rattle.kp_base.specs.declared.memory.Memory.{Memory}
use Rattle.kp_base.specs.declared.ground.Ground.{Ground}
use Rattle.kp_base.specs.declared.ground.Initial.{Initial}
use Rattle.kp_base.specs.declared.ground.TagTable.{TagTable}
use Rattle.kp_base.specs.declared.refused.Stop.{Stop}
use Rattle.kp_base.specs.declared.refused.Stop.TheVariants as causes
use Rattle.kp_base.specs.Entailed.{HaveSameModels}
use Rattle.kp_primes.specs.Held.{formula}
use Rattle.kp_law_ktask.specs.Task.{task_of}
use Rattle.kp_ktask.specs.Translated.{FitsLimits, StopsTask}
use Rattle.kp_law_translation.specs.OfTrees.{ground_of, initial_of}
use Rattle.kp_run_messages.specs.Refusals.{nothing}
use Rattle.kp_tree_grammar.specs.declared.tree.Word.{Word}
use Rattle.kp_tree_grammar.specs.Trees.{Domain, Problem}
use Rattle.kp_run_outcome.specs.declared.outcome.Outcome.{Outcome}
use Rattle.kp_words.specs.Asked.{Source}
use Rattle.kp_run_prepare.specs.declared.prepared.Prepared.{Prepared as Made}
use Rattle.kp_run_prepare.specs.declared.prepared.Early.{Early}
use Rattle.kp_run_prepare.specs.declared.prepared.Early.TheVariants as halts
use Rattle.kp_run_prepare.specs.Refusing.{EndsBy}
use Rattle.kp_run_prepare.specs.Prepared.{usual, Comes, early, later, IsPreparedOf, AnswersPrepared}
use Rattle.kp_run_inputs.specs.Ending.{Settles}
use Rattle.kp_run_inputs.specs.declared.tabled.Tabled.{Tabled}
use Rattle.kp_run_inputs.specs.SourceTables.{ComesByTable, no_table, with_table, EndsAtTable, AnswersTable}
use Rattle.kp_run_inputs.specs.Tabled.{ground_in, formula_in, IsTabledOf, AnswersTabled}
use Rattle.kp_run_inputs.specs.Tasks.{ComesByTask, no_task, with_task, EndsByTask}
use Rattle.kp_run_inputs.specs.Actions.{ComesByPlan, no_actions, with_actions, AnswersActions}
use Rattle.kp_run_inputs.proofs.Ended.{answer_by}

-- ---- after the clash test

pub later_goes : (limit : ℕ) (x y : List ℕ) (P : Domain Word → Problem Word → Outcome → Type 0) (m : Made) (w : IsPreparedOf limit x y m) (r : Result Outcome Memory) → IfOk r (P w.first w.second) → IfOk r (Comes limit x y P)
later_goes limit x y P m w (Ok o) goes = later w.first w.second w.trees w.prepared goes
later_goes limit x y P m w (Err e) goes = tt

pub early_ends : (limit : ℕ) (x y : List ℕ) (P : Domain Word → Problem Word → Outcome → Type 0) (e : Early) (r : Result Outcome Memory) → AnswersPrepared limit x y (Err e) → Settles e r → IfOk r (Comes limit x y P)
early_ends limit x y P (halts.With o) r ends is = subst (λ z. IfOk z (Comes limit x y P)) (sym is) (early ends)
early_ends limit x y P halts.Memory (Ok o) ends is = absurd is
early_ends limit x y P halts.Memory (Err m) ends is = tt

-- ---- with a table

module _ (limit : ℕ) (x y : List ℕ) (source : Source) (merges : List (List ℕ)) where
  -- what is answered of what was prepared is answered of the trees
  by_trees : (m : Made) (w : IsPreparedOf limit x y m) (r : Result TagTable Early) → AnswersTable m.ground (formula m.primes) source merges r → AnswersTable (ground_of w.first w.second) (initial_of w.first w.second) source merges r
  by_trees m w r h = subst (λ g. AnswersTable g (initial_of w.first w.second) source merges r) w.ground (answer_by m.ground (formula m.primes) (initial_of w.first w.second) source merges r w.primes.same_models h)

  -- there is a table
  pub tabled : (t : Tabled) → IsPreparedOf limit x y t.related.prepared → AnswersTable (ground_in t) (formula_in t) source merges (Ok t.table) → IsTabledOf limit x y source merges t
  tabled t w h = record { prepared = w; has_table = by_trees t.related.prepared w (Ok t.table) h }

  -- there is none
  pub not_tabled : (m : Made) → IsPreparedOf limit x y m → (e : Early) → AnswersTable m.ground (formula m.primes) source merges (Err e) → AnswersTabled limit x y source merges (Err e)
  not_tabled m w (halts.With o) h = later w.first w.second w.trees w.prepared (by_trees m w (Err (halts.With o)) h)
  not_tabled m w halts.Memory h = tt

  -- it ended before
  pub not_prepared : (e : Early) → AnswersPrepared limit x y (Err e) → AnswersTabled limit x y source merges (Err e)
  not_prepared (halts.With o) h = early h
  not_prepared halts.Memory h = tt

  module _ (P : Ground → Initial → TagTable → Outcome → Type 0) where
    -- a command goes on so with the table
    abbrev ComesTabled : Outcome → Type 0
    ComesTabled o = Comes limit x y (λ d p. ComesByTable (ground_of d p) (initial_of d p) source merges (P (ground_of d p) (initial_of d p))) o

    pub tabled_goes : ((g : Ground) (i j : Initial) (table : TagTable) (o : Outcome) → HaveSameModels i j → P g i table o → P g j table o) → (t : Tabled) → IsTabledOf limit x y source merges t → (r : Result Outcome Memory) → IfOk r (P (ground_in t) (formula_in t) t.table) → IfOk r ComesTabled
    tabled_goes by_models t w (Ok o) h =
        let v = w.prepared in
        let i = initial_of v.first v.second in
        later v.first v.second v.trees v.prepared (with_table t.table w.has_table (subst (λ g. P g i t.table o) v.ground (by_models (ground_in t) (formula_in t) i t.table o v.primes.same_models h)))
    tabled_goes by_models t w (Err m) h = tt

    none_so : (o : Outcome) → Comes limit x y (λ d p. EndsAtTable (ground_of d p) (initial_of d p) source merges) o → ComesTabled o
    none_so o (early h) = early h
    none_so o (later d p trees ready h) = later d p trees ready (no_table h.names h.refused h.refuses_source h.outcome)

    pub tabled_ends : (e : Early) (r : Result Outcome Memory) → AnswersTabled limit x y source merges (Err e) → Settles e r → IfOk r ComesTabled
    tabled_ends (halts.With o) r ends is = subst (λ z. IfOk z ComesTabled) (sym is) (none_so o ends)
    tabled_ends halts.Memory (Ok o) ends is = absurd is
    tabled_ends halts.Memory (Err m) ends is = tt

-- ---- with the task

module _ (g : Ground) (table : TagTable) where
  pub task_stops : (stop : Stop) (e : Early) → StopsTask (task_of g table) usual stop → EndsBy nothing stop e → EndsByTask g table e
  task_stops (causes.Refused r) (halts.With o) why ends = record { refused = r; refuses_task = why; outcome = ends }
  task_stops causes.Memory (halts.With o) why ends = absurd ends
  task_stops stop halts.Memory why ends = tt

  module _ (P : Outcome → Type 0) where
    pub task_goes : (r : Result Outcome Memory) → FitsLimits (task_of g table) usual → IfOk r P → IfOk r (ComesByTask g table P)
    task_goes (Ok o) fits h = with_task fits h
    task_goes (Err m) fits h = tt

    pub task_ends : (e : Early) (r : Result Outcome Memory) → EndsByTask g table e → Settles e r → IfOk r (ComesByTask g table P)
    task_ends (halts.With o) r ends is = subst (λ z. IfOk z (ComesByTask g table P)) (sym is) (no_task ends.refused ends.refuses_task ends.outcome)
    task_ends halts.Memory (Ok o) ends is = absurd is
    task_ends halts.Memory (Err m) ends is = tt

-- ---- with the actions of a plan

module _ (g : Ground) (text : List ℕ) (P : List ℕ → Outcome → Type 0) where
  pub plan_goes : (ns : List ℕ) (r : Result Outcome Memory) → AnswersActions g text (Ok ns) → IfOk r (P ns) → IfOk r (ComesByPlan g text P)
  plan_goes ns (Ok o) has h = with_actions has.0 ns has.1 h
  plan_goes ns (Err m) has h = tt

  pub plan_ends : (e : Early) (r : Result Outcome Memory) → AnswersActions g text (Err e) → Settles e r → IfOk r (ComesByPlan g text P)
  plan_ends (halts.With o) r ends is = subst (λ z. IfOk z (ComesByPlan g text P)) (sym is) (no_actions ends.named ends.refused ends.refuses_actions ends.outcome)
  plan_ends halts.Memory (Ok o) ends is = absurd is
  plan_ends halts.Memory (Err m) ends is = tt
