-- What is answered, from what the code finds.
use Rattle.std.proofs.Common.{◌≡◌, ◌<◌, ◌≤◌, ℕ, true, nat_lt, List, [], ◌∷◌, Some, length, map, Result, Ok, Err, refl, sym, ap, subst, ◌∙◌}
use Rattle.std.specs.List.{list_all}
use Rattle.std.proofs.lemmas.Bool.{and_from, lt-ltb}
use Rattle.std.proofs.lemmas.List.{length-map}
use Rattle.kp_base.specs.declared.ground.Action.{Action}
use Rattle.kp_base.specs.declared.ground.Ground.{Ground}
use Rattle.kp_base.specs.declared.ground.Initial.{Initial}
use Rattle.kp_base.specs.declared.ground.TagTable.{TagTable}
use Rattle.kp_base.specs.declared.refused.Refused.{Refused}
use Rattle.kp_base.specs.declared.refused.Refused.TheVariants as refusals
use Rattle.kp_base.specs.declared.refused.Stop.TheVariants as causes
use Rattle.kp_base.specs.Entailed.{HaveSameModels}
use Rattle.kp_tags_files.specs.declared.merge.FileMerge.{FileMerge}
use Rattle.kp_tags_files.specs.MergesFiles.{IsMergesOf, AnswersMergesFile}
use Rattle.kp_plans.specs.declared.step.PlanStep.{PlanStep}
use Rattle.kp_plans.specs.PlanFiles.{step_names, IsPlanFile, AnswersPlan}
use Rattle.kp_plans.specs.Found.{action_names, action_of, AnswersSteps as AnswersFound}
use Rattle.kp_run_messages.specs.Refusals.{Nameable, nothing}
use Rattle.kp_base.specs.Files.{most_bytes}
use Rattle.kp_words.specs.Asked.{Source, of_mode, of_file}
use Rattle.kp_run_prepare.specs.declared.prepared.Early.{Early}
use Rattle.kp_run_prepare.specs.declared.prepared.Early.TheVariants as halts
use Rattle.kp_run_prepare.specs.Refusing.{named_in, EndsBy}
use Rattle.kp_run_prepare.specs.Prepared.{usual}
use Rattle.kp_base.specs.declared.limits.Mode.{Mode}
use Rattle.kp_base.specs.declared.refused.Stop.{Stop}
use Rattle.kp_tags.specs.Answers.{Accepts, RefusesTable, AnswersTable as AnswersAccepted}
use Rattle.kp_tags.specs.Made.{AnswersMade}
use Rattle.kp_outside.specs.declared.outside.Got.{Got}
use Rattle.kp_outside.specs.Outside.{IsFront}
use Rattle.kp_run_inputs.specs.declared.origin.Origin.TheVariants as origins
use Rattle.kp_run_inputs.specs.SourceTables.{IsOrigin, from_mode, from_file, by_file, of_its_mode, no_merges, bad_merges, RefusesSource, AnswersTable, AnswersMerges}
use Rattle.kp_run_inputs.specs.Actions.{named_with, RefusesActions, no_plan, unknown_step, AnswersActions, AnswersSteps}
use Rattle.kp_run_inputs.proofs.ByModels.{alike}
use Rattle.kp_run_inputs.proofs.FileMerges.{number_below}

-- ---- tables

-- a refusal ends a command
pub ends_at_table : (g : Ground) (i : Initial) (source : Source) (merges : List (List ℕ)) (names : Nameable) (r : Refused) → RefusesSource g i source merges names r → (e : Early) → EndsBy names (causes.Refused r) e → AnswersTable g i source merges (Err e)
ends_at_table g i source merges names r why (halts.With o) ends = record { names = names; refused = r; refuses_source = why; outcome = ends }
ends_at_table g i source merges names r why halts.Memory ends = tt

-- a mode has no table
pub no_mode_table : (g : Ground) (i : Initial) (mode : Mode) (stop : Stop) → AnswersMade mode usual g i (Err stop) → (e : Early) → EndsBy (named_in g) stop e → AnswersTable g i (of_mode mode) [] (Err e)
no_mode_table g i mode (causes.Refused r) why e ends = ends_at_table g i (of_mode mode) [] (named_in g) r (of_its_mode mode r why) e ends
no_mode_table g i mode causes.Memory why (halts.With o) ends = absurd ends
no_mode_table g i mode causes.Memory why halts.Memory ends = tt

-- merges are refused
pub ends_at_merges : (g : Ground) (atoms : ℕ) (i : Initial) (ms : List FileMerge) (stop : Stop) → AnswersAccepted atoms i ms usual.tags (Err stop) → (e : Early) → EndsBy (named_in g) stop e → AnswersMerges g atoms i ms (Err e)
ends_at_merges g atoms i ms (causes.Refused r) why (halts.With o) ends = (r, why, ends)
ends_at_merges g atoms i ms (causes.Refused r) why halts.Memory ends = tt
ends_at_merges g atoms i ms causes.Memory why (halts.With o) ends = absurd ends
ends_at_merges g atoms i ms causes.Memory why halts.Memory ends = tt

-- a text has no merges
pub no_file_table : (g : Ground) (i : Initial) (name text : List ℕ) (stop : Stop) → length text ≤ most_bytes → AnswersMergesFile g.atoms text (Err stop) → (e : Early) → EndsBy nothing stop e → AnswersTable g i (of_file name) (text ∷ []) (Err e)
no_file_table g i name text (causes.Refused r) short why e ends = ends_at_table g i (of_file name) (text ∷ []) nothing r (no_merges name text r short why) e ends
no_file_table g i name text causes.Memory short why (halts.With o) ends = absurd ends
no_file_table g i name text causes.Memory short why halts.Memory ends = tt

-- what is answered goes by the models
pub answer_by : (g : Ground) (i j : Initial) (source : Source) (merges : List (List ℕ)) (result : Result TagTable Early) → HaveSameModels i j → AnswersTable g i source merges result → AnswersTable g j source merges result
answer_by g i j source merges (Ok table) same h = (alike g i j source merges same).tables table h
answer_by g i j source merges (Err (halts.With o)) same h = record { names = h.names; refused = h.refused; refuses_source = (alike g i j source merges same).refusals h.names h.refused h.refuses_source; outcome = h.outcome }
answer_by g i j source merges (Err halts.Memory) same h = tt

-- merges that were read have a table, or are refused
pub of_merges : (g : Ground) (atoms : ℕ) (i : Initial) (name text : List ℕ) (ms : List FileMerge) (result : Result TagTable Early) → atoms ≡ length g.atoms → length text ≤ most_bytes → IsMergesOf g.atoms text ms → AnswersMerges g atoms i ms result → AnswersTable g i (of_file name) (text ∷ []) result
of_merges g atoms i name text ms (Ok table) many short read h = by_file name text ms table short read (subst (λ n. Accepts n i ms usual.tags table) many h)
of_merges g atoms i name text ms (Err (halts.With o)) many short read h = record { names = named_in g; refused = h.0; refuses_source = bad_merges name text ms h.0 short read (subst (λ n. RefusesTable n i ms usual.tags h.0) many h.1); outcome = h.2 }
of_merges g atoms i name text ms (Err halts.Memory) many short read h = tt

-- ---- actions

-- a refusal ends a command
pub ends_at_plan : (g : Ground) (text : List ℕ) (named : Nameable) (r : Refused) → RefusesActions g text named r → (e : Early) → EndsBy named (causes.Refused r) e → AnswersActions g text (Err e)
ends_at_plan g text named r why (halts.With o) ends = record { named = named; refused = r; refuses_actions = why; outcome = ends }
ends_at_plan g text named r why halts.Memory ends = tt

-- a text is no plan
pub no_plan_file : (g : Ground) (text : List ℕ) (stop : Stop) → length text ≤ most_bytes → AnswersPlan text (Err stop) → (e : Early) → EndsBy nothing stop e → AnswersActions g text (Err e)
no_plan_file g text (causes.Refused r) short why e ends = ends_at_plan g text nothing r (no_plan r short why) e ends
no_plan_file g text causes.Memory short why (halts.With o) ends = absurd ends
no_plan_file g text causes.Memory short why halts.Memory ends = tt

-- a step is refused
pub ends_at_step : (g : Ground) (steps : List PlanStep) (r : Refused) → AnswersFound (action_of g.actions) steps (Err (causes.Refused r)) → (e : Early) → EndsBy (named_with g (step_names steps)) (causes.Refused r) e → AnswersSteps g steps (Err e)
ends_at_step g steps (refusals.StepUnknown number) first (halts.With o) ends = (number, first, ends)
ends_at_step g steps (refusals.StepUnknown number) first halts.Memory ends = tt
ends_at_step g steps _ first e ends = absurd first

-- steps that were read name actions, or are refused
pub of_steps : (g : Ground) (text : List ℕ) (steps : List PlanStep) (result : Result (List ℕ) Early) → length text ≤ most_bytes → IsPlanFile text steps → AnswersSteps g steps result → AnswersActions g text result
of_steps g text steps (Ok ns) short read known = (steps, record { short = short; reads = read; known = known })
of_steps g text steps (Err (halts.With o)) short read h = record { named = named_with g (step_names steps); refused = refusals.StepUnknown h.0; refuses_actions = unknown_step steps h.0 short read h.1; outcome = h.2 }
of_steps g text steps (Err halts.Memory) short read h = tt

-- the numbers that steps are found at are those of actions
pub found_below : (g : Ground) (steps : List PlanStep) (ns : List ℕ) → map (action_of g.actions) steps ≡ map Some ns → list_all (λ m. nat_lt m (length g.actions)) ns ≡ true
found_below g [] [] e = refl
found_below g [] (n ∷ ns) e = absurd cc
found_below g (s ∷ steps) [] e = absurd cc
found_below g (s ∷ steps) (n ∷ ns) e =
    let here : action_of g.actions s ≡ Some n = cc in
    let there : map (action_of g.actions) steps ≡ map Some ns = cc in
    let below = number_below (action_names g.actions) s.name n here in
    and_from (nat_lt n (length g.actions)) (list_all (λ m. nat_lt m (length g.actions)) ns)
    (lt-ltb n (length g.actions) (subst (λ k. n < k) (length-map g.actions (λ (a : Action). a.name)) below)) (found_below g steps ns there)

pub as_many_numbers : (g : Ground) (steps : List PlanStep) (ns : List ℕ) → map (action_of g.actions) steps ≡ map Some ns → length ns ≡ length steps
as_many_numbers g steps ns e = sym (length-map ns Some) ∙ (ap length (sym e) ∙ length-map steps (action_of g.actions))

-- ---- origins

pub of_mode_origin : (g : Ground) (j : Initial) (m : Mode) (result : Result TagTable Early) → AnswersTable g j (of_mode m) [] result → (source : Source) (merges : List (List ℕ)) → IsOrigin source merges (origins.Mode m) → AnswersTable g j source merges result
of_mode_origin g j _ result h _ _ (from_mode m) = h

pub of_file_origin : (g : Ground) (j : Initial) (got : Got) (result : Result TagTable Early) → ((name text : List ℕ) → IsFront (Some text) most_bytes got → AnswersTable g j (of_file name) (text ∷ []) result) → (source : Source) (merges : List (List ℕ)) → IsOrigin source merges (origins.Merges got) → AnswersTable g j source merges result
of_file_origin g j _ result h _ _ (from_file name text got front) = h name text front
