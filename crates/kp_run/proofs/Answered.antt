-- What is due is an answer, and no fault.
use Rattle.std.proofs.Common.{◌≡◌, ℕ, List, [], Option, None, length, sym, subst}
use Rattle.kp_base.specs.declared.ground.Ground.{Ground}
use Rattle.kp_base.specs.declared.ground.Initial.{Initial}
use Rattle.kp_base.specs.declared.ground.TagTable.{TagTable}
use Rattle.kp_tree_grammar.specs.declared.tree.Word.{Word}
use Rattle.kp_tree_grammar.specs.Trees.{Domain, Problem}
use Rattle.kp_law_translation.specs.OfTrees.{ground_of, initial_of}
use Rattle.kp_check.specs.declared.answer.Judged.{Judged}
use Rattle.kp_check.specs.declared.answer.Judged.TheVariants.{Yes, No}
use Rattle.kp_run_outcome.specs.declared.outcome.Outcome.{Outcome}
use Rattle.kp_run_outcome.specs.Ends.{IsAnswer}
use Rattle.kp_words.specs.declared.verb.Verb.{Verb}
use Rattle.kp_words.specs.Options.{usual_limit}
use Rattle.kp_words.specs.declared.verb.Verb.TheVariants as verbs
use Rattle.kp_words.specs.Asked.{Source, of_mode, Asked, source_of}
use Rattle.kp_run_prepare.specs.Prepared.{by_texts, by_trees, Comes, early, later}
use Rattle.kp_run_inputs.specs.SourceTables.{ComesByTable, no_table, with_table}
use Rattle.kp_run_inputs.specs.Actions.{ComesByPlan, no_actions, with_actions}
use Rattle.kp_run_inputs.specs.Tasks.{no_task, with_task}
use Rattle.kp_run.specs.Translate.{TranslatesGround, TranslatesTrees}
use Rattle.kp_run.specs.Solve.{SolvesTrees}
use Rattle.kp_run.specs.Classical.{ClassicalTrees}
use Rattle.kp_run.specs.Strip.{StripsText, too_long, no_plan, no_strip, strips}
use Rattle.kp_run.specs.Lift.{LiftsActions, lifts, fails, LiftsPlan, LiftsTrees}
use Rattle.kp_run.specs.Check.{tells, ChecksTrees}
use Rattle.kp_run.specs.Width.{tells_width, WidthGround, no_report, with_report, WidthTrees}
use Rattle.kp_run.specs.Merges.{MergesTrees}
use Rattle.kp_run.specs.Outcomes.{ComesBy, usage, of_command}
use Rattle.kp_width.specs.declared.report.WidthReport.{WidthReport}
use Rattle.kp_width.specs.declared.report.WidthReport.TheVariants.{Within, Over}
use Rattle.kp_search.specs.declared.found.Found.{Found}
use Rattle.kp_search.specs.declared.found.Found.TheVariants.{Plan, NoPlan, Spent}
use Rattle.kp_run_classical.specs.Classical.{ComesClassical, by_texts as no_texts, by_trees as no_trees, early as at_once, later as goes_on}
use Rattle.kp_run_solve.specs.Solving.{TellsSolved, SolvesGround, TellsClassical}
use Rattle.kp_run_bench.specs.Bench.{texts_of, TellsBench, BenchesGround, BenchesTrees, Benches}
use Rattle.kp_run.specs.Laws.{OutcomesAreAnswers}

-- an outcome that is known
known : (o p : Outcome) → o ≡ p → IsAnswer p.status → IsAnswer o.status
known o p e h = subst (λ (z : Outcome). IsAnswer z.status) (sym e) h

comes_answer : (limit : ℕ) (x y : List ℕ) (P : Domain Word → Problem Word → Outcome → Type 0) (o : Outcome) → ((d : Domain Word) (p : Problem Word) → P d p o → IsAnswer o.status) → Comes limit x y P o → IsAnswer o.status
comes_answer limit x y P o answers (early (by_texts r a e)) = known o _ e tt
comes_answer limit x y P o answers (early (by_trees d p names r h a e)) = known o _ e tt
comes_answer limit x y P o answers (later d p h a goes) = answers d p goes

table_answer : (g : Ground) (i : Initial) (source : Source) (merges : List (List ℕ)) (P : TagTable → Outcome → Type 0) (o : Outcome) → ((table : TagTable) → P table o → IsAnswer o.status) → ComesByTable g i source merges P o → IsAnswer o.status
table_answer g i source merges P o answers (no_table names r a e) = known o _ e tt
table_answer g i source merges P o answers (with_table table has h) = answers table h

plan_answer : (g : Ground) (text : List ℕ) (P : List ℕ → Outcome → Type 0) (o : Outcome) → ((ns : List ℕ) → P ns o → IsAnswer o.status) → ComesByPlan g text P o → IsAnswer o.status
plan_answer g text P o answers (no_actions named r a e) = known o _ e tt
plan_answer g text P o answers (with_actions ss ns has h) = answers ns h

ground_answer : (c : Asked) (g : Ground) (i : Initial) (table : TagTable) (o : Outcome) → TranslatesGround c g i table o → IsAnswer o.status
ground_answer c g i table o (no_task r a e) = known o _ e tt
ground_answer c g i table o (with_task fits put) = known o _ put.outcome tt

judged_answer : (g : Ground) (ns : List ℕ) (o : Outcome) (v : Judged) → o ≡ tells g (length ns) v → IsAnswer o.status
judged_answer g ns o Yes e = known o _ e tt
judged_answer g ns o (No ps k l) e = known o _ e tt

lifts_answer : (g : Ground) (table : TagTable) (ns : List ℕ) (o : Outcome) → LiftsActions g table ns o → IsAnswer o.status
lifts_answer g table ns o (lifts steps h e) = known o _ e tt
lifts_answer g table ns o (fails k l h e) = known o _ e tt

lift_answer : (g : Ground) (plan : List ℕ) (table : TagTable) (o : Outcome) → LiftsPlan g plan table o → IsAnswer o.status
lift_answer g plan table o (no_task r a e) = known o _ e tt
lift_answer g plan table o (with_task fits h) = plan_answer g plan (LiftsActions g table) o (λ ns. lifts_answer g table ns o) h

strip_answer : (x : List ℕ) (o : Outcome) → StripsText x o → IsAnswer o.status
strip_answer x o (too_long a e) = known o _ e tt
strip_answer x o (no_plan r a h e) = known o _ e tt
strip_answer x o (no_strip ss s a h n e) = known o _ e tt
strip_answer x o (strips ss as' a h n e) = known o _ e tt

told_answer : (name : Option (List ℕ)) (g : Ground) (i : Initial) (table : TagTable) (o : Outcome) (found : Found) → TellsSolved name g i table found o → IsAnswer o.status
told_answer name g i table o (Plan ops n) t = known o _ t.3 tt
told_answer name g i table o NoPlan t = known o _ t.2 tt
told_answer name g i table o (Spent n) t = known o _ t tt

solved_answer : (name : Option (List ℕ)) (budget : ℕ) (g : Ground) (i : Initial) (table : TagTable) (o : Outcome) → SolvesGround name budget g i table o → IsAnswer o.status
solved_answer name budget g i table o (no_task r a e) = known o _ e tt
solved_answer name budget g i table o (with_task fits s) = told_answer name g i table o s.found s.tells

classical_answer : (g : Ground) (o : Outcome) (found : Found) → TellsClassical g found o → IsAnswer o.status
classical_answer g o (Plan ops n) t = known o _ t.2 tt
classical_answer g o NoPlan t = known o _ t tt
classical_answer g o (Spent n) t = known o _ t tt

width_answer : (bound : ℕ) (g : Ground) (i : Initial) (o : Outcome) → WidthGround bound g i o → IsAnswer o.status
width_answer bound g i o (no_report r a e) = known o _ e tt
width_answer bound g i o (with_report report a e) = by report e
  where
    by : (report : WidthReport) → o ≡ tells_width g bound report → IsAnswer o.status
    by (Within rows) e = known o _ e tt
    by (Over target) e = known o _ e tt

comes_classical_answer : (x y : List ℕ) (P : Domain Word → Problem Word → Outcome → Type 0) (o : Outcome) → ((d : Domain Word) (p : Problem Word) → P d p o → IsAnswer o.status) → ComesClassical x y P o → IsAnswer o.status
comes_classical_answer x y P o answers (at_once (no_texts r a e)) = known o _ e tt
comes_classical_answer x y P o answers (at_once (no_trees d p r h a e)) = known o _ e tt
comes_classical_answer x y P o answers (goes_on d p h a on) = answers d p on

summary_answer : (c : Asked) (g : Ground) (i : Initial) (table : TagTable) (o : Outcome) (found : Found) → TellsBench c g i table found o → IsAnswer o.status
summary_answer c g i table o (Plan ops n) t = known o _ t.told tt
summary_answer c g i table o NoPlan t = told_answer None g i table o NoPlan t
summary_answer c g i table o (Spent n) t = told_answer None g i table o (Spent n) t

benched_answer : (c : Asked) (g : Ground) (i : Initial) (table : TagTable) (o : Outcome) → BenchesGround c g i table o → IsAnswer o.status
benched_answer c g i table o (no_task r a e) = known o _ e tt
benched_answer c g i table o (with_task fits s) = summary_answer c g i table o s.found s.tells

bench_answer : (c : Asked) (o : Outcome) → Benches c o → IsAnswer o.status
bench_answer c o a = comes_answer usual_limit (texts_of c).domain (texts_of c).problem (BenchesTrees c) o (λ d p. table_answer (ground_of d p) (initial_of d p) (of_mode c.mode) [] _ o (λ table. benched_answer c (ground_of d p) (initial_of d p) table o)) a

pub outcomes_are_answers : OutcomesAreAnswers
outcomes_are_answers words held _ (usage a) = tt
outcomes_are_answers words held o (of_command c t _ is at comes) = by c.verb comes
  where
    by : (v : Verb) → ComesBy v c t o → IsAnswer o.status
    by verbs.Translate a = comes_answer c.implicates t.domain t.problem (TranslatesTrees c t.merges) o (λ d p. table_answer (ground_of d p) (initial_of d p) (source_of c) t.merges _ o (λ table. ground_answer c (ground_of d p) (initial_of d p) table o)) a
    by verbs.Solve a = comes_answer c.implicates t.domain t.problem (SolvesTrees c t.merges) o (λ d p. table_answer (ground_of d p) (initial_of d p) (source_of c) t.merges _ o (λ table. solved_answer c.classical c.budget (ground_of d p) (initial_of d p) table o)) a
    by verbs.Classical a = comes_classical_answer t.domain t.problem (ClassicalTrees c) o (λ d p s. classical_answer (ground_of d p) o s.found s.tells) a
    by verbs.Strip a = strip_answer t.written o a
    by verbs.Lift a = comes_answer c.implicates t.domain t.problem (LiftsTrees c t.merges t.plan) o (λ d p. table_answer (ground_of d p) (initial_of d p) (source_of c) t.merges _ o (λ table. lift_answer (ground_of d p) t.plan table o)) a
    by verbs.Check a = comes_answer c.implicates t.domain t.problem (ChecksTrees t.plan) o (λ d p. plan_answer (ground_of d p) t.plan _ o (λ ns j. judged_answer (ground_of d p) ns o j.judged j.told)) a
    by verbs.Width a = comes_answer c.implicates t.domain t.problem (WidthTrees c) o (λ d p. width_answer c.bound (ground_of d p) (initial_of d p) o) a
    by verbs.Merges a = comes_answer c.implicates t.domain t.problem (MergesTrees c.mode) o (λ d p. table_answer (ground_of d p) (initial_of d p) (of_mode c.mode) [] _ o (λ table e. known o _ e tt)) a
    by verbs.Bench a = bench_answer c o a
