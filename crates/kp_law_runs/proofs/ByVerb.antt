-- What is proved of each command by itself: it has one outcome on its contents, and puts files under its own names alone.
use Rattle.kp_law_runs.proofs.OneStrip.{strips_once}
use Rattle.kp_law_runs.proofs.SomeSearch.{some_classical_comes}
use Rattle.kp_law_runs.proofs.SomeStart.{some_comes}
use Rattle.kp_law_translation.specs.OfTrees.{ground_of, initial_of}
use Rattle.kp_run.specs.Check.{TellsJudged, ChecksTrees, tells}
use Rattle.kp_run.specs.Classical.{ClassicalTrees}
use Rattle.kp_run.specs.Contents.{Contents}
use Rattle.kp_run.specs.Lift.{LiftsPlan, LiftsTrees}
use Rattle.kp_run.specs.Merges.{MergesGround, MergesTrees}
use Rattle.kp_run.specs.Outcomes.{ComesBy}
use Rattle.kp_run.specs.Solve.{SolvesTrees}
use Rattle.kp_run.specs.Translate.{TranslatesGround, TranslatesTrees}
use Rattle.kp_run.specs.Width.{WidthTrees}
use Rattle.kp_run_bench.proofs.Public.{benches_have_one_outcome}
use Rattle.kp_run_bench.specs.Bench.{texts_of, BenchesGround, BenchesTrees}
use Rattle.kp_run_outcome.specs.declared.outcome.Outcome.{Outcome}
use Rattle.kp_run_solve.specs.Solving.{SolvesGround}
use Rattle.kp_words.specs.Asked.{of_mode, Asked, source_of}
use Rattle.kp_words.specs.Options.{usual_limit}
use Rattle.kp_words.specs.Forms.{form}
use Rattle.kp_words.specs.Command.{file_among, if_named}
use Rattle.kp_words.specs.declared.verb.Verb.{Verb}
use Rattle.std.proofs.Common.{◌≡◌, [], refl, ap, length, codes}
use Rattle.std.proofs.lemmas.Bool.{false≢true}
use Rattle.kp_words.specs.declared.verb.Verb.TheVariants as verbs
use Rattle.kp_law_runs.proofs.OnceEach.{texts_once, listed_once, plans_once, lifted_once, solved_once, classical_once, measured_once}
use Rattle.kp_law_runs.proofs.SomeEach.{of_translate, of_listed, of_check, of_lift, of_solve, of_width, of_bench, of_plan}
use Rattle.kp_law_runs.proofs.UnderEach.{outputs_by, PutsUnder, under_none, comes_of, ground_under, table_under, plan_under, strip_under, judged_under, lift_under, solved_under, classical_under, comes_classical_under, width_under, bench_under}

-- a command has one outcome, and its puts are its own
record IsOrdered (v : Verb) : Type 0 where
  once : (c : Asked) (t : Contents) (o u : Outcome) → ComesBy v c t o → ComesBy v c t u → o ≡ u
  some : (c : Asked) (t : Contents) → length t.merges ≡ length (if_named (file_among (form v).reads c (codes "merges"))) → (o : Outcome) × ComesBy v c t o
  under : (c : Asked) (t : Contents) (o : Outcome) → ComesBy v c t o → PutsUnder (outputs_by v c) o

ordered : (v : Verb) → IsOrdered v
ordered verbs.Translate = record {
  once = λ c t. texts_once c t.domain t.problem t.merges;
  some = λ c t many. some_comes c.implicates t.domain t.problem (TranslatesTrees c t.merges) (λ d p trees ready. of_translate c.implicates d p t.domain t.problem trees ready c t.merges many);
  under = λ c t o a. comes_of (outputs_by verbs.Translate c) c.implicates t.domain t.problem (TranslatesTrees c t.merges) o (λ d p. table_under (outputs_by verbs.Translate c) (ground_of d p) (initial_of d p) (source_of c) t.merges (TranslatesGround c (ground_of d p) (initial_of d p)) o (λ table. ground_under c (ground_of d p) (initial_of d p) table o)) a;
}
ordered verbs.Solve = record {
  once = λ c t. solved_once c t.domain t.problem t.merges;
  some = λ c t many. some_comes c.implicates t.domain t.problem (SolvesTrees c t.merges) (λ d p trees ready. of_solve c.implicates d p t.domain t.problem trees ready c t.merges many);
  under = λ c t o a. comes_of (outputs_by verbs.Solve c) c.implicates t.domain t.problem (SolvesTrees c t.merges) o (λ d p. table_under (outputs_by verbs.Solve c) (ground_of d p) (initial_of d p) (source_of c) t.merges (SolvesGround c.classical c.budget (ground_of d p) (initial_of d p)) o (λ table. solved_under c (ground_of d p) (initial_of d p) table o)) a;
}
ordered verbs.Classical = record {
  once = λ c t. classical_once c t.domain t.problem;
  some = λ c t many. some_classical_comes c.budget t.domain t.problem;
  under = λ c t o a. comes_classical_under c t.domain t.problem (ClassicalTrees c) o (λ d p s. classical_under c (ground_of d p) o s.found s.tells) a;
}
ordered verbs.Strip = record {
  once = λ c t. strips_once t.written;
  some = λ c t many. of_plan t.written;
  under = λ c t o a. strip_under c t.written o a;
}
ordered verbs.Lift = record {
  once = λ c t. lifted_once c t.domain t.problem t.merges t.plan;
  some = λ c t many. some_comes c.implicates t.domain t.problem (LiftsTrees c t.merges t.plan) (λ d p trees ready. of_lift c.implicates d p t.domain t.problem trees ready c t.merges t.plan many);
  under = λ c t o a. comes_of (outputs_by verbs.Lift c) c.implicates t.domain t.problem (LiftsTrees c t.merges t.plan) o (λ d p. table_under (outputs_by verbs.Lift c) (ground_of d p) (initial_of d p) (source_of c) t.merges (LiftsPlan (ground_of d p) t.plan) o (λ table. lift_under c (ground_of d p) t.plan table o)) a;
}
ordered verbs.Check = record {
  once = λ c t. plans_once c t.domain t.problem t.plan;
  some = λ c t many. some_comes c.implicates t.domain t.problem (ChecksTrees t.plan) (λ d p trees ready. of_check c.implicates d p t.domain t.problem trees ready t.plan);
  under = λ c t o a. comes_of (outputs_by verbs.Check c) c.implicates t.domain t.problem (ChecksTrees t.plan) o (λ d p. plan_under (outputs_by verbs.Check c) (ground_of d p) t.plan (TellsJudged (ground_of d p) (initial_of d p)) o (λ ns j. judged_under c (ground_of d p) ns j.judged o j.told)) a;
}
ordered verbs.Width = record {
  once = λ c t. measured_once c t.domain t.problem;
  some = λ c t many. some_comes c.implicates t.domain t.problem (WidthTrees c) (λ d p trees ready. of_width c.implicates d p t.domain t.problem trees ready c);
  under = λ c t o a. comes_of (outputs_by verbs.Width c) c.implicates t.domain t.problem (WidthTrees c) o (λ d p. width_under c (ground_of d p) (initial_of d p) o) a;
}
ordered verbs.Merges = record {
  once = λ c t. listed_once c t.domain t.problem;
  some = λ c t many. some_comes c.implicates t.domain t.problem (MergesTrees c.mode) (λ d p trees ready. of_listed c.implicates d p t.domain t.problem trees ready c.mode);
  under = λ c t o a. comes_of (outputs_by verbs.Merges c) c.implicates t.domain t.problem (MergesTrees c.mode) o (λ d p. table_under (outputs_by verbs.Merges c) (ground_of d p) (initial_of d p) (of_mode c.mode) [] (MergesGround (ground_of d p)) o (λ table e. under_none (outputs_by verbs.Merges c) o (ap (λ (z : Outcome). z.puts) e) (λ n. refl))) a;
}
ordered verbs.Bench = record {
  once = λ c t. benches_have_one_outcome c;
  some = λ c t many. some_comes usual_limit (texts_of c).domain (texts_of c).problem (BenchesTrees c) (λ d p trees ready. of_bench usual_limit d p (texts_of c).domain (texts_of c).problem trees ready c);
  under = λ c t o a. comes_of (outputs_by verbs.Bench c) usual_limit (texts_of c).domain (texts_of c).problem (BenchesTrees c) o (λ d p. table_under (outputs_by verbs.Bench c) (ground_of d p) (initial_of d p) (of_mode c.mode) [] (BenchesGround c (ground_of d p) (initial_of d p)) o (λ table. bench_under c (ground_of d p) (initial_of d p) table o)) a;
}

pub outcome_once : (v : Verb) (c : Asked) (t : Contents) (o u : Outcome) → ComesBy v c t o → ComesBy v c t u → o ≡ u
outcome_once v = (ordered v).once

pub some_by : (v : Verb) (c : Asked) (t : Contents) → length t.merges ≡ length (if_named (file_among (form v).reads c (codes "merges"))) → (o : Outcome) × ComesBy v c t o
some_by v = (ordered v).some

pub comes_under : (v : Verb) (c : Asked) (t : Contents) (o : Outcome) → ComesBy v c t o → PutsUnder (outputs_by v c) o
comes_under v = (ordered v).under
