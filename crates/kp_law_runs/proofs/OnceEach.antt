-- Each command has one outcome on its texts.
use Rattle.std.proofs.Common.{◌≡◌, ℕ, List, [], refl, sym, ap, ◌∙◌}
use Rattle.kp_law_translation.specs.OfTrees.{ground_of, initial_of}
use Rattle.kp_run_outcome.specs.declared.outcome.Outcome.{Outcome}
use Rattle.kp_words.specs.Asked.{of_mode, Asked, source_of}
use Rattle.kp_base.specs.declared.ground.Ground.{Ground}
use Rattle.kp_base.specs.declared.ground.Initial.{Initial}
use Rattle.kp_width.proofs.Public.{problems_have_one_width}
use Rattle.kp_run_prepare.specs.Refusing.{refuses, named_in}
use Rattle.kp_run_prepare.specs.Prepared.{usual}
use Rattle.kp_run_prepare.proofs.Public.{comes_to_one_outcome}
use Rattle.kp_run_inputs.proofs.Public.{by_table_one_outcome, by_plan_one_outcome}
use Rattle.kp_run_classical.specs.Classical.{task_of as classical_task}
use Rattle.kp_run_classical.proofs.Public.{classical_comes_to_one_outcome as comes_classical_once}
use Rattle.kp_run_solve.specs.Solving.{SolvesGround}
use Rattle.kp_run_solve.proofs.Public.{solvings_have_one_outcome, classical_solvings_have_one_outcome as one_classical}
use Rattle.kp_run.specs.Translate.{TranslatesGround, TranslatesTrees, TranslatesTexts}
use Rattle.kp_run.specs.Solve.{SolvesTrees, SolvesTexts}
use Rattle.kp_run.specs.Classical.{ClassicalTrees, ClassicalTexts}
use Rattle.kp_run.specs.Lift.{LiftsPlan, LiftsTrees, LiftsTexts}
use Rattle.kp_run.specs.Check.{TellsJudged, ChecksTrees, ChecksTexts}
use Rattle.kp_run.specs.Width.{tells_width, WidthGround, no_report, with_report, WidthTrees, WidthTexts}
use Rattle.kp_run.specs.Merges.{MergesGround, MergesTrees, MergesTexts}
use Rattle.kp_law_runs.proofs.OneTranslation.{table_once, verdicts_once, lifts_once}

pub texts_once : (c : Asked) (x y : List ℕ) (merges : List (List ℕ)) (o u : Outcome) → TranslatesTexts c x y merges o → TranslatesTexts c x y merges u → o ≡ u
texts_once c x y merges = comes_to_one_outcome c.implicates x y (TranslatesTrees c merges) (λ d p o u w. by_table_one_outcome (ground_of d p) (initial_of d p) (source_of c) merges (TranslatesGround c (ground_of d p) (initial_of d p)) (table_once c (ground_of d p) (initial_of d p)) o u)

pub listed_once : (c : Asked) (x y : List ℕ) (o u : Outcome) → MergesTexts c x y o → MergesTexts c x y u → o ≡ u
listed_once c x y = comes_to_one_outcome c.implicates x y (MergesTrees c.mode) (λ d p o u w. by_table_one_outcome (ground_of d p) (initial_of d p) (of_mode c.mode) [] (MergesGround (ground_of d p)) (λ t o u e f. e ∙ sym f) o u)

pub plans_once : (c : Asked) (x y plan : List ℕ) (o u : Outcome) → ChecksTexts c x y plan o → ChecksTexts c x y plan u → o ≡ u
plans_once c x y plan = comes_to_one_outcome c.implicates x y (ChecksTrees plan) (λ d p o u w. by_plan_one_outcome (ground_of d p) plan (TellsJudged (ground_of d p) (initial_of d p)) (verdicts_once (ground_of d p) (initial_of d p)) o u)

pub lifted_once : (c : Asked) (x y : List ℕ) (merges : List (List ℕ)) (plan : List ℕ) (o u : Outcome) → LiftsTexts c x y merges plan o → LiftsTexts c x y merges plan u → o ≡ u
lifted_once c x y merges plan = comes_to_one_outcome c.implicates x y (LiftsTrees c merges plan) (λ d p o u w. by_table_one_outcome (ground_of d p) (initial_of d p) (source_of c) merges (LiftsPlan (ground_of d p) plan) (λ table. lifts_once (ground_of d p) table plan) o u)

pub solved_once : (c : Asked) (x y : List ℕ) (merges : List (List ℕ)) (o u : Outcome) → SolvesTexts c x y merges o → SolvesTexts c x y merges u → o ≡ u
solved_once c x y merges = comes_to_one_outcome c.implicates x y (SolvesTrees c merges) (λ d p o u w. by_table_one_outcome (ground_of d p) (initial_of d p) (source_of c) merges (SolvesGround c.classical c.budget (ground_of d p) (initial_of d p)) (λ table. solvings_have_one_outcome c.classical c.budget (ground_of d p) (initial_of d p) table) o u)

pub classical_once : (c : Asked) (x y : List ℕ) (o u : Outcome) → ClassicalTexts c x y o → ClassicalTexts c x y u → o ≡ u
classical_once c x y = comes_classical_once x y (ClassicalTrees c) (λ d p o u w. one_classical c.budget (ground_of d p) (classical_task d p) o u)

pub ground_measured_once : (bound : ℕ) (g : Ground) (i : Initial) (o u : Outcome) → WidthGround bound g i o → WidthGround bound g i u → o ≡ u
ground_measured_once bound g i o u (no_report r a e) (no_report s b f) = e ∙ (ap (refuses (named_in g)) ((problems_have_one_width usual bound g i i (λ s. refl)).refusals r s a b) ∙ sym f)
ground_measured_once bound g i o u (no_report r a e) (with_report x b f) = absurd ((problems_have_one_width usual bound g i i (λ s. refl)).never_both x r b a)
ground_measured_once bound g i o u (with_report x a e) (no_report r b f) = absurd ((problems_have_one_width usual bound g i i (λ s. refl)).never_both x r a b)
ground_measured_once bound g i o u (with_report x a e) (with_report y b f) = e ∙ (ap (tells_width g bound) ((problems_have_one_width usual bound g i i (λ s. refl)).reports x y a b) ∙ sym f)

pub measured_once : (c : Asked) (x y : List ℕ) (o u : Outcome) → WidthTexts c x y o → WidthTexts c x y u → o ≡ u
measured_once c x y = comes_to_one_outcome c.implicates x y (WidthTrees c) (λ d p o u w. ground_measured_once c.bound (ground_of d p) (initial_of d p) o u)
