-- What two classical files are solved to, from what the code finds.
use Rattle.std.proofs.Common.{◌≡◌, ℕ, List, length, Result, Ok, Err, IfOk, sym, ap, subst, ◌∙◌}
use Rattle.std.proofs.lemmas.List.{length-map}
use Rattle.kp_base.specs.declared.memory.Memory.{Memory}
use Rattle.kp_base.specs.declared.ground.Ground.{Ground}
use Rattle.kp_classic.specs.declared.task.Task.{Task}
use Rattle.kp_classic.specs.Grounded.{op_of}
use Rattle.kp_law_translation.specs.OfTrees.{ground_of}
use Rattle.kp_run_outcome.specs.declared.outcome.Outcome.{Outcome}
use Rattle.kp_words.specs.Asked.{Asked}
use Rattle.kp_run_prepare.specs.declared.prepared.Early.{Early}
use Rattle.kp_run_prepare.specs.declared.prepared.Early.TheVariants as halts
use Rattle.kp_run_classical.specs.declared.posed.Posed.{Posed}
use Rattle.kp_run_classical.specs.Classical.{early, later, IsPosedOf, AnswersClassical}
use Rattle.kp_run_inputs.specs.Ending.{Settles}
use Rattle.kp_run_solve.specs.Solving.{SolvesClassical}
use Rattle.kp_run.specs.Classical.{ClassicalTexts}

-- the operators of a posed task are as many as the actions
as_many : (d p : List ℕ) (x : Posed) → IsPosedOf d p x → length x.task.ops ≡ length x.ground.actions
as_many d p x w = ap (λ (t : Task). length t.ops) w.task ∙ (length-map (ground_of w.first w.second).actions op_of ∙ ap (λ (g : Ground). length g.actions) (sym w.ground))

-- the command goes on
pub classical_goes : (c : Asked) (d p : List ℕ) (x : Posed) (r : Result Outcome Memory) → IsPosedOf d p x → (length x.task.ops ≡ length x.ground.actions → IfOk r (SolvesClassical c.budget x.ground x.task)) → IfOk r (ClassicalTexts c d p)
classical_goes c d p x r w does = by r (subst (λ g. IfOk r (SolvesClassical c.budget g x.task)) w.ground (does (as_many d p x w)))
  where
    by : (r : Result Outcome Memory) → IfOk r (SolvesClassical c.budget (ground_of w.first w.second) x.task) → IfOk r (ClassicalTexts c d p)
    by (Ok o) h = later w.first w.second w.trees w.classical (subst (λ t. SolvesClassical c.budget (ground_of w.first w.second) t o) w.task h)
    by (Err m) h = tt

-- it ends early
pub classical_ends : (c : Asked) (d p : List ℕ) (e : Early) (r : Result Outcome Memory) → AnswersClassical d p (Err e) → Settles e r → IfOk r (ClassicalTexts c d p)
classical_ends c d p (halts.With o) r ends is = subst (λ z. IfOk z (ClassicalTexts c d p)) (sym is) (early ends)
classical_ends c d p halts.Memory (Ok o) ends is = absurd is
classical_ends c d p halts.Memory (Err m) ends is = tt
