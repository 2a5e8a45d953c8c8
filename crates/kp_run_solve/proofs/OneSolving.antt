-- A ground problem with a table is solved to one outcome, and so is a classical task.
use Rattle.std.proofs.Common.{◌≡◌, ◌<◌, ℕ, List, [], ◌∷◌, Option, Some, None, option_map, map, length, slice_get, refl, sym, ap, ◌∙◌, subst, arith}
use Rattle.std.proofs.lemmas.Option.{slice_get_within}
use Rattle.kp_base.specs.declared.ground.Action.{Action}
use Rattle.kp_base.specs.declared.ground.Merge.{Merge}
use Rattle.kp_base.specs.declared.ground.Ground.{Ground}
use Rattle.kp_base.specs.declared.ground.Initial.{Initial}
use Rattle.kp_base.specs.declared.ground.TagTable.{TagTable}
use Rattle.kp_base.specs.Machine.{MachineStep, stripped}
use Rattle.kp_base.proofs.Cases.{some_alike}
use Rattle.kp_names_semantics.specs.Steps.{Step}
use Rattle.kp_cover.proofs.Public.{uncovered_once}
use Rattle.kp_classic.specs.declared.task.Task.{Task}
use Rattle.kp_search.specs.declared.found.Found.{Found}
use Rattle.kp_search.specs.declared.found.Found.TheVariants.{Plan, NoPlan, Spent}
use Rattle.kp_write.specs.Tasks.{op_step}
use Rattle.kp_law_ktask.specs.Task.{op_of, merge_op, task_of}
use Rattle.kp_base.specs.ActionNames.{action_name}
use Rattle.kp_law_ktask.specs.Accepted.{op_number, step_at}
use Rattle.kp_lift.specs.Lifting.{IsThere}
use Rattle.kp_run_messages.specs.Searches.{no_plan_text}
use Rattle.kp_run_outcome.specs.declared.outcome.Outcome.{Outcome}
use Rattle.kp_run_outcome.specs.Printing.{denies}
use Rattle.kp_run_inputs.proofs.Public.{by_task_one_outcome}
use Rattle.kp_run_solve.specs.Solving.{Searches, solves, AreNamed, TellsSolved, TellsClassical}
use Rattle.kp_run_solve.specs.Laws.{SolvingsHaveOneOutcome, ClassicalSolvingsHaveOneOutcome}
use Rattle.kp_search.proofs.Public.{has_one_end_by_added}

-- ---- names

-- a step of the machine that has a name is there
there_of : (g : Ground) (table : TagTable) (m : MachineStep) (s : Step) → step_at g table m ≡ Some s → IsThere g table m
there_of g table (MachineStep.act n) s e = by (slice_get g.actions n) refl e
  where
    by : (o : Option Action) → slice_get g.actions n ≡ o → option_map op_step (option_map (op_of (length g.atoms) (length table.tags)) o) ≡ Some s → n < length g.actions
    by None is f = absurd cc
    by (Some a) is f = slice_get_within g.actions n a is
there_of g table (MachineStep.merge n) s e = by (slice_get table.merges n) refl e
  where
    by : (o : Option Merge) → slice_get table.merges n ≡ o → option_map op_step (option_map (merge_op (length g.atoms) n) o) ≡ Some s → n < length table.merges
    by None is f = absurd cc
    by (Some a) is f = slice_get_within table.merges n a is

-- steps that are there and have one number are one
one_step : (g : Ground) (table : TagTable) (m k : MachineStep) → IsThere g table m → IsThere g table k → op_number g m ≡ op_number g k → m ≡ k
one_step g table (MachineStep.act n) (MachineStep.act j) a b e = ap MachineStep.act e
one_step g table (MachineStep.act n) (MachineStep.merge j) a b e = absurd (omega (arith, a, e))
one_step g table (MachineStep.merge n) (MachineStep.act j) a b e = absurd (omega (arith, b, e))
one_step g table (MachineStep.merge n) (MachineStep.merge j) a b e = let same : n ≡ j = omega (arith, e) in ap MachineStep.merge same

one_machine : (g : Ground) (table : TagTable) (ms ks : List MachineStep) (ss ts : List Step) → map (op_number g) ms ≡ map (op_number g) ks → map (step_at g table) ms ≡ map Some ss → map (step_at g table) ks ≡ map Some ts → ms ≡ ks
one_machine g table [] [] ss ts e f h = refl
one_machine g table [] (k ∷ ks) ss ts e f h = absurd cc
one_machine g table (m ∷ ms) [] ss ts e f h = absurd cc
one_machine g table (m ∷ ms) (k ∷ ks) [] ts e f h = absurd cc
one_machine g table (m ∷ ms) (k ∷ ks) (s ∷ ss) [] e f h = absurd cc
one_machine g table (m ∷ ms) (k ∷ ks) (s ∷ ss) (t ∷ ts) e f h =
    let number : op_number g m ≡ op_number g k = cc in
    let numbers : map (op_number g) ms ≡ map (op_number g) ks = cc in
    let here : step_at g table m ≡ Some s = cc in
    let rest : map (step_at g table) ms ≡ map Some ss = cc in
    let here' : step_at g table k ≡ Some t = cc in
    let rest' : map (step_at g table) ks ≡ map Some ts = cc in
    cc (one_step g table m k (there_of g table m s here) (there_of g table k t here') number, one_machine g table ms ks ss ts numbers rest rest')

-- operators are named in one way
names_once : (g : Ground) (table : TagTable) (ops : List ℕ) (w v p q : List Step) → AreNamed g table ops w p → AreNamed g table ops v q → (w ≡ v) × (p ≡ q)
names_once g table ops w v p q a b =
    let same = one_machine g table a.machine b.machine w v (a.numbers ∙ sym b.numbers) a.steps_are b.steps_are in (
      some_alike w v (sym a.steps_are ∙ (ap (map (step_at g table)) same ∙ b.steps_are)),
      some_alike p q (sym a.actions_are ∙ (ap (λ ms. map (action_name g) (stripped ms)) same ∙ b.actions_are)),
    )

-- ---- outcomes

told_once : (name : Option (List ℕ)) (g : Ground) (i : Initial) (table : TagTable) (found : Found) (o u : Outcome) → TellsSolved name g i table found o → TellsSolved name g i table found u → o ≡ u
told_once name g i table (Plan ops n) o u a b =
    let same = names_once g table ops a.0 b.0 a.1 b.1 a.2 b.2 in
    a.3 ∙ (ap (λ w. solves name w a.1) same.0 ∙ (ap (solves name b.0) same.1 ∙ sym b.3))
told_once name g i table NoPlan o u a b = a.2 ∙ (ap (λ ls. denies (no_plan_text ls)) (uncovered_once g i table a.0 b.0 a.1 b.1) ∙ sym b.2)
told_once name g i table (Spent n) o u a b = a ∙ sym b

pub searches_once : (task : Task) (budget : ℕ) (told : Found → Outcome → Type 0) → ((found : Found) (o u : Outcome) → told found o → told found u → o ≡ u) → (o u : Outcome) → Searches task budget told o → Searches task budget told u → o ≡ u
searches_once task budget told one o u a b = one b.found o u (subst (λ z. told z o) (has_one_end_by_added task budget a.found b.found a.finds b.finds) a.tells) b.tells

pub ground_once : SolvingsHaveOneOutcome
ground_once name budget g i table o u a b =
    by_task_one_outcome g table (Searches (task_of g table) budget (TellsSolved name g i table)) (searches_once (task_of g table) budget (TellsSolved name g i table) (told_once name g i table)) o u a b

told_classical_once : (g : Ground) (found : Found) (o u : Outcome) → TellsClassical g found o → TellsClassical g found u → o ≡ u
told_classical_once g (Plan ops n) o u a b = a.2 ∙ (ap (λ p. solves None p p) (some_alike a.0 b.0 (sym a.1 ∙ b.1)) ∙ sym b.2)
told_classical_once g NoPlan o u a b = a ∙ sym b
told_classical_once g (Spent n) o u a b = a ∙ sym b

pub classical_once : ClassicalSolvingsHaveOneOutcome
classical_once budget g task o u a b = searches_once task budget (TellsClassical g) (told_classical_once g) o u a b
